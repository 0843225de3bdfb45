-- What a name may stand for in a block: each meaning is a place in one of its lists.
use Rattle.std.specs.Prelude.{◌≡◌, ◌<◌, length, Some, slice_get}
use Rattle.exchange_model.specs.declared.block.Block.{Block}
use Rattle.exchange_model.specs.declared.block.File.{File}
use Rattle.text_events.specs.declared.role.Meaning.{Meaning}
use Rattle.text_events.specs.declared.role.Meaning.TheVariants.{Variable, Temporary}
use Rattle.text_events.specs.declared.role.Meaning.TheVariants.{File as FileMeaning, Field, Label}

abbrev pub Suits : Block → Meaning → Type 0
Suits k (Variable v) = v < length k.variables
Suits k (Temporary t) = t < length k.temporaries
Suits k (FileMeaning f forlopp) =
    (file : File) × (slice_get k.files f ≡ Some file) × (file.forlopp ≡ forlopp)
Suits k (Field f field) =
    (file : File) × (slice_get k.files f ≡ Some file) × (field < length file.fields)
Suits k (Label l) = l < length k.labels
