-- What names stand for, as functions of the name.
use Rattle.std.specs.Prelude.{ℕ, ◌+◌, List, Option, Some, None}
use Rattle.exchange_model.specs.declared.signal.SignalKind.{SignalKind}
use Rattle.plex_ast.specs.declared.block.Block.{Block}
use Rattle.text_events.specs.Named.{naming_of}
use Rattle.text_events.specs.Note.{Event}
use Rattle.text_events.specs.declared.role.Meaning.{Meaning}
use Rattle.text_events.specs.declared.role.Meaning.TheVariants.{Variable, Temporary, File, Field}
use Rattle.text_events.specs.declared.role.Meaning.TheVariants.{Label}

abbrev pub Naming : Type 0 → Type 0
Naming V = List ℕ → Option V

-- files are counted through the exchange: those of a block from the number of its first file on
abbrev pub with_first : ℕ → Meaning → Meaning
with_first first (Variable v) = Variable v
with_first first (Temporary t) = Temporary t
with_first first (File f forlopp) = File (first + f) forlopp
with_first first (Field f field) = Field (first + f) field
with_first first (Label l) = Label l

abbrev pub counted_on : ℕ → Option Meaning → Option Meaning
counted_on first None = None
counted_on first (Some m) = Some (with_first first m)

-- what the names of a block stand for, by what stands in it
abbrev pub meanings_of : ℕ → List Event → Naming Meaning
meanings_of first events n = counted_on first (naming_of events n)

-- what all names in a block stand for: those that it declares, those of signals, and those of the
-- blocks of the text
pub record Env : Type 0 where
  pub name : Naming Meaning
  pub signals : List SignalKind
  pub blocks : List Block
