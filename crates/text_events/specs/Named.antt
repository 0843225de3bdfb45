-- What the names of a block stand for.
use Rattle.std.specs.Prelude.{ℕ, List, Option, None, Some, if◌then◌else◌}
use Rattle.std.specs.Str.{bytes_eq}
use Rattle.first_fault.specs.First.{last_of}
use Rattle.text_events.specs.declared.role.Meaning.{Meaning}
use Rattle.text_events.specs.Note.{Event, Note, Declares}

-- what one event declares a name to stand for
abbrev pub meaning_of_note : List ℕ → Note → Option Meaning
meaning_of_note n (Declares m meaning) = if bytes_eq m n then Some meaning else None
meaning_of_note n _ = None

abbrev pub meaning_in : List ℕ → Event → Option Meaning
meaning_in n e = meaning_of_note n e.note

-- what a name stands for after these events: the last that is declared
abbrev pub naming_of : List Event → List ℕ → Option Meaning
naming_of events n = last_of (meaning_in n) events
