-- Files in memory.
use Rattle.std.specs.Prelude.{ℕ, List, [], ◌∷◌, Option, Some, None, Result, Ok, Err, Contains}
use Rattle.std.specs.Prelude.{if◌then◌else◌}
use Rattle.std.specs.Str.{bytes_eq}
use Rattle.plex_io.specs.Causes.{risen}
use Rattle.plex_io.specs.declared.memory_shelf.StoredFile.{StoredFile}
use Rattle.plex_io.specs.declared.shelf.ShelfFault.{ShelfFault}
use Rattle.plex_io.specs.declared.shelf.ShelfFault.TheVariants.{Absent, Failed, Memory}

-- what the first file of this name holds
unfoldable pub held_in : List StoredFile → List ℕ → Option (List ℕ)
held_in [] name = None
held_in (f ∷ rest) name = (if bytes_eq f.name name then Some f.content else held_in rest name)

-- a shelf in memory: its files, the numbers of the calls that are to fail, how many calls there
-- were, and how many faults
pub record ShelfState : Type 0 where
  pub files : List StoredFile
  pub fails : List ℕ
  pub calls : ℕ
  pub faults : ℕ

-- the call that comes now is one of those that are to fail
abbrev pub IsShelfCallListed : ShelfState → Type 0
IsShelfCallListed s = Contains s.fails (risen s.calls)

-- the shelf after a call with this answer: one call more, and one fault more where it failed
abbrev pub after_read : ShelfState → Result (List ℕ) ShelfFault → ShelfState
after_read s (Ok got) = record s { calls = risen s.calls }
after_read s (Err Absent) = record s { calls = risen s.calls }
after_read s (Err Failed) = record s { calls = risen s.calls; faults = risen s.faults }
after_read s (Err Memory) = record s { calls = risen s.calls }
