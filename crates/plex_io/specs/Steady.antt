-- Devices in memory that never fail of themselves.
use Rattle.std.specs.Prelude.{ℕ, ◌-◌, ◌<◌, ◌≤◌, List, [], ◌++◌, Option, Some, None, length, min}
use Rattle.plex_io.specs.Causes.{risen}
use Rattle.plex_io.specs.Files.{Files}
use Rattle.plex_io.specs.Stored.{held_in}
use Rattle.plex_io.specs.declared.memory_shelf.StoredFile.{StoredFile}

-- these bytes, and none where no file is held
abbrev pub or_empty : Option (List ℕ) → List ℕ
or_empty None = []
or_empty (Some bytes) = bytes

-- what the first file of each name holds, and an empty file under every other name
abbrev pub always_held : List StoredFile → Files
always_held files name = Some (or_empty (held_in files name))

-- a sink in memory that tells its size: the bytes written, the size at which it is full, and how
-- many faults
pub record SteadyState : Type 0 where
  pub bytes : List ℕ
  pub size : ℕ
  pub faults : ℕ

-- how many bytes it takes of so many
abbrev pub fitting : SteadyState → ℕ → ℕ
fitting s given = min given (s.size - length s.bytes)

-- a write of so many bytes fails: there is something to write and no room is left
abbrev pub Overflows : SteadyState → ℕ → Type 0
Overflows s given = (0 < given) × (s.size ≤ length s.bytes)

-- the sink after a write that took these bytes
abbrev pub with_bytes : SteadyState → List ℕ → SteadyState
with_bytes s part = record s { bytes = s.bytes ++ part }

-- the sink after a write that failed
abbrev pub with_fault : SteadyState → SteadyState
with_fault s = record s { faults = risen s.faults }
