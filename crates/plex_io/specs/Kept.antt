-- Output in memory.
use Rattle.std.specs.Prelude.{ℕ, ◌-◌, ◌<◌, ◌≤◌, List, ◌++◌, ◌⊎◌, Contains, length, min}
use Rattle.plex_io.specs.Causes.{risen}

-- a sink in memory: the bytes written, the most that it takes of a piece, how many bytes it has
-- room for in all, the numbers of the writes that are to fail, how many writes there were, and how
-- many faults
pub record SinkState : Type 0 where
  pub bytes : List ℕ
  pub piece : ℕ
  pub room : ℕ
  pub fails : List ℕ
  pub calls : ℕ
  pub faults : ℕ

-- how many bytes it takes of so many
abbrev pub taken : SinkState → ℕ → ℕ
taken s given = min (min given s.piece) (s.room - length s.bytes)

-- the write that comes now fails: its number is listed, or there is something to write and no room
-- is left
abbrev pub Refuses : SinkState → ℕ → Type 0
Refuses s given = Contains s.fails (risen s.calls) ⊎ ((0 < given) × (s.room ≤ length s.bytes))

-- the sink after a write that took these bytes
abbrev pub after_write : SinkState → List ℕ → SinkState
after_write s part = record s { bytes = s.bytes ++ part; calls = risen s.calls }

-- the sink after a write that failed
abbrev pub after_refusal : SinkState → SinkState
after_refusal s = record s { calls = risen s.calls; faults = risen s.faults }
