-- The lines of a filter as rows, in order by their keys and by the first jobs of their spans.
--
-- What a line names beside its span is its key. With each row stands how far the spans of its key
-- reach, up to that row. So whether a line of a key has a job in its span is told by one row: the
-- last one of the key whose span has begun.
use Rattle.std.specs.Prelude.{◌≡◌, ℕ, ◌+◌, ◌-◌, ◌^◌, ◌<◌, ◌≤◌, Bool, true, false, ◌&&◌, nat_le}
use Rattle.std.specs.Prelude.{List, [], ◌∷◌, ◌++◌, length, get_or, map, take, Option, Some, None}
use Rattle.std.specs.Prelude.{unwrap_or}
use Rattle.std.specs.List.{list_any}
use Rattle.exchange_model.specs.declared.entry.Entry.{Entry}
use Rattle.std.specs.declared.cmp.Ordering.{Ordering}
use Rattle.std.specs.Ordering.{is_le}
use Rattle.std.specs.List.Sorted.{IsPartitionPoint, IsPermutation, IsSortedByKey}
use Rattle.signal_trace.specs.declared.show.Show.{Show}
use Rattle.signal_trace.specs.declared.table.Key.{Key}
use Rattle.signal_trace.specs.declared.table.Row.{Row}
use Rattle.signal_trace.specs.declared.table.Start.{Start}
use Rattle.signal_trace.specs.contracts.table.KeyPartialEq.TheImpl as keys
use Rattle.signal_trace.specs.contracts.table.StartOrd.TheImpl as starts
use Rattle.signal_trace.specs.Trace.{is_from, is_upto}

-- rows

-- what a line names beside its span
abbrev pub key_of : Show → Key
key_of l = record { block = l.block; signal = l.signal; forlopp = l.forlopp; faults = l.faults }

-- a line as a row: where no first job is named, all before are in the span, and so at its end
abbrev pub row_of : Show → Row
row_of l = record {
  start = record { key = key_of l; from = unwrap_or l.from 0 };
  upto = unwrap_or l.upto (2 ^ 64 - 1);
}

abbrev pub same_key : Key → Key → Bool
same_key = keys.ghosts.eq

-- keys in their order, and then first jobs
abbrev pub start_order : Start → Start → Ordering
start_order = starts.ghosts.cmp

abbrev pub AreRising : List Row → Type 0
AreRising rows = IsSortedByKey (λ (r : Row). r.start) start_order rows

-- a row of this key has the job of this number in its span
abbrev pub reaches : Key → ℕ → Row → Bool
reaches key number r =
    (nat_le r.start.from number && nat_le number r.upto) && same_key r.start.key key

-- how far they reach

-- one of these rows is of this key, with a span that reaches up to the job of this number
abbrev pub reach : Key → ℕ → List Row → Bool
reach key number rows =
    list_any (λ (r : Row). same_key r.start.key key && nat_le number r.upto) rows

-- the spans of the rows up to a place with the key of the row there reach up to this job, and none
-- further
pub record IsLast (rows : List Row) (place last : ℕ) : Type 0 where
  pub reached : (d : Row) (number : ℕ) → reach (get_or rows place d).start.key number
      (take (place + 1) rows) ≡ nat_le number last

-- so for each of so many rows, from the first on
pub record AreLasts (count : ℕ) (rows : List Row) (lasts : List ℕ) : Type 0 where
  pub many : length lasts ≡ count
  pub each : (k : ℕ) → k < count → IsLast rows k (get_or lasts k 0)

-- so many rows do not come after this start, and are the first ones
pub record AreCounted (start : Start) (rows : List Row) (count : ℕ) : Type 0 where
  pub there : count ≤ length rows
  pub parts : IsPartitionPoint (λ (r : Row). is_le (start_order r.start start) ≡ true)
      (λ (r : Row). is_le (start_order r.start start) ≡ false) rows count

-- the table of these lines
pub record IsTraceTable (lines : List Show) (rows : List Row) (lasts : List ℕ) : Type 0 where
  pub same : IsPermutation (map row_of lines) rows
  pub rising : AreRising rows
  pub told : AreLasts (length rows) rows lasts

-- the keys that agree with a job

abbrev pub key_with : (block signal forlopp : Option ℕ) → Bool → Key
key_with block signal forlopp faults =
    record { block = block; signal = signal; forlopp = forlopp; faults = faults }

-- those that name this block, or none, and this signal, or none
abbrev pub keys_at : (block signal : Option ℕ) → ℕ → Bool → List Key
keys_at block signal forlopp faults =
    key_with block signal None faults ∷ key_with block signal (Some forlopp) faults ∷ []

-- those that name this block, or none
abbrev pub keys_in : Option ℕ → (signal forlopp : ℕ) → Bool → List Key
keys_in block signal forlopp faults =
    keys_at block None forlopp faults ++ keys_at block (Some signal) forlopp faults

-- those that agree with a job of this entry and forlopp, and name that it ended by a fault, or do
-- not
abbrev pub keys_for : Entry → ℕ → Bool → List Key
keys_for e forlopp faults =
    keys_in None e.signal forlopp faults ++ keys_in (Some e.block) e.signal forlopp faults

-- the line has this key, and the job in its span
abbrev pub has_key : Key → ℕ → Show → Bool
has_key key number l = (is_from l.from number && is_upto l.upto number) && same_key (key_of l) key

-- some line has one of these keys, and the job in its span
abbrev pub some_has : List Show → ℕ → List Key → Bool
some_has ls number keys = list_any (λ k. list_any (has_key k number) ls) keys
