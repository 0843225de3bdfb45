-- What rows of bits know: facts of one entry, and how many more there are that they could know.
use Rattle.std.specs.Prelude.{◌≡◌, ◌⊎◌, ◌↔◌, ℕ, ◌+◌, ◌*◌, ◌-◌, List, length, map, Some, slice_get}
use Rattle.std.specs.List.{Contains, sum_by}
use Rattle.std.specs.List.Sorted.{IsStrictlySortedBy}
use Rattle.std.specs.Ordering.{nat_cmp}
use Rattle.flow_points.specs.declared.fact.Fact.{Fact}
use Rattle.flow_points.specs.declared.fact.Slot.{Slot}
use Rattle.flow_points.specs.Facts.{fact}
use Rattle.flow_points.specs.Orders.{fact_order}
use Rattle.flow_table.specs.declared.row.FlowTable.{FlowTable}
use Rattle.fact_rows.specs.declared.keys.Key.{Key}
use Rattle.fact_rows.specs.declared.place.Counts.{Counts}
use Rattle.fact_rows.specs.declared.value.TheConstants.{ANY_NUMBER, AWAITED_NUMBERS}
use Rattle.fact_rows.specs.Places.{Marks, HasPlace, counts_of, numbers_at}
use Rattle.fact_rows.specs.Values.{HasNumber, value_in}

-- rows of bits: whose facts they are, and the numbers in their planes
pub record BitRows : Type 0 where
  pub entry : ℕ
  pub marks : Marks

-- the rows know the fact: it is of their entry, and the number of its value is in the plane of its
-- slot and point
pub record Knows (k : BitRows) (f : Fact) : Type 0 where
  pub entry : f.entry ≡ k.entry
  pub value : Contains (map (value_in f.slot) (numbers_at k.marks f.point f.slot)) f.value

-- so it is, and the fact is of the point
abbrev pub KnowsAt : BitRows → ℕ → Fact → Type 0
KnowsAt k p f = (f.point ≡ p) × Knows k f

-- a fact has a place in the rows: its slot stands before its point, and its value has a number
-- there
pub record Fits (slots : List Counts) (f : Fact) : Type 0 where
  pub counts : Counts
  pub there : slice_get slots f.point ≡ Some counts
  pub slot : HasPlace counts f.slot
  pub number : HasNumber f.slot f.value

-- the slot stands before the point
pub record HasSpot (slots : List Counts) (p : ℕ) (s : Slot) : Type 0 where
  pub counts : Counts
  pub there : slice_get slots p ≡ Some counts
  pub slot : HasPlace counts s

-- the slots before each point of a table
abbrev pub slots_of : FlowTable → List Counts
slots_of t = map counts_of t.rows

-- rows of an entry, for these slots before each point, that know nothing
pub record KnowNothing (entry : ℕ) (slots : List Counts) (k : BitRows) : Type 0 where
  pub of_entry : k.entry ≡ entry
  pub of_slots : k.marks.slots ≡ slots
  pub nothing : (f : Fact) → Knows k f → ⊥

-- exactly one fact more is known, if it was not known before
pub record AddsFact (f : Fact) (old new : BitRows) : Type 0 where
  pub entry : new.entry ≡ old.entry
  pub slots : new.marks.slots ≡ old.marks.slots
  pub knows : (g : Fact) → Knows new g ↔ ((g ≡ f) ⊎ Knows old g)

-- the values of one slot come to be known of another one too
pub record Joins (from to : Key) (old new : BitRows) : Type 0 where
  pub entry : new.entry ≡ old.entry
  pub slots : new.marks.slots ≡ old.marks.slots
  pub knows : (g : Fact) → Knows new g ↔ (((g.point ≡ to.point) × (g.slot ≡ to.slot)
      × Knows old (fact g.entry from.point from.slot g.value)) ⊎ Knows old g)

-- how many facts are not known
unfoldable pub missing : BitRows → ℕ
missing k =
    ((ANY_NUMBER + 1) * length k.marks.planes + AWAITED_NUMBERS * length k.marks.awaits)
    - (sum_by length k.marks.planes + sum_by length k.marks.awaits)

-- points in their order, among which are those of all these facts
pub record ArePointsOf (P : Fact → Type 0) (points : List ℕ) : Type 0 where
  pub rising : IsStrictlySortedBy nat_cmp points
  pub listed : (f : Fact) → P f → Contains points f.point

-- exactly these facts, in their order
pub record AreFacts (P : Fact → Type 0) (facts : List Fact) : Type 0 where
  pub rising : IsStrictlySortedBy fact_order facts
  pub each : (f : Fact) → Contains facts f → P f
  pub listed : (f : Fact) → P f → Contains facts f
