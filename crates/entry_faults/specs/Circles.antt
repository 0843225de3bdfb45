-- Points that lead back to themselves, by the ways of a table from the points that are reached.
use Rattle.std.specs.Prelude.{◌≡◌, ℕ, Bool, true, List, [], Option, Some, None, slice_get}
use Rattle.std.specs.Prelude.{unwrap_or}
use Rattle.std.specs.List.{Contains}
use Rattle.flow_table.specs.declared.row.Row.{Row}
use Rattle.flow_table.specs.declared.row.FlowTable.{FlowTable}
use Rattle.flow_table.specs.declared.way.Ends.{Ends}
use Rattle.flow_table.specs.declared.way.Ends.TheVariants as ends
use Rattle.flow_table.specs.declared.way.Way.{Way}
use Rattle.entry_faults.specs.Marks.{is_in}

abbrev pub retrieves_of : FlowTable → ℕ → List ℕ
retrieves_of t answer = unwrap_or (slice_get t.retrieves answer) []

-- the points to which a way leads
abbrev pub ends_of : FlowTable → Ends → List ℕ
ends_of t (ends.Points points) = points
ends_of t (ends.Retrieves answer) = retrieves_of t answer

abbrev pub ways_in : Option Row → List Way
ways_in (Some row) = row.ways
ways_in None = []

-- the ways from a point
abbrev pub ways_at : FlowTable → ℕ → List Way
ways_at t p = ways_in (slice_get t.rows p)

-- one of these ways leads to the point
pub record LeadTo (t : FlowTable) (ways : List Way) (q : ℕ) : Type 0 where
  pub way : Way
  pub one : Contains ways way
  pub end : Contains (ends_of t way.ends) q

-- a way leads from a point that is reached to the other one
pub record Leads (t : FlowTable) (reached : List Bool) (p q : ℕ) : Type 0 where
  pub from : is_in reached p ≡ true
  pub leads : LeadTo t (ways_at t p) q

-- one or more ways do
pub data Route (t : FlowTable) (reached : List Bool) : ℕ → ℕ → Type 0 where
  One : {p q : ℕ} → Leads t reached p q → Route t reached p q
  More : {p q r : ℕ} → Leads t reached p q → Route t reached q r → Route t reached p r

-- a point leads back to itself
pub record Circles (t : FlowTable) (reached : List Bool) : Type 0 where
  pub point : ℕ
  pub route : Route t reached point point
