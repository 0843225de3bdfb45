-- Each least fact has its place in the rows.
use Rattle.std.proofs.Common.{inl, inr, ℕ, ◌<◌, sym, subst, arith}
use Rattle.plex_num.proofs.Lists.{got_map}
use Rattle.exchange_model.specs.declared.exchange.Exchange.{Exchange}
use Rattle.exchange_model.specs.Kept.{IsExchange}
use Rattle.flow_points.specs.declared.fact.Fact.{Fact}
use Rattle.flow_points.specs.declared.fact.Slot.{Slot}
use Rattle.flow_points.specs.declared.fact.Slot.TheVariants.{Temp, Given, Answered, Depth, Awaits}
use Rattle.flow_points.specs.declared.fact.Value.{Value}
use Rattle.flow_points.specs.declared.flow.Source.{Source}
use Rattle.flow_points.specs.declared.flow.Source.TheVariants.{Of, Is, Deeper, Nothing}
use Rattle.flow_points.specs.Facts.{Facts, SourceGives, IsClosed, IsLeast}
use Rattle.flow_points.specs.Places.{Place}
use Rattle.flow_points.specs.Slots.{IsSlotOf, HasSlot}
use Rattle.flow_points.specs.Sources.{source_of, start_source}
use Rattle.flow_points.proofs.Least.{least_in}
use Rattle.flow_table.specs.declared.row.Row.{Row}
use Rattle.flow_table.specs.declared.row.FlowTable.{FlowTable}
use Rattle.flow_table.specs.Rows.{IsRowOf, IsFlowTable}
use Rattle.flow_table.proofs.Rowing.{place_fits}
use Rattle.fact_rows.specs.Known.{Fits, HasSpot, slots_of}
use Rattle.fact_rows.specs.Places.{HasPlace, counts_of}
use Rattle.fact_rows.specs.Values.{HasNumber, IsNumbered, IsAwaited}
use Rattle.least_facts.specs.Fit.{Awaited, NumberedSource, SourceFits}
use Rattle.least_facts.proofs.Numbering.{leads_fit, start_fits}

-- values

module _ (t : FlowTable) where
  abbrev pub InRows : Facts
  InRows f = Fits (slots_of t) f

  numbered_gives : (e p : ℕ) (source : Source) (v : Value) → NumberedSource source → SourceGives InRows e p source v → IsNumbered v
  numbered_gives e p (Of s) v h g = h v g.number
  numbered_gives e p (Is w) v h g = subst IsNumbered (sym g) h
  numbered_gives e p Deeper v h g = subst IsNumbered (sym g.2) (let lt = g.1 in omega (arith, lt))
  numbered_gives e p Nothing v h g = absurd g

  awaited_gives : (e p : ℕ) (source : Source) (v : Value) → Awaited source → SourceGives InRows e p source v → IsAwaited v
  awaited_gives e p (Of s) v h g = h v g.number
  awaited_gives e p (Is w) v h g = subst IsAwaited (sym g) h
  awaited_gives e p Deeper v h g = absurd h
  awaited_gives e p Nothing v h g = absurd g

  pub value_numbered : (e p : ℕ) (s : Slot) (source : Source) (v : Value) → SourceFits s source → SourceGives InRows e p source v → HasNumber s v
  value_numbered e p (Temp k) source v h g = numbered_gives e p source v h g
  value_numbered e p (Given k) source v h g = numbered_gives e p source v h g
  value_numbered e p (Answered k) source v h g = numbered_gives e p source v h g
  value_numbered e p Depth source v h g = numbered_gives e p source v h g
  value_numbered e p Awaits source v h g = awaited_gives e p source v h g

  -- slots

  pub slot_placed : (x : Exchange) (at : Place) (r : Row) (s : Slot) → IsRowOf x at r → IsSlotOf x at s → HasPlace (counts_of r) s
  slot_placed x at r (Temp k) is h = subst (λ n. k < n) (sym is.temps) h
  slot_placed x at r (Given k) is h = subst (λ n. k < n) (sym is.given) h
  slot_placed x at r (Answered k) is h = subst (λ n. k < n) (sym is.answered) h
  slot_placed x at r Depth is h = tt
  slot_placed x at r Awaits is h = tt

  pub fits : (x : Exchange) (f : Fact) → IsFlowTable x t → HasSlot x f.point f.slot → HasNumber f.slot f.value → Fits (slots_of t) f
  fits x f table slot number =
      let r = table.rows.each f.point slot.place slot.stands in
      record {
        counts = counts_of r.row;
        there = got_map counts_of t.rows f.point r.row r.there;
        slot = slot_placed x slot.place r.row f.slot r.is slot.slot;
        number = number;
      }

  rows_closed : (x : Exchange) → IsExchange x → IsFlowTable x t → IsClosed x InRows
  rows_closed x kept table f (inl g) = fits x f table g.slot
      (value_numbered f.entry f.point f.slot (start_source _ f.slot) f.value (start_fits x kept g.entry.signal f.slot)
      g.gives)
  rows_closed x kept table f (inr (p, g)) =
      let w = g.flow in
      fits x f table w.slot
      (value_numbered f.entry g.at.point f.slot (source_of g.how f.slot) f.value
      (leads_fit x kept g.at.block g.at.point g.at.next g.at.layer f.point g.how
      (place_fits x g.at kept g.stands.place) w.leads f.slot) w.gives)

  pub least_fits : (x : Exchange) → IsExchange x → IsFlowTable x t → (f : Fact) → IsLeast x f → Fits (slots_of t) f
  least_fits x kept table f h = least_in x InRows (rows_closed x kept table) f h

  -- a slot that is there has its place
  pub spot_at : (x : Exchange) (q : ℕ) (s : Slot) → IsFlowTable x t → HasSlot x q s → HasSpot (slots_of t) q s
  spot_at x q s table slot =
      let r = table.rows.each q slot.place slot.stands in
      record { counts = counts_of r.row; there = got_map counts_of t.rows q r.row r.there; slot = slot_placed x slot.place r.row s r.is slot.slot }
