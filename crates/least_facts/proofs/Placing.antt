-- The slots of a row, place by place.
use Rattle.std.proofs.Common.{◌≡◌, inl, ℕ, zero, suc, ◌+◌, ◌-◌, ◌<◌, ◌≤◌, Bool, false, List, []}
use Rattle.std.proofs.Common.{◌∷◌, ◌++◌, length, map, Some, slice_get, get_or, refl, sym, ap, ◌∙◌}
use Rattle.std.proofs.Common.{arith, length-append}
use Rattle.std.specs.List.{Contains, range_with_len}
use Rattle.std.proofs.lemmas.List.{get_or_append_left, get_or-append_right}
use Rattle.std.proofs.lemmas.List.FromFn.{get_or-map-range_with_len, length-map-range_with_len}
use Rattle.plex_num.proofs.Members.{none_in}
use Rattle.exchange_model.specs.declared.exchange.Exchange.{Exchange}
use Rattle.exchange_model.specs.Kept.{IsExchange}
use Rattle.flow_points.specs.declared.fact.Slot.{Slot}
use Rattle.flow_points.specs.declared.fact.Slot.TheVariants as slot
use Rattle.flow_points.specs.declared.flow.Passing.{Passing}
use Rattle.flow_points.specs.Slots.{HasSlot}
use Rattle.flow_table.specs.declared.row.Row.{Row}
use Rattle.flow_table.specs.declared.row.FlowTable.{FlowTable}
use Rattle.flow_table.specs.Rows.{IsFlowTable}
use Rattle.fact_flows.specs.declared.slots.Numbered.{Numbered}
use Rattle.fact_flows.specs.declared.slots.Numbered.TheVariants.{Temp, Given, Answered}
use Rattle.fact_flows.specs.Slots.{numbered_slot, row_slots}
use Rattle.fact_flows.proofs.Slotting.{no_slots, some_slots}
use Rattle.fact_rows.specs.Known.{BitRows}
use Rattle.least_facts.specs.Giving.{FillsPoint, FillsSlots}

-- numbered slots

abbrev those : Numbered → ℕ → List Slot
those m n = map (numbered_slot m) (range_with_len 0 n)

long : (m : Numbered) (n : ℕ) → length (those m n) ≡ n
long m n = length-map-range_with_len (numbered_slot m) 0 n

at_number : (m : Numbered) (n k : ℕ) → k < n → numbered_slot m k ≡ get_or (those m n) k slot.Awaits
at_number m n k lt = sym (get_or-map-range_with_len (numbered_slot m) 0 n k k slot.Awaits lt (omega arith))

-- all of a row

abbrev ends : List Slot
ends = slot.Depth ∷ slot.Awaits ∷ []

module _ (r : Row) where
  abbrev ts : List Slot
  ts = those Temp r.temps

  abbrev gs : List Slot
  gs = those Given r.given

  abbrev as' : List Slot
  as' = those Answered r.answered

  pub row_long : r.temps + r.given + r.answered + 2 ≡ length (row_slots r)
  row_long = omega (
    arith,
    length-append ts (gs ++ (as' ++ ends)),
    length-append gs (as' ++ ends),
    length-append as'
        ends,
    long Temp r.temps,
    long Given r.given,
    long Answered r.answered,
  )

  past_temps : (i : ℕ) → r.temps ≤ i → get_or (row_slots r) i slot.Awaits ≡ get_or (gs ++ (as' ++ ends)) (i - r.temps) slot.Awaits
  past_temps i past = get_or-append_right ts (gs ++ (as' ++ ends)) r.temps i slot.Awaits (long Temp r.temps) past

  past_given : (i : ℕ) → r.temps + r.given ≤ i → get_or (row_slots r) i slot.Awaits ≡ get_or (as' ++ ends) (i - (r.temps + r.given)) slot.Awaits
  past_given i past =
      let e : i - r.temps - r.given ≡ i - (r.temps + r.given) = omega arith in
      past_temps i (omega arith) ∙ get_or-append_right gs (as' ++ ends) r.given (i - r.temps) slot.Awaits
      (long Given r.given) (omega arith) ∙ ap (λ k. get_or (as' ++ ends) k slot.Awaits) e

  past_answered : (i : ℕ) → r.temps + r.given + r.answered ≤ i
      → get_or (row_slots r) i slot.Awaits ≡ get_or ends (i - (r.temps + r.given + r.answered)) slot.Awaits
  past_answered i past =
      let e : i - (r.temps + r.given) - r.answered ≡ i - (r.temps + r.given + r.answered) = omega arith in
      past_given i (omega arith) ∙ get_or-append_right as' ends r.answered (i - (r.temps + r.given)) slot.Awaits
      (long Answered r.answered) (omega arith) ∙ ap (λ k. get_or ends k slot.Awaits) e

  pub at_temp : (i : ℕ) → i < r.temps → slot.Temp i ≡ get_or (row_slots r) i slot.Awaits
  at_temp i lt = at_number Temp r.temps i lt ∙ sym (get_or_append_left ts (gs ++ (as' ++ ends)) slot.Awaits i (omega (arith, lt, long Temp r.temps)))

  pub at_given : (i : ℕ) → r.temps ≤ i → i < r.temps + r.given → slot.Given (i - r.temps) ≡ get_or (row_slots r) i slot.Awaits
  at_given i past lt =
      at_number Given r.given (i - r.temps) (omega arith)
      ∙ sym (past_temps i past ∙ get_or_append_left gs (as' ++ ends) slot.Awaits (i - r.temps)
      (omega (arith, long Given r.given)))

  pub at_answered : (i : ℕ) → r.temps + r.given ≤ i → i < r.temps + r.given + r.answered
      → slot.Answered (i - (r.temps + r.given)) ≡ get_or (row_slots r) i slot.Awaits
  at_answered i past lt =
      at_number Answered r.answered (i - (r.temps + r.given)) (omega arith)
      ∙ sym (past_given i past ∙ get_or_append_left as' ends slot.Awaits (i - (r.temps + r.given))
      (omega (arith, long Answered r.answered)))

  pub at_depth : (i : ℕ) → i ≡ r.temps + r.given + r.answered → slot.Depth ≡ get_or (row_slots r) i slot.Awaits
  at_depth i is =
      let e : i - (r.temps + r.given + r.answered) ≡ 0 = omega arith in
      sym (past_answered i (omega arith) ∙ ap (λ k. get_or ends k slot.Awaits) e)

  pub at_awaits : (i : ℕ) → r.temps + r.given + r.answered ≤ i → (i ≡ r.temps + r.given + r.answered → ⊥) → slot.Awaits ≡ get_or (row_slots r) i slot.Awaits
  at_awaits i past apart =
      let e : i - (r.temps + r.given + r.answered) ≡ suc (i - (r.temps + r.given + r.answered + 1)) = omega arith in
      sym (past_answered i past ∙ ap (λ k. get_or ends k slot.Awaits) e ∙ last (i - (r.temps + r.given + r.answered + 1)))
    where
      last : (k : ℕ) → get_or (slot.Awaits ∷ []) k slot.Awaits ≡ slot.Awaits
      last zero = refl
      last (suc k) = refl

-- a row and its point

pub row_there : (x : Exchange) (t : FlowTable) (q : ℕ) (r : Row) → IsExchange x → IsFlowTable x t
    → slice_get t.rows q ≡ Some r → (s : Slot) → Contains (row_slots r) s → HasSlot x q s
row_there x t q r kept table there s c = ((some_slots x t q r (row_slots r) kept table there refl).exact s).0 c

pub point_filled : (x : Exchange) (t : FlowTable) (e p : ℕ) (how : Passing) (q : ℕ) (r : Row) (k new : BitRows)
    (grown : Bool) → IsExchange x → IsFlowTable x t → slice_get t.rows q ≡ Some r
    → FillsSlots x e p how q (row_slots r) k grown new → FillsPoint x e p how q k grown new
point_filled x t e p how q r k new grown kept table there fills = record
    { slots = row_slots r; all = some_slots x t q r (row_slots r) kept table there refl; fills = fills }

pub none_filled : (x : Exchange) (t : FlowTable) (e p : ℕ) (how : Passing) (q : ℕ) (k : BitRows) → IsFlowTable x t
    → length t.rows ≤ q → FillsPoint x e p how q k false k
none_filled x t e p how q k table past = record {
  slots = [];
  all = no_slots x t q [] table past refl;
  fills = record {
    fills = record { entry = refl; slots = refl; more = λ f c. c; each = λ f c. inl c; counted = refl };
    all = λ f g. absurd (none_in f.slot g.slot);
  };
}
