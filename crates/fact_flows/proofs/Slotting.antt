-- The slots before a point, as a row tells them.
use Rattle.std.proofs.Common.{◌≡◌, ⊎_elim, ℕ, ◌+◌, ◌<◌, ◌≤◌, List, [], ◌∷◌, ◌++◌, length, map, Some}
use Rattle.std.proofs.Common.{slice_get, sym, ap, ◌∙◌, subst, arith, append-nil, append_assoc}
use Rattle.std.proofs.lemmas.List.Elements.{Contains-append_left, Contains-append_right}
use Rattle.std.proofs.lemmas.List.Elements.{Contains-append_cases}
use Rattle.std.proofs.lemmas.List.FromFn.{length-map-range_with_len, get_or-map-range_with_len}
use Rattle.std.proofs.lemmas.List.FromFn.{map-range_with_len_more}
use Rattle.std.proofs.lemmas.Option.{none-some, slice_get_past, slice_get_within}
use Rattle.std.specs.List.{Contains, range_with_len}
use Rattle.plex_num.proofs.Members.{first_or_later, none_in, first_is, later_is}
use Rattle.exchange_model.specs.declared.exchange.Exchange.{Exchange}
use Rattle.exchange_model.specs.Kept.{IsExchange}
use Rattle.flow_points.specs.declared.fact.Slot.{Slot}
use Rattle.flow_points.specs.declared.fact.Slot.TheVariants as slot
use Rattle.flow_points.specs.Slots.{HasSlot}
use Rattle.flow_table.specs.declared.row.Row.{Row}
use Rattle.flow_table.specs.declared.row.FlowTable.{FlowTable}
use Rattle.flow_table.specs.Rows.{IsFlowTable, RowHas}
use Rattle.flow_table.proofs.Slotted.{row_of, row_of_slot, slot_of_row}
use Rattle.fact_flows.specs.declared.slots.Numbered.{Numbered}
use Rattle.fact_flows.specs.declared.slots.Numbered.TheVariants.{Temp, Given, Answered}
use Rattle.fact_flows.specs.Slots.{AreSlots, numbered_slot, row_slots}
use Rattle.fact_flows.proofs.Peopled.{point_stands}

-- a loop over numbers

pub numbered_begin : (m : Numbered) (old now : List Slot) → now ≡ old → now ≡ old ++ map (numbered_slot m) (range_with_len 0 0)
numbered_begin m old now same = same ∙ sym (append-nil old)

pub numbered_more : (m : Numbered) (n : ℕ) (s : Slot) (old now new : List Slot) → s ≡ numbered_slot m n
    → new ≡ now ++ s ∷ [] → now ≡ old ++ map (numbered_slot m) (range_with_len 0 n)
    → new ≡ old ++ map (numbered_slot m) (range_with_len 0 (n + 1))
numbered_more m n s old now new is pushed before =
    let e : 0 + n ≡ n = omega arith in
    pushed ∙ ap (λ l. l ++ s ∷ []) before ∙ append_assoc old (map (numbered_slot m) (range_with_len 0 n)) (s ∷ [])
    ∙ ap (λ z. old ++ (map (numbered_slot m) (range_with_len 0 n) ++ z ∷ [])) is
    ∙ ap (λ l. old ++ l) (sym (map-range_with_len_more (numbered_slot m) 0 n n e))

pub numbered_end : (m : Numbered) (n count : ℕ) (old now : List Slot) → n ≤ count → count ≤ n
    → now ≡ old ++ map (numbered_slot m) (range_with_len 0 n)
    → now ≡ old ++ map (numbered_slot m) (range_with_len 0 count)
numbered_end m n count old now low high is = (let e : n ≡ count = omega arith in is ∙ ap (λ k. old ++ map (numbered_slot m) (range_with_len 0 k)) e)

pub all_listed : (r : Row) (a b c d e f : List Slot) → a ≡ []
    → b ≡ a ++ map (numbered_slot Temp) (range_with_len 0 r.temps)
    → c ≡ b ++ map (numbered_slot Given) (range_with_len 0 r.given)
    → d ≡ c ++ map (numbered_slot Answered) (range_with_len 0 r.answered) → e ≡ d ++ slot.Depth ∷ []
    → f ≡ e ++ slot.Awaits ∷ [] → f ≡ row_slots r
all_listed r a b c d e f none temps given answered depth awaits =
    let ts = map (numbered_slot Temp) (range_with_len 0 r.temps) in
    let gs = map (numbered_slot Given) (range_with_len 0 r.given) in
    let as' = map (numbered_slot Answered) (range_with_len 0 r.answered) in
    let b' : b ≡ ts = temps ∙ ap (λ l. l ++ ts) none in
    let c' : c ≡ ts ++ gs = given ∙ ap (λ l. l ++ gs) b' in
    let d' : d ≡ ts ++ (gs ++ as') = answered ∙ ap (λ l. l ++ as') c' ∙ append_assoc ts gs as' in
    let e' : e ≡ ts ++ (gs ++ (as' ++ slot.Depth ∷ [])) = depth ∙ ap (λ l. l ++ slot.Depth ∷ []) d'
    ∙ append_assoc ts (gs ++ as') (slot.Depth ∷ []) ∙ ap (λ l. ts ++ l) (append_assoc gs as' (slot.Depth ∷ [])) in
    awaits ∙ ap (λ l. l ++ slot.Awaits ∷ []) e' ∙ append_assoc ts (gs ++ (as' ++ slot.Depth ∷ [])) (slot.Awaits ∷ [])
    ∙ ap (λ l. ts ++ l) (append_assoc gs (as' ++ slot.Depth ∷ []) (slot.Awaits ∷ [])
    ∙ ap (λ l. gs ++ l) (append_assoc as' (slot.Depth ∷ []) (slot.Awaits ∷ [])))

-- which slots these are

pub record IsNumbered (m : Numbered) (n : ℕ) (s : Slot) : Type 0 where
  pub number : ℕ
  pub below : number < n
  pub is : numbered_slot m number ≡ s

pub in_numbered : (m : Numbered) (n : ℕ) (s : Slot) → Contains (map (numbered_slot m) (range_with_len 0 n)) s → IsNumbered m n s
in_numbered m n s c =
    let long = length-map-range_with_len (numbered_slot m) 0 n in
    let below : c.0 < n = (let lt = c.1 in omega (arith, long, lt)) in
    let e : 0 + c.0 ≡ c.0 = omega arith in
    record { number = c.0; below = below; is = sym (get_or-map-range_with_len (numbered_slot m) 0 n c.0 c.0 s below e) ∙ c.2 }

pub numbered_in : (m : Numbered) (n k : ℕ) → k < n → Contains (map (numbered_slot m) (range_with_len 0 n)) (numbered_slot m k)
numbered_in m n k lt =
    let long = length-map-range_with_len (numbered_slot m) 0 n in
    let e : 0 + k ≡ k = omega arith in
    (k, omega (arith, long, lt), get_or-map-range_with_len (numbered_slot m) 0 n k k (numbered_slot m k) lt e)

listed_has : (r : Row) (s : Slot) → Contains (row_slots r) s → RowHas r s
listed_has r s c =
    let ts = map (numbered_slot Temp) (range_with_len 0 r.temps) in
    let gs = map (numbered_slot Given) (range_with_len 0 r.given) in
    let as' = map (numbered_slot Answered) (range_with_len 0 r.answered) in
    ⊎_elim
    (λ h. let i = in_numbered Temp r.temps s h in subst (RowHas r) i.is i.below)
    (λ h. ⊎_elim
    (λ k. let i = in_numbered Given r.given s k in subst (RowHas r) i.is i.below)
    (λ k. ⊎_elim
    (λ l. let i = in_numbered Answered r.answered s l in subst (RowHas r) i.is i.below)
    (λ l. ⊎_elim (λ e. subst (RowHas r) e tt) (λ m. ⊎_elim (λ e. subst (RowHas r) e tt) (λ n. absurd (none_in s n))
    (first_or_later slot.Awaits s [] m)) (first_or_later slot.Depth s (slot.Awaits ∷ []) l))
    (Contains-append_cases as' (slot.Depth ∷ slot.Awaits ∷ []) s k))
    (Contains-append_cases gs (as' ++ (slot.Depth ∷ slot.Awaits ∷ [])) s h))
    (Contains-append_cases ts (gs ++ (as' ++ (slot.Depth ∷ slot.Awaits ∷ []))) s c)

has_listed : (r : Row) (s : Slot) → RowHas r s → Contains (row_slots r) s
has_listed r s h = by s h
  where
    ts : List Slot
    ts = map (numbered_slot Temp) (range_with_len 0 r.temps)

    gs : List Slot
    gs = map (numbered_slot Given) (range_with_len 0 r.given)

    as' : List Slot
    as' = map (numbered_slot Answered) (range_with_len 0 r.answered)

    past_temps : (t : Slot) → Contains (gs ++ (as' ++ (slot.Depth ∷ slot.Awaits ∷ []))) t → Contains (row_slots r) t
    past_temps t c = Contains-append_right ts (gs ++ (as' ++ (slot.Depth ∷ slot.Awaits ∷ []))) t c

    past_given : (t : Slot) → Contains (as' ++ (slot.Depth ∷ slot.Awaits ∷ [])) t → Contains (row_slots r) t
    past_given t c = past_temps t (Contains-append_right gs (as' ++ (slot.Depth ∷ slot.Awaits ∷ [])) t c)

    past_answered : (t : Slot) → Contains (slot.Depth ∷ slot.Awaits ∷ []) t → Contains (row_slots r) t
    past_answered t c = past_given t (Contains-append_right as' (slot.Depth ∷ slot.Awaits ∷ []) t c)

    by : (t : Slot) → RowHas r t → Contains (row_slots r) t
    by (slot.Temp n) lt = Contains-append_left ts (gs ++ (as' ++ (slot.Depth ∷ slot.Awaits ∷ []))) (slot.Temp n) (numbered_in Temp r.temps n lt)
    by (slot.Given n) lt = past_temps (slot.Given n)
        (Contains-append_left gs (as' ++ (slot.Depth ∷ slot.Awaits ∷ [])) (slot.Given n)
        (numbered_in Given r.given n lt))
    by (slot.Answered n) lt = past_given (slot.Answered n)
        (Contains-append_left as' (slot.Depth ∷ slot.Awaits ∷ []) (slot.Answered n)
        (numbered_in Answered r.answered n lt))
    by slot.Depth u = past_answered slot.Depth (first_is slot.Depth (slot.Awaits ∷ []))
    by slot.Awaits u = past_answered slot.Awaits (later_is slot.Depth slot.Awaits (slot.Awaits ∷ []) (first_is slot.Awaits []))

pub some_slots : (x : Exchange) (t : FlowTable) (p : ℕ) (r : Row) (slots : List Slot) → IsExchange x → IsFlowTable x t
    → slice_get t.rows p ≡ Some r → slots ≡ row_slots r → AreSlots x p slots
some_slots x t p r slots kept table there is = record { exact = λ s. (from s, to s) }
  where
    from : (s : Slot) → Contains slots s → HasSlot x p s
    from s c =
        let below : p < length x.points = (let lt = slice_get_within t.rows p r there in let e = table.rows.each_point in omega (arith, lt, e)) in
        let at = point_stands x kept p below in
        record {
          place = at.at;
          stands = at.stands;
          slot = slot_of_row x at.at r s (row_of x t p r at.at table there at.stands)
              (listed_has r s (subst (λ l. Contains l s) is c));
        }

    to : (s : Slot) → HasSlot x p s → Contains slots s
    to s h = subst (λ l. Contains l s) (sym is) (has_listed r s (row_of_slot x h.place r s (row_of x t p r h.place table there h.stands) h.slot))

pub no_slots : (x : Exchange) (t : FlowTable) (p : ℕ) (slots : List Slot) → IsFlowTable x t → length t.rows ≤ p → slots ≡ [] → AreSlots x p slots
no_slots x t p slots table past none = record { exact = λ s. (λ c. absurd (none_in s (subst (λ l. Contains l s) none c)), λ h. absurd (nothing s h)) }
  where
    nothing : (s : Slot) → HasSlot x p s → ⊥
    nothing s h = (let r = table.rows.each p h.place h.stands in none-some r.row (sym (slice_get_past t.rows p past) ∙ r.there))
