-- The facts that a flow gives, slot by slot.
use Rattle.std.proofs.Common.{◌≡◌, ◌⊎◌, Bool, true, false, not, nat_eq, Result, Ok, Err, OnOk, inl}
use Rattle.std.proofs.Common.{inr, ⊎_elim, ℕ, ◌+◌, ◌<◌, ◌≤◌, List, [], ◌∷◌, ◌++◌, length, map, drop}
use Rattle.std.proofs.Common.{get_or, refl, sym, ap, ◌∙◌, subst, arith, append-nil, append_assoc}
use Rattle.std.proofs.Math.ListN.{drop_of_length-le}
use Rattle.std.proofs.lemmas.Bool.{ne_eqb}
use Rattle.std.proofs.lemmas.List.Elements.{Contains-append_left, Contains-append_right}
use Rattle.std.proofs.lemmas.List.Elements.{Contains-append_cases}
use Rattle.std.specs.List.{Contains}
use Rattle.std.specs.Prelude.{◌↔◌}
use Rattle.std.proofs.lemmas.List.{get_or_default}
use Rattle.plex_num.specs.declared.seq.Memory.{Memory}
use Rattle.plex_num.proofs.Members.{none_in, first_or_later, first_is, later_is}
use Rattle.plex_num.proofs.Lists.{opens}
use Rattle.flow_points.specs.declared.fact.Fact.{Fact}
use Rattle.flow_points.specs.declared.fact.Slot.{Slot}
use Rattle.flow_points.specs.declared.fact.Value.{Value}
use Rattle.flow_points.specs.declared.flow.Passing.{Passing}
use Rattle.flow_points.specs.declared.flow.Source.{Source}
use Rattle.flow_points.specs.declared.flow.Source.TheVariants.{Deeper}
use Rattle.flow_points.specs.declared.flow.Passing.TheVariants.{Calls, Answers}
use Rattle.flow_points.specs.declared.fact.Value.TheVariants.{Const}
use Rattle.flow_points.specs.Facts.{Facts, fact, SourceGives, Guarded, HasRoomForCaller, Reached}
use Rattle.flow_points.specs.Sources.{source_of}
use Rattle.flow_table.specs.Giving.{AreValues, HasGiven, SlotGives, SlotsGive}

record Made (e q : ℕ) (s : Slot) (values : List Value) (f : Fact) : Type 0 where
  value : Value
  one : Contains values value
  is : fact e q s value ≡ f

made_of : (e q : ℕ) (s : Slot) (values : List Value) (f : Fact) → Contains (map (fact e q s) values) f → Made e q s values f
made_of e q s [] f c = absurd (none_in f c)
made_of e q s (v ∷ vs) f c =
    ⊎_elim
    (λ is. record { value = v; one = first_is v vs; is = is })
    (λ later. let m = made_of e q s vs f later in record { value = m.value; one = later_is v m.value vs m.one; is = m.is })
    (first_or_later (fact e q s v) f (map (fact e q s) vs) c)

of_made : (e q : ℕ) (s : Slot) (values : List Value) (v : Value) → Contains values v → Contains (map (fact e q s) values) (fact e q s v)
of_made e q s [] v c = absurd (none_in v c)
of_made e q s (u ∷ vs) v c =
    ⊎_elim
    (λ is. subst (λ w. Contains (map (fact e q s) (u ∷ vs)) (fact e q s w)) is (first_is (fact e q s u) (map (fact e q s) vs)))
    (λ later. later_is (fact e q s u) (fact e q s v) (map (fact e q s) vs) (of_made e q s vs v later))
    (first_or_later u v vs c)

same_fact : (e q : ℕ) (s : Slot) (f : Fact) → f.entry ≡ e → f.point ≡ q → f.slot ≡ s → fact e q s f.value ≡ f
same_fact e q s f ee qe se = (λ i. fact (sym ee i) (sym qe i) (sym se i) f.value)

pub slot_given : (P : Facts) (e p : ℕ) (source : Source) (q : ℕ) (s : Slot) (values given : List Value)
    (old new : List Fact) → AreValues (SourceGives P e p source) values → given ≡ values
    → new ≡ old ++ map (fact e q s) given → HasGiven old new (SlotGives P e p source q s)
slot_given P e p source q s values given old new are same is = record {
  added = map (fact e q s) values;
  is = is ∙ ap (λ l. old ++ map (fact e q s) l) same;
  each = λ f c.
      (let m = made_of e q s values f c in
      record {
        entry = ap (λ (g : Fact). g.entry) (sym m.is);
        point = ap (λ (g : Fact). g.point) (sym m.is);
        slot = ap (λ (g : Fact). g.slot) (sym m.is);
        gives = subst (λ (g : Fact). SourceGives P e p source g.value) m.is (are.each m.value m.one);
      });
  listed = λ f h. subst (Contains (map (fact e q s) values)) (same_fact e q s f h.entry h.point h.slot)
      (of_made e q s values f.value (are.listed f.value h.gives));
}

-- slot by slot

pub record FlowGoes (P : Facts) (e p : ℕ) (how : Passing) (q : ℕ) (slots : List Slot) (old : List Fact) (i : ℕ) (now : List Fact) : Type 0 where
  pub added : List Fact
  pub is : now ≡ old ++ added
  pub each : (f : Fact) → Contains added f → SlotsGive P e p how q slots f
  pub listed : (f : Fact) → SlotsGive P e p how q slots f → Contains added f ⊎ Contains (drop i slots) f.slot

pub flow_begin : (P : Facts) (e p : ℕ) (how : Passing) (q : ℕ) (slots : List Slot) (old now : List Fact) → now ≡ old → FlowGoes P e p how q slots old 0 now
flow_begin P e p how q slots old now same = record
    { added = []; is = same ∙ sym (append-nil old); each = λ f c. absurd (none_in f c); listed = λ f h. inr h.slot }

at_contained : {A : Type 0} (xs : List A) (i : ℕ) (x : A) → i < length xs → x ≡ get_or xs i x → Contains xs x
at_contained xs i x lt is = (i, lt, sym is)

pub flow_more : (P : Facts) (e p : ℕ) (how : Passing) (q : ℕ) (slots : List Slot) (i : ℕ) (s : Slot) (source : Source)
    (old now new : List Fact) → i < length slots → s ≡ get_or slots i s → source ≡ source_of how s
    → HasGiven now new (SlotGives P e p source q s) → FlowGoes P e p how q slots old i now
    → FlowGoes P e p how q slots old (i + 1) new
flow_more P e p how q slots i s source old now new lt is from h g = record {
  added = g.added ++ h.added;
  is = h.is ∙ ap (λ l. l ++ h.added) g.is ∙ append_assoc old g.added h.added;
  each = λ f c. ⊎_elim (g.each f) (λ at. one f (h.each f at)) (Contains-append_cases g.added h.added f c);
  listed = λ f k. ⊎_elim (λ c. inl (Contains-append_left g.added h.added f c))
      (λ c. later f k (first_or_later s f.slot (drop (i + 1) slots)
      (subst (λ l. Contains l f.slot) (opens slots i s lt is) c))) (g.listed f k);
}
  where
    one : (f : Fact) → SlotGives P e p source q s f → SlotsGive P e p how q slots f
    one f k = record {
      entry = k.entry;
      point = k.point;
      slot = subst (Contains slots) (sym k.slot) (at_contained slots i s lt is);
      gives = subst (λ t. SourceGives P e p (source_of how t) f.value) (sym k.slot) (subst (λ o. SourceGives P e p o f.value) from k.gives);
    }

    later : (f : Fact) → SlotsGive P e p how q slots f → (s ≡ f.slot) ⊎ Contains (drop (i + 1) slots) f.slot
        → Contains (g.added ++ h.added) f ⊎ Contains (drop (i + 1) slots) f.slot
    later f k (inl same) = inl (Contains-append_right g.added h.added f (h.listed f (record {
      entry = k.entry;
      point = k.point;
      slot = sym same;
      gives = subst (λ o. SourceGives P e p o f.value) (sym from) (subst (λ t. SourceGives P e p (source_of how t) f.value) (sym same) k.gives);
    })))
    later f k (inr c) = inr c

pub flow_end : (P : Facts) (e p : ℕ) (how : Passing) (q : ℕ) (slots : List Slot) (i : ℕ) (old now : List Fact)
    → length slots ≤ i → FlowGoes P e p how q slots old i now → HasGiven old now (SlotsGive P e p how q slots)
flow_end P e p how q slots i old now past g = record {
  added = g.added;
  is = g.is;
  each = g.each;
  listed = λ f h. ⊎_elim (λ c. c) (λ c. absurd (none_in f.slot (subst (λ l. Contains l f.slot) (drop_of_length-le slots past) c))) (g.listed f h);
}

-- an answer of a call, read as another
pub on_ok_as : (r : Result (Unit {0}) Memory) (A B : Type 0) → (A → B) → OnOk r A → OnOk r B
on_ok_as (Ok u) A B f h = f h
on_ok_as (Err e) A B f h = h

-- guards

pub guard_calls : (P : Facts) (e p q : ℕ) (how : Passing) (values : List Source) (answer : ℕ) (vs : List Value)
    (b : Bool) → how ≡ Calls values answer → AreValues (SourceGives P e p Deeper) vs → b ≡ not (nat_eq (length vs) 0)
    → (b ≡ true) ↔ Guarded P e p q how
guard_calls P e p q how values answer vs b is are test = subst (λ h. (b ≡ true) ↔ Guarded P e p q h) (sym is) (there vs are test, back vs are test)
  where
    there : (vs : List Value) → AreValues (SourceGives P e p Deeper) vs → b ≡ not (nat_eq (length vs) 0) → b ≡ true → HasRoomForCaller P e p
    there [] are test yes_is = absurd (let clash : false ≡ true = sym test ∙ yes_is in cc)
    there (v ∷ vs) are test yes_is = (let h = are.each v (first_is v vs) in (h.0, h.1, h.3))

    back : (vs : List Value) → AreValues (SourceGives P e p Deeper) vs → b ≡ not (nat_eq (length vs) 0) → HasRoomForCaller P e p → b ≡ true
    back [] are test h = absurd (none_in (Const (h.0 + 1)) (are.listed (Const (h.0 + 1)) (h.0, h.1, refl, h.2)))
    back (v ∷ vs) are test h = test ∙ ap not (ne_eqb (length (v ∷ vs)) 0 (λ e. let none = e in omega arith))

pub guard_answers : (P : Facts) (e p q : ℕ) (how : Passing) (values : List Source) (b : Bool) → how ≡ Answers values
    → (b ≡ true) ↔ Reached P e q → (b ≡ true) ↔ Guarded P e p q how
guard_answers P e p q how values b is h = subst (λ o. (b ≡ true) ↔ Guarded P e p q o) (sym is) h

pub flow_item : (P : Facts) (e p : ℕ) (how : Passing) (q : ℕ) (slots : List Slot) (i : ℕ) (d : Slot) (source : Source)
    (old now new : List Fact) → i < length slots → source ≡ source_of how (get_or slots i d)
    → HasGiven now new (SlotGives P e p source q (get_or slots i d)) → FlowGoes P e p how q slots old i now
    → FlowGoes P e p how q slots old (i + 1) new
flow_item P e p how q slots i d source old now new lt from h g = flow_more P e p how q slots i (get_or slots i d) source
    old now new lt (get_or_default slots i d (get_or slots i d) lt) from h g
