-- What one flow gives to the rows: value by value, and slot by slot.
use Rattle.std.proofs.Common.{◌≡◌, ◌⊎◌, inl, inr, ⊎_elim, ℕ, ◌+◌, ◌<◌, ◌≤◌, ◌||◌, Bool, true, false}
use Rattle.std.proofs.Common.{List, [], ◌∷◌, length, take, get_or, refl, sym, ap, ◌∙◌, subst, arith}
use Rattle.std.specs.Bool.{MatchBool}
use Rattle.std.specs.List.{Contains}
use Rattle.std.proofs.lemmas.List.{get_or_default, take_all, take_more}
use Rattle.std.proofs.lemmas.List.Elements.{Contains-append_left, Contains-push}
use Rattle.std.proofs.lemmas.List.Elements.{Contains-push_cases}
use Rattle.plex_num.proofs.Members.{none_in}
use Rattle.exchange_model.specs.declared.exchange.Exchange.{Exchange}
use Rattle.exchange_model.specs.Kept.{IsExchange}
use Rattle.flow_points.specs.declared.fact.Fact.{Fact}
use Rattle.flow_points.specs.declared.fact.Slot.{Slot}
use Rattle.flow_points.specs.declared.fact.Slot.TheVariants.{Temp, Given, Answered, Depth, Awaits}
use Rattle.flow_points.specs.declared.fact.Value.{Value}
use Rattle.flow_points.specs.declared.fact.Value.TheVariants.{Const, Any}
use Rattle.flow_points.specs.declared.flow.Passing.{Passing}
use Rattle.flow_points.specs.declared.flow.Passing.TheVariants.{Kept, Sets, Takes, Retrieves}
use Rattle.flow_points.specs.declared.flow.Passing.TheVariants.{Begins, Passes, Calls, Answers}
use Rattle.flow_points.specs.declared.flow.Source.{Source}
use Rattle.flow_points.specs.declared.flow.Source.TheVariants.{Is, Of}
use Rattle.flow_points.specs.Facts.{Facts, Guarded, IsLeast, Reached, SourceGives, fact}
use Rattle.flow_points.specs.Slots.{HasSlot}
use Rattle.flow_points.specs.Sources.{source_of}
use Rattle.flow_points.proofs.Least.{source_alike}
use Rattle.flow_table.specs.declared.row.FlowTable.{FlowTable}
use Rattle.flow_table.specs.Giving.{AreValues, SlotGives}
use Rattle.flow_table.specs.Rows.{IsFlowTable}
use Rattle.fact_flows.specs.Flows.{FlowsTo}
use Rattle.fact_rows.specs.declared.place.Counts.{Counts}
use Rattle.fact_rows.specs.Known.{AddsFact, Fits, HasSpot, Joins, Knows, BitRows, missing}
use Rattle.fact_rows.specs.Touched.{key}
use Rattle.fact_rows.specs.Values.{HasNumber, is_awaits}
use Rattle.least_facts.specs.Fit.{Awaited, NumberedSource, SourceFits}
use Rattle.least_facts.specs.Giving.{CanFlow, Fills, FillsSlots, Gives, OfValues}
use Rattle.answer_table.specs.Answers.{IsFact, is_answer}
use Rattle.least_facts.proofs.Fitting.{InRows, least_fits, spot_at, value_numbered}

-- ---- one after the other

counted_then : (k m n : BitRows) (a b : Bool) → MatchBool a (missing m < missing k) (m ≡ k)
    → MatchBool b (missing n < missing m) (n ≡ m) → MatchBool (a || b) (missing n < missing k) (n ≡ k)
counted_then k m n true true g h = omega (arith, g, h)
counted_then k m n true false g h = subst (λ z. missing z < missing k) (sym h) g
counted_then k m n false true g h = subst (λ z. missing n < missing z) g h
counted_then k m n false false g h = h ∙ g

gives_then : (k m n : BitRows) (G H Q : Fact → Type 0) (a b : Bool) → Gives k G a m → Gives m H b n
    → ((f : Fact) → Q f → G f ⊎ H f) → ((f : Fact) → G f ⊎ H f → Q f) → Gives k Q (a || b) n
gives_then k m n G H Q a b g h from to = record {
  entry = h.entry ∙ g.entry;
  slots = h.slots ∙ g.slots;
  knows = λ f. (
    λ c. ⊎_elim (λ own. inl (to f (inr own))) (λ mid. ⊎_elim (λ own. inl (to f (inl own))) inr ((g.knows f).0 mid)) ((h.knows f).0 c),
    λ w. ⊎_elim
        (λ own. ⊎_elim (λ first. (h.knows f).1 (inr ((g.knows f).1 (inl first)))) (λ last. (h.knows f).1 (inl last)) (from f own))
        (λ old. (h.knows f).1 (inr ((g.knows f).1 (inr old)))) w,
  );
  counted = counted_then k m n a b g.counted h.counted;
}

-- ---- values

pub item_there : {A : Type 0} (xs : List A) (i : ℕ) (d : A) → i < length xs → Contains xs (get_or xs i d)
item_there xs i d lt = (i, lt, get_or_default xs i (get_or xs i d) d lt)

pub spot_fits : (slots : List Counts) (e q : ℕ) (s : Slot) (v : Value) → HasSpot slots q s → HasNumber s v → Fits slots (fact e q s v)
spot_fits slots e q s v spot number = record { counts = spot.counts; there = spot.there; slot = spot.slot; number = number }

pub fact_given : (k new : BitRows) (g : Fact) (grown : Bool) → AddsFact g k new
    → MatchBool grown (missing new + 1 ≡ missing k) (new ≡ k) → Gives k (IsFact g) grown new
fact_given k new g grown adds counted = record { entry = adds.entry; slots = adds.slots; knows = adds.knows; counted = by grown counted }
  where
    by : (b : Bool) → MatchBool b (missing new + 1 ≡ missing k) (new ≡ k) → MatchBool b (missing new < missing k) (new ≡ k)
    by true more = omega (arith, more)
    by false same = same

pub none_yet : {A : Type 0} (xs : List A) (y : A) → Contains (take 0 xs) y → ⊥
none_yet [] y c = none_in y c
none_yet (x ∷ xs) y c = none_in y c

-- what stands in front of a place, or at it
pub before_or_here : {A : Type 0} (xs : List A) (i : ℕ) (d y : A) → i < length xs → Contains (take (i + 1) xs) y → Contains (take i xs) y ⊎ (y ≡ get_or xs i d)
before_or_here xs i d y lt c = ⊎_elim inl (λ e. inr (sym e))
    (Contains-push_cases (take i xs) (get_or xs i d) y (subst (λ l. Contains l y) (take_more xs i d lt) c))

pub still_before : {A : Type 0} (xs : List A) (i : ℕ) (d y : A) → i < length xs → Contains (take i xs) y → Contains (take (i + 1) xs) y
still_before xs i d y lt c = subst (λ l. Contains l y) (sym (take_more xs i d lt)) (Contains-append_left (take i xs) (get_or xs i d ∷ []) y c)

pub now_before : {A : Type 0} (xs : List A) (i : ℕ) (d : A) → i < length xs → Contains (take (i + 1) xs) (get_or xs i d)
now_before xs i d lt = subst (λ l. Contains l (get_or xs i d)) (sym (take_more xs i d lt)) (Contains-push (take i xs) (get_or xs i d))

pub values_begin : (k : BitRows) (e q : ℕ) (s : Slot) (values : List Value) → Gives k (OfValues e q s (take 0 values)) false k
values_begin k e q s values = record {
  entry = refl;
  slots = refl;
  knows = λ f. (inr, λ w. ⊎_elim (λ o. absurd (none_yet values f.value o.value)) (λ h. h) w);
  counted = refl;
}

pub values_more : (k now new : BitRows) (e q : ℕ) (s : Slot) (values : List Value) (i : ℕ) (d : Value) (grown b : Bool)
    → i < length values → Gives now (IsFact (fact e q s (get_or values i d))) b new
    → Gives k (OfValues e q s (take i values)) grown now → Gives k (OfValues e q s (take (i + 1) values)) (grown || b) new
values_more k now new e q s values i d grown b lt h g =
    gives_then k now new (OfValues e q s (take i values)) (IsFact (fact e q s (get_or values i d))) (OfValues e q s (take (i + 1) values)) grown b g h
    (λ f o. ⊎_elim
    (λ c. inl (record { entry = o.entry; point = o.point; slot = o.slot; value = c }))
    (λ here. inr (λ j. record { entry = o.entry j; point = o.point j; slot = o.slot j; value = here j }))
    (before_or_here values i d f.value lt o.value))
    (λ f w. ⊎_elim
    (λ (o : OfValues e q s (take i values) f). record { entry = o.entry; point = o.point; slot = o.slot; value = still_before values i d f.value lt o.value })
    (λ (is : f ≡ fact e q s (get_or values i d)). record {
      entry = ap (λ (z : Fact). z.entry) is;
      point = ap (λ (z : Fact). z.point) is;
      slot = ap (λ (z : Fact). z.slot) is;
      value = subst (Contains (take (i + 1) values)) (sym (ap (λ (z : Fact). z.value) is)) (now_before values i d lt);
    }) w)

pub values_end : (k now : BitRows) (e q : ℕ) (s : Slot) (values : List Value) (i : ℕ) (grown : Bool) → length values ≤ i
    → Gives k (OfValues e q s (take i values)) grown now → Gives k (OfValues e q s values) grown now
values_end k now e q s values i grown past g = subst (λ l. Gives k (OfValues e q s l) grown now) (take_all i values past) g

pub some_given : (k new : BitRows) (e p q : ℕ) (s : Slot) (source : Source) (values seen : List Value) (grown : Bool)
    → AreValues (SourceGives (Knows k) e p source) values → seen ≡ values
    → Gives k (OfValues e q s seen) grown new → Gives k (SlotGives (Knows k) e p source q s) grown new
some_given k new e p q s source values seen grown are same g = record {
  entry = g.entry;
  slots = g.slots;
  knows = λ f. (
    λ c. ⊎_elim (λ o. inl (record {
      entry = o.entry;
      point = o.point;
      slot = o.slot;
      gives = are.each f.value (subst (λ l. Contains l f.value) same o.value);
    })) inr ((g.knows f).0 c),
    λ w. ⊎_elim
        (λ (o : SlotGives (Knows k) e p source q s f). (g.knows f).1
        (inl (record {
          entry = o.entry;
          point = o.point;
          slot = o.slot;
          value = subst (λ l. Contains l f.value) (sym same) (are.listed f.value o.gives);
        })))
        (λ old. (g.knows f).1 (inr old)) w,
  );
  counted = g.counted;
}

pub seen_number : (k : BitRows) (e p : ℕ) (s : Slot) (source : Source) (values seen : List Value)
    → AreValues (SourceGives (Knows k) e p source) values → seen ≡ values
    → ((v : Value) → SourceGives (Knows k) e p source v → HasNumber s v)
    → (v : Value) → Contains seen v → HasNumber s v
seen_number k e p s source values seen are same number v c = number v (are.each v (subst (λ l. Contains l v) same c))

-- one value
pub one_number : (k : BitRows) (e p : ℕ) (s : Slot) (source : Source) (v : Value) → source ≡ Is v
    → ((w : Value) → SourceGives (Knows k) e p source w → HasNumber s w) → HasNumber s v
one_number k e p s source v is number = number v (subst (λ o. SourceGives (Knows k) e p o v) (sym is) refl)

pub one_given : (k new : BitRows) (e p q : ℕ) (s : Slot) (source : Source) (v : Value) (grown : Bool) → source ≡ Is v
    → Gives k (IsFact (fact e q s v)) grown new → Gives k (SlotGives (Knows k) e p source q s) grown new
one_given k new e p q s source v grown is g = subst (λ o. Gives k (SlotGives (Knows k) e p o q s) grown new) (sym is) (record {
  entry = g.entry;
  slots = g.slots;
  knows = λ f. (
    λ c. ⊎_elim
        (λ (one : f ≡ fact e q s v). inl (record {
          entry = ap (λ (z : Fact). z.entry) one;
          point = ap (λ (z : Fact). z.point) one;
          slot = ap (λ (z : Fact). z.slot) one;
          gives = ap (λ (z : Fact). z.value) one;
        }))
        inr ((g.knows f).0 c),
    λ w. ⊎_elim
        (λ (o : SlotGives (Knows k) e p (Is v) q s f). (g.knows f).1
        (inl (λ j. record { entry = o.entry j; point = o.point j; slot = o.slot j; value = o.gives j })))
        (λ old. (g.knows f).1 (inr old)) w,
  );
  counted = g.counted;
})

-- all values of another slot
pub all_given : (k new : BitRows) (e p q : ℕ) (own s : Slot) (source : Source) (grown : Bool) → k.entry ≡ e
    → source ≡ Of own → Joins (key p own) (key q s) k new → MatchBool grown (missing new < missing k) (new ≡ k)
    → Gives k (SlotGives (Knows k) e p source q s) grown new
all_given k new e p q own s source grown of_entry is joins counted = subst (λ o. Gives k (SlotGives (Knows k) e p o q s) grown new) (sym is) (record {
  entry = joins.entry;
  slots = joins.slots;
  knows = λ f. (
    λ c. ⊎_elim
        (λ w. (let entry : f.entry ≡ e = w.2.entry
        ∙ of_entry in inl (record {
          entry = entry;
          point = w.0;
          slot = w.1;
          gives = subst (λ n. Knows k (fact n p own f.value)) entry w.2;
        })))
        inr ((joins.knows f).0 c),
    λ w. ⊎_elim
        (λ (o : SlotGives (Knows k) e p (Of own) q s f). (joins.knows f).1
        (inl (o.point, o.slot, subst (λ n. Knows k (fact n p own f.value)) (sym o.entry) o.gives)))
        (λ old. (joins.knows f).1 (inr old)) w,
  );
  counted = counted;
})

-- ---- what a flow asks for

pub guard_by : (P Q : Facts) (e p q : ℕ) → ((c : ℕ) → P (fact e p Depth (Const c)) → Q (fact e p Depth (Const c)))
    → (how : Passing) → (is_answer how ≡ true → Reached P e q → Reached Q e q) → Guarded P e p q how
    → Guarded Q e p q how
guard_by P Q e p q own Kept other g = g
guard_by P Q e p q own (Sets temp s) other g = g
guard_by P Q e p q own (Takes temps) other g = g
guard_by P Q e p q own (Retrieves temps) other g = g
guard_by P Q e p q own (Begins values) other g = g
guard_by P Q e p q own (Passes count) other g = g
guard_by P Q e p q own (Calls values answer) other g = (g.0, g.1, own g.0 g.2)
guard_by P Q e p q own (Answers values) other g = other refl g

pub flows_more : (x : Exchange) (P Q : Facts) (e p : ℕ) (how : Passing) (q : ℕ) (f : Fact) → ((g : Fact) → P g → Q g)
    → FlowsTo x P e p how q f → FlowsTo x Q e p how q f
flows_more x P Q e p how q f more h = record {
  entry = h.entry;
  point = h.point;
  guarded = guard_by P Q e p q (λ c. more (fact e p Depth (Const c))) how (λ is r. (r.0, more (fact e q Depth r.0) r.1)) h.guarded;
  slot = h.slot;
  gives = source_alike P Q e p (λ s v. more (fact e p s v)) (source_of how f.slot) f.value h.gives;
}

-- ---- slots

numbered_alike : (own : Slot) → NumberedSource (Of own) → is_awaits own ≡ false
numbered_alike (Temp t) h = refl
numbered_alike (Given k) h = refl
numbered_alike (Answered k) h = refl
numbered_alike Depth h = refl
numbered_alike Awaits h = absurd (let few = h (Const 1000) (omega arith) in omega (arith, few))

awaited_alike : (own : Slot) → Awaited (Of own) → is_awaits own ≡ true
awaited_alike (Temp t) h = absurd (h Any tt)
awaited_alike (Given k) h = absurd (h Any tt)
awaited_alike (Answered k) h = absurd (h Any tt)
awaited_alike Depth h = absurd (h Any tt)
awaited_alike Awaits h = refl

of_alike : (s own : Slot) → SourceFits s (Of own) → is_awaits own ≡ is_awaits s
of_alike (Temp t) own h = numbered_alike own h
of_alike (Given k) own h = numbered_alike own h
of_alike (Answered k) own h = numbered_alike own h
of_alike Depth own h = numbered_alike own h
of_alike Awaits own h = awaited_alike own h

fills_then : (x : Exchange) (q : ℕ) (k m n : BitRows) (a b : Bool) → Fills x q k a m → Fills x q m b n → Fills x q k (a || b) n
fills_then x q k m n a b g h = record {
  entry = h.entry ∙ g.entry;
  slots = h.slots ∙ g.slots;
  more = λ f c. h.more f (g.more f c);
  each = λ f c. ⊎_elim (g.each f) inr (h.each f c);
  counted = counted_then k m n a b g.counted h.counted;
}

-- where all that is given is least
pub fills_given : (x : Exchange) (q : ℕ) (k new : BitRows) (G : Fact → Type 0) (grown : Bool) → Gives k G grown new
    → ((f : Fact) → G f → (f.point ≡ q) × IsLeast x f) → Fills x q k grown new
fills_given x q k new G grown g least = record {
  entry = g.entry;
  slots = g.slots;
  more = λ f c. (g.knows f).1 (inr c);
  each = λ f c. ⊎_elim (λ own. inr (least f own)) inl ((g.knows f).0 c);
  counted = g.counted;
}

pub slots_begin : (x : Exchange) (e p : ℕ) (how : Passing) (q : ℕ) (slots : List Slot) (k : BitRows) → FillsSlots x e p how q (take 0 slots) k false k
slots_begin x e p how q slots k = record {
  fills = record { entry = refl; slots = refl; more = λ f c. c; each = λ f c. inl c; counted = refl };
  all = λ f g. absurd (none_yet slots f.slot g.slot);
}

module _ (x : Exchange) (t : FlowTable) (e p : ℕ) (how : Passing) (q : ℕ) (k : BitRows) (kept : IsExchange x)
    (table : IsFlowTable x t) (can : CanFlow x t e p how q k) (slots : List Slot)
    (has : (s : Slot) → Contains slots s → HasSlot x q s) (i : ℕ) (d : Slot) (lt : i < length slots)
    (grown : Bool) (now : BitRows) (g : FillsSlots x e p how q (take i slots) k grown now) where
  abbrev s : Slot
  s = get_or slots i d

  there : HasSlot x q s
  there = has s (i, lt, get_or_default slots i s d lt)

  all_least : (f : Fact) → Knows now f → IsLeast x f
  all_least f c = ⊎_elim (can.least f) (λ w. w.1) (g.fills.each f c)

  pub slot_spot : HasSpot now.marks.slots q s
  slot_spot = subst (λ l. HasSpot l q s) (sym (g.fills.slots ∙ can.of_slots)) (spot_at t x q s table there)

  pub slot_alike : (source : Source) → source ≡ source_of how s → (own : Slot) → source ≡ Of own → is_awaits own ≡ is_awaits s
  slot_alike source is own of_own = of_alike s own (subst (SourceFits s) (sym is ∙ of_own) (can.good.fits s))

  pub slot_number : (source : Source) → source ≡ source_of how s → (v : Value) → SourceGives (Knows now) e p source v → HasNumber s v
  slot_number source is v gives =
      value_numbered t e p s (source_of how s) v (can.good.fits s)
      (source_alike (Knows now) (InRows t) e p
      (λ u w c. least_fits t x kept table (fact e p u w) (all_least (fact e p u w) c)) (source_of how s) v
      (subst (λ o. SourceGives (Knows now) e p o v) is gives))

  given_least : (f : Fact) → SlotGives (Knows now) e p (source_of how s) q s f → (f.point ≡ q) × IsLeast x f
  given_least f h = (
    h.point,
    can.good.least f (record {
      entry = h.entry;
      point = h.point;
      guarded = guard_by (Knows k) (IsLeast x) e p q (λ c. can.least (fact e p Depth (Const c))) how
          (λ is r. (r.0, can.least (fact e q Depth r.0) r.1)) can.guarded;
      slot = subst (HasSlot x q) (sym h.slot) there;
      gives = subst (λ u. SourceGives (IsLeast x) e p (source_of how u) f.value) (sym h.slot)
          (source_alike (Knows now) (IsLeast x) e p (λ u w. all_least (fact e p u w)) (source_of how s) f.value
          h.gives);
    }),
  )

  pub slots_more : (source : Source) → source ≡ source_of how s → (b : Bool) (new : BitRows)
      → Gives now (SlotGives (Knows now) e p source q s) b new
      → FillsSlots x e p how q (take (i + 1) slots) k (grown || b) new
  slots_more source is b new given =
      let own : Gives now (SlotGives (Knows now) e p (source_of how s) q s) b new = subst (λ o. Gives now (SlotGives (Knows now) e p o q s) b new) is given in
      record {
        fills = fills_then x q k now new grown b g.fills (fills_given x q now new (SlotGives (Knows now) e p (source_of how s) q s) b own given_least);
        all = λ f h.
            ⊎_elim
            (λ c. (own.knows f).1 (inr (g.all f (record { entry = h.entry; point = h.point; slot = c; gives = h.gives }))))
            (λ here. (own.knows f).1 (inl (record {
              entry = h.entry;
              point = h.point;
              slot = here;
              gives = source_alike (Knows k) (Knows now) e p (λ u w. g.fills.more (fact e p u w)) (source_of how s)
                  f.value (subst (λ u. SourceGives (Knows k) e p (source_of how u) f.value) here h.gives);
            })))
            (before_or_here slots i d f.slot lt h.slot);
      }

pub slots_end : (x : Exchange) (e p : ℕ) (how : Passing) (q : ℕ) (slots : List Slot) (k now : BitRows) (i : ℕ)
    (grown : Bool) → length slots ≤ i → FillsSlots x e p how q (take i slots) k grown now
    → FillsSlots x e p how q slots k grown now
slots_end x e p how q slots k now i grown past g = subst (λ l. FillsSlots x e p how q l k grown now) (take_all i slots past) g
