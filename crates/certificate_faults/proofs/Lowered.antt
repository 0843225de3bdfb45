-- The least of facts that are not known.
use Rattle.std.proofs.Common.{◌≡◌, ◌⊎◌, inl, inr, ⊎_elim, ◌↔◌, Bool, true, false, ℕ, zero, suc, ◌+◌}
use Rattle.std.proofs.Common.{◌<◌, ◌≤◌, cond, List, [], ◌∷◌, ◌++◌, Contains, length, take, get_or}
use Rattle.std.proofs.Common.{Option, Some, None, slice_get, refl, sym, ap, subst, ◌∙◌, arith}
use Rattle.std.specs.Ordering.{is_lt, ordering_reverse}
use Rattle.std.specs.declared.cmp.Ordering.{Ordering}
use Rattle.std.specs.declared.cmp.Ordering.TheVariants.{Less, Equal, Greater}
use Rattle.std.proofs.lemmas.Bool.{cases_lt, true≢false}
use Rattle.std.proofs.lemmas.List.{get_or_default, take_all, take_more}
use Rattle.std.proofs.lemmas.List.Elements.{Contains-append_cases, Contains-append_left}
use Rattle.std.proofs.lemmas.List.Elements.{Contains-append_right}
use Rattle.std.proofs.lemmas.Option.{none-some, same_Some, slice_get_past, slice_get_within}
use Rattle.plex_num.proofs.Members.{none_in}
use Rattle.exchange_model.specs.declared.exchange.Exchange.{Exchange}
use Rattle.exchange_model.specs.Kept.{IsExchange}
use Rattle.flow_points.specs.contracts.fact.FactOrd.TheImpl.Laws.{total-law}
use Rattle.flow_points.specs.declared.fact.Fact.{Fact}
use Rattle.flow_points.specs.declared.fact.Slot.TheVariants.{Depth}
use Rattle.flow_points.specs.declared.flow.Passing.{Passing}
use Rattle.flow_points.specs.Facts.{Facts, Gives, PointGives, Reached, fact}
use Rattle.flow_points.specs.Orders.{fact_order}
use Rattle.flow_points.specs.Places.{IsRetrieveAt}
use Rattle.flow_table.specs.declared.row.FlowTable.{FlowTable}
use Rattle.flow_table.specs.declared.row.Row.{Row}
use Rattle.flow_table.specs.declared.way.Ends.{Ends}
use Rattle.flow_table.specs.declared.way.Ends.TheVariants as ends
use Rattle.flow_table.specs.declared.way.Way.{Way}
use Rattle.flow_table.specs.Giving.{HasGiven}
use Rattle.flow_table.specs.Rows.{IsFlowTable}
use Rattle.flow_table.specs.Ways.{IsWayEnd}
use Rattle.fact_flows.specs.Flows.{FlowsTo, OneGives, WayGives}
use Rattle.fact_flows.specs.Given.{GivenAtStart}
use Rattle.fact_flows.proofs.Flowing.{all_ways, no_retrieves, to_points, to_retrieves}
use Rattle.answer_table.specs.declared.answers.AnswerTable.{AnswerTable}
use Rattle.answer_table.specs.Answers.{AreAnswers, IsFact, answer_way, awaited_at, is_answer}
use Rattle.answer_table.proofs.Answering.{awaited_of}
use Rattle.fact_list.proofs.Ordering.{entry_less, point_less}
use Rattle.certificate_faults.specs.Missing.{Among, IsBefore, IsLowerMissing, IsLowestOf, LeastIn}
use Rattle.certificate_faults.specs.Missing.{Misses, StartsBelow, lower}
use Rattle.certificate_faults.specs.Reached.{CoverReached}
use Rattle.certificate_faults.specs.Returned.{IsAnsweredAt, IsBack, PointSends, WaySends}
use Rattle.certificate_faults.specs.Returned.{given_about}
use Rattle.certificate_faults.proofs.Joining.{answered_slot, apart, guard, row_below, slot_answered}
use Rattle.certificate_faults.proofs.Joining.{unguard}

-- the order

not_itself : (f : Fact) → fact_order f f ≡ Less → ⊥
not_itself f less =
    let no : Less ≡ Greater = sym less ∙ total-law.antisymm f f ∙ ap ordering_reverse less in
    cc

not_below : (f l m : Fact) → (fact_order f l ≡ Less → ⊥) → (fact_order l m ≡ Less → ⊥) → fact_order f m ≡ Less → ⊥
not_below f l m first second less = at (fact_order f l) refl
  where
    at : (o : Ordering) → fact_order f l ≡ o → ⊥
    at Less e = first e
    at Equal e = second (sym (total-law.congr f l m e) ∙ less)
    at Greater e = second (total-law.trans l f m (total-law.antisymm l f ∙ ap ordering_reverse e) less)

-- elements of a front of a list

module _ {A : Type 0} (xs : List A) (i : ℕ) (x : A) (inside : i < length xs) (is : x ≡ get_or xs i x) where
  one_of : (y z : A) → Contains (z ∷ []) y → y ≡ z
  one_of y z (zero, lt, e) = sym e
  one_of y z (suc k, lt, e) = absurd (omega (arith, lt))

  opened : take (i + 1) xs ≡ take i xs ++ x ∷ []
  opened = take_more xs i x inside ∙ ap (λ (y : A). take i xs ++ y ∷ []) (sym is)

  older : (y : A) → Contains (take i xs) y → Contains (take (i + 1) xs) y
  older y c = subst (λ l. Contains l y) (sym opened) (Contains-append_left (take i xs) (x ∷ []) y c)

  newest : Contains (take (i + 1) xs) x
  newest = subst (λ l. Contains l x) (sym opened) (Contains-append_right (take i xs) (x ∷ []) x (0, omega arith, refl))

  pub which : (y : A) → Contains (take (i + 1) xs) y → Contains (take i xs) y ⊎ (y ≡ x)
  which y c = at (Contains-append_cases (take i xs) (x ∷ []) y (subst (λ l. Contains l y) opened c))
    where
      at : Contains (take i xs) y ⊎ Contains (x ∷ []) y → Contains (take i xs) y ⊎ (y ≡ x)
      at (inl c) = inl c
      at (inr c) = inr (one_of y x c)

-- predicates of facts

alike : (P G H : Facts) (o : Option Fact) → ((f : Fact) → G f → H f) → ((f : Fact) → H f → G f) → LeastIn P G o → LeastIn P H o
alike P G H None to from least = λ f h. least f (from f h)
alike P G H (Some m) to from least = record { given = to m least.given; missing = least.missing; least = λ f h. least.least f (from f h) }

pub misses : (P G : Facts) (o : Option Fact) → LeastIn P G o → Misses P o
misses P G None least = tt
misses P G (Some m) least = least.missing

-- this one, or the least of these, over what both give
joined : (P G H : Facts) (o r : Option Fact) → LeastIn P G o → IsLowestOf P H o r → LeastIn P (λ f. G f ⊎ H f) r
joined P G H None None first second = λ f h. told f h
  where
    told : (f : Fact) → G f ⊎ H f → P f
    told f (inl g) = first f g
    told f (inr h) = second.least f (inr h)
joined P G H (Some l) None first second = absurd (first.missing (second.least l (inl refl)))
joined P G H None (Some m) first second = record { given = from second.least.given; missing = second.least.missing; least = λ f h. told f h }
  where
    from : (◌≡◌ {A = Option Fact} None (Some m)) ⊎ H m → G m ⊎ H m
    from (inl e) = cc
    from (inr h) = inr h

    told : (f : Fact) → G f ⊎ H f → (P f → ⊥) → fact_order f m ≡ Less → ⊥
    told f (inl g) new = absurd (new (first f g))
    told f (inr h) new = second.least.least f (inr h) new
joined P G H (Some l) (Some m) first second = record { given = from second.least.given; missing = second.least.missing; least = λ f h. told f h }
  where
    from : (Some l ≡ Some m) ⊎ H m → G m ⊎ H m
    from (inl e) = inl (subst G (same_Some l m e) first.given)
    from (inr h) = inr h

    told : (f : Fact) → G f ⊎ H f → (P f → ⊥) → fact_order f m ≡ Less → ⊥
    told f (inl g) new = not_below f l m (first.least f g new) (second.least.least l (inl refl) first.missing)
    told f (inr h) new = second.least.least f (inr h) new

-- the least of this one and of what is given

same_lowest : (P G H : Facts) (o r : Option Fact) → ((f : Fact) → G f ↔ H f) → IsLowestOf P G o r → IsLowestOf P H o r
same_lowest P G H o r same lowest = record { least = alike P (Among o G) (Among o H) r to from lowest.least }
  where
    to : (f : Fact) → (o ≡ Some f) ⊎ G f → (o ≡ Some f) ⊎ H f
    to f (inl e) = inl e
    to f (inr g) = inr ((same f).0 g)

    from : (f : Fact) → (o ≡ Some f) ⊎ H f → (o ≡ Some f) ⊎ G f
    from f (inl e) = inl e
    from f (inr h) = inr ((same f).1 h)

none_lower : (P G : Facts) (m : Fact) → (P m → ⊥) → ((f : Fact) → G f → (P f → ⊥) → fact_order f m ≡ Less → ⊥) → IsLowestOf P G (Some m) (Some m)
none_lower P G m miss above = record { least = record { given = inl refl; missing = miss; least = λ f h. told f h } }
  where
    told : (f : Fact) → (Some m ≡ Some f) ⊎ G f → (P f → ⊥) → fact_order f m ≡ Less → ⊥
    told f (inl e) new less = not_itself m (subst (λ g. fact_order g m ≡ Less) (sym (same_Some m f e)) less)
    told f (inr g) new less = above f g new less

pub none_given : (P G : Facts) (o : Option Fact) → Misses P o → ((f : Fact) → G f → ⊥) → IsLowestOf P G o o
none_given P G None miss none = record { least = λ f h. told f h }
  where
    told : (f : Fact) → (◌≡◌ {A = Option Fact} None (Some f)) ⊎ G f → P f
    told f (inl e) = cc
    told f (inr g) = absurd (none f g)
none_given P G (Some m) miss none = none_lower P G m miss (λ f g new less. none f g)

-- what was given to an empty list
pub lowest_of : (P G : Facts) (o r : Option Fact) (old new list : List Fact) → old ≡ [] → HasGiven old new G
    → list ≡ new → IsLowestOf P (Contains list) o r → IsLowestOf P G o r
lowest_of P G o r old new list none has same lowest =
    let added : list ≡ has.added = same ∙ has.is ∙ ap (λ (l : List Fact). l ++ has.added) none in
    same_lowest P (Contains list) G o r (λ f. (
      λ c. has.each f (subst (λ l. Contains l f) added c),
      λ g. subst
          (λ l. Contains l f) (sym added) (has.listed f g),
    )) lowest

-- what all of a list give, one after the other

pub record Lowers {A : Type 0} (P : Facts) (G : A → Fact → Type 0) (xs : List A) (first : Option Fact) (i : ℕ) (o : Option Fact) : Type 0 where
  pub lowest : IsLowestOf P (OneGives G (take i xs)) first o

pub lowers_begin : {A : Type 0} (P : Facts) (G : A → Fact → Type 0) (xs : List A) (first : Option Fact) → Misses P first → Lowers P G xs first 0 first
lowers_begin P G xs first miss = record { lowest = none_given P (OneGives G []) first miss (λ f h. none_in h.one h.among) }

pub lowers_misses : {A : Type 0} (P : Facts) (G : A → Fact → Type 0) (xs : List A) (first : Option Fact) (i : ℕ)
    (o : Option Fact) → Lowers P G xs first i o → Misses P o
lowers_misses P G xs first i o low = misses P (Among first (OneGives G (take i xs))) o low.lowest.least

pub lowers_item : {A : Type 0} (P : Facts) (G : A → Fact → Type 0) (xs : List A) (first : Option Fact) (i : ℕ) (x : A)
    (o r : Option Fact) → i < length xs → x ≡ get_or xs i x → IsLowestOf P (G x) o r → Lowers P G xs first i o
    → Lowers P G xs first (i + 1) r
lowers_item P G xs first i x o r inside is here low = record {
  lowest = record {
    least = alike P (λ f. Among first (OneGives G (take i xs)) f ⊎ G x f) (Among first (OneGives G (take (i + 1) xs))) r
        up down (joined P (Among first (OneGives G (take i xs))) (G x) o r low.lowest.least here);
  };
}
  where
    up : (f : Fact) → ((first ≡ Some f) ⊎ OneGives G (take i xs) f) ⊎ G x f → (first ≡ Some f) ⊎ OneGives G (take (i + 1) xs) f
    up f (inl (inl e)) = inl e
    up f (inl (inr h)) = inr (record { one = h.one; among = older xs i x inside is h.one h.among; gives = h.gives })
    up f (inr g) = inr (record { one = x; among = newest xs i x inside is; gives = g })

    down : (f : Fact) → (first ≡ Some f) ⊎ OneGives G (take (i + 1) xs) f → ((first ≡ Some f) ⊎ OneGives G (take i xs) f) ⊎ G x f
    down f (inl e) = inl (inl e)
    down f (inr h) = ⊎_elim (λ c. inl (inr (record { one = h.one; among = c; gives = h.gives })))
        (λ e. inr (subst (λ y. G y f) e h.gives)) (which xs i x inside is h.one h.among)

pub lowers_more : {A : Type 0} (P : Facts) (G : A → Fact → Type 0) (xs : List A) (first : Option Fact) (i : ℕ) (d : A)
    (o r : Option Fact) → i < length xs → IsLowestOf P (G (get_or xs i d)) o r → Lowers P G xs first i o
    → Lowers P G xs first (i + 1) r
lowers_more P G xs first i d o r inside here low = lowers_item P G xs first i (get_or xs i d) o r inside (get_or_default xs i d (get_or xs i d) inside) here low

pub lowers_end : {A : Type 0} (P : Facts) (G : A → Fact → Type 0) (xs : List A) (first : Option Fact) (i : ℕ)
    (o : Option Fact) → length xs ≤ i → Lowers P G xs first i o → IsLowestOf P (OneGives G xs) first o
lowers_end P G xs first i o past low = subst (λ l. IsLowestOf P (OneGives G l) first o) (take_all i xs past) low.lowest

-- one fact

known_one : (P : Facts) (f : Fact) (o : Option Fact) → Misses P o → P f → IsLowestOf P (IsFact f) o o
known_one P f None miss here = record { least = λ g h. told g h }
  where
    told : (g : Fact) → (◌≡◌ {A = Option Fact} None (Some g)) ⊎ (g ≡ f) → P g
    told g (inl e) = cc
    told g (inr e) = subst P (sym e) here
known_one P f (Some m) miss here = none_lower P (IsFact f) m miss (λ g e new less. new (subst P (sym e) here))

first_one : (P : Facts) (f : Fact) (o : Option Fact) → (P f → ⊥) → ((g : Fact) → o ≡ Some g → fact_order g f ≡ Less → ⊥) → IsLowestOf P (IsFact f) o (Some f)
first_one P f o new above = record { least = record { given = inr refl; missing = new; least = λ g h. told g h } }
  where
    told : (g : Fact) → (o ≡ Some g) ⊎ (g ≡ f) → (P g → ⊥) → fact_order g f ≡ Less → ⊥
    told g (inl e) unknown less = above g e less
    told g (inr e) unknown less = not_itself f (subst (λ h. fact_order h f ≡ Less) e less)

unequal : Equal ≡ Less → ⊥
unequal e = cc

ungreater : Greater ≡ Less → ⊥
ungreater e = cc

new_one : (P : Facts) (f : Fact) (o : Option Fact) → Misses P o → (P f → ⊥) → IsLowestOf P (IsFact f) o (Some (lower o f))
new_one P f None miss new = first_one P f None new (λ g e less. none-some g e)
new_one P f (Some m) miss new = at (fact_order f m) refl
  where
    kept : (fact_order f m ≡ Less → ⊥) → IsLowestOf P (IsFact f) (Some m) (Some m)
    kept above = none_lower P (IsFact f) m miss (λ g e unknown less. above (subst (λ h. fact_order h m ≡ Less) e less))

    at : (r : Ordering) → fact_order f m ≡ r → IsLowestOf P (IsFact f) (Some m) (Some (cond (is_lt r) f m))
    at Less e = first_one P f (Some m) new (λ g same less. not_itself m
        (total-law.trans m f m (subst (λ h. fact_order h f ≡ Less) (sym (same_Some m g same)) less) e))
    at Equal e = kept (λ less. unequal (sym e ∙ less))
    at Greater e = kept (λ less. ungreater (sym e ∙ less))

pub one_lower : (P : Facts) (f : Fact) (o r : Option Fact) → Misses P o → IsLowerMissing P o f r → IsLowestOf P (IsFact f) o r
one_lower P f o r miss (inl (here, same)) = subst (IsLowestOf P (IsFact f) o) (sym same) (known_one P f o miss here)
one_lower P f o r miss (inr (new, same)) = subst (IsLowestOf P (IsFact f) o) (sym same) (new_one P f o miss new)

-- those of a list
pub lowest_end : (P : Facts) (given : List Fact) (first : Option Fact) (i : ℕ) (o : Option Fact) → length given ≤ i
    → Lowers P IsFact given first i o → IsLowestOf P (Contains given) first o
lowest_end P given first i o past low =
    same_lowest P (OneGives IsFact given) (Contains given) first o
    (λ f. (λ h. subst (Contains given) (sym h.gives) h.among, λ c. record { one = f; among = c; gives = refl }))
    (lowers_end P IsFact given first i o past low)

-- one flow, one way and all ways

before_all : (m f : Fact) (e q : ℕ) → (m.entry < e) ⊎ ((m.entry ≡ e) × (m.point < q)) → f.entry ≡ e → f.point ≡ q → fact_order m f ≡ Less
before_all m f e q (inl lt) entry point = entry_less m f (omega (arith, lt, entry))
before_all m f e q (inr here) entry point = (let lt = here.1 in point_less m f (here.0 ∙ sym entry) (omega (arith, lt, point)))

pub left_out : (P G : Facts) (e q : ℕ) (o : Option Fact) → ((f : Fact) → G f → f.entry ≡ e)
    → ((f : Fact) → G f → f.point ≡ q) → Misses P o → IsBefore o e q → IsLowestOf P G o o
left_out P G e q None entry point miss before = absurd before
left_out P G e q (Some m) entry point miss before =
    none_lower P G m miss (λ f g new less. not_itself m (total-law.trans m f m (before_all m f e q before (entry f g) (point f g)) less))

sends : (x : Exchange) (P : Facts) (e p : ℕ) (w : Way) (o r : Option Fact) → ((n : ℕ) → IsBack w n → ⊥)
    → IsLowestOf P (WayGives x P e p w) o r → IsLowestOf P (WaySends x P e p w) o r
sends x P e p w o r onward lowest = same_lowest P (WayGives x P e p w) (WaySends x P e p w) o r
    (λ f. (λ g. record { onward = onward; gives = g }, λ s. s.gives)) lowest

pub way_points : (x : Exchange) (P : Facts) (e p : ℕ) (w : Way) (listed points : List ℕ) (o r : Option Fact)
    → w.ends ≡ ends.Points listed → points ≡ listed → IsLowestOf P (OneGives (FlowsTo x P e p w.how) points) o r
    → IsLowestOf P (WaySends x P e p w) o r
way_points x P e p w listed points o r is same lowest =
    sends x P e p w o r (λ n back. apart listed n (sym is ∙ back.ends))
    (same_lowest P (OneGives (FlowsTo x P e p w.how) points) (WayGives x P e p w) o r
    (to_points x P e p w listed points is same) lowest)

pub to_all : (x : Exchange) (t : FlowTable) (P : Facts) (e p : ℕ) (how : Passing) (answer : ℕ) (listed points : List ℕ)
    (o r : Option Fact) → IsFlowTable x t → slice_get t.retrieves answer ≡ Some listed → points ≡ listed
    → IsLowestOf P (OneGives (FlowsTo x P e p how) points) o r
    → IsLowestOf P (WayGives x P e p (answer_way how answer)) o r
to_all x t P e p how answer listed points o r table there same lowest =
    same_lowest P (OneGives (FlowsTo x P e p how) points) (WayGives x P e p (answer_way how answer)) o r
    (to_retrieves x t P e p (answer_way how answer) answer listed points table refl there same) lowest

pub to_none : (x : Exchange) (t : FlowTable) (P : Facts) (e p : ℕ) (how : Passing) (answer : ℕ) (o : Option Fact)
    → IsExchange x → IsFlowTable x t → length t.retrieves ≤ answer → Misses P o
    → IsLowestOf P (WayGives x P e p (answer_way how answer)) o o
to_none x t P e p how answer o kept table past miss = none_given P (WayGives x P e p (answer_way how answer)) o miss
    (no_retrieves x t P e p (answer_way how answer) answer kept table refl past)

pub way_retrieves : (x : Exchange) (P : Facts) (e p : ℕ) (w : Way) (answer : ℕ) (b : Bool) (o r : Option Fact)
    → w.ends ≡ ends.Retrieves answer → b ≡ is_answer w.how → b ≡ false
    → IsLowestOf P (WayGives x P e p (answer_way w.how answer)) o r → IsLowestOf P (WaySends x P e p w) o r
way_retrieves x P e p w answer b o r is test never lowest =
    sends x P e p w o r (λ n back. true≢false (sym back.answers ∙ sym test ∙ never))
    (same_lowest P (WayGives x P e p (answer_way w.how answer)) (WayGives x P e p w) o r (λ f. (
      λ g. record { end = g.end; ends = subst (λ k. IsWayEnd x k g.end) (sym is) g.ends; flows = g.flows },
      λ g. record { end = g.end; ends = subst (λ k. IsWayEnd x k g.end) is g.ends; flows = g.flows },
    )) lowest)

pub way_back : (x : Exchange) (P : Facts) (e p : ℕ) (w : Way) (answer : ℕ) (b : Bool) (o : Option Fact)
    → w.ends ≡ ends.Retrieves answer → b ≡ is_answer w.how → b ≡ true → Misses P o
    → IsLowestOf P (WaySends x P e p w) o o
way_back x P e p w answer b o is test so miss = none_given P (WaySends x P e p w) o miss
    (λ f s. s.onward answer (record { ends = is; answers = sym test ∙ so }))

pub at_ways : (x : Exchange) (t : FlowTable) (P : Facts) (e p : ℕ) (row : Row) (ways : List Way) (o r : Option Fact)
    → slice_get t.rows p ≡ Some row → ways ≡ row.ways → Reached P e p
    → IsLowestOf P (OneGives (WaySends x P e p) ways) o r → IsLowestOf P (PointSends x t P e p) o r
at_ways x t P e p row ways o r there same reached lowest =
    same_lowest P (OneGives (WaySends x P e p) ways) (PointSends x t P e p) o r
    (λ f. (
      λ g. record { reached = reached; row = row; there = there; gives = subst (λ ws. OneGives (WaySends x P e p) ws f) same g },
      λ s. subst (λ ws. OneGives (WaySends x P e p) ws f) (ap (λ (k : Row). k.ways) (same_Some s.row row (sym s.there ∙ there)) ∙ sym same) s.gives,
    ))
    lowest

pub no_row : (x : Exchange) (t : FlowTable) (P : Facts) (e p : ℕ) (o : Option Fact) → length t.rows ≤ p → Misses P o → IsLowestOf P (PointSends x t P e p) o o
no_row x t P e p o past miss = none_given P (PointSends x t P e p) o miss (λ f s. none-some s.row (sym (slice_get_past t.rows p past) ∙ s.there))

-- what is given about a point

pub not_awaited : (x : Exchange) (t : FlowTable) (a : AnswerTable) (P : Facts) (e q : ℕ) (found : Option ℕ)
    (least : Option Fact) → AreAnswers x a → found ≡ awaited_at a q → found ≡ None → Misses P least
    → IsLowestOf P (IsAnsweredAt x t P e q) least least
not_awaited x t a P e q found least are is none miss = none_given P (IsAnsweredAt x t P e q) least miss
    (λ f h. none-some h.answer (sym none ∙ is ∙ awaited_of x a are q h.answer h.retrieve))

pub nothing_about : (x : Exchange) (t : FlowTable) (P : Facts) (r : Fact) (o : Option Fact)
    → (Reached P r.entry r.point → ⊥) → Misses P o → IsLowestOf P (given_about x t P r) o o
nothing_about x t P r o apart miss = none_given P (given_about x t P r) o miss (λ f h. ⊎_elim (λ s. apart s.reached) (λ a. apart a.reached) h)

pub misses_then : (P G : Facts) (o r : Option Fact) → IsLowestOf P G o r → Misses P r
misses_then P G o r lowest = misses P (Among o G) r lowest.least

pub both : (P G H : Facts) (o a r : Option Fact) → IsLowestOf P G o a → IsLowestOf P H a r → IsLowestOf P (λ f. G f ⊎ H f) o r
both P G H o a r first second = record {
  least = alike P (λ f. Among o G f ⊎ H f) (Among o (λ f. G f ⊎ H f)) r to from
      (joined P (Among o G) H a r first.least second);
}
  where
    to : (f : Fact) → Among o G f ⊎ H f → (o ≡ Some f) ⊎ (G f ⊎ H f)
    to f (inl (inl e)) = inl e
    to f (inl (inr g)) = inr (inl g)
    to f (inr h) = inr (inr h)

    from : (f : Fact) → (o ≡ Some f) ⊎ (G f ⊎ H f) → Among o G f ⊎ H f
    from f (inl e) = inl (inl e)
    from f (inr (inl g)) = inl (inr g)
    from f (inr (inr h)) = inr h

-- the starts of jobs

pub record Starts (x : Exchange) (P : Facts) (n : ℕ) (o : Option Fact) : Type 0 where
  pub least : LeastIn P (StartsBelow x P n) o

pub starts_begin : (x : Exchange) (P : Facts) → Starts x P 0 None
starts_begin x P = record { least = λ f h. absurd (omega (arith, h.below)) }

pub starts_misses : (x : Exchange) (P : Facts) (n : ℕ) (o : Option Fact) → Starts x P n o → Misses P o
starts_misses x P n o s = misses P (StartsBelow x P n) o s.least

starts_up : (x : Exchange) (P : Facts) (n : ℕ) (f : Fact) → StartsBelow x P n f ⊎ GivenAtStart x P n f → StartsBelow x P (n + 1) f
starts_up x P n f (inl h) = record { below = omega (arith, h.below); gives = h.gives }
starts_up x P n f (inr h) = record { below = omega (arith, h.entry); gives = h.gives }

starts_down : (x : Exchange) (P : Facts) (n : ℕ) (f : Fact) → StartsBelow x P (n + 1) f → StartsBelow x P n f ⊎ GivenAtStart x P n f
starts_down x P n f h = at (cases_lt f.entry n)
  where
    at : (f.entry < n) ⊎ (n ≤ f.entry) → StartsBelow x P n f ⊎ GivenAtStart x P n f
    at (inl low) = inl (record { below = low; gives = h.gives })
    at (inr high) = inr (record { entry = omega (arith, high, h.below); gives = h.gives })

pub starts_more : (x : Exchange) (P : Facts) (n : ℕ) (o r : Option Fact) → Starts x P n o → IsLowestOf P (GivenAtStart x P n) o r → Starts x P (n + 1) r
starts_more x P n o r s lowest = record {
  least = alike P (λ f. StartsBelow x P n f ⊎ GivenAtStart x P n f) (StartsBelow x P (n + 1)) r (starts_up x P n)
      (starts_down x P n) (joined P (StartsBelow x P n) (GivenAtStart x P n) o r s.least lowest);
}

pub starts_end : (x : Exchange) (P : Facts) (n m : ℕ) (o : Option Fact) → n ≡ m → Starts x P n o → LeastIn P (StartsBelow x P m) o
starts_end x P n m o same s = subst (λ k. LeastIn P (StartsBelow x P k) o) same s.least

-- all that one rule gives

module _ (x : Exchange) (t : FlowTable) (a : AnswerTable) (P : Facts) (points : List Fact) (kept : IsExchange x)
    (table : IsFlowTable x t) (are : AreAnswers x a) (cover : CoverReached P points) where
  way_leads : (p : ℕ) (row : Row) (f : Fact) (w : Way) → slice_get t.rows p ≡ Some row → Reached P f.entry p
      → Contains row.ways w → WayGives x P f.entry p w f → Gives x P f
  way_leads p row f w there reached among gives =
      let all = all_ways x t P f.entry p row row.ways kept table (row_below x t p row table there) there refl reached f in
      inr (p, (all.0 (record { one = w; among = among; gives = gives })).gives)

  about_gives : (f : Fact) → OneGives (given_about x t P) points f → Gives x P f
  about_gives f o = by o.gives
    where
      sent : (p : ℕ) → PointSends x t P f.entry p f → Gives x P f
      sent p s = way_leads p s.row f s.gives.one s.there s.reached s.gives.among s.gives.gives.gives

      gets : (q : ℕ) → IsAnsweredAt x t P f.entry q f → Gives x P f
      gets q h =
          let r = h.returned in
          let back = r.gives.gives.gives.back in
          let w = r.gives.gives.one in
          way_leads r.from r.gives.row f w r.gives.there r.gives.reached r.gives.gives.among (record {
            end = q;
            ends = subst (λ k. IsWayEnd x k q) (sym back.ends) h.retrieve;
            flows = record {
              entry = refl;
              point = h.point;
              guarded = guard P f.entry r.from q w.how back.answers h.reached;
              slot = slot_answered x q h.answer f.slot h.retrieve r.gives.gives.gives.slot;
              gives = r.gives.gives.gives.gives;
            };
          })

      by : given_about x t P o.one f → Gives x P f
      by (inl s) = sent o.one.point (subst (λ n. PointSends x t P n o.one.point f) (sym s.gives.gives.gives.flows.entry) s)
      by (inr h) = gets o.one.point (subst (λ n. IsAnsweredAt x t P n o.one.point f) (sym h.entry) h)

  at_point : (p : ℕ) (f : Fact) → Reached P f.entry p → PointSends x t P f.entry p f ⊎ IsAnsweredAt x t P f.entry p f → OneGives (given_about x t P) points f
  at_point p f reached h =
      let here = cover f.entry p reached in
      record {
        one = here.one;
        among = here.among;
        gives = subst (λ n. PointSends x t P n here.one.point f ⊎ IsAnsweredAt x t P n here.one.point f)
            (sym here.entry) (subst (λ n. PointSends x t P f.entry n f ⊎ IsAnsweredAt x t P f.entry n f)
            (sym here.point) h);
      }

  given_one : (p : ℕ) (f : Fact) (row : Row) (w : Way) → Reached P f.entry p → slice_get t.rows p ≡ Some row
      → Contains row.ways w → WayGives x P f.entry p w f → OneGives (given_about x t P) points f
  given_one p f row w reached there among gives = by_ends w.ends refl
    where
      onward : ((n : ℕ) → IsBack w n → ⊥) → OneGives (given_about x t P) points f
      onward none = at_point p f reached (inl (record {
        reached = reached;
        row = row;
        there = there;
        gives = record { one = w; among = among; gives = record { onward = none; gives = gives } };
      }))

      back : (n : ℕ) → w.ends ≡ ends.Retrieves n → is_answer w.how ≡ true → OneGives (given_about x t P) points f
      back n leads so =
          let q = gives.end in
          let retrieve : IsRetrieveAt x q n = subst (λ k. IsWayEnd x k q) leads gives.ends in
          let there_too : Reached P f.entry q = unguard P f.entry p q w.how so gives.flows.guarded in
          at_point q f there_too (inr (record {
            entry = refl;
            point = gives.flows.point;
            reached = there_too;
            answer = n;
            retrieve = retrieve;
            returned = record {
              from = p;
              gives = record {
                reached = reached;
                row = row;
                there = there;
                gives = record {
                  one = w;
                  among = among;
                  gives = record {
                    back = record { ends = leads; answers = so };
                    entry = refl;
                    slot = answered_slot x a P f.entry p q n w.how f.slot f.value are so retrieve gives.flows.slot gives.flows.gives;
                    gives = gives.flows.gives;
                  };
                };
              };
            };
          }))

      by_how : (n : ℕ) → w.ends ≡ ends.Retrieves n → (b : Bool) → is_answer w.how ≡ b → OneGives (given_about x t P) points f
      by_how n leads true so = back n leads so
      by_how n leads false never = onward (λ m at. true≢false (sym at.answers ∙ never))

      by_ends : (k : Ends) → w.ends ≡ k → OneGives (given_about x t P) points f
      by_ends (ends.Points listed) is = onward (λ n at. apart listed n (sym is ∙ at.ends))
      by_ends (ends.Retrieves n) is = by_how n is (is_answer w.how) refl

  gives_about : (p : ℕ) (f : Fact) → PointGives x P p f → OneGives (given_about x t P) points f
  gives_about p f h =
      let known = h.flow.reached in
      let reached : Reached P f.entry p = (known.0, subst (λ n. P (fact f.entry n Depth known.0)) h.stands.here known.1) in
      let row = table.rows.each p h.at h.stands in
      let way = (all_ways x t P f.entry p row.row row.row.ways kept table (row_below x t p row.row table row.there)
      row.there refl reached f).1 (record { entry = refl; gives = h }) in
      given_one p f row.row way.one reached row.there way.among way.gives

  pub all_given : (first o : Option Fact) → LeastIn P (StartsBelow x P (length x.entries)) first
      → IsLowestOf P (OneGives (given_about x t P) points) first o → LeastIn P (Gives x P) o
  all_given first o starts lowest = alike P (λ f. StartsBelow x P (length x.entries) f
      ⊎ OneGives (given_about x t P) points f) (Gives x P) o to from
      (joined P (StartsBelow x P (length x.entries)) (OneGives (given_about x t P) points) first o starts lowest)
    where
      to : (f : Fact) → StartsBelow x P (length x.entries) f ⊎ OneGives (given_about x t P) points f → Gives x P f
      to f (inl h) = inl h.gives
      to f (inr h) = about_gives f h

      from : (f : Fact) → Gives x P f → StartsBelow x P (length x.entries) f ⊎ OneGives (given_about x t P) points f
      from f (inl h) = inl (record { below = slice_get_within x.entries f.entry h.entry h.there; gives = h })
      from f (inr (p, h)) = inr (gives_about p f h)
