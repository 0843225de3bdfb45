-- Lists of points, one for each answer, statement by statement.
use Rattle.std.proofs.Common.{◌≡◌, ◌≢◌, ◌⊎◌, inl, inr, ⊎_elim, ℕ, zero, suc, ◌+◌, ◌<◌, ◌≤◌, Bool}
use Rattle.std.proofs.Common.{true, false, nat_eq, List, [], ◌∷◌, ◌++◌, length, map, drop, get_or}
use Rattle.std.proofs.Common.{replicate, Option, Some, None, slice_get, slice_set, refl, sym, ap}
use Rattle.std.proofs.Common.{◌∙◌, subst, arith}
use Rattle.std.specs.Prelude.{◌↔◌}
use Rattle.std.specs.List.{Contains}
use Rattle.std.proofs.Math.ListN.{drop_of_length-le}
use Rattle.std.proofs.lemmas.Bool.{eqb-true, eqb-false, cases_lt}
use Rattle.std.proofs.lemmas.List.{get_or-set_same, get_or-set_other, length-replicate, length-set}
use Rattle.std.proofs.lemmas.List.{replicate_more, set_past, get_or_default}
use Rattle.std.proofs.lemmas.List.Elements.{Contains-append_left, Contains-push}
use Rattle.std.proofs.lemmas.List.Elements.{Contains-push_cases}
use Rattle.std.proofs.lemmas.Option.{none-some, same_Some}
use Rattle.plex_num.proofs.Members.{first_or_later, none_in}
use Rattle.plex_num.proofs.Lists.{opens}
use Rattle.exchange_model.specs.declared.exchange.Exchange.{Exchange}
use Rattle.source_meaning.specs.Named.{Layer}
use Rattle.flow_points.specs.Places.{Place, IsRetrieveAt}
use Rattle.flow_table.specs.declared.place.PlaceAt.{PlaceAt}
use Rattle.flow_table.specs.PointLists.{ArePointLists, IsOfAnswer, answer_by, retrieved_by}
use Rattle.flow_table.specs.PointLists.{listed_at, put}
use Rattle.flow_table.specs.Rows.{AreAllRetrieves}
use Rattle.flow_table.specs.Texts.{ArePlaces, seen}
use Rattle.flow_table.proofs.Rowing.{place_at, placed_from}

-- one list with a point more

pub put_past : (i point : ℕ) (lists : List (List ℕ)) → length lists ≤ i → lists ≡ put i point lists
put_past i point lists past = sym (set_past lists i (get_or lists i [] ++ point ∷ []) past)

pub put_at : (i point : ℕ) (lists new : List (List ℕ)) (before after : List ℕ) → i < length lists
    → before ≡ get_or lists i before → after ≡ before ++ point ∷ [] → new ≡ slice_set lists i after
    → new ≡ put i point lists
put_at i point lists new before after lt is pushed made =
    made ∙ ap (λ l. slice_set lists i l) (pushed ∙ ap (λ l. l ++ point ∷ []) (is ∙ get_or_default lists i before [] lt))

-- so many of one item

pub items_more : {A : Type 0} (n : ℕ) (empty item : A) (now new : List A) → item ≡ empty → new ≡ now ++ item ∷ []
    → now ≡ replicate n empty → new ≡ replicate (n + 1) empty
items_more n empty item now new none pushed is = pushed ∙ ap (λ l. l ++ item ∷ []) is ∙ ap (λ i. replicate n empty ++ i ∷ []) none ∙ replicate_more n empty

pub items_end : {A : Type 0} (n count : ℕ) (empty : A) (now : List A) → n ≤ count → count ≤ n → now ≡ replicate n empty → now ≡ replicate count empty
items_end n count empty now low high is = (let e : n ≡ count = omega arith in is ∙ ap (λ m. replicate m empty) e)

abbrev empty : List ℕ
empty = []

empty_at : (n m : ℕ) → get_or (replicate n empty) m empty ≡ empty
empty_at zero m = refl
empty_at (suc n) zero = refl
empty_at (suc n) (suc m) = empty_at n m

get_past : (ls : List (List ℕ)) (k : ℕ) → length ls ≤ k → get_or ls k [] ≡ []
get_past [] k h = refl
get_past (l ∷ ls) zero h = absurd (omega arith)
get_past (l ∷ ls) (suc k) h = get_past ls k (omega arith)

found_at : {A : Type 0} (xs : List A) (i : ℕ) (x d : A) → slice_get xs i ≡ Some x → (i < length xs) × (x ≡ get_or xs i d)
found_at [] i x d there = absurd (none-some x there)
found_at (y ∷ xs) zero x d there = (omega arith, sym (same_Some y x there))
found_at (y ∷ xs) (suc i) x d there = (let f = found_at xs i x d there in let lt = f.0 in (omega arith, f.1))

-- a statement of the answer is among these places, and this is its point
pub record Among (of : Layer → Option ℕ) (answer : ℕ) (places : List PlaceAt) (p : ℕ) : Type 0 where
  pub at : PlaceAt
  pub one : Contains places at
  pub has : answer_by of at ≡ Some answer
  pub point : at.point ≡ p

pub record ListsGo (of : Layer → Option ℕ) (n : ℕ) (places : List PlaceAt) (i : ℕ) (lists : List (List ℕ)) : Type 0 where
  pub long : length lists ≡ n
  pub each : (m p : ℕ) → Contains (get_or lists m []) p → Among of m places p
  pub listed : (m p : ℕ) → m < n → Among of m places p → Contains (get_or lists m []) p ⊎ Among of m (drop i places) p

module _ (of : Layer → Option ℕ) where
  pub lists_begin : (n : ℕ) (places : List PlaceAt) (lists : List (List ℕ)) → lists ≡ replicate n [] → ListsGo of n places 0 lists
  lists_begin n places lists none = record {
    long = ap length none ∙ length-replicate n empty;
    each = λ m p c. absurd (none_in p (subst (λ l. Contains l p) (ap (λ ls. get_or ls m []) none ∙ empty_at n m) c));
    listed = λ m p lt h. inr h;
  }

  later_among : (m : ℕ) (places : List PlaceAt) (i : ℕ) (at : PlaceAt) (p : ℕ) → i < length places
      → at ≡ get_or places i at → Among of m (drop i places) p
      → ((answer_by of at ≡ Some m) × (at.point ≡ p)) ⊎ Among of m (drop (i + 1) places) p
  later_among m places i at p lt is h =
      ⊎_elim
      (λ e. inl (subst (λ (a : PlaceAt). answer_by of a ≡ Some m) (sym e) h.has, ap (λ (a : PlaceAt). a.point) e ∙ h.point))
      (λ c. inr (record { at = h.at; one = c; has = h.has; point = h.point }))
      (first_or_later at h.at (drop (i + 1) places) (subst (λ l. Contains l h.at) (opens places i at lt is) h.one))

  lists_none : (n : ℕ) (places : List PlaceAt) (i : ℕ) (at : PlaceAt) (now : List (List ℕ)) → i < length places
      → at ≡ get_or places i at → answer_by of at ≡ None → ListsGo of n places i now → ListsGo of n places (i + 1) now
  lists_none n places i at now lt is none g = record {
    long = g.long;
    each = g.each;
    listed = λ m p below h. ⊎_elim inl (λ l. ⊎_elim (λ f. absurd (none-some m (sym none ∙ f.0))) inr
        (later_among m places i at p lt is l)) (g.listed m p below h);
  }

  lists_some : (n : ℕ) (places : List PlaceAt) (i : ℕ) (at : PlaceAt) (answer : ℕ) (now : List (List ℕ))
      → i < length places → at ≡ get_or places i at → answer_by of at ≡ Some answer → ListsGo of n places i now
      → ListsGo of n places (i + 1) (put answer at.point now)
  lists_some n places i at answer now lt is some g = record {
    long = length-set now answer (get_or now answer [] ++ at.point ∷ []) ∙ g.long;
    each = λ m p c. each m p (nat_eq m answer) refl c;
    listed = λ m p below h. listed m p below (nat_eq m answer) refl (g.listed m p below h);
  }
    where
      new : List (List ℕ)
      new = put answer at.point now

      same : (m : ℕ) → m < length now → m ≡ answer → get_or new m [] ≡ get_or now m [] ++ at.point ∷ []
      same m below e = subst (λ k. get_or (put k at.point now) m [] ≡ get_or now m [] ++ at.point ∷ []) e
          (get_or-set_same now m (get_or now m [] ++ at.point ∷ []) [] below)

      other : (m : ℕ) → m ≢ answer → get_or new m [] ≡ get_or now m []
      other m differ = get_or-set_other now answer m (get_or now answer [] ++ at.point ∷ []) [] differ

      own : (m p : ℕ) → m ≡ answer → at.point ≡ p → Among of m places p
      own m p e point = record { at = at; one = (i, lt, sym is); has = some ∙ ap Some (sym e); point = point }

      past : (m : ℕ) → length now ≤ m → get_or new m [] ≡ get_or now m []
      past m high = get_past new m (let e = length-set now answer (get_or now answer [] ++ at.point ∷ []) in omega (arith, e, high)) ∙ sym (get_past now m high)

      low_or_high : (m p : ℕ) → m ≡ answer → Contains (get_or new m []) p → (m < length now) ⊎ (length now ≤ m) → Among of m places p
      low_or_high m p e c (inl low) = ⊎_elim (g.each m p) (own m p e)
          (Contains-push_cases (get_or now m []) at.point p (subst (λ l. Contains l p) (same m low e) c))
      low_or_high m p e c (inr high) = g.each m p (subst (λ l. Contains l p) (past m high) c)

      each : (m p : ℕ) (t : Bool) → nat_eq m answer ≡ t → Contains (get_or new m []) p → Among of m places p
      each m p false differ c = g.each m p (subst (λ l. Contains l p) (other m (eqb-false m answer differ)) c)
      each m p true eq c = low_or_high m p (eqb-true m answer eq) c (cases_lt m (length now))

      listed : (m p : ℕ) → m < n → (t : Bool) → nat_eq m answer ≡ t
          → Contains (get_or now m []) p ⊎ Among of m (drop i places) p
          → Contains (get_or new m []) p ⊎ Among of m (drop (i + 1) places) p
      listed m p low false differ (inl c) = inl (subst (λ l. Contains l p) (sym (other m (eqb-false m answer differ))) c)
      listed m p low false differ (inr l) = ⊎_elim
          (λ f. absurd (eqb-false m answer differ (same_Some m answer (sym f.0 ∙ some)))) inr
          (later_among m places i at p lt is l)
      listed m p low true eq (inl c) =
          let long = g.long in
          inl (subst (λ l. Contains l p) (sym (same m (omega (arith, low, long)) (eqb-true m answer eq)))
          (Contains-append_left (get_or now m []) (at.point ∷ []) p c))
      listed m p low true eq (inr l) =
          let long = g.long in
          ⊎_elim
          (λ f. inl (subst (λ z. Contains z p) (sym (same m (omega (arith, low, long)) (eqb-true m answer eq)))
          (subst (λ k. Contains (get_or now m [] ++ k ∷ []) p) (sym f.1) (Contains-push (get_or now m []) p))))
          inr
          (later_among m places i at p lt is l)

  pub lists_more : (n : ℕ) (places : List PlaceAt) (i : ℕ) (at : PlaceAt) (now new : List (List ℕ)) → i < length places
      → at ≡ get_or places i at → new ≡ listed_at (answer_by of at) at.point now → ListsGo of n places i now
      → ListsGo of n places (i + 1) new
  lists_more n places i at now new lt is e g = by (answer_by of at) refl e
    where
      by : (o : Option ℕ) → answer_by of at ≡ o → new ≡ listed_at o at.point now → ListsGo of n places (i + 1) new
      by None none f = subst (ListsGo of n places (i + 1)) (sym f) (lists_none n places i at now lt is none g)
      by (Some answer) some f = subst (ListsGo of n places (i + 1)) (sym f) (lists_some n places i at answer now lt is some g)

  pub lists_end : (x : Exchange) (n : ℕ) (places : List PlaceAt) (i : ℕ) (now lists : List (List ℕ))
      → ArePlaces x (map seen places) → n ≡ length x.signals → length places ≤ i → lists ≡ now
      → ListsGo of n places i now → ArePointLists of x lists
  lists_end x n places i now lists are count past same g = subst (ArePointLists of x) (sym same) (record {
    each_signal = g.long ∙ count;
    exact = λ answer points there. (let f = found_at now answer points [] there in let long = g.long in λ p. subst
        (λ l. Contains l p ↔ IsOfAnswer of x p answer) (sym f.1)
        (from answer p, to answer p (let lt = f.0 in omega (arith, lt, long))));
  })
    where
      from : (m p : ℕ) → Contains (get_or now m []) p → IsOfAnswer of x p m
      from m p c =
          let a = g.each m p c in
          record { place = seen a.at; stands = record { place = place_at x places a.one.0 a.at are a.one.1 (sym a.one.2); here = a.point }; has = a.has }

      none : (m p : ℕ) → Among of m (drop i places) p → ⊥
      none m p a = none_in a.at (subst (λ l. Contains l a.at) (drop_of_length-le places past) a.one)

      to : (m p : ℕ) → m < n → IsOfAnswer of x p m → Contains (get_or now m []) p
      to m p lt h =
          let f = placed_from places p h.place (are.listed p h.place h.stands) in
          ⊎_elim (λ c. c) (λ a. absurd (none m p a))
          (g.listed m p lt (record {
            at = f.0;
            one = f.1;
            has = subst (λ (q : Place). of q.layer ≡ Some m) (sym f.2) h.has;
            point = ap (λ (q : Place). q.point) f.2 ∙ h.stands.here;
          }))

-- the RETRIEVEs of each signal

pub retrieves_are : (x : Exchange) (lists : List (List ℕ)) → ArePointLists retrieved_by x lists → AreAllRetrieves x lists
retrieves_are x lists are = record {
  each_signal = are.each_signal;
  exact = λ answer points there. record {
    exact = λ p. let both = are.exact answer points there p in (
      λ c. let h = both.0 c in record { place = h.place; stands = h.stands; retrieves = h.has },
      λ (h : IsRetrieveAt x p answer). both.1 (record { place = h.place; stands = h.stands; has = h.retrieves }),
    );
  };
}
