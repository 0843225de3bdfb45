-- What is made for one entry after the other.
use Rattle.std.specs.Prelude.{◌/◌}
use Rattle.std.proofs.Common.{◌≡◌, ◌⊎◌, ◌↔◌, inl, inr, ⊎_elim, ℕ, suc, Bool, true, false, nat_lt}
use Rattle.std.proofs.Common.{◌+◌, ◌*◌, ◌<◌, ◌≤◌, List, [], ◌∷◌, ◌++◌, length, map, Option, Some}
use Rattle.std.proofs.Common.{None, slice_get, Contains, refl, sym, ap, ◌∙◌, subst, arith}
use Rattle.std.proofs.Common.{length-append}
use Rattle.std.proofs.lemmas.List.Elements.{Contains-append_left, Contains-append_right}
use Rattle.std.proofs.lemmas.List.Elements.{Contains-append_cases}
use Rattle.std.proofs.lemmas.Option.{none-some, slice_get_within}
use Rattle.std.specs.List.Sorted.{IsStrictlySortedBy}
use Rattle.std.proofs.Math.Nat.{mul-le-mul_right, suc-mul}
use Rattle.std.proofs.lemmas.Bool.{ltb-true, ltb-false}
use Rattle.plex_num.proofs.Lists.{get_push}
use Rattle.exchange_model.specs.declared.exchange.Exchange.{Exchange}
use Rattle.flow_points.specs.declared.fact.Fact.{Fact}
use Rattle.flow_points.specs.Facts.{Facts, IsLeast}
use Rattle.flow_points.proofs.Least.{least_in}
use Rattle.flow_points.specs.Orders.{fact_order}
use Rattle.flow_table.specs.declared.place.PlaceAt.{PlaceAt}
use Rattle.flow_table.specs.Texts.{ArePlaces, AreReachedAmong, seen}
use Rattle.fact_rows.specs.Known.{BitRows, Knows}
use Rattle.fact_rows.proofs.Listing.{sorted_append, sorted_none}
use Rattle.fact_list.proofs.Ordering.{entry_less}
use Rattle.least_facts.specs.declared.looks.Looked.{Looked}
use Rattle.least_facts.specs.declared.looks.Looked.TheVariants.{Whole, Over}
use Rattle.least_facts.specs.Least.{KnowLeast}
use Rattle.least_facts.specs.Giving.{IsOwnLeast}
use Rattle.least_facts.specs.Looks.{FindsWithin, HasFacts, IsOverBy}
use Rattle.least_facts.proofs.Telling.{facts_as, facts_both, no_facts}
use Rattle.entry_summary.specs.declared.summary.Access.{Access}
use Rattle.entry_summary.specs.declared.summary.Summary.{Summary}
use Rattle.entry_accesses.specs.Listed.{ListsWithin}
use Rattle.entry_accesses.specs.declared.listed.Listed.{Listed}
use Rattle.entry_accesses.specs.declared.listed.Listed.TheVariants as listed
use Rattle.entry_summary.specs.Summaries.{IsSummary}
use Rattle.access_summary.specs.declared.looks.Excess.{Excess}
use Rattle.access_summary.specs.declared.looks.Excess.TheVariants.{ForOne, InAll}
use Rattle.access_summary.specs.declared.looks.TheConstants.{PART_OF_ENTRY, POINTS_OF_LOOK}
use Rattle.access_summary.specs.declared.looks.FewOrMany.{FewOrMany}
use Rattle.access_summary.specs.declared.looks.FewOrMany.TheVariants.{Few, Many}
use Rattle.certificate_meaning.specs.Summaries.{AreSummaries}
use Rattle.access_summary.specs.declared.looks.Summed.{Summed}
use Rattle.access_summary.specs.declared.looks.Summed.TheVariants as summed
use Rattle.access_summary.specs.Looks.{ComeWithin, HasWork, IsExcess, IsPast, SumsBy, SumsWithin}
use Rattle.access_summary.specs.Looks.{most_of}
use Rattle.certificate_meaning.proofs.Alike.{summary_alike}

-- the statements that are reached, as a slice of the list
pub reached_in : (x : Exchange) (P : Facts) (e : ℕ) (places there given : List PlaceAt) → ArePlaces x (map seen places)
    → ((y : Exchange) → ArePlaces y (map seen places) → AreReachedAmong y P e (map seen there)) → given ≡ there
    → AreReachedAmong x P e (map seen given)
reached_in x P e places there given are told same = subst (λ l. AreReachedAmong x P e (map seen l)) (sym same) (told x are)

-- a summary by what rows know of the entry is one by the least facts
pub summary_of_least : (x : Exchange) (e : ℕ) (k : BitRows) (s : Summary) → KnowLeast x e k → IsSummary x (Knows k) e s → IsSummary x (IsLeast x) e s
summary_of_least x e k s know is = summary_alike x (Knows k) (IsLeast x) e s
    (record { each = λ f own there. ((know.exact f).0 there).1 })
    (record { each = λ f own least. (know.exact f).1 (own, least) }) is

pub summed_least : (x : Exchange) (e : ℕ) (k : BitRows) (most : Option ℕ) (o : Summed) → KnowLeast x e k
    → SumsWithin most (IsSummary x (Knows k) e) o → SumsWithin most (IsSummary x (IsLeast x) e) o
summed_least x e k most (summed.Whole s looks) know is = summary_of_least x e k s know is
summed_least x e k most (summed.Over looks) know is = is

-- summaries

-- those of so many entries
pub record SummariesGo (x : Exchange) (n : ℕ) (all : List Summary) : Type 0 where
  pub long : length all ≡ n
  pub is : (e : ℕ) (s : Summary) → slice_get all e ≡ Some s → IsSummary x (IsLeast x) e s

pub summaries_begin : (x : Exchange) (all : List Summary) → all ≡ [] → SummariesGo x 0 all
summaries_begin x all none = record {
  long = ap length none;
  is = λ e s there. absurd (none-some s (ap (λ (l : List Summary). slice_get l e) (sym none) ∙ there));
}

pub summaries_more : (x : Exchange) (n : ℕ) (one : Summary) (all new : List Summary) → IsSummary x (IsLeast x) n one
    → new ≡ all ++ one ∷ [] → SummariesGo x n all → SummariesGo x (n + 1) new
summaries_more x n one all new is grown g = record {
  long = (let l = ap length grown ∙ length-append all (one ∷ []) in let h = g.long in omega (arith, l, h));
  is = λ e s there.
      ⊎_elim (g.is e s)
      (λ h. subst (λ k. IsSummary x (IsLeast x) k s) (sym (h.0 ∙ g.long)) (subst (IsSummary x (IsLeast x) n) h.1 is))
      (get_push all one s e (ap (λ (l : List Summary). slice_get l e) (sym grown) ∙ there));
}

pub summaries_end : (x : Exchange) (n count : ℕ) (all : List Summary) → count ≡ length x.entries → n ≤ count → count ≤ n
    → SummariesGo x n all → AreSummaries x all
summaries_end x n count all is low high g = (let h = g.long in record { each_entry = omega (arith, is, low, high, h); is = g.is })

-- what a search ends with

pub all_found : {F : Type 0} (P : Fact → Type 0) (bound : Option ℕ) (o : Looked) (looks : ℕ) → o ≡ Whole looks → FindsWithin P bound F o → F
all_found {F = F} P bound o looks is h = subst (FindsWithin P bound F) is h

pub found_over : (F : Type 0) (P : Fact → Type 0) (bound : Option ℕ) (o : Looked) (looks : ℕ) → o ≡ Over looks
    → FindsWithin P bound F o → IsOverBy P bound looks
found_over F P bound o looks is h = subst (FindsWithin P bound F) is h

pub passed_one : (P : Fact → Type 0) (Is : Summary → Type 0) (most bound : Option ℕ) (before : ℕ) (o : Summed)
    (looks : ℕ) → bound ≡ most_of most before → o ≡ summed.Over looks → SumsBy P bound Is o
    → IsOverBy P (most_of most before) looks
passed_one P Is most bound before o looks same is h = subst (λ b. IsOverBy P b looks) same (subst (SumsBy P bound Is) is h)

pub whole_by : (P : Fact → Type 0) (Is : Summary → Type 0) (bound : Option ℕ) (o : Summed) (s : Summary) (looks : ℕ)
    → o ≡ summed.Whole s looks → SumsBy P bound Is o → Is s × HasFacts P looks
whole_by P Is bound o s looks is h = subst (SumsBy P bound Is) is h

pub accesses_found : (P : List Access → Type 0) (most : Option ℕ) (o : Listed) (accesses : List Access) (met : ℕ)
    → o ≡ listed.Whole accesses met → ListsWithin most P o → P accesses
accesses_found P most o accesses met is h = subst (ListsWithin most P) is h

pub summary_found : (P : Summary → Type 0) (most : Option ℕ) (o : Summed) (s : Summary) (looks : ℕ) → o ≡ summed.Whole s looks → SumsWithin most P o → P s
summary_found P most o s looks is h = subst (SumsWithin most P) is h

-- the looks for so many entries

-- a least fact of the first so many entries
pub record IsLeastBelow (x : Exchange) (n : ℕ) (f : Fact) : Type 0 where
  pub entry : f.entry < n
  pub least : IsLeast x f

abbrev pub WorkGoes : Exchange → ℕ → ℕ → Type 0
WorkGoes x n before = HasWork x n (IsLeastBelow x n) before

pub work_begin : (x : Exchange) → WorkGoes x 0 0
work_begin x = record { own = 0; found = no_facts (IsLeastBelow x 0); enough = omega arith }

both_entries : (x : Exchange) (n a b : ℕ) → HasFacts (IsLeastBelow x n) a → HasFacts (IsOwnLeast x n) b → HasFacts (IsLeastBelow x (n + 1)) (a + b)
both_entries x n a b = facts_both (IsLeastBelow x n) (IsOwnLeast x n) (IsLeastBelow x (n + 1)) a b (a + b) (omega arith)
    (λ f g. record { entry = (let lt = g.entry in omega (arith, lt)); least = g.least })
    (λ f g. record { entry = (let is = g.entry in omega (arith, is)); least = g.least })
    (λ f g before own. entry_less f g (let lt = before.entry in let is = own.entry in omega (arith, lt, is)))

room_of : (own before looks points new more room : ℕ) → before ≤ own + room → new ≤ before + looks + more → more ≤ points → new ≤ own + looks + (points + room)
room_of own before looks points new more room enough sum le = omega (arith, enough, sum, le)

pub work_more : (x : Exchange) (n before looks new more : ℕ) → more ≤ length x.points / POINTS_OF_LOOK
    → new ≤ before + looks + more → HasFacts (IsOwnLeast x n) looks → WorkGoes x n before → WorkGoes x (n + 1) new
work_more x n before looks new more le sum own g = record {
  own = g.own + looks;
  found = both_entries x n g.own looks g.found own;
  enough = subst (λ r. new ≤ g.own + looks + r) (sym (one_more n (length x.points / POINTS_OF_LOOK)))
      (room_of g.own before looks (length x.points / POINTS_OF_LOOK) new more (n * (length x.points / POINTS_OF_LOOK)) g.enough sum le);
}
  where
    swap : (a b : ℕ) → a + b ≡ b + a
    swap a b = omega arith

    one_more : (k r : ℕ) → (k + 1) * r ≡ r + k * r
    one_more k r = (let up : k + 1 ≡ suc k = omega arith in ap (λ m. m * r) up ∙ suc-mul k r ∙ swap (k * r) r)

pub same_part : (n m : ℕ) → n ≡ m → n / POINTS_OF_LOOK ≤ m / POINTS_OF_LOOK
same_part n m same = subst (λ k. n / POINTS_OF_LOOK ≤ k / POINTS_OF_LOOK) same (omega arith)

-- more than there may be

pub is_past : (x : Exchange) (most : Option ℕ) (before looks n : ℕ) (excess : Excess)
    → IsExcess most before looks excess → n < length x.entries → HasFacts (IsOwnLeast x n) looks → WorkGoes x n before
    → IsPast x most excess
is_past x None before looks n excess over lt own g = absurd over
is_past x (Some most) before looks n (ForOne all) over lt own g =
    (subst (λ k. most < k * PART_OF_ENTRY) (sym over.0) over.1, record { entry = n; found = subst (HasFacts (IsOwnLeast x n)) (sym over.0) own })
is_past x (Some most) before looks n (InAll first last) over lt own g =
    let same : first + last ≡ before + looks = (λ i. over.0 i + over.1 i) in
    let all : WorkGoes x (n + 1) (before + looks) = work_more x n before looks (before + looks) 0 (omega arith) (omega arith) own g in (
      subst (λ k. most < k) (sym same) over.2,
      subst (HasWork x (length x.entries) (IsLeast x)) (sym same) (record {
        own = all.own;
        found = facts_as (IsLeastBelow x (n + 1)) (IsLeast x) all.own all.own (omega arith) (λ f h. h.least) all.found;
        enough =
            (let le = all.enough in
            let many = mul-le-mul_right (length x.points / POINTS_OF_LOOK) (let up : n + 1 ≤ length x.entries = omega (arith, lt) in up) in
            grow (before + looks) all.own ((n + 1) * (length x.points / POINTS_OF_LOOK)) (length x.entries * (length x.points / POINTS_OF_LOOK)) le many);
      }),
    )
  where
    grow : (n own a b : ℕ) → n ≤ own + a → a ≤ b → n ≤ own + b
    grow n own a b le many = omega (arith, le, many)

-- where there is no bound, summaries come

pub summaries_come : (x : Exchange) (most : Option ℕ) (o : FewOrMany) (all : List Summary) → o ≡ Few all → ComeWithin x most o → AreSummaries x all
summaries_come x most o all is h = subst (ComeWithin x most) is h

pub never_many : (x : Exchange) (o : FewOrMany) (excess : Excess) → o ≡ Many excess → ComeWithin x None o → ⊥
never_many x o excess is h = subst (ComeWithin x None) is h

-- facts

-- a least fact is of an entry
least_of_entry : (x : Exchange) (f : Fact) → IsLeast x f → f.entry < length x.entries
least_of_entry x f least =
    least_in x (λ g. g.entry < length x.entries)
    (λ g given. ⊎_elim (λ start. slice_get_within x.entries g.entry start.entry start.there) (λ point. point.1.flow.reached.1) given)
    f least

-- those of so many entries
pub record FactsGo (x : Exchange) (n : ℕ) (facts : List Fact) : Type 0 where
  pub each : (f : Fact) → Contains facts f → (f.entry < n) × IsLeast x f
  pub listed : (f : Fact) → f.entry < n → IsLeast x f → Contains facts f
  pub rising : IsStrictlySortedBy fact_order facts

pub facts_begin : (x : Exchange) (facts : List Fact) → facts ≡ [] → FactsGo x 0 facts
facts_begin x facts none = subst (FactsGo x 0) (sym none) (record {
  each = λ f c. absurd (let lt = c.1 in omega arith);
  listed = λ f lt least. absurd (omega (arith, lt));
  rising = sorted_none fact_order;
})

pub below_or_last : (m n : ℕ) → m < n + 1 → (m < n) ⊎ (m ≡ n)
below_or_last m n lt = by (nat_lt m n) refl
  where
    by : (t : Bool) → nat_lt m n ≡ t → (m < n) ⊎ (m ≡ n)
    by true is = inl (ltb-true m n is)
    by false is = (let le = ltb-false m n is in inr (omega (arith, le, lt)))

pub facts_more : (x : Exchange) (n : ℕ) (facts more new : List Fact)
    → ((f : Fact) → Contains more f ↔ ((f.entry ≡ n) × IsLeast x f)) → IsStrictlySortedBy fact_order more
    → new ≡ facts ++ more → FactsGo x n facts → FactsGo x (n + 1) new
facts_more x n facts more new exact up grown g = subst (FactsGo x (n + 1)) (sym grown) (record {
  each = λ f c. ⊎_elim (λ old. let lt = (g.each f old).0 in (omega (arith, lt), (g.each f old).1))
      (λ here. let is = ((exact f).0 here).0 in (omega (arith, is), ((exact f).0 here).1))
      (Contains-append_cases facts more f c);
  listed = λ f lt least. ⊎_elim (λ below. Contains-append_left facts more f (g.listed f below least))
      (λ is. Contains-append_right facts more f ((exact f).1 (is, least))) (below_or_last f.entry n lt);
  rising = sorted_append fact_order facts more g.rising up
      (λ u v c d. let lt = (g.each u c).0 in let is = ((exact v).0 d).0 in entry_less u v (omega (arith, lt, is)));
})

pub facts_exact : (x : Exchange) (n count : ℕ) (facts : List Fact) → count ≡ length x.entries → count ≤ n
    → FactsGo x n facts → (f : Fact) → Contains facts f ↔ IsLeast x f
facts_exact x n count facts is high g f = (
  (λ c. (g.each f c).1),
  (λ least. let lt = least_of_entry x f least in g.listed f (omega (arith, lt, is, high)) least),
)

pub facts_rising : (x : Exchange) (n : ℕ) (facts : List Fact) → FactsGo x n facts → IsStrictlySortedBy fact_order facts
facts_rising x n facts g = g.rising
