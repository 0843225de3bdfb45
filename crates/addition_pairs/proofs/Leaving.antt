-- The accesses of a summary that are left are found one by one.
use Rattle.std.proofs.Common.{◌≡◌, inl, inr, ⊎_elim, ℕ, ◌+◌, ◌≤◌, Bool, true, false, List, []}
use Rattle.std.proofs.Common.{◌∷◌, ◌++◌, length, get_or, Some, slice_get, sym, ap, ◌∙◌, subst}
use Rattle.std.proofs.Common.{arith}
use Rattle.std.specs.declared.cmp.Ordering.TheVariants.{Less}
use Rattle.std.specs.List.{Contains}
use Rattle.std.specs.List.Sorted.{IsStrictlySortedBy}
use Rattle.std.proofs.lemmas.Bool.{cases_lt, true≢false}
use Rattle.std.proofs.lemmas.List.Elements.{Contains-append_left, Contains-push}
use Rattle.std.proofs.lemmas.List.Elements.{Contains-push_cases}
use Rattle.std.proofs.lemmas.Map.Keys.{Less-from_sorted}
use Rattle.std.proofs.lemmas.Option.{get_or_from_slice_get, same_Some, slice_get_within}
use Rattle.plex_num.proofs.Members.{first_or_later, none_in}
use Rattle.fact_rows.proofs.Listing.{sorted_append, sorted_cons, sorted_none}
use Rattle.entry_summary.specs.declared.summary.Access.{Access}
use Rattle.entry_summary.specs.Orders.{access_order}
use Rattle.pair_tests.specs.Idle.{AreSo, IsIdle}
use Rattle.additions_meaning.specs.Additions.{Targets}
use Rattle.additions_meaning.specs.Sparing.{IsSpared}
use Rattle.addition_pairs.specs.Left.{AreLeft, Leaves, StandsBelow, drops, keeps}
use Rattle.addition_pairs.specs.Sparing.{is_kept}
use Rattle.addition_pairs.proofs.Sparing.{kept_stays, stays_kept}

-- so many were looked at, and these are left, in order
pub record Collected (d : Targets) (others ones : List Access) (count : ℕ) (kept : List Access) : Type 0 where
  pub there : count ≤ length ones
  pub left : AreLeft d others ones count kept
  pub rising : IsStrictlySortedBy access_order kept

higher : (ones : List Access) (n m : ℕ) (a : Access) → n ≤ m → StandsBelow ones n a → StandsBelow ones m a
higher ones n m a up s = record { place = s.place; low = (let l = s.low in omega (arith, l, up)); there = s.there }

kept_on : (d : Targets) (ones : List Access) (n m : ℕ) (a : Access) → n ≤ m → StandsBelow ones n a × (IsSpared d a → ⊥)
    → StandsBelow ones m a × (IsSpared d a → ⊥)
kept_on d ones n m a up e = (higher ones n m a up e.0, e.1)

none_left : (d : Targets) (others ones left : List Access) → left ≡ [] → AreLeft d others ones 0 left
none_left d others ones left none = record {
  each = λ a c. absurd (none_in a (subst (λ l. Contains l a) none c));
  rest = λ a s free. absurd (let l = s.low in omega (arith, l));
}

-- idle accesses are passed

left_on : (d : Targets) (others ones : List Access) (n m : ℕ) (left : List Access) → AreSo (IsIdle others) ones n m
    → AreLeft d others ones n left → AreLeft d others ones m left
left_on d others ones n m left so h = record {
  each = λ a c. kept_on d ones n m a so.up (h.each a c);
  rest = λ a s free. ⊎_elim
      (λ low. h.rest a (record { place = s.place; low = low; there = s.there }) free)
      (λ past. inr (subst (IsIdle others) (get_or_from_slice_get ones s.place a a s.there) (so.each s.place a past s.low)))
      (cases_lt s.place n);
}

pub left_begin : (d : Targets) (others ones : List Access) (to : ℕ) (left : List Access) → left ≡ [] → AreSo (IsIdle others) ones 0 to
    → Collected d others ones to left
left_begin d others ones to left none so = record {
  there = so.there;
  left = left_on d others ones 0 to left so (none_left d others ones left none);
  rising = subst (IsStrictlySortedBy access_order) (sym none) (sorted_none access_order);
}

-- one more is looked at

pub one_kept : (d : Targets) (one : Access) (b : Bool) (old new : List Access) → b ≡ is_kept d one → b ≡ true → new ≡ old ++ one ∷ []
    → Leaves d one old new
one_kept d one b old new is so more = subst (Leaves d one old) (sym more) (keeps (sym is ∙ so))

pub one_dropped : (d : Targets) (one : Access) (b : Bool) (old : List Access) → b ≡ is_kept d one → b ≡ false → Leaves d one old old
one_dropped d one b old is so = drops (sym is ∙ so)

same_one : (ones : List Access) (n : ℕ) (one a : Access) → slice_get ones n ≡ Some one → (s : StandsBelow ones (n + 1) a)
    → n ≤ s.place → one ≡ a
same_one ones n one a at s past =
    let l = s.low in
    let is : s.place ≡ n = omega (arith, l, past) in
    same_Some one a (sym at ∙ ap (slice_get ones) (sym is) ∙ s.there)

one_more : (d : Targets) (others ones : List Access) (n : ℕ) (one : Access) (old new : List Access) → slice_get ones n ≡ Some one
    → Leaves d one old new → AreLeft d others ones n old → AreLeft d others ones (n + 1) new
one_more d others ones n one old _ at (keeps is) h = record {
  each = λ a c. ⊎_elim
      (λ was. kept_on d ones n (n + 1) a (omega arith) (h.each a was))
      (λ same. subst (λ x. StandsBelow ones (n + 1) x × (IsSpared d x → ⊥)) same
      (record { place = n; low = omega arith; there = at }, stays_kept d one is))
      (Contains-push_cases old one a c);
  rest = λ a s free. ⊎_elim
      (λ low. ⊎_elim (λ k. inl (Contains-append_left old (one ∷ []) a k)) (λ idle. inr idle)
      (h.rest a (record { place = s.place; low = low; there = s.there }) free))
      (λ past. inl (subst (Contains (old ++ one ∷ [])) (same_one ones n one a at s past) (Contains-push old one)))
      (cases_lt s.place n);
}
one_more d others ones n one old _ at (drops is) h = record {
  each = λ a c. kept_on d ones n (n + 1) a (omega arith) (h.each a c);
  rest = λ a s free. ⊎_elim
      (λ low. h.rest a (record { place = s.place; low = low; there = s.there }) free)
      (λ past. absurd (true≢false (sym (kept_stays d a free) ∙ ap (is_kept d) (sym (same_one ones n one a at s past)) ∙ is)))
      (cases_lt s.place n);
}

before : (ones : List Access) (n : ℕ) (a one : Access) → IsStrictlySortedBy access_order ones → slice_get ones n ≡ Some one
    → StandsBelow ones n a → access_order a one ≡ Less
before ones n a one up at s =
    let less = Less-from_sorted access_order ones s.place n a up s.low (slice_get_within ones n one at) in
    subst (λ b. access_order b one ≡ Less) (get_or_from_slice_get ones s.place a a s.there)
    (subst (λ b. access_order (get_or ones s.place a) b ≡ Less) (get_or_from_slice_get ones n one a at) less)

one_rises : (d : Targets) (others ones : List Access) (n : ℕ) (one : Access) (old new : List Access)
    → IsStrictlySortedBy access_order ones → slice_get ones n ≡ Some one → Leaves d one old new → AreLeft d others ones n old
    → IsStrictlySortedBy access_order old → IsStrictlySortedBy access_order new
one_rises d others ones n one old _ up at (keeps is) h rising =
    sorted_append access_order old (one ∷ []) rising
    (sorted_cons access_order one [] (λ y c. absurd (none_in y c)) (sorted_none access_order))
    (λ y z c k. ⊎_elim
    (λ same. subst (λ x. access_order y x ≡ Less) same (before ones n y one up at (h.each y c).0))
    (λ none. absurd (none_in z none))
    (first_or_later one z [] k))
one_rises d others ones n one old _ up at (drops is) h rising = rising

pub left_more : (d : Targets) (others ones : List Access) (n to : ℕ) (one : Access) (old new : List Access)
    → IsStrictlySortedBy access_order ones → slice_get ones n ≡ Some one → Leaves d one old new → AreSo (IsIdle others) ones (n + 1) to
    → Collected d others ones n old → Collected d others ones to new
left_more d others ones n to one old new up at leaves so h = record {
  there = so.there;
  left = left_on d others ones (n + 1) to new so (one_more d others ones n one old new at leaves h.left);
  rising = one_rises d others ones n one old new up at leaves h.left h.rising;
}

pub left_end : (d : Targets) (others ones : List Access) (n : ℕ) (left : List Access) → length ones ≤ n → Collected d others ones n left
    → AreLeft d others ones (length ones) left
left_end d others ones n left past h =
    let there = h.there in
    let is : n ≡ length ones = omega (arith, past, there) in
    subst (λ k. AreLeft d others ones k left) is h.left
