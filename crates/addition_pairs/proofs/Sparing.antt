-- Summaries without their accesses to listed variables and fields.
use Rattle.std.proofs.Common.{◌≡◌, ◌↔◌, ℕ, Bool, true, false, not, nat_eq, List, filter, refl, sym}
use Rattle.std.proofs.Common.{ap, ◌∙◌, subst, IsTrue}
use Rattle.std.specs.List.{Contains}
use Rattle.std.specs.List.Sorted.{IsStrictlySortedBy}
use Rattle.std.specs.Ordering.{nat_cmp}
use Rattle.std.proofs.lemmas.Bool.{eq-eqb, true≢false}
use Rattle.std.proofs.lemmas.List.Kept.{IsStrictlySortedBy-filter}
use Rattle.std.proofs.lemmas.Map.Keys.{any_passes_from_place}
use Rattle.plex_num.proofs.Members.{found_in, in_filter}
use Rattle.entry_summary.specs.declared.summary.Access.{Access}
use Rattle.entry_summary.specs.declared.summary.Access.TheVariants.{Variable, Field, Own, Seizes}
use Rattle.entry_summary.specs.declared.summary.Access.TheVariants.{Frees}
use Rattle.entry_summary.specs.declared.summary.Summary.{Summary}
use Rattle.entry_summary.specs.Orders.{access_order}
use Rattle.conflict_rows.proofs.Alone.{stands_at}
use Rattle.additions_meaning.specs.Additions.{Targets}
use Rattle.additions_meaning.specs.Sparing.{IsSpared, IsSparing}
use Rattle.entry_additions.proofs.Kept.{kept_only}
use Rattle.addition_pairs.specs.Adding.{AreSparing}
use Rattle.addition_pairs.specs.Sparing.{HasBoth, is_in, is_kept}

none_is : (b : Bool) → (b ≡ true → ⊥) → not b ≡ true
none_is true none = absurd (none refl)
none_is false none = refl

-- a number among others

pub in_list : (numbers : List ℕ) (n : ℕ) → Contains numbers n → is_in numbers n ≡ true
in_list numbers n c = (let at = stands_at numbers n c in any_passes_from_place (nat_eq n) numbers at.0 n at.1 (eq-eqb n n refl))

pub is_in_by : (numbers : List ℕ) (n : ℕ) (b : Bool) → (IsTrue b ↔ Contains numbers n) → b ≡ is_in numbers n
is_in_by numbers n true same = sym (in_list numbers n (same.0 refl))
is_in_by numbers n false same = by (is_in numbers n) refl
  where
    by : (t : Bool) → is_in numbers n ≡ t → false ≡ t
    by true is = same.1 (found_in n numbers is)
    by false is = refl

-- the numbers of both

pub both : (first later items : List ℕ) → items ≡ filter (is_in later) first → HasBoth first later items
both first later items is n = (
  (λ c. (let k = kept_only (is_in later) first n (subst (λ l. Contains l n) is c) in (k.0, found_in n later k.1))),
  (λ two. subst (λ l. Contains l n) (sym is) (in_filter (is_in later) first n (in_list later n two.1) two.0)),
)

pub both_rising : (first later items : List ℕ) → IsStrictlySortedBy nat_cmp first → items ≡ filter (is_in later) first → IsStrictlySortedBy nat_cmp items
both_rising first later items up is = subst (IsStrictlySortedBy nat_cmp) (sym is) (IsStrictlySortedBy-filter nat_cmp (is_in later) first up)

pub both_of : (first later taken given items : List ℕ) → taken ≡ first → given ≡ later → HasBoth taken given items → HasBoth first later items
both_of first later taken given items one other h = subst (λ l. HasBoth first l items) other (subst (λ l. HasBoth l given items) one h)

-- accesses that stay

pub kept_stays : (d : Targets) (a : Access) → (IsSpared d a → ⊥) → is_kept d a ≡ true
kept_stays d (Variable write n) none = none_is (is_in d.variables n) (λ is. none (found_in n d.variables is))
kept_stays d (Field write n v) none = none_is (is_in d.fields n) (λ is. none (found_in n d.fields is))
kept_stays d (Own write n) none = refl
kept_stays d (Seizes file) none = refl
kept_stays d (Frees file) none = refl

pub stays_kept : (d : Targets) (a : Access) → is_kept d a ≡ true → IsSpared d a → ⊥
stays_kept d (Variable write n) is c = true≢false (sym is ∙ ap not (in_list d.variables n c))
stays_kept d (Field write n v) is c = true≢false (sym is ∙ ap not (in_list d.fields n c))
stays_kept d (Own write n) is c = c
stays_kept d (Seizes file) is c = c
stays_kept d (Frees file) is c = c

is_sparing : (d : Targets) (m n : Summary) → n.level ≡ m.level → n.accesses ≡ filter (is_kept d) m.accesses
    → n.levels ≡ m.levels → n.fault ≡ m.fault → IsSparing d m n
is_sparing d m n level accesses levels fault = record {
  level = level;
  accesses = λ a. (
    (λ c. (let k = kept_only (is_kept d) m.accesses a (subst (λ l. Contains l a) accesses c) in (k.0, stays_kept d a k.1))),
    (λ h. subst (λ l. Contains l a) (sym accesses) (in_filter (is_kept d) m.accesses a (kept_stays d a h.1) h.0)),
  );
  levels = levels;
  fault = fault;
}

-- there is such a summary

pub spared : Targets → Summary → Summary
spared d m = record {
  level = m.level;
  accesses = filter (is_kept d) m.accesses;
  levels = m.levels;
  fault = m.fault;
  rising = IsStrictlySortedBy-filter access_order (is_kept d) m.accesses m.rising;
  levels_rising = m.levels_rising;
}

pub spares : (d : Targets) (m : Summary) → IsSparing d m (spared d m)
unfolding spared
spares d m = is_sparing d m (spared d m) refl refl refl refl

abbrev pub of_both : Targets → Targets → Targets
of_both d e = record { variables = filter (is_in e.variables) d.variables; fields = filter (is_in e.fields) d.fields }

pub are_sparing : (first later : Summary) (d e : Targets) → AreSparing first later d e (spared (of_both d e) first) (spared (of_both d e) later)
are_sparing first later d e = record {
  shared = of_both d e;
  are = record { variables = both d.variables e.variables (of_both d e).variables refl; fields = both d.fields e.fields (of_both d e).fields refl };
  of_first = spares (of_both d e) first;
  of_later = spares (of_both d e) later;
}
