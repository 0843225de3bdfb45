-- A list that is sorted and then loses its repeats has the same items.
use Rattle.std.proofs.Common.{◌≡◌, ◌↔◌, Bool, true, List, sym, ◌∙◌, subst, IsPermutation}
use Rattle.std.specs.Cmp.{IsEquivalence}
use Rattle.std.specs.List.{Contains, dedup}
use Rattle.std.proofs.lemmas.List.Kept.{Contains-dedup, Contains-from_dedup}
use Rattle.std.proofs.lemmas.List.Sorted.{Contains-permutation, IsPermutation-sym}

pub same_items : {A : Type 0} (alike : A → A → Bool) → IsEquivalence alike → ((a b : A) → alike a b ≡ true → a ≡ b)
    → (found items sorted new result : List A) → items ≡ found → IsPermutation items sorted → new ≡ dedup alike sorted
    → result ≡ new → (a : A) → Contains result a ↔ Contains found a
same_items alike laws one found items sorted new result from moved is same a = (
  λ c. subst (λ l. Contains l a) from (Contains-permutation sorted items a (IsPermutation-sym items sorted moved)
      (Contains-from_dedup alike sorted a (subst (λ l. Contains l a) (same ∙ is) c))),
  λ c. subst (λ l. Contains l a) (sym (same ∙ is))
      (Contains-dedup laws one sorted a (Contains-permutation items sorted a moved
      (subst (λ l. Contains l a) (sym from) c))),
)
