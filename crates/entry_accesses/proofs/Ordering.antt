-- Accesses in order, each once.
use Rattle.std.proofs.Common.{◌≡◌, ◌↔◌, Bool, true, List, sym, ◌∙◌, subst, rules, IsPermutation}
use Rattle.std.proofs.Common.{IsSorted}
use Rattle.std.specs.List.{Contains, dedup}
use Rattle.std.specs.List.Sorted.{IsStrictlySortedBy}
use Rattle.std.proofs.lemmas.List.Kept.{IsStrictlySortedBy-dedup}
use Rattle.entry_summary.specs.declared.summary.Access.{Access}
use Rattle.entry_summary.specs.contracts.summary.AccessPartialEq.TheImpl as equal
use Rattle.entry_summary.specs.contracts.summary.AccessEq.TheImpl.Laws as equal_laws
use Rattle.entry_summary.specs.contracts.summary.AccessOrd.TheImpl.Laws as order_laws
use Rattle.entry_summary.specs.Orders.{access_order}
use Rattle.entry_summary.proofs.Sorting.{same_items}
use Rattle.entry_accesses.specs.declared.uses.Use.{Use}
use Rattle.entry_accesses.specs.contracts.uses.UsePartialEq.TheImpl as use_equal
use Rattle.entry_accesses.specs.contracts.uses.UseEq.TheImpl.Laws as use_laws

abbrev pub alike : Access → Access → Bool
alike = equal.ghosts.eq

same_access : (a b : Access) → alike a b ≡ true → a ≡ b
same_access a b is = search (rules, is)

pub sorted_rising : (sorted new result : List Access) → IsSorted access_order sorted → new ≡ dedup alike sorted
    → result ≡ new → IsStrictlySortedBy access_order result
sorted_rising sorted new result h is same = subst (IsStrictlySortedBy access_order) (sym (same ∙ is))
    (IsStrictlySortedBy-dedup order_laws.total-law order_laws.matches_eq-law sorted h)

pub same_accesses : (found items sorted new result : List Access) → items ≡ found → IsPermutation items sorted
    → new ≡ dedup alike sorted → result ≡ new → (a : Access) → Contains result a ↔ Contains found a
same_accesses = same_items alike equal_laws.laws-law same_access

-- uses, each once

abbrev pub alike_uses : Use → Use → Bool
alike_uses = use_equal.ghosts.eq

same_use : (u v : Use) → alike_uses u v ≡ true → u ≡ v
same_use u v is = search (rules, is)

pub same_uses : (found items sorted new result : List Use) → items ≡ found → IsPermutation items sorted
    → new ≡ dedup alike_uses sorted → result ≡ new → (u : Use) → Contains result u ↔ Contains found u
same_uses = same_items alike_uses use_laws.laws-law same_use
