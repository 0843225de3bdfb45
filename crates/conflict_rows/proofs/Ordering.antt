-- Rows in order, each once.
use Rattle.std.proofs.Common.{◌≡◌, ◌↔◌, Bool, true, List, sym, ap, ◌∙◌, subst, rules, IsPermutation}
use Rattle.std.proofs.Common.{IsSorted}
use Rattle.std.specs.List.{Contains, dedup}
use Rattle.std.specs.List.Sorted.{IsStrictlySortedBy}
use Rattle.std.specs.Ordering.{is_eq}
use Rattle.std.specs.declared.cmp.Ordering.TheVariants.{Equal}
use Rattle.std.proofs.lemmas.List.Kept.{IsStrictlySortedBy-dedup}
use Rattle.entry_summary.proofs.Sorting.{same_items}
use Rattle.conflicts_meaning.specs.declared.rows.ClashRow.{ClashRow}
use Rattle.conflicts_meaning.specs.contracts.rows.ClashRowPartialEq.TheImpl as equal
use Rattle.conflicts_meaning.specs.contracts.rows.ClashRowEq.TheImpl.Laws as equal_laws
use Rattle.conflicts_meaning.specs.contracts.rows.ClashRowOrd.TheImpl.Laws as order_laws
use Rattle.conflicts_meaning.specs.Rows.{row_order}

abbrev pub alike : ClashRow → ClashRow → Bool
alike = equal.ghosts.eq

same_row : (a b : ClashRow) → alike a b ≡ true → a ≡ b
same_row a b is = search (rules, is)

pub row_tied : (a b : ClashRow) → row_order a b ≡ Equal → a ≡ b
row_tied a b tied = same_row a b (order_laws.matches_eq-law a b ∙ ap is_eq tied)

pub sorted_rising : (sorted new result : List ClashRow) → IsSorted row_order sorted → new ≡ dedup alike sorted
    → result ≡ new → IsStrictlySortedBy row_order result
sorted_rising sorted new result h is same = subst (IsStrictlySortedBy row_order) (sym (same ∙ is))
    (IsStrictlySortedBy-dedup order_laws.total-law order_laws.matches_eq-law sorted h)

pub same_rows : (found items sorted new result : List ClashRow) → items ≡ found → IsPermutation items sorted
    → new ≡ dedup alike sorted → result ≡ new → (r : ClashRow) → Contains result r ↔ Contains found r
same_rows = same_items alike equal_laws.laws-law same_row
