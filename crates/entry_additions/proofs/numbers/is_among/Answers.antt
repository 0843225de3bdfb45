use Rattle.std.proofs.Common.{refl, subst}
use Rattle.std.specs.List.Sorted.{IsBinarySearchResult}
use Rattle.std.specs.Ordering.{nat_cmp}
use Rattle.entry_additions.proofs.Searched.{is_found, is_missing}
use Rattle.entry_additions.proofs.numbers.is_among.Goals as goal

pub returns-in-Ok : goal.returns-in-Ok
returns-in-Ok c = (
  λ t. is_found c.args.numbers.now c.requires c.args.number c.in-Ok.field-0
      (subst (λ r. IsBinarySearchResult (λ y. nat_cmp y c.args.number) c.args.numbers.now r) c.in-Ok.is
      c.binary_search.ensures.position),
  λ there. refl,
)

pub returns-in-Err : goal.returns-in-Err
returns-in-Err c = (
  λ t. cc,
  λ there. absurd (is_missing c.args.numbers.now c.requires c.args.number c.in-Err.field-0
      (subst (λ r. IsBinarySearchResult (λ y. nat_cmp y c.args.number) c.args.numbers.now r) c.in-Err.is
      c.binary_search.ensures.position) there),
)
