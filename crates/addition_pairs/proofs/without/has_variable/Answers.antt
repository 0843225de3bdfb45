use Rattle.std.proofs.Common.{sym, subst}
use Rattle.std.specs.List.Sorted.{IsStrictlySortedBy}
use Rattle.std.specs.Ordering.{nat_cmp}
use Rattle.addition_pairs.proofs.without.has_variable.Goals as goal

pub is_in-requires : goal.is_in-requires
is_in-requires c = subst (IsStrictlySortedBy nat_cmp) (sym c.as_slice.ensures) c.requires.variables
