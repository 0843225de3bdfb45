use Rattle.std.proofs.Common.{◌∙◌, length, refl, sym, subst}
use Rattle.std.specs.List.Sorted.{IsStrictlySortedBy}
use Rattle.entry_summary.specs.Orders.{level_order}
use Rattle.entry_additions.specs.Added.{targets}
use Rattle.addition_pairs.specs.Left.{AreLeft}
use Rattle.addition_pairs.proofs.without.spare.Goals as goal

pub invariant_of-result : goal.invariant_of-result
invariant_of-result c = record {
  rising = c.in_ok-accesses.ensures.rising;
  levels_rising = subst (IsStrictlySortedBy level_order) (sym (c.in_ok-levels.ensures ∙ c.as_slice.ensures)) c.args.summary.now.levels_rising;
}

pub returns : goal.returns
returns c = record {
  level = refl;
  accesses = subst (λ l. AreLeft (targets c.args.spared.now) l c.args.summary.now.accesses (length c.args.summary.now.accesses) c.in_ok-accesses.accesses)
      c.as_slice-others.ensures
      (subst (λ l. AreLeft (targets c.args.spared.now) c.as_slice-others.result.now l (length l) c.in_ok-accesses.accesses) c.as_slice-ones.ensures
      c.in_ok-accesses.ensures.left);
  levels = c.in_ok-levels.ensures ∙ c.as_slice.ensures;
  fault = refl;
}
