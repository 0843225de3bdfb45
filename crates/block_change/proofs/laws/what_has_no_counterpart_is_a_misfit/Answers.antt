use Rattle.block_change.proofs.Fitting.{first_is, none_is}
use Rattle.block_change.proofs.laws.what_has_no_counterpart_is_a_misfit.Goals as goal

pub returns-clause-none : goal.returns-clause-none
returns-clause-none c x y kept = none_is x y kept

pub returns-clause-first : goal.returns-clause-first
returns-clause-first c x y m kept is = first_is x y kept m is
