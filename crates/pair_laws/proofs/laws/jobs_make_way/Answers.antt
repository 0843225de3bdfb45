use Rattle.pair_laws.proofs.Joining.{make_way}
use Rattle.pair_laws.proofs.laws.jobs_make_way.Goals as goal

pub returns : goal.returns
returns c = λ x facts first later a b kept closed told other is_job passes. make_way x facts first later a b kept closed told other is_job passes
