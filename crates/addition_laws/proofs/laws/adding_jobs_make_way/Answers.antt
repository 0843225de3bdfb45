use Rattle.addition_laws.proofs.Passing.{makes_way}
use Rattle.addition_laws.proofs.laws.adding_jobs_make_way.Goals as goal

pub returns : goal.returns
returns c = λ x facts first later a b kept closed told other is_job passes. makes_way x facts kept closed first later a b told other is_job passes
