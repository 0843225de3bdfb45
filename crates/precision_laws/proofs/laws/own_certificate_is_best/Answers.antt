use Rattle.precision_laws.proofs.Owning.{accepted_checked, conflicts_stay, jobs_pass, never_stays}
use Rattle.precision_laws.proofs.Owning.{pairs_pass, tests_stay}
use Rattle.precision_laws.proofs.laws.own_certificate_is_best.Goals as goal

pub returns-clause-accepted : goal.returns-clause-accepted
returns-clause-accepted c = accepted_checked

pub returns-clause-jobs : goal.returns-clause-jobs
returns-clause-jobs c = λ x k own a b by are p. jobs_pass x k own by are a b p

pub returns-clause-pairs : goal.returns-clause-pairs
returns-clause-pairs c = λ x k own first later by are p. pairs_pass x k own by are first later p

pub returns-clause-never : goal.returns-clause-never
returns-clause-never c = λ x k own first later d v by are p q. never_stays x k own by are first later d v p q

pub returns-clause-conflicts : goal.returns-clause-conflicts
returns-clause-conflicts c = λ x k own first later d by are p. conflicts_stay x k own by are first later d p

pub returns-clause-tests : goal.returns-clause-tests
returns-clause-tests c = λ x k own first later t by are p. tests_stay x k own by are first later t p
