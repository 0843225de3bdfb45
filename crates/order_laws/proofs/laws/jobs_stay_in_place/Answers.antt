use Rattle.order_laws.proofs.Placing.{placed_rest, placed_rests, placed_valid}
use Rattle.order_laws.proofs.laws.jobs_stay_in_place.Goals as goal

pub returns-clause-valid : goal.returns-clause-valid
returns-clause-valid c = placed_valid

pub returns-clause-begun : goal.returns-clause-begun
returns-clause-begun c = λ s h. placed_rest s.waiting h

pub returns-clause-all_begun : goal.returns-clause-all_begun
returns-clause-all_begun c = λ js s h. placed_rests js s.waiting h
