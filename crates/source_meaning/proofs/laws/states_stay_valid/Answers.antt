use Rattle.source_meaning.proofs.Arriving.{arrivals_valid}
use Rattle.source_meaning.proofs.Opening.{opening_valid}
use Rattle.source_meaning.proofs.Retiring.{after_valid, begun_valid, fits_begun, retires_valid}
use Rattle.source_meaning.proofs.Retiring.{start_fits}
use Rattle.source_meaning.proofs.laws.states_stay_valid.Goals as goal

pub returns-clause-opening : goal.returns-clause-opening
returns-clause-opening c = λ x lines kept fits. opening_valid x kept lines fits

pub returns-clause-arrival : goal.returns-clause-arrival
returns-clause-arrival c = arrivals_valid

pub returns-clause-start : goal.returns-clause-start
returns-clause-start c = start_fits

pub returns-clause-begun : goal.returns-clause-begun
returns-clause-begun c = λ x s start v fits. (begun_valid x s v, fits_begun x s start fits)

pub returns-clause-retired : goal.returns-clause-retired
returns-clause-retired c = λ x s start kept v fits. retires_valid x kept s v start fits

pub returns-clause-later : goal.returns-clause-later
returns-clause-later c = λ x s n kept v. after_valid x kept s n v
