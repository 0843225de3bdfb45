use Rattle.progress_laws.proofs.Going.{over_stops}
use Rattle.progress_laws.proofs.Reaching.{goes_on, safe}
use Rattle.progress_laws.proofs.laws.some_event_is_allowed.Goals as goal

pub returns-clause-goes_on : goal.returns-clause-goes_on
returns-clause-goes_on c = goes_on

pub returns-clause-over : goal.returns-clause-over
returns-clause-over c = over_stops

pub returns-clause-safe : goal.returns-clause-safe
returns-clause-safe c = safe
