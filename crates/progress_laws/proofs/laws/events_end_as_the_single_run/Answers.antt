use Rattle.progress_laws.proofs.Reaching.{ends, exact, leads}
use Rattle.progress_laws.proofs.laws.events_end_as_the_single_run.Goals as goal

pub returns-clause-ends : goal.returns-clause-ends
returns-clause-ends c = ends

pub returns-clause-exact : goal.returns-clause-exact
returns-clause-exact c = λ k b words events core instructions reached none made. exact k b words events core reached instructions made none

pub returns-clause-comes : goal.returns-clause-comes
returns-clause-comes c = leads
