use Rattle.access_summary.proofs.Summed.{SummariesGo, WorkGoes}
use Rattle.least_facts.specs.Least.{IsFor}
use Rattle.access_summary.proofs.least.summaries_within.Given as goal

abbrev pub invariant-loop-entry : goal.invariant-loop-entry
invariant-loop-entry l = SummariesGo l.exchange l.entry l.summaries × IsFor l.exchange l.table l.analyser × WorkGoes l.exchange l.entry l.before
