use Rattle.access_summary.proofs.Summed.{FactsGo}
use Rattle.least_facts.specs.Least.{IsFor}
use Rattle.access_summary.proofs.least.least_facts.Given as goal

abbrev pub invariant-loop-entry : goal.invariant-loop-entry
invariant-loop-entry l = FactsGo l.exchange l.entry l.facts × IsFor l.exchange l.table l.analyser
