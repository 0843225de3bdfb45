use Rattle.least_facts.specs.Least.{IsFor}
use Rattle.additions_text.specs.Lists.{AreLists}
use Rattle.additions_text.proofs.lists.lists_of.Given as goal

abbrev pub invariant-loop-number : goal.invariant-loop-number
invariant-loop-number l = AreLists l.means.exchange.now l.asked l.number l.lists × IsFor l.means.exchange.now l.means.table.now l.analyser
