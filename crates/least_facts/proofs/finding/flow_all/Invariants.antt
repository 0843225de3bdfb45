use Rattle.fact_flows.specs.Flows.{FlowsTo}
use Rattle.fact_rows.specs.Known.{Knows}
use Rattle.least_facts.specs.Growing.{search_of}
use Rattle.least_facts.proofs.Growing.{WentAll}
use Rattle.least_facts.proofs.finding.flow_all.Given as goal

abbrev pub invariant-loop-to : goal.invariant-loop-to
invariant-loop-to l = WentAll l.setting.exchange.now l.setting.table.now l.setting.answers.now l.setting.entry
    (FlowsTo l.setting.exchange.now (Knows l.fn.rows) l.setting.entry l.point l.how) l.ends l.to-index
    (search_of l.fn.rows l.fn.marked) (search_of l.rows l.marked)
