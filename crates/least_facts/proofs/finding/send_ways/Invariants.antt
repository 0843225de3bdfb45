use Rattle.fact_rows.specs.Known.{Knows}
use Rattle.least_facts.specs.Growing.{WaySends, search_of}
use Rattle.least_facts.proofs.Growing.{WentAll}
use Rattle.least_facts.proofs.finding.send_ways.Given as goal

abbrev pub invariant-loop-way : goal.invariant-loop-way
invariant-loop-way l = WentAll l.setting.exchange.now l.setting.table.now l.setting.answers.now l.setting.entry
    (WaySends l.setting.exchange.now l.fn.marked.firsts.items (Knows l.fn.rows) l.setting.entry l.point) l.ways
    l.way-index (search_of l.fn.rows l.fn.marked) (search_of l.rows l.marked)
