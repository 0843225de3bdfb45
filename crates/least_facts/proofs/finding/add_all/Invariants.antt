use Rattle.answer_table.specs.Answers.{IsFact}
use Rattle.least_facts.specs.Growing.{search_of}
use Rattle.least_facts.proofs.Growing.{WentAll}
use Rattle.least_facts.proofs.finding.add_all.Given as goal

abbrev pub invariant-loop-fact : goal.invariant-loop-fact
invariant-loop-fact l = WentAll l.setting.exchange.now l.setting.table.now l.setting.answers.now l.setting.entry IsFact
    l.facts l.fact-index (search_of l.fn.rows l.fn.marked) (search_of l.rows l.marked)
