use Rattle.fact_rows.specs.Known.{Knows}
use Rattle.least_facts.specs.Growing.{search_of}
use Rattle.least_facts.proofs.Flowing.{no_retrieves, retrieves_good, to_retrieves}
use Rattle.least_facts.proofs.finding.flow_retrieves.Goals as goal

pub flow_all-requires-clause-good : goal.flow_all-requires-clause-good
flow_all-requires-clause-good c = retrieves_good c.args.setting.now.exchange.now c.args.setting.now.table.now
    c.args.setting.now.answers.now c.args.setting.now.entry c.args.point c.args.how.now c.args.answer
    c.requires.setting.table c.in-Some.points.now c.as_slice-ends.result.now c.in-Some.ensures c.as_slice-ends.ensures
    c.requires.good

pub returns-in_ok-more-in-Some : goal.returns-in_ok-more-in-Some
returns-in_ok-more-in-Some c = to_retrieves c.args.setting.now.exchange.now c.args.setting.now.table.now
    c.args.setting.now.answers.now c.args.setting.now.entry c.args.point c.args.how.now c.args.answer
    c.requires.setting.table (Knows c.args.rows.now) c.in-Some.points.now c.as_slice-ends.result.now
    (search_of c.args.rows.now c.args.marked.now) (search_of c.flow_all.new.rows c.flow_all.new.marked)
    c.in-Some.ensures c.as_slice-ends.ensures c.in_ok-more-in-Some.ensures

pub returns-in-None : goal.returns-in-None
returns-in-None c = no_retrieves c.args.setting.now.exchange.now c.args.setting.now.table.now
    c.args.setting.now.answers.now c.args.setting.now.entry c.args.point c.args.how.now c.args.answer
    c.requires.setting.table c.kept.ensures c.requires.setting.answers (Knows c.args.rows.now)
    (search_of c.args.rows.now c.args.marked.now) c.requires.stands c.in-None.ensures
