use Rattle.fact_flows.specs.Flows.{FlowsTo}
use Rattle.fact_rows.specs.Known.{Knows}
use Rattle.least_facts.specs.Growing.{search_of}
use Rattle.least_facts.proofs.Filling.{flows_more, item_there}
use Rattle.least_facts.proofs.Growing.{went_begin, went_end, went_more}
use Rattle.least_facts.proofs.finding.flow_all.Goals as goal

pub loop-to-init : goal.loop-to-init
loop-to-init c = went_begin c.args.setting.now.exchange.now c.args.setting.now.table.now c.args.setting.now.answers.now
    c.args.setting.now.entry (FlowsTo c.args.setting.now.exchange.now (Knows c.args.rows.now) c.args.setting.now.entry
    c.args.point c.args.how.now) c.args.ends.now (search_of c.args.rows.now c.args.marked.now) c.requires.stands

pub flow-requires-clause-stands : goal.flow-requires-clause-stands
flow-requires-clause-stands c = c.loop-to.invariant.goes.stands

pub flow-requires-clause-good : goal.flow-requires-clause-good
flow-requires-clause-good c = c.requires.good _ (item_there c.args.ends.now c.loop-to.to-index _ c.loop-to-test.true)

pub loop-to-preserved : goal.loop-to-preserved
loop-to-preserved c =
    went_more c.args.setting.now.exchange.now c.args.setting.now.table.now c.args.setting.now.answers.now
    c.args.setting.now.entry (FlowsTo c.args.setting.now.exchange.now (Knows c.args.rows.now)
    c.args.setting.now.entry c.args.point c.args.how.now) _ c.args.ends.now c.loop-to.to-index _
    (search_of c.args.rows.now c.args.marked.now) (search_of c.loop-to.rows c.loop-to.marked)
    (search_of c.flow.new.rows c.flow.new.marked) c.loop-to-test.true
    (λ f h. flows_more c.args.setting.now.exchange.now (Knows c.args.rows.now) (Knows c.loop-to.rows)
    c.args.setting.now.entry c.args.point c.args.how.now _ f c.loop-to.invariant.goes.more h) c.in_ok-more.ensures
    c.loop-to.invariant

pub returns : goal.returns
returns c = went_end c.args.setting.now.exchange.now c.args.setting.now.table.now c.args.setting.now.answers.now
    c.args.setting.now.entry (FlowsTo c.args.setting.now.exchange.now (Knows c.args.rows.now) c.args.setting.now.entry
    c.args.point c.args.how.now) c.args.ends.now c.loop-to.to-index (search_of c.args.rows.now c.args.marked.now)
    (search_of c.loop-to.rows c.loop-to.marked) c.loop-to-test.false c.loop-to.invariant
