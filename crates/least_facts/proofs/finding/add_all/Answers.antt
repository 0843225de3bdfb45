use Rattle.answer_table.specs.Answers.{IsFact}
use Rattle.least_facts.specs.Growing.{search_of}
use Rattle.least_facts.proofs.Filling.{item_there}
use Rattle.least_facts.proofs.Growing.{facts_all, went_begin, went_more}
use Rattle.least_facts.proofs.finding.add_all.Goals as goal

pub loop-fact-init : goal.loop-fact-init
loop-fact-init c = went_begin c.args.setting.now.exchange.now c.args.setting.now.table.now
    c.args.setting.now.answers.now c.args.setting.now.entry IsFact c.args.facts.now
    (search_of c.args.rows.now c.args.marked.now) c.requires.stands

pub add-requires-clause-stands : goal.add-requires-clause-stands
add-requires-clause-stands c = c.loop-fact.invariant.goes.stands

pub add-requires-clause-least : goal.add-requires-clause-least
add-requires-clause-least c = c.requires.least _ (item_there c.args.facts.now c.loop-fact.fact-index _ c.loop-fact-test.true)

pub loop-fact-preserved : goal.loop-fact-preserved
loop-fact-preserved c = went_more c.args.setting.now.exchange.now c.args.setting.now.table.now
    c.args.setting.now.answers.now c.args.setting.now.entry IsFact _ c.args.facts.now c.loop-fact.fact-index _
    (search_of c.args.rows.now c.args.marked.now) (search_of c.loop-fact.rows c.loop-fact.marked)
    (search_of c.add.new.rows c.add.new.marked) c.loop-fact-test.true (λ f h. h) c.in_ok-add.ensures
    c.loop-fact.invariant

pub returns : goal.returns
returns c = facts_all c.args.setting.now.exchange.now c.args.setting.now.table.now c.args.setting.now.answers.now
    c.args.setting.now.entry c.args.facts.now c.loop-fact.fact-index (search_of c.args.rows.now c.args.marked.now)
    (search_of c.loop-fact.rows c.loop-fact.marked) c.loop-fact-test.false c.loop-fact.invariant
