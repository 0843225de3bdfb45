use Rattle.std.proofs.Common.{sym}
use Rattle.fact_rows.specs.Known.{Knows}
use Rattle.least_facts.specs.Growing.{WaySends, search_of}
use Rattle.least_facts.proofs.Flowing.{sends_more}
use Rattle.least_facts.proofs.Growing.{went_begin, went_end, went_item}
use Rattle.least_facts.proofs.finding.send_ways.Goals as goal

pub loop-way-init : goal.loop-way-init
loop-way-init c = went_begin c.args.setting.now.exchange.now c.args.setting.now.table.now c.args.setting.now.answers.now
    c.args.setting.now.entry (WaySends c.args.setting.now.exchange.now c.args.marked.now.firsts.items
    (Knows c.args.rows.now) c.args.setting.now.entry c.args.point) c.args.ways.now
    (search_of c.args.rows.now c.args.marked.now) c.requires.stands

pub send-requires-clause-stands : goal.send-requires-clause-stands
send-requires-clause-stands c = c.loop-way.invariant.goes.stands

pub send-requires-clause-good : goal.send-requires-clause-good
send-requires-clause-good c = c.requires.good c.way-item.result (c.loop-way.way-index, c.loop-way-test.true, sym c.way-item.is)

pub loop-way-preserved : goal.loop-way-preserved
loop-way-preserved c =
    went_item c.args.setting.now.exchange.now c.args.setting.now.table.now c.args.setting.now.answers.now
    c.args.setting.now.entry (WaySends c.args.setting.now.exchange.now c.args.marked.now.firsts.items
    (Knows c.args.rows.now) c.args.setting.now.entry c.args.point) _ c.args.ways.now c.loop-way.way-index
    c.way-item.result (search_of c.args.rows.now c.args.marked.now) (search_of c.loop-way.rows c.loop-way.marked)
    (search_of c.send.new.rows c.send.new.marked) c.loop-way-test.true c.way-item.is
    (λ f h. sends_more c.args.setting.now.exchange.now c.args.setting.now.table.now c.args.setting.now.answers.now
    c.args.setting.now.entry c.args.point (search_of c.args.rows.now c.args.marked.now)
    (search_of c.loop-way.rows c.loop-way.marked) c.loop-way.invariant.goes c.way-item.result f h)
    c.in_ok-more.ensures c.loop-way.invariant

pub returns : goal.returns
returns c = went_end c.args.setting.now.exchange.now c.args.setting.now.table.now c.args.setting.now.answers.now
    c.args.setting.now.entry (WaySends c.args.setting.now.exchange.now c.args.marked.now.firsts.items
    (Knows c.args.rows.now) c.args.setting.now.entry c.args.point) c.args.ways.now c.loop-way.way-index
    (search_of c.args.rows.now c.args.marked.now) (search_of c.loop-way.rows c.loop-way.marked) c.loop-way-test.false
    c.loop-way.invariant
