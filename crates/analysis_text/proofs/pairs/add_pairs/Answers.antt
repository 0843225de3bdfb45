use Rattle.std.proofs.Common.{length}
use Rattle.analysis_text.specs.Pairs.{IsTextOfFirst}
use Rattle.analysis_text.proofs.Turns.{grown_end, turns_begin, turns_more, turns_end}
use Rattle.analysis_text.proofs.pairs.add_pairs.Goals as goal

pub loop-number-init : goal.loop-number-init
loop-number-init c = (turns_begin (IsTextOfFirst c.args.names.now c.args.summaries.now) c.args.text.now, c.in_ok-told.ensures c.args.summaries.now)

pub loop-number-preserved : goal.loop-number-preserved
loop-number-preserved c =
    let row =
    grown_end (IsTextOfFirst c.args.names.now c.args.summaries.now c.loop-number.number) c.loop-number.text
    c.take_end-end.new.self c.take_end-end.result c.add_row.new.text c.put.new.self
    c.take_end-end.ensures c.in_ok-add_row.ensures.row c.in_ok-put.ensures in (
      turns_more (IsTextOfFirst c.args.names.now c.args.summaries.now) c.loop-number.number c.args.text.now
          c.loop-number.text c.put.new.self c.loop-number.invariant.0 row,
      c.in_ok-add_row.ensures.told,
    )

pub returns : goal.returns
returns c =
    turns_end (IsTextOfFirst c.args.names.now c.args.summaries.now) c.loop-number.number c.len-number-end.result
    (length c.args.summaries.now) c.args.text.now c.loop-number.text
    c.len-number-end.ensures c.loop-number.auto.number-end c.loop-number-test.false c.loop-number.invariant.0
