use Rattle.analysis_text.proofs.Turns.{row_begin, row_end, row_more}
use Rattle.analysis_text.proofs.pairs.add_row.Goals as goal

pub loop-other-init : goal.loop-other-init
loop-other-init c = (row_begin c.args.names.now c.args.summaries.now c.args.number c.args.text.now c.requires.number, c.requires.told)

pub loop-other-preserved : goal.loop-other-preserved
loop-other-preserved c = (
  row_more c.args.names.now c.args.summaries.now c.args.number c.loop-other.other c.in_ok-pair.pair c.args.text.now c.loop-other.text c.add_told.new.text
      c.in_ok-pair.ensures.pair c.in_ok-add_told.ensures c.loop-other.invariant.0,
  c.keep.ensures c.args.summaries.now c.in_ok-pair.ensures.kept c.in_ok-pair.ensures.pair.told,
)

pub returns-clause-row : goal.returns-clause-row
returns-clause-row c =
    row_end c.args.names.now c.args.summaries.now c.args.number c.loop-other.other c.len-other-end.result c.args.text.now c.loop-other.text
    c.len-other-end.ensures c.loop-other.auto.other-end c.loop-other-test.false c.loop-other.invariant.0
