use Rattle.certificate.proofs.Told.{text_begin, text_end, text_more}
use Rattle.certificate.proofs.certified_text.text_of_certificate.Goals as goal

pub loop-entry-init : goal.loop-entry-init
loop-entry-init c = (
  text_begin c.args.exchange.now c.shape_of-shape.result c.new-head.result c.print_head.new.text
      c.whole-text.result c.shape_of-shape.ensures c.new-head.ensures c.in_ok-print_head.ensures c.whole-text.ensures,
  c.in_ok-analyser.ensures,
)

pub loop-entry-preserved : goal.loop-entry-preserved
loop-entry-preserved c = (
  text_more c.args.exchange.now c.loop-entry.entry c.loop-entry.text c.add_entry.new.text
      c.in_ok-add_entry.ensures.added c.loop-entry.invariant.0,
  c.in_ok-add_entry.ensures.own,
)

pub returns : goal.returns
returns c = text_end c.args.exchange.now c.loop-entry.entry c.shape_of-shape.result.entries c.loop-entry.text
    c.add_end.new.text c.kept.ensures c.shape_of-shape.ensures.entries c.loop-entry-test.false c.in_ok-add_end.ensures
    c.loop-entry.invariant.0
