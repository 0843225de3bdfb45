use Rattle.conflicts_text.proofs.Lining.{point_written}
use Rattle.conflicts_text.proofs.lines.add_point.Goals as goal

pub returns : goal.returns
returns c =
    point_written c.args.exchange.now c.args.entry c.args.row.now c.line_at.result c.args.text.now c.add_number.new.text
    c.add_number-2.new.text c.add_short.new.text c.add_short-2.new.text c.append.new.self
    c.line_at.ensures c.in_ok-add_number.ensures c.in_ok-add_number-2.ensures c.in_ok-add_short.ensures c.in_ok-add_short-2.ensures c.in_ok-append.ensures
