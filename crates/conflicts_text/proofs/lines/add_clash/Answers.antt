use Rattle.conflicts_text.proofs.Lining.{clash_written}
use Rattle.conflicts_text.proofs.lines.add_clash.Goals as goal

pub returns : goal.returns
returns c =
    clash_written c.args.pair c.args.row.now c.args.text.now c.add_number.new.text c.add_number-2.new.text
    c.add_number-3.new.text c.add_later.new.text c.append.new.self
    c.in_ok-add_number.ensures c.in_ok-add_number-2.ensures c.in_ok-add_number-3.ensures c.in_ok-add_later.ensures c.in_ok-append.ensures
