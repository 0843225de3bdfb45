use Rattle.certificate_text.proofs.Printed.{shape_written}
use Rattle.certificate_text.proofs.print.add_shape.Goals as goal

pub returns : goal.returns
returns c =
    shape_written c.args.shape c.args.text.now c.add_number.new.text c.add_number-2.new.text c.add_number-3.new.text
    c.add_number-4.new.text c.add_number-5.new.text c.add_number-6.new.text c.append.new.self
    c.in_ok-add_number.ensures c.in_ok-add_number-2.ensures c.in_ok-add_number-3.ensures
    c.in_ok-add_number-4.ensures c.in_ok-add_number-5.ensures c.in_ok-add_number-6.ensures c.in_ok-append.ensures
