use Rattle.certificate_text.proofs.Printed.{head_written}
use Rattle.certificate_text.proofs.print.print_head.Goals as goal

pub returns : goal.returns
returns c = head_written c.args.shape c.args.text.now c.append.new.self c.add_shape.new.text c.in_ok-append.ensures c.in_ok-add_shape.ensures
