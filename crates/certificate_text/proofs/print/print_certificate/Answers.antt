use Rattle.certificate_text.proofs.Printed.{certificate_written}
use Rattle.certificate_text.proofs.print.print_certificate.Goals as goal

pub returns : goal.returns
returns c =
    certificate_written c.args.certificate.now c.as_slice.result.now c.new-text.result c.print_head.new.text
    c.print_facts.new.text c.print_end.new.text c.as_slice.ensures c.new-text.ensures c.in_ok-print_head.ensures
    c.in_ok-print_facts.ensures c.in_ok-print_end.ensures
