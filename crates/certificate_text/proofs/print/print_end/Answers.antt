use Rattle.certificate_text.proofs.print.print_end.Goals as goal

pub returns : goal.returns
returns c = c.in_ok-append.ensures
