use Rattle.certificate_text.proofs.Stated.{no_first_line, no_second_line, two_lines}
use Rattle.certificate_text.proofs.read.read_text.Goals as goal

pub returns-in_default : goal.returns-in_default
returns-in_default c = no_first_line c.args.text.now c.in_default.ensures

pub returns-in_default-shape : goal.returns-in_default-shape
returns-in_default-shape c = no_second_line c.args.text.now c.in-Some.rest.now c.in-Some.version c.in-Some.ensures c.in_default-shape.ensures

pub read_facts-requires-clause-begun : goal.read_facts-requires-clause-begun
read_facts-requires-clause-begun c = two_lines c.args.text.now c.in-Some.rest.now c.in-Some-shape.rest.now
    c.in-Some.version c.in-Some-shape.shape c.in-Some.ensures c.in-Some-shape.ensures
