use Rattle.std.proofs.Common.{◌∙◌, ap}
use Rattle.std.specs.Ordering.{is_lt}
use Rattle.certificate_text.proofs.Orders.{rises_behind, rises_first}
use Rattle.certificate_text.proofs.read.rises.Goals as goal

pub returns-in-Some : goal.returns-in-Some
returns-in-Some c = rises_behind c.args.facts.now c.in-Some.last.now c.args.fact c.is_lt.result c.requires
    c.in-Some.ensures.value (c.is_lt.ensures ∙ ap is_lt c.cmp.ensures)

pub returns-in-None : goal.returns-in-None
returns-in-None c = rises_first c.args.facts.now c.args.fact c.in-None.ensures.value
