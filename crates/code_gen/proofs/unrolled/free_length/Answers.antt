use Rattle.std.proofs.Common.{refl, ◌∙◌}
use Rattle.code_gen.specs.Settings.{placed_of}
use Rattle.code_gen.proofs.UnrolledSteps.{free_is, free_none}
use Rattle.code_gen.proofs.unrolled.free_length.Goals as goal

pub returns-in_default : goal.returns-in_default
returns-in_default c = free_none c.args.exchange.now c.args.file c.args.temp c.in_default.ensures

pub returns : goal.returns
returns c = free_is c.args.exchange.now c.args.file c.args.temp c.own_length.result c.from.result _
    (placed_of c.in-Some.place) c.in-Some.ensures c.own_length.ensures
    (c.from.ensures ∙ c.in_ok-fields.ensures ∙ c.len.ensures) refl
