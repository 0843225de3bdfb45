use Rattle.source_interpreter.proofs.Places.{place_within}
use Rattle.source_interpreter.proofs.place.place_of.Goals as goal

pub invariant_of-result : goal.invariant_of-result
invariant_of-result c =
    place_within c.args.exchange.now c.args.number
    (record { block = c.in-Some.field-0.block; file = c.in-Some.field-0.file.now; first = c.in-Some.field-0.first })
    c.kept.ensures c.in-Some.ensures
