use Rattle.std.proofs.Common.{◌≡◌, ◌∙◌, length, ap, refl}
use Rattle.code_gen.specs.Receivers.{arm_code}
use Rattle.code_gen.specs.Unrolled.{some_places}
use Rattle.code_gen.proofs.UnrolledSteps.{look_none, look_some}
use Rattle.code_gen.proofs.unrolled.held_length.Goals as goal

pub returns-in-Some : goal.returns-in-Some
returns-in-Some c =
    let x = c.args.exchange.now in
    let bs = (some_places x).receivers c.args.delivery.now.signal in
    let count : c.from-count.result ≡ length bs = c.from-count.ensures ∙ c.in_ok-number_of.ensures ∙ c.len.ensures ∙ ap length c.in_ok-receivers.ensures in
    look_some bs c.args.delivery.now.values.now (arm_code c.args.delivery.now.arm (some_places x)) c.arm_length.result
    c.from-count.result _ count c.arm_length.ensures.length refl c.in-Some.field-0.now c.in-Some.ensures

pub returns : goal.returns
returns c =
    let x = c.args.exchange.now in
    let bs = (some_places x).receivers c.args.delivery.now.signal in
    let count : c.from-count.result ≡ length bs = c.from-count.ensures ∙ c.in_ok-number_of.ensures ∙ c.len.ensures ∙ ap length c.in_ok-receivers.ensures in
    look_none bs c.args.delivery.now.values.now (arm_code c.args.delivery.now.arm (some_places x)) c.arm_length.result
    c.from-count.result _ count c.arm_length.ensures.length refl c.in-None.ensures
