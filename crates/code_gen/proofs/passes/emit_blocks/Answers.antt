use Rattle.std.proofs.Common.{rules, ◌≡◌, refl}
use Rattle.std.proofs.lemmas.Grind.{common_steps}
use Rattle.code_gen.specs.declared.setting.Setting.{Setting}
use Rattle.code_gen.proofs.PassSteps.{pass_begin, pass_more, text_in}
use Rattle.code_gen.proofs.passes.emit_blocks.Goals as goal

pub loop-number-init : goal.loop-number-init
loop-number-init c = pass_begin c.args.exchange.now c.args.addresses.now c.new-ops.result c.new-blocks.result c.new-ops.ensures c.new-blocks.ensures

pub emit_text-requires : goal.emit_text-requires
emit_text-requires c =
    let at : Setting = record { exchange = c.args.exchange; layout = c.args.layout; addresses = c.args.addresses; block = c.loop-number.number } in
    let from : c.as_slice-block-items.result.now ≡ c.args.exchange.now.blocks = search (rules, common_steps) in
    text_in at c.args.exchange.now c.as_slice-block-items.result.now c.loop-number.number c.block-item.result
    c.kept.ensures c.requires from c.loop-number-test.true c.block-item.is refl refl

pub loop-number-preserved : goal.loop-number-preserved
loop-number-preserved c =
    let at : Setting = record { exchange = c.args.exchange; layout = c.args.layout; addresses = c.args.addresses; block = c.loop-number.number } in
    let from : c.as_slice-block-items.result.now ≡ c.args.exchange.now.blocks = search (rules, common_steps) in
    pass_more c.args.exchange.now c.args.addresses.now at c.as_slice-block-items.result.now c.loop-number.number
    c.block-item.result c.loop-number.ops c.emit_text.new.ops c.loop-number.blocks c.push.new.self
    c.in_ok-places.places from c.loop-number-test.true c.block-item.is refl refl refl c.in_ok-places.ensures.code
    c.in_ok-places.ensures.places c.in_ok-push.ensures c.loop-number.invariant
