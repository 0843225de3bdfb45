use Rattle.std.proofs.Common.{◌∙◌, ap}
use Rattle.stmt_code.specs.Whole.{receivers_from}
use Rattle.code_gen.proofs.ReceiverSteps.{receivers_more}
use Rattle.code_gen.proofs.receivers.receivers_of.Goals as goal

pub loop-number-preserved : goal.loop-number-preserved
loop-number-preserved c =
    receivers_more c.args.exchange.now c.as_slice-block-items.result.now c.loop-number.number c._block-item.result
    c.args.signal c.loop-number.list c.note_receiver.new.list
    (receivers_from 0 c.args.signal c.args.exchange.now.blocks)
    (c.as_slice-block-items.ensures ∙ ap (λ x. x.blocks) c.exchange.view_is) c.loop-number-test.true
    c._block-item.is c.in_ok-note_receiver.ensures c.loop-number.invariant
