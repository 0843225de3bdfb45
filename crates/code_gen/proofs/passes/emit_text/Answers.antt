use Rattle.code_gen.specs.Settings.{places_in}
use Rattle.code_gen.proofs.PassSteps.{text_more}
use Rattle.code_gen.proofs.TextSteps.{item_in}
use Rattle.code_gen.proofs.passes.emit_text.Goals as goal

pub emit_kind-requires : goal.emit_kind-requires
emit_kind-requires c = item_in c.args.at.now 0 c.args.text.now c.as_slice-statement-items.result.now
    c.loop-statement.statement-index c.statement-item.result c.requires c.as_slice-statement-items.ensures
    c.loop-statement-test.true c.statement-item.is

pub loop-statement-preserved : goal.loop-statement-preserved
loop-statement-preserved c =
    text_more (places_in c.args.at.now) c.as_slice-statement-items.result.now c.args.text.now
    c.loop-statement.statement-index c.in_ok-start.start c.statement-item.result c.args.ops.now c.loop-statement.ops
    c.emit_kind.new.ops c.loop-statement.places c.push.new.self c.loop-statement-test.true c.statement-item.is
    c.in_ok-start.ensures c.in_ok-push.ensures c.in_ok-emit_kind.ensures c.loop-statement.invariant
