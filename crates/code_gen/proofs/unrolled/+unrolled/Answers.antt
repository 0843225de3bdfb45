use Rattle.std.proofs.Common.{◌≡◌, ◌+◌, ◌∙◌, sym, ap, refl}
use Rattle.exchange_model.specs.declared.stmt.StmtKind.{out-StmtKind}
use Rattle.exchange_model.specs.declared.stmt.StmtKind.TheOpen as layer
use Rattle.exchange_model.specs.declared.stmt.StmtKind.TheVariants as kind
use Rattle.stmt_code.specs.Whole.{receivers_from}
use Rattle.code_gen.specs.Receivers.{arm_code}
use Rattle.code_gen.specs.declared.receivers.Arm.TheVariants as arm
use Rattle.code_gen.specs.Unrolled.{choice_length, some_places, stmt_unrolled, when_unrolled}
use Rattle.code_gen.proofs.UnrolledSteps.{layer_is, none_unrolled, stmt_unrolled-kind, sum_more}
use Rattle.code_gen.proofs.UnrolledSteps.{tells, when_unrolled-out}
use Rattle.code_gen.proofs.unrolled.+unrolled.Goals as goal

pub text_length-loop-statement-preserved : goal.text_length-loop-statement-preserved
text_length-loop-statement-preserved t c =
    let pl = some_places c.args.exchange.now in
    let told : c.in_ok-more.more ≡ stmt_unrolled pl c.statement-item.result = c.in_ok-more.ensures ∙ sym (stmt_unrolled-kind pl c.statement-item.result) in
    sum_more (stmt_unrolled pl) c.as_slice-statement-items.result.now c.loop-statement.statement-index
    c.statement-item.result c.in_ok-more.more c.loop-statement.sum c.in_ok-sum.sum _ c.loop-statement-test.true
    c.statement-item.is told c.in_ok-sum.ensures c.loop-statement.invariant

pub whens_length-loop-when-preserved : goal.whens_length-loop-when-preserved
whens_length-loop-when-preserved t c =
    let pl = some_places c.args.exchange.now in
    let told : c.in_ok-more.more ≡ when_unrolled pl c.when-item.result = c.in_ok-more.ensures ∙ sym (when_unrolled-out pl c.when-item.result) in
    sum_more (when_unrolled pl) c.as_slice-when-items.result.now c.loop-when.when-index c.when-item.result
    c.in_ok-more.more c.loop-when.sum c.in_ok-sum.sum _ c.loop-when-test.true c.when-item.is told
    c.in_ok-sum.ensures c.loop-when.invariant

pub kind_length-returns-in_ok-other-in-If : goal.kind_length-returns-in_ok-other-in-If
kind_length-returns-in_ok-other-in-If t c =
    let is = ap out-StmtKind c.in-If.is ∙ kind.outs-If c.in-If.cond c.in-If.yes c.in-If.no in
    tells c.plus.result _ _ (layer_is (some_places c.args.exchange.now) c.args.kind.now
    (layer.If c.in-If.cond c.in-If.yes c.in-If.no) _ is
    (λ i. c.in_ok-first-in-If.ensures i + c.in_ok-other-in-If.ensures i)) c.plus.ensures

pub kind_length-returns-in_ok-other-in-Case : goal.kind_length-returns-in_ok-other-in-Case
kind_length-returns-in_ok-other-in-Case t c =
    let is = ap out-StmtKind c.in-Case.is ∙ kind.outs-Case c.in-Case.value c.in-Case.whens c.in-Case.otherwise in
    tells c.plus-in-Case.result _ _ (layer_is (some_places c.args.exchange.now) c.args.kind.now
    (layer.Case c.in-Case.value c.in-Case.whens c.in-Case.otherwise) _ is
    (λ i. c.in_ok-first-in-Case.ensures i + c.in_ok-other-in-Case.ensures i)) c.plus-in-Case.ensures

pub kind_length-returns-in-On : goal.kind_length-returns-in-On
kind_length-returns-in-On t c =
    let is = ap out-StmtKind c.in-On.is ∙ kind.outs-On c.in-On.temp c.in-On.from c.in-On.upto c.in-On.body in
    tells c.text_length-in-On.result _ _ (layer_is (some_places c.args.exchange.now) c.args.kind.now
    (layer.On c.in-On.temp c.in-On.from c.in-On.upto c.in-On.body) _ is refl) c.text_length-in-On.ensures

pub kind_length-returns-in-Send : goal.kind_length-returns-in-Send
kind_length-returns-in-Send t c =
    let is = ap out-StmtKind c.in-Send.is ∙ kind.outs-Send c.in-Send.signal c.in-Send.to c.in-Send.values c.in-Send.fresh in
    tells c.choice_length.result _ _ (layer_is (some_places c.args.exchange.now) c.args.kind.now
    (layer.Send c.in-Send.signal c.in-Send.to c.in-Send.values c.in-Send.fresh) _ is refl) c.choice_length.ensures

pub kind_length-returns-in-Transfer : goal.kind_length-returns-in-Transfer
kind_length-returns-in-Transfer t c =
    let x = c.args.exchange.now in
    let is = ap out-StmtKind c.in-Transfer.is ∙ kind.outs-Transfer c.in-Transfer.signal c.in-Transfer.to in
    tells c.choice_length-in-Transfer.result _ _
    (layer_is (some_places x) c.args.kind.now (layer.Transfer c.in-Transfer.signal c.in-Transfer.to) _ is
    (ap (λ values. choice_length c.in-Transfer.to (receivers_from 0 c.in-Transfer.signal x.blocks) values
    (arm_code (arm.Transfer c.in-Transfer.signal) (some_places x))) c.new-none.ensures))
    c.choice_length-in-Transfer.ensures

pub kind_length-returns-in-Free : goal.kind_length-returns-in-Free
kind_length-returns-in-Free t c =
    let is = ap out-StmtKind c.in-Free.is ∙ kind.outs-Free c.in-Free.temp c.in-Free.file in
    tells c.free_length.result _ _ (layer_is (some_places c.args.exchange.now) c.args.kind.now
    (layer.Free c.in-Free.temp c.in-Free.file) _ is refl) c.free_length.ensures

pub kind_length-returns-in_default : goal.kind_length-returns-in_default
kind_length-returns-in_default t c = none_unrolled (some_places c.args.exchange.now) c.args.kind.now c.in_default.not-If
    c.in_default.not-Case c.in_default.not-On c.in_default.not-Send c.in_default.not-Transfer c.in_default.not-Free
