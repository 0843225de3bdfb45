use Rattle.std.proofs.Common.{ap, ◌∙◌, Some}
use Rattle.exchange_model.specs.declared.stmt.StmtKind.{out-StmtKind}
use Rattle.exchange_model.specs.declared.stmt.StmtKind.TheVariants as kind
use Rattle.certificate.proofs.Counts.{case_told, choices_end, choices_more, if_told, list_end}
use Rattle.certificate.proofs.Counts.{list_more, none_told, on_told, statement_told}
use Rattle.certificate.proofs.references.+count.Goals as goal

pub in_choices-loop-when-preserved : goal.in_choices-loop-when-preserved
in_choices-loop-when-preserved t c =
    choices_more c.args.whens.now c.loop-when.when-index c.when-item.result c.as_slice.result.now c.loop-when.count
    c.in_list.result c.saturating_add-count.result c.loop-when-test.true c.when-item.is c.as_slice.ensures
    c.in_list.ensures c.saturating_add-count.ensures c.loop-when.invariant

pub in_choices-returns : goal.in_choices-returns
in_choices-returns t c = choices_end c.args.whens.now c.loop-when.when-index c.loop-when.count c.loop-when-test.false c.loop-when.invariant

pub in_inner-returns-in-If : goal.in_inner-returns-in-If
in_inner-returns-in-If t c b p next =
    let is = ap out-StmtKind c.in-If.is ∙ kind.outs-If c.in-If.cond c.in-If.yes c.in-If.no in
    if_told b p next c.args.kind.now c.in-If.cond c.in-If.yes c.in-If.no c.as_slice.result.now
    c.as_slice-in-If.result.now c.in_list-first.result c.in_list.result c.saturating_add.result is
    c.as_slice.ensures c.as_slice-in-If.ensures (c.in_list-first.ensures b next) (c.in_list.ensures b next)
    c.saturating_add.ensures

pub in_inner-returns-in-Case : goal.in_inner-returns-in-Case
in_inner-returns-in-Case t c b p next =
    let is = ap out-StmtKind c.in-Case.is ∙ kind.outs-Case c.in-Case.value c.in-Case.whens c.in-Case.otherwise in
    case_told b p next c.args.kind.now c.in-Case.value c.in-Case.whens c.as_slice-in-Case.result.now c.in-Case.otherwise
    c.as_slice-in-Case-2.result.now c.in_choices-first.result c.in_list-in-Case.result
    c.saturating_add-in-Case.result is c.as_slice-in-Case.ensures c.as_slice-in-Case-2.ensures
    (c.in_choices-first.ensures b next) (c.in_list-in-Case.ensures b next) c.saturating_add-in-Case.ensures

pub in_inner-returns-in-On : goal.in_inner-returns-in-On
in_inner-returns-in-On t c b p next =
    let is = ap out-StmtKind c.in-On.is ∙ kind.outs-On c.in-On.temp c.in-On.from c.in-On.upto c.in-On.body in
    on_told b p next c.args.kind.now c.in-On.temp c.in-On.from c.in-On.upto c.in-On.body c.as_slice-in-On.result.now
    c.in_list-in-On.result is c.as_slice-in-On.ensures (c.in_list-in-On.ensures b (Some p))

pub in_inner-returns-in_default : goal.in_inner-returns-in_default
in_inner-returns-in_default t c b p next = none_told b p next c.args.kind.now c.in_default.not-If c.in_default.not-Case c.in_default.not-On

pub in_list-loop-statement-preserved : goal.in_list-loop-statement-preserved
in_list-loop-statement-preserved t c =
    list_more c.args.list.now c.loop-statement.statement-index c.statement-item.result c.loop-statement.count
    c.in_statement.result c.saturating_add-count.result c.loop-statement-test.true c.statement-item.is
    c.in_statement.ensures c.saturating_add-count.ensures c.loop-statement.invariant

pub in_list-returns : goal.in_list-returns
in_list-returns t c = list_end c.args.list.now c.loop-statement.statement-index c.loop-statement.count c.loop-statement-test.false c.loop-statement.invariant

pub in_statement-returns : goal.in_statement-returns
in_statement-returns t c b p next = statement_told b p next c.args.kind.now c.refers.result c.one_if.result
    c.in_inner-inner.result c.saturating_add.result c.refers.ensures c.one_if.ensures
    (c.in_inner-inner.ensures b p next) c.saturating_add.ensures
