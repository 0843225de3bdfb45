use Rattle.std.proofs.Common.{ap, ◌∙◌, refl, subst}
use Rattle.source_meaning.specs.Rests.{first_point}
use Rattle.flow_table.specs.Texts.{HasMore, Walked}
use Rattle.exchange_model.specs.declared.stmt.StmtKind.{out-StmtKind}
use Rattle.exchange_model.specs.declared.stmt.StmtKind.TheVariants as kind
use Rattle.flow_table.proofs.Walking.{if_added, case_added, on_added, none_inside, list_more}
use Rattle.flow_table.proofs.Walking.{list_end, choices_more, choices_end}
use Rattle.flow_table.proofs.walk.+walk.Goals as goal

pub add_inner-returns-in_default : goal.add_inner-returns-in_default
add_inner-returns-in_default t c = none_inside c.args.block c.args.point c.args.next c.args.kind.now c.args.places.now
    c.in_default.not-If c.in_default.not-Case c.in_default.not-On

pub add_inner-returns-in_ok-add_list-in-If-2 : goal.add_inner-returns-in_ok-add_list-in-If-2
add_inner-returns-in_ok-add_list-in-If-2 t c =
    let is = ap out-StmtKind c.in-If.is ∙ kind.outs-If c.in-If.cond c.in-If.yes c.in-If.no in
    if_added c.args.block c.args.point c.args.next c.args.kind.now c.in-If.cond c.in-If.yes c.in-If.no
    c.as_slice.result.now c.as_slice-in-If.result.now c.args.places.now c.add_list.new.places
    c.add_list-in-If.new.places is c.as_slice.ensures c.as_slice-in-If.ensures c.in_ok-add_list-in-If.ensures
    c.in_ok-add_list-in-If-2.ensures

pub add_inner-returns-in_ok-add_list-in-Case : goal.add_inner-returns-in_ok-add_list-in-Case
add_inner-returns-in_ok-add_list-in-Case t c =
    let is = ap out-StmtKind c.in-Case.is ∙ kind.outs-Case c.in-Case.value c.in-Case.whens c.in-Case.otherwise in
    case_added c.args.block c.args.point c.args.next c.args.kind.now c.in-Case.value c.in-Case.whens
    c.as_slice-in-Case.result.now c.in-Case.otherwise c.as_slice-in-Case-2.result.now c.args.places.now
    c.add_choices.new.places c.add_list-in-Case.new.places is c.as_slice-in-Case.ensures
    c.as_slice-in-Case-2.ensures c.in_ok-add_choices-in-Case.ensures c.in_ok-add_list-in-Case.ensures

pub add_inner-returns-in_ok-add_list-in-On : goal.add_inner-returns-in_ok-add_list-in-On
add_inner-returns-in_ok-add_list-in-On t c =
    let is = ap out-StmtKind c.in-On.is ∙ kind.outs-On c.in-On.temp c.in-On.from c.in-On.upto c.in-On.body in
    on_added c.args.block c.args.point c.args.next c.args.kind.now c.in-On.temp c.in-On.from c.in-On.upto c.in-On.body
    c.as_slice-in-On.result.now c.args.places.now c.add_list-in-On.new.places is c.as_slice-in-On.ensures
    c.in_ok-add_list-in-On.ensures

pub add_list-loop-i-preserved : goal.add_list-loop-i-preserved
add_list-loop-i-preserved t c =
    let at = c.first_of-next.ensures ∙ ap (λ l. first_point l c.args.end) c.from.ensures in
    list_more c.args.block c.args.list.now c.args.end c.first_of-next.result c.loop-i.i c.index-list-i.result _
    c.args.places.now c.loop-i.places c.push.new.self c.add_inner.new.places c.loop-i-test.true c.index-list-i.is at
    c.in_ok-push.ensures refl c.in_ok-add_inner.ensures c.loop-i.invariant

pub add_list-returns : goal.add_list-returns
add_list-returns t c = list_end c.args.block c.args.list.now c.args.end c.args.places.now c.loop-i.places c.loop-i.i c.loop-i-test.false c.loop-i.invariant

pub add_choices-loop-when-preserved : goal.add_choices-loop-when-preserved
add_choices-loop-when-preserved t c =
    let added = subst (λ l. HasMore c.loop-when.places c.add_list.new.places (Walked c.args.block l c.args.next)) c.as_slice.ensures c.in_ok-add_list.ensures in
    choices_more c.args.block c.args.next c.args.whens.now c.loop-when.when-index c.when-item.result c.args.places.now
    c.loop-when.places c.add_list.new.places c.loop-when-test.true c.when-item.is added c.loop-when.invariant

pub add_choices-returns : goal.add_choices-returns
add_choices-returns t c = choices_end c.args.block c.args.next c.args.whens.now c.args.places.now c.loop-when.places
    c.loop-when.when-index c.loop-when-test.false c.loop-when.invariant
