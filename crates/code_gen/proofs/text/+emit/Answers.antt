use Rattle.std.proofs.Common.{rules, arith, map, ap, ◌∙◌}
use Rattle.std.proofs.lemmas.Grind.{common_steps}
use Rattle.exchange_model.specs.declared.stmt.StmtKind.{out-StmtKind, the_lemmas}
use Rattle.exchange_model.specs.declared.stmt.StmtKind.TheOpen as layer
use Rattle.exchange_model.specs.declared.stmt.StmtKind.TheVariants as kind
use Rattle.stmt_code.specs.StmtCode.{codes, stmt_code, when_code}
use Rattle.code_gen.specs.Choices.{chosen, behind_choices}
use Rattle.code_gen.specs.Settings.{places_in}
use Rattle.code_gen.proofs.TextSteps.{item_in, list_more, choice_in, choices_more, as_kind, in_as}
use Rattle.code_gen.proofs.TextSteps.{yes_inside, no_inside, otherwise_inside, choices_inside}
use Rattle.code_gen.proofs.TextSteps.{body_inside, if_kind, case_kind, on_kind}
use Rattle.code_gen.proofs.text.+emit.Goals as goal

pub emit_kind-returns-in-Enter : goal.emit_kind-returns-in-Enter
emit_kind-returns-in-Enter t c =
    let made = as_kind c.args.kind.now (layer.Enter c.in-Enter.signal c.in-Enter.temps) (places_in c.args.at.now)
    c.args.spot.point c.args.spot.loops c.args.spot.start c.args.ops.now c.enter.new.ops
    (ap out-StmtKind c.in-Enter.is ∙ kind.outs-Enter c.in-Enter.signal c.in-Enter.temps) in
    search (rules, made)

pub emit_kind-returns-in-SetTemp : goal.emit_kind-returns-in-SetTemp
emit_kind-returns-in-SetTemp t c =
    let made = as_kind c.args.kind.now (layer.SetTemp c.in-SetTemp.temp c.in-SetTemp.value) (places_in c.args.at.now)
    c.args.spot.point c.args.spot.loops c.args.spot.start c.args.ops.now c.set_temp.new.ops
    (ap out-StmtKind c.in-SetTemp.is ∙ kind.outs-SetTemp c.in-SetTemp.temp c.in-SetTemp.value) in
    search (rules, made)

pub emit_kind-returns-in-SetVariable : goal.emit_kind-returns-in-SetVariable
emit_kind-returns-in-SetVariable t c =
    let made = as_kind c.args.kind.now (layer.SetVariable c.in-SetVariable.variable c.in-SetVariable.value)
    (places_in c.args.at.now) c.args.spot.point c.args.spot.loops c.args.spot.start c.args.ops.now
    c.set_variable.new.ops (ap out-StmtKind c.in-SetVariable.is
    ∙ kind.outs-SetVariable c.in-SetVariable.variable c.in-SetVariable.value) in
    search (rules, made)

pub emit_kind-returns-in-SetField : goal.emit_kind-returns-in-SetField
emit_kind-returns-in-SetField t c =
    let made = as_kind c.args.kind.now (layer.SetField c.in-SetField.file c.in-SetField.field c.in-SetField.pointer
    c.in-SetField.value) (places_in c.args.at.now) c.args.spot.point c.args.spot.loops c.args.spot.start
    c.args.ops.now c.set_field.new.ops (ap out-StmtKind c.in-SetField.is
    ∙ kind.outs-SetField c.in-SetField.file c.in-SetField.field c.in-SetField.pointer c.in-SetField.value) in
    search (rules, made)

pub emit_kind-returns-in-Goto : goal.emit_kind-returns-in-Goto
emit_kind-returns-in-Goto t c =
    let made = as_kind c.args.kind.now (layer.Goto c.in-Goto.label) (places_in c.args.at.now) c.args.spot.point
    c.args.spot.loops c.args.spot.start c.args.ops.now c.goto.new.ops
    (ap out-StmtKind c.in-Goto.is ∙ kind.outs-Goto c.in-Goto.label) in
    search (rules, made)

pub emit_kind-returns-in-IfGoto : goal.emit_kind-returns-in-IfGoto
emit_kind-returns-in-IfGoto t c =
    let made = as_kind c.args.kind.now (layer.IfGoto c.in-IfGoto.cond c.in-IfGoto.label) (places_in c.args.at.now)
    c.args.spot.point c.args.spot.loops c.args.spot.start c.args.ops.now c.if_goto.new.ops
    (ap out-StmtKind c.in-IfGoto.is ∙ kind.outs-IfGoto c.in-IfGoto.cond c.in-IfGoto.label) in
    search (rules, made)

pub emit_kind-returns-in-ForFirst : goal.emit_kind-returns-in-ForFirst
emit_kind-returns-in-ForFirst t c =
    let made = as_kind c.args.kind.now (layer.ForFirst c.in-ForFirst.temp c.in-ForFirst.file c.in-ForFirst.field
    c.in-ForFirst.rel c.in-ForFirst.value c.in-ForFirst.label) (places_in c.args.at.now) c.args.spot.point
    c.args.spot.loops c.args.spot.start c.args.ops.now c.for_first.new.ops
    (ap out-StmtKind c.in-ForFirst.is ∙ kind.outs-ForFirst c.in-ForFirst.temp c.in-ForFirst.file c.in-ForFirst.field
    c.in-ForFirst.rel c.in-ForFirst.value c.in-ForFirst.label) in
    search (rules, made)

pub emit_kind-returns-in-Send : goal.emit_kind-returns-in-Send
emit_kind-returns-in-Send t c =
    let made = as_kind c.args.kind.now (layer.Send c.in-Send.signal c.in-Send.to c.in-Send.values c.in-Send.fresh)
    (places_in c.args.at.now) c.args.spot.point c.args.spot.loops c.args.spot.start c.args.ops.now c.send.new.ops
    (ap out-StmtKind c.in-Send.is ∙ kind.outs-Send c.in-Send.signal c.in-Send.to c.in-Send.values c.in-Send.fresh)
    in
    search (rules, made)

pub emit_kind-returns-in-Retrieve : goal.emit_kind-returns-in-Retrieve
emit_kind-returns-in-Retrieve t c =
    let made = as_kind c.args.kind.now (layer.Retrieve c.in-Retrieve.signal c.in-Retrieve.temps)
    (places_in c.args.at.now) c.args.spot.point c.args.spot.loops c.args.spot.start c.args.ops.now
    c.retrieve.new.ops (ap out-StmtKind c.in-Retrieve.is
    ∙ kind.outs-Retrieve c.in-Retrieve.signal c.in-Retrieve.temps) in
    search (rules, made)

pub emit_kind-returns-in-Return : goal.emit_kind-returns-in-Return
emit_kind-returns-in-Return t c =
    let made = as_kind c.args.kind.now (layer.Return c.in-Return.signal c.in-Return.values) (places_in c.args.at.now)
    c.args.spot.point c.args.spot.loops c.args.spot.start c.args.ops.now c.answer.new.ops
    (ap out-StmtKind c.in-Return.is ∙ kind.outs-Return c.in-Return.signal c.in-Return.values) in
    search (rules, made)

pub emit_kind-returns-in-Transfer : goal.emit_kind-returns-in-Transfer
emit_kind-returns-in-Transfer t c =
    let made = as_kind c.args.kind.now (layer.Transfer c.in-Transfer.signal c.in-Transfer.to) (places_in c.args.at.now)
    c.args.spot.point c.args.spot.loops c.args.spot.start c.args.ops.now c.transfer.new.ops
    (ap out-StmtKind c.in-Transfer.is ∙ kind.outs-Transfer c.in-Transfer.signal c.in-Transfer.to) in
    search (rules, made)

pub emit_kind-returns-in-Seize : goal.emit_kind-returns-in-Seize
emit_kind-returns-in-Seize t c =
    let made = as_kind c.args.kind.now (layer.Seize c.in-Seize.temp c.in-Seize.file c.in-Seize.label)
    (places_in c.args.at.now) c.args.spot.point c.args.spot.loops c.args.spot.start c.args.ops.now c.seize.new.ops
    (ap out-StmtKind c.in-Seize.is ∙ kind.outs-Seize c.in-Seize.temp c.in-Seize.file c.in-Seize.label) in
    search (rules, made)

pub emit_kind-returns-in-Free : goal.emit_kind-returns-in-Free
emit_kind-returns-in-Free t c =
    let made = as_kind c.args.kind.now (layer.Free c.in-Free.temp c.in-Free.file) (places_in c.args.at.now)
    c.args.spot.point c.args.spot.loops c.args.spot.start c.args.ops.now c.free.new.ops
    (ap out-StmtKind c.in-Free.is ∙ kind.outs-Free c.in-Free.temp c.in-Free.file) in
    search (rules, made)

pub emit_kind-returns-in-Exit : goal.emit_kind-returns-in-Exit
emit_kind-returns-in-Exit t c =
    let made = as_kind c.args.kind.now layer.Exit (places_in c.args.at.now) c.args.spot.point c.args.spot.loops
    c.args.spot.start c.args.ops.now c.exit.new.ops (ap out-StmtKind c.in-Exit.is ∙ kind.outs-Exit) in
    search (rules, made)

pub emit_kind-returns-in-Finish : goal.emit_kind-returns-in-Finish
emit_kind-returns-in-Finish t c =
    let made = as_kind c.args.kind.now layer.Finish (places_in c.args.at.now) c.args.spot.point c.args.spot.loops
    c.args.spot.start c.args.ops.now c.exit-in-Finish.new.ops (ap out-StmtKind c.in-Finish.is ∙ kind.outs-Finish) in
    search (rules, made)

pub emit_kind-returns-in_ok-other-in-If : goal.emit_kind-returns-in_ok-other-in-If
emit_kind-returns-in_ok-other-in-If t c =
    let made = if_kind c.args.kind.now c.args.spot.point c.args.spot.loops c.args.spot.start c.in_ok-yes_at-in-If.yes_at
    c.in_ok-no_at-in-If.no_at c.len.result c.len-in-If.result c.past_length.result c.has_statement-both.result
    c.in-If.cond c.in-If.yes c.in-If.no (places_in c.args.at.now) c.in_ok-test-in-If.test c.in_ok-first-in-If.first
    c.in_ok-other-in-If.other c.args.ops.now c.push_branches.new.ops
    (ap out-StmtKind c.in-If.is ∙ kind.outs-If c.in-If.cond c.in-If.yes c.in-If.no) c.in_ok-test-in-If.ensures
    c.len.ensures c.in_ok-yes_at-in-If.ensures c.in_ok-first-in-If.ensures c.len-in-If.ensures
    c.has_statement-both.ensures c.past_length.ensures c.in_ok-no_at-in-If.ensures c.in_ok-other-in-If.ensures in
    search (rules, made)

pub emit_kind-returns-in_ok-last-in-Case : goal.emit_kind-returns-in_ok-last-in-Case
emit_kind-returns-in_ok-last-in-Case t c =
    let made = case_kind c.args.kind.now c.args.spot.point c.args.spot.loops c.args.spot.start
    c.in_ok-first_at-in-Case.first_at c.len-in-Case.result c.in_ok-choices-in-Case.choices.next c.in-Case.value
    c.in-Case.whens c.in-Case.otherwise (places_in c.args.at.now) c.in_ok-choices-in-Case.choices.list
    c.in_ok-test-in-Case.test c.in_ok-last-in-Case.last c.args.ops.now c.push_case.new.ops
    (ap out-StmtKind c.in-Case.is ∙ kind.outs-Case c.in-Case.value c.in-Case.whens c.in-Case.otherwise)
    c.in_ok-test-in-Case.ensures c.len-in-Case.ensures c.in_ok-first_at-in-Case.ensures
    c.in_ok-choices-in-Case.ensures.list c.in_ok-choices-in-Case.ensures.next c.in_ok-last-in-Case.ensures in
    search (rules, made)

pub emit_kind-returns-in_ok-push_bounds-in-On : goal.emit_kind-returns-in_ok-push_bounds-in-On
emit_kind-returns-in_ok-push_bounds-in-On t c =
    let made = on_kind c.args.kind.now c.args.spot.point c.in-On.temp c.args.spot.loops c.args.spot.start
    c.len-in-On.result c.len-in-On-2.result c.in_ok-between-in-On.between c.in_ok-head-in-On.head
    c.in_ok-inner-in-On.inner c.len-in-On-3.result c.in_ok-exit-in-On.exit c.in-On.from c.in-On.upto c.in-On.body
    (places_in c.args.at.now) c.in_ok-low-in-On.low c.in_ok-high-in-On.high c.in_ok-turn-in-On.turn c.args.ops.now
    c.push_bounds.new.ops c.push_turns.new.ops
    (ap out-StmtKind c.in-On.is ∙ kind.outs-On c.in-On.temp c.in-On.from c.in-On.upto c.in-On.body)
    c.in_ok-low-in-On.ensures c.in_ok-high-in-On.ensures c.len-in-On.ensures c.in_ok-between-in-On.ensures
    c.len-in-On-2.ensures c.in_ok-head-in-On.ensures c.in_ok-inner-in-On.ensures c.in_ok-turn-in-On.ensures
    c.len-in-On-3.ensures c.in_ok-exit-in-On.ensures c.in_ok-push_bounds-in-On.ensures in
    search (rules, made)

pub list_code-emit_kind-requires : goal.list_code-emit_kind-requires
list_code-emit_kind-requires t c =
    let inside = item_in c.args.at.now c.args.loops c.args.list.now c.as_slice-statement-items.result.now
    c.loop-statement.statement-index c.statement-item.result c.requires c.as_slice-statement-items.ensures
    c.loop-statement-test.true c.statement-item.is in
    (first_of (search (rules, the_lemmas), grind (the_lemmas, arith, common_steps)), inside)

pub list_code-loop-statement-preserved : goal.list_code-loop-statement-preserved
list_code-loop-statement-preserved t c =
    let all = codes (map stmt_code c.args.list.now) (places_in c.args.at.now) c.args.loops c.args.start in
    list_more c.as_slice-statement-items.result.now c.loop-statement.statement-index c.statement-item.result
    (places_in c.args.at.now) c.args.loops c.loop-statement.next c.in_ok-next.next c.len-before.result c.len.result
    c.loop-statement.ops c.emit_kind.new.ops all c.loop-statement-test.true c.statement-item.is c.len-before.ensures
    c.in_ok-emit_kind.ensures c.len.ensures c.in_ok-next.ensures c.loop-statement.invariant

pub choices_of-list_code-requires : goal.choices_of-list_code-requires
choices_of-list_code-requires t c =
    let inside = choice_in c.args.at.now c.args.loops c.args.whens.now c.as_slice-when-items.result.now
    c.loop-when.when-index c.when-item.result c.requires c.as_slice-when-items.ensures c.loop-when-test.true
    c.when-item.is in
    (first_of (search (rules, the_lemmas), grind (the_lemmas, arith, common_steps)), inside)

pub choices_of-loop-when-preserved : goal.choices_of-loop-when-preserved
choices_of-loop-when-preserved t c =
    let pl = places_in c.args.at.now in
    let ws = map when_code c.args.whens.now in
    choices_more c.as_slice-when-items.result.now c.loop-when.when-index c.when-item.result pl c.args.loops
    c.loop-when.next c.in_ok-body_at.body_at c.len.result c.in_ok-next.next c.in_ok-body.body c.loop-when.list
    c.push.new.self (chosen ws pl c.args.loops c.args.start) (behind_choices ws pl c.args.loops c.args.start)
    c.loop-when-test.true c.when-item.is c.in_ok-body_at.ensures c.in_ok-body.ensures c.len.ensures
    c.in_ok-next.ensures c.in_ok-push.ensures c.loop-when.invariant

pub emit_kind-choices_of-requires : goal.emit_kind-choices_of-requires
emit_kind-choices_of-requires t c =
    let inside = choices_inside c.args.at.now c.args.spot.loops c.in-Case.value c.in-Case.whens c.in-Case.otherwise
    (in_as c.args.at.now c.args.spot.loops c.args.kind.now
    (layer.Case c.in-Case.value c.in-Case.whens c.in-Case.otherwise)
    (ap out-StmtKind c.in-Case.is ∙ kind.outs-Case c.in-Case.value c.in-Case.whens c.in-Case.otherwise) c.requires)
    in
    (first_of (search (rules, the_lemmas), grind (the_lemmas, arith, common_steps)), inside)

pub emit_kind-list_code-requires : goal.emit_kind-list_code-requires
emit_kind-list_code-requires t c =
    let inside = yes_inside c.args.at.now c.args.spot.loops c.in-If.cond c.in-If.yes c.in-If.no
    (in_as c.args.at.now c.args.spot.loops c.args.kind.now (layer.If c.in-If.cond c.in-If.yes c.in-If.no)
    (ap out-StmtKind c.in-If.is ∙ kind.outs-If c.in-If.cond c.in-If.yes c.in-If.no) c.requires) in
    (first_of (search (rules, the_lemmas), grind (the_lemmas, arith, common_steps)), inside)

pub emit_kind-list_code-requires-in-If : goal.emit_kind-list_code-requires-in-If
emit_kind-list_code-requires-in-If t c =
    let inside = no_inside c.args.at.now c.args.spot.loops c.in-If.cond c.in-If.yes c.in-If.no
    (in_as c.args.at.now c.args.spot.loops c.args.kind.now (layer.If c.in-If.cond c.in-If.yes c.in-If.no)
    (ap out-StmtKind c.in-If.is ∙ kind.outs-If c.in-If.cond c.in-If.yes c.in-If.no) c.requires) in
    (first_of (search (rules, the_lemmas), grind (the_lemmas, arith, common_steps)), inside)

pub emit_kind-list_code-requires-in-Case : goal.emit_kind-list_code-requires-in-Case
emit_kind-list_code-requires-in-Case t c =
    let inside = otherwise_inside c.args.at.now c.args.spot.loops c.in-Case.value c.in-Case.whens c.in-Case.otherwise
    (in_as c.args.at.now c.args.spot.loops c.args.kind.now
    (layer.Case c.in-Case.value c.in-Case.whens c.in-Case.otherwise)
    (ap out-StmtKind c.in-Case.is ∙ kind.outs-Case c.in-Case.value c.in-Case.whens c.in-Case.otherwise) c.requires)
    in
    (first_of (search (rules, the_lemmas), grind (the_lemmas, arith, common_steps)), inside)

pub emit_kind-list_code-requires-in-On : goal.emit_kind-list_code-requires-in-On
emit_kind-list_code-requires-in-On t c =
    let inside = body_inside c.args.at.now c.args.spot.loops c.in-On.temp c.in-On.from c.in-On.upto c.in-On.body
    (in_as c.args.at.now c.args.spot.loops c.args.kind.now
    (layer.On c.in-On.temp c.in-On.from c.in-On.upto c.in-On.body)
    (ap out-StmtKind c.in-On.is ∙ kind.outs-On c.in-On.temp c.in-On.from c.in-On.upto c.in-On.body) c.requires) in
    (first_of (search (rules, the_lemmas), grind (the_lemmas, arith, common_steps)), inside)
