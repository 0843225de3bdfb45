use Rattle.std.proofs.Common.{refl}
use Rattle.source_interpreter.specs.declared.cases.Found.{Found}
use Rattle.source_interpreter.specs.Cases.{IsKnown, WhenKnown}
use Rattle.source_interpreter.proofs.Gathering.{case_gathered, gathered_more, if_gathered}
use Rattle.source_interpreter.proofs.Gathering.{on_gathered, one_gathered, other_gathered}
use Rattle.source_interpreter.proofs.Gathering.{when_gathered}
use Rattle.source_interpreter.proofs.cases.+find.Goals as goal

pub find_in-loop-statement-preserved : goal.find_in-loop-statement-preserved
find_in-loop-statement-preserved t c =
    gathered_more IsKnown c.as_slice-statement-items.result.now c.loop-statement.statement-index c.statement-item.result
    _ c.loop-statement.found c.find.new.found c.loop-statement-test.true c.statement-item.is
    c.loop-statement.invariant (one_gathered c.statement-item.result c.loop-statement.found c.find.new.found
    c.in_ok-find.ensures)

pub find_in_whens-loop-when-preserved : goal.find_in_whens-loop-when-preserved
find_in_whens-loop-when-preserved t c =
    gathered_more WhenKnown c.as_slice-when-items.result.now c.loop-when.when-index c.when-item.result _
    c.loop-when.found c.find_in.new.found c.loop-when-test.true c.when-item.is c.loop-when.invariant
    (when_gathered c.when-item.result c.loop-when.found c.find_in.new.found c.in_ok-find_in.ensures)

pub find-returns-in_ok-find_in-in-If-2 : goal.find-returns-in_ok-find_in-in-If-2
find-returns-in_ok-find_in-in-If-2 t c =
    if_gathered c.args.point c.args.kind.now c.args.found.now c.find_in-in-If.new.found c.in-If.cond c.in-If.yes
    c.in-If.no c.find_in.new.found c.in-If.is c.in_ok-find_in-in-If.ensures c.in_ok-find_in-in-If-2.ensures

pub find-returns-in_ok-find_in-in-Case : goal.find-returns-in_ok-find_in-in-Case
find-returns-in_ok-find_in-in-Case t c =
    let own : Found = record { point = c.args.point; whens = c.as_slice.result } in
    case_gathered c.args.point c.args.kind.now c.args.found.now c.find_in-in-Case.new.found c.in-Case.value
    c.in-Case.whens c.in-Case.otherwise own c.push.new.self c.find_in_whens.new.found c.in-Case.is refl
    c.as_slice.ensures c.in_ok-push-in-Case.ensures c.in_ok-find_in_whens-in-Case.ensures
    c.in_ok-find_in-in-Case.ensures

pub find-returns-in_ok-find_in-in-On : goal.find-returns-in_ok-find_in-in-On
find-returns-in_ok-find_in-in-On t c = on_gathered c.args.point c.args.kind.now _ _ c.in-On.temp c.in-On.from
    c.in-On.upto c.in-On.body c.in-On.is c.in_ok-find_in-in-On.ensures

pub find-returns-in_default : goal.find-returns-in_default
find-returns-in_default t c = other_gathered c.args.point c.args.kind.now _ c.in_default.not-If c.in_default.not-Case c.in_default.not-On
