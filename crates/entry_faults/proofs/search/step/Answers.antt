use Rattle.std.proofs.Common.{reverse, sym, ◌∙◌}
use Rattle.entry_faults.proofs.Marking.{open_within}
use Rattle.entry_faults.proofs.Searching.{step_back, step_open, step_on, step_round, step_clash}
use Rattle.entry_faults.proofs.search.step.Goals as goal

pub set-requires : goal.set-requires
set-requires c = open_within c.args.reached.now c.args.marks.now c.pass_closed-frame.result.point
    (step_open c.args.table.now c.args.reached.now c.args.marks.now c.args.frame.now c.pass_closed-frame.result
    (reverse c.args.stack.now.items) c.requires c.pass_closed-frame.ensures)

pub returns-in_default : goal.returns-in_default
returns-in_default c = step_back c.args.table.now c.args.reached.now c.args.marks.now c.set.new.self c.args.frame.now
    c.pass_closed-frame.result (reverse c.args.stack.now.items) c.requires c.pass_closed-frame.ensures
    (sym c.first_of.ensures ∙ c.in_default.is) c.set.ensures

pub returns-in_ok-open-in-New : goal.returns-in_ok-open-in-New
returns-in_ok-open-in-New c = step_on c.args.table.now c.args.reached.now c.args.marks.now c.open.new.marks
    c.args.frame.now c.pass_closed-frame.result c.args.stack.now.items c.push.new.stack.items c.open.new.stack.items
    c.in-Some.end c.requires c.pass_closed-frame.ensures (sym c.first_of.ensures ∙ c.in-Some.is)
    (sym c.mark_of.ensures ∙ c.in-New.is) c.in_ok-push-in-New.ensures c.in_ok-open-in-New.ensures

pub returns-in-Open : goal.returns-in-Open
returns-in-Open c = step_round c.args.table.now c.args.reached.now c.args.marks.now c.args.frame.now
    c.pass_closed-frame.result (reverse c.args.stack.now.items) c.in-Some.end c.requires c.pass_closed-frame.ensures
    (sym c.first_of.ensures ∙ c.in-Some.is) (sym c.mark_of.ensures ∙ c.in-Open.is)

pub returns-in-Closed : goal.returns-in-Closed
returns-in-Closed c = step_clash c.args.table.now c.args.reached.now c.args.marks.now c.args.frame.now
    c.pass_closed-frame.result c.in-Some.end c.pass_closed-frame.ensures (sym c.first_of.ensures ∙ c.in-Some.is)
    (sym c.mark_of.ensures ∙ c.in-Closed.is)
