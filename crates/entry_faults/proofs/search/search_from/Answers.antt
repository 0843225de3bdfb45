use Rattle.std.proofs.Common.{◌≡◌, refl, arith, reverse, sym, subst, ◌∙◌}
use Rattle.entry_faults.specs.declared.mark.Mark.TheVariants.{New, Open, Closed}
use Rattle.entry_faults.specs.Searches.{Stepped}
use Rattle.entry_faults.proofs.Searching.{searching_begin, searching_more, searching_end, popped}
use Rattle.entry_faults.proofs.Searching.{popped_none, not_new}
use Rattle.entry_faults.proofs.Marking.{two_marks}
use Rattle.entry_faults.proofs.search.search_from.Goals as goal

pub loop-frame-init : goal.loop-frame-init
loop-frame-init c = searching_begin c.args.table.now c.args.reached.now c.args.start c.args.marks.now c.open.new.marks
    c.new-stack.result.items c.open.new.stack.items c.requires.sound (sym c.mark_of.ensures ∙ c.in-New.is)
    c.new-stack.ensures.items c.in_ok-open-in-New.ensures

pub step-requires : goal.step-requires
step-requires c = popped c.args.table.now c.args.reached.now c.args.start c.args.marks.now c.loop-frame.marks
    c.loop-frame.stack.items c.pop.new.self.items c.in-Some.frame c.in-Some.ensures.items c.loop-frame.invariant

pub loop-frame-preserved : goal.loop-frame-preserved
loop-frame-preserved c =
    searching_more c.args.table.now c.args.reached.now c.args.start c.args.marks.now c.loop-frame.marks c.step.new.marks
    c.loop-frame.stack.items c.step.new.stack.items c.loop-frame.invariant
    (subst (Stepped c.args.table.now c.args.reached.now c.loop-frame.marks c.step.new.marks
    (reverse c.step.new.stack.items)) c.if-branch.false c.in_ok-step.ensures)

pub loop-frame-smaller : goal.loop-frame-smaller
loop-frame-smaller c = (subst (Stepped c.args.table.now c.args.reached.now c.loop-frame.marks c.step.new.marks
    (reverse c.step.new.stack.items)) c.if-branch.false c.in_ok-step.ensures).less

pub returns : goal.returns
returns c =
    searching_end c.args.table.now c.args.reached.now c.args.start c.args.marks.now c.loop-frame.marks c.loop-frame.stack.items
    (popped_none c.loop-frame.stack.items c.pop.new.self.items _ c.in_default.ensures.cases.0 c.in_default.ensures.items c.in_default.ensures.rest)
    c.loop-frame.invariant

pub returns-in-Open : goal.returns-in-Open
returns-in-Open c = not_new c.args.table.now c.args.reached.now c.args.start c.args.marks.now Open c.requires.sound
    (sym c.mark_of.ensures ∙ c.in-Open.is) (λ e. two_marks Open Open New
    (λ k. (let clash : 1 ≡ 2 = k in omega (arith, clash))) refl e)

pub returns-in-Closed : goal.returns-in-Closed
returns-in-Closed c = not_new c.args.table.now c.args.reached.now c.args.start c.args.marks.now Closed c.requires.sound
    (sym c.mark_of.ensures ∙ c.in-Closed.is) (λ e. two_marks Closed Closed New
    (λ k. (let clash : 0 ≡ 2 = k in omega (arith, clash))) refl e)
