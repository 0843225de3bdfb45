use Rattle.std.proofs.Common.{ℕ, ◌-◌, ◌∙◌, ap, subst, arith}
use Rattle.entry_faults.specs.Searches.{Found}
use Rattle.entry_faults.proofs.Marking.{fresh}
use Rattle.entry_faults.proofs.Searching.{circles_begin, circles_more, circles_end}
use Rattle.entry_faults.proofs.search.circles.Goals as goal

pub loop-passed-init : goal.loop-passed-init
loop-passed-init c = circles_begin c.args.table.now c.args.reached.now c.in_ok-marks.marks (c.in_ok-marks.ensures ∙ ap fresh c.as_slice.ensures)

pub search_from-requires : goal.search_from-requires
search_from-requires c = record { sound = c.loop-passed.invariant.sound }

pub loop-passed-preserved : goal.loop-passed-preserved
loop-passed-preserved c =
    let start : ℕ = c.len-count.result - c.loop-passed.passed - 1 in
    circles_more c.args.table.now c.args.reached.now c.loop-passed.passed start c.loop-passed.marks c.search_from.new.marks
    (let more = c.loop-passed-test.true in let count = c.len-count.ensures in omega (arith, more, count))
    (subst (Found c.args.table.now c.args.reached.now start c.loop-passed.marks c.search_from.new.marks) c.if-branch.false c.in_ok-search_from.ensures)
    c.loop-passed.invariant

pub returns : goal.returns
returns c = circles_end c.args.table.now c.args.reached.now c.loop-passed.passed c.loop-passed.marks
    (let past = c.loop-passed-test.false in let count = c.len-count.ensures in omega (arith, past, count))
    c.loop-passed.invariant
