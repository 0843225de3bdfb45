use Rattle.std.proofs.Common.{refl, subst}
use Rattle.entry_faults.specs.Frames.{Passes}
use Rattle.entry_faults.proofs.Passing.{moves_begin, moves_more, moves_stop, moves_end, some_left}
use Rattle.entry_faults.proofs.Passing.{none_left}
use Rattle.entry_faults.proofs.frame.pass_closed.Goals as goal

pub loop-i-init : goal.loop-i-init
loop-i-init c = moves_begin c.args.table.now c.args.reached.now c.args.marks.now c.args.frame.now c.from_unclosed-ends.result.now c.from_unclosed-ends.ensures

pub loop-i-preserved : goal.loop-i-preserved
loop-i-preserved c =
    moves_more c.args.table.now c.args.reached.now c.args.marks.now c.args.frame.now c.loop-i.i c.index-ways-i.result
    c.loop-i.ends.now c.from_unclosed-ends-in-loop-i.result.now c.loop-i-test.true c.index-ways-i.is
    (none_left c.loop-i.ends.now c.is_empty.result c.is_empty.ensures c.if-not-is_empty.false)
    (subst (λ ends. Passes c.args.reached.now c.args.marks.now ends c.from_unclosed-ends-in-loop-i.result.now)
    c.ends_of.ensures c.from_unclosed-ends-in-loop-i.ensures)
    c.loop-i.invariant

pub returns-then-not-is_empty : goal.returns-then-not-is_empty
returns-then-not-is_empty c =
    moves_stop c.args.table.now c.args.reached.now c.args.marks.now c.args.frame.now c.loop-i.i c.loop-i.ends.now _ refl refl c.from_way.ensures
    (some_left c.loop-i.ends.now c.is_empty.result c.is_empty.ensures c.if-not-is_empty.true)
    c.loop-i.invariant

pub returns : goal.returns
returns c =
    moves_end c.args.table.now c.args.reached.now c.args.marks.now c.args.frame.now c.loop-i.i c.loop-i.ends.now _
    c.loop-i-test.false refl refl c.from_way-2.ensures c.loop-i.invariant
