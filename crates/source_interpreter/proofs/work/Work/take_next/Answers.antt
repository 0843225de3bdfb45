use Rattle.std.proofs.Common.{sym, ◌∙◌}
use Rattle.source_interpreter.proofs.Todo.{nothing, reached, passed}
use Rattle.source_interpreter.proofs.work.Work.take_next.Goals as goal

pub returns-then-counts-clause-item : goal.returns-then-counts-clause-item
returns-then-counts-clause-item c =
    reached c.loop-next.self c.take.new.self _ c.in_ok-next.field-0 c.in-Some.next c.in-Some.is
    c.in_ok-next.ensures.item (sym c.counts.ensures ∙ c.if-counts.true) c.loop-next.invariant

pub loop-next-preserved : goal.loop-next-preserved
loop-next-preserved c =
    passed c.loop-next.self c.take.new.self _ c.in_ok-next.field-0 c.in-Some.next c.in-Some.is c.in_ok-next.ensures.item
    (sym c.counts.ensures ∙ c.if-counts.false) c.loop-next.invariant

pub returns-clause-item : goal.returns-clause-item
returns-clause-item c = nothing c.loop-next.self c.take.new.self _ c.in_ok-next.field-0 c.in_default.is c.in_ok-next.ensures.item c.loop-next.invariant
