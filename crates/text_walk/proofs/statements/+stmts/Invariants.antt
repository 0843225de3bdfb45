use Rattle.text_events.specs.Walk.{when_walk}
use Rattle.text_events.proofs.Steps.{Walks, ListWalks}
use Rattle.text_walk.proofs.statements.+stmts.Given as goal

abbrev pub invariant-walk_body-loop-i : goal.invariant-walk_body-loop-i
invariant-walk_body-loop-i l = ListWalks l.stmts l.i l.out l.fn.out

abbrev pub invariant-walk_whens-loop-w : goal.invariant-walk_whens-loop-w
invariant-walk_whens-loop-w l = Walks when_walk l.whens l.w-index l.owner l.out l.fn.out
