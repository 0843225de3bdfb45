use Rattle.text_events.specs.Walk.{added_walk, multiplied_walk}
use Rattle.text_events.proofs.Steps.{Walks}
use Rattle.text_walk.proofs.expressions.+exprs.Given as goal

abbrev pub invariant-walk_sum-loop-a : goal.invariant-walk_sum-loop-a
invariant-walk_sum-loop-a l = Walks added_walk l.rest l.a-index l.owner l.out l.fn.out

abbrev pub invariant-walk_product-loop-m : goal.invariant-walk_product-loop-m
invariant-walk_product-loop-m l = Walks multiplied_walk l.rest l.m-index l.owner l.out l.fn.out
