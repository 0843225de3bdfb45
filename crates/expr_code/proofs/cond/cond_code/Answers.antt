use Rattle.std.proofs.Common.{rules, drop}
use Rattle.expr_code.proofs.At.{first_relations_at, next_relations_at}
use Rattle.expr_code.proofs.CondSteps.{lists_begin, lists_more, lists_end, lists_stop}
use Rattle.expr_code.proofs.cond.cond_code.Goals as goal

pub push_relations-requires : goal.push_relations-requires
push_relations-requires c = record {
  of_block = first_relations_at c.args.layout.now c.args.block c.args.cond.now c.as_slice.result.now
      c.in-Some.relations.now c.as_slice-2.result.now c.in-Some.rest.now c.requires.of_block c.as_slice.ensures
      c.in-Some.ensures.cases.0 c.as_slice-2.ensures;
}

pub loop-relations-init : goal.loop-relations-init
loop-relations-init c =
    lists_begin c.args.cond.now c.as_slice.result.now c.in-Some.relations.now c.as_slice-2.result.now c.in-Some.rest.now
    c.args.layout.now c.args.block c.args.ops.now c.push_relations.new.ops c.as_slice.ensures
    c.in-Some.ensures.cases.0 c.as_slice-2.ensures c.in_ok-push_relations.ensures.code

pub push_relations-requires-in-loop-relations : goal.push_relations-requires-in-loop-relations
push_relations-requires-in-loop-relations c = record {
  of_block = next_relations_at c.args.layout.now c.args.block c.args.cond.now c.as_slice.result.now
      c.in-Some.relations.now c.in-Some.rest.now c.loop-relations.relations-index c.relations-item.result
      c.as_slice-in-loop-relations.result.now c.requires.of_block c.as_slice.ensures c.in-Some.ensures.cases.0
      c.loop-relations-test.true c.relations-item.is c.as_slice-in-loop-relations.ensures;
}

pub loop-relations-preserved : goal.loop-relations-preserved
loop-relations-preserved c =
    lists_more c.in-Some.rest.now c.loop-relations.relations-index c.relations-item.result
    c.as_slice-in-loop-relations.result.now c.args.layout.now c.args.block c.args.ops.now c.loop-relations.ops
    c.push_all-in-loop-relations.new.ops c.push_relations-in-loop-relations.new.ops
    c.push_all-in-loop-relations-2.new.ops c.args.cond.now c.loop-relations-test.true c.relations-item.is
    c.as_slice-in-loop-relations.ensures c.in_ok-push_all.ensures.code c.in_ok-push_relations-2.ensures.code
    c.in_ok-push_all-2.ensures.code c.loop-relations.invariant

pub returns-clause-code : goal.returns-clause-code
returns-clause-code c =
    let ends = lists_end c.in-Some.rest.now c.loop-relations.relations-index c.args.layout.now c.args.block
    c.args.ops.now c.loop-relations.ops c.args.cond.now c.loop-relations-test.false c.loop-relations.invariant in
    search (rules, ends)

pub returns-in_err-push_all-2-clause-begins : goal.returns-in_err-push_all-2-clause-begins
returns-in_err-push_all-2-clause-begins c =
    let begins =
    lists_stop c.args.layout.now c.args.block c.args.ops.now c.loop-relations.ops c.push_all-in-loop-relations.new.ops
    c.push_relations-in-loop-relations.new.ops c.push_all-in-loop-relations-2.new.ops
    (drop c.loop-relations.relations-index c.in-Some.rest.now) c.as_slice-in-loop-relations.result.now
    c.args.cond.now c.loop-relations.invariant c.in_ok-push_all.ensures.code c.in_ok-push_relations-2.ensures.code
    c.in_err-push_all-2.ensures.begins in
    search (rules, begins)
