use Rattle.std.proofs.Common.{rules, drop}
use Rattle.expr_code.proofs.At.{first_relation_at, next_relation_at}
use Rattle.expr_code.proofs.CondSteps.{relations_begin, relations_stop}
use Rattle.expr_code.proofs.cond.push_relations.Goals as goal

pub push_relation-requires : goal.push_relation-requires
push_relation-requires c = record {
  of_block = first_relation_at c.args.layout.now c.args.block c.args.relations.now c.in-Some.relation.now
      c.in-Some.rest.now c.requires.of_block c.in-Some.ensures.cases.0;
}

pub loop-relation-init : goal.loop-relation-init
loop-relation-init c =
    relations_begin c.args.relations.now c.in-Some.relation.now c.in-Some.rest.now c.args.layout.now c.args.block
    c.args.ops.now c.push_relation.new.ops c.in-Some.ensures.cases.0 c.in_ok-push_relation.ensures.code

pub push_relation-requires-in-loop-relation : goal.push_relation-requires-in-loop-relation
push_relation-requires-in-loop-relation c = record {
  of_block = next_relation_at c.args.layout.now c.args.block c.args.relations.now c.in-Some.relation.now
      c.in-Some.rest.now c.loop-relation.relation-index c.relation-item.result c.requires.of_block
      c.in-Some.ensures.cases.0 c.loop-relation-test.true c.relation-item.is;
}

pub returns-in_err-push_all-2-clause-begins : goal.returns-in_err-push_all-2-clause-begins
returns-in_err-push_all-2-clause-begins c =
    let begins =
    relations_stop c.args.layout.now c.args.block c.args.ops.now c.loop-relation.ops c.push_all-in-loop-relation.new.ops
    c.push_relation-in-loop-relation.new.ops c.push_all-in-loop-relation-2.new.ops
    (drop c.loop-relation.relation-index c.in-Some.rest.now) c.args.relations.now c.relation-item.result
    c.loop-relation.invariant c.in_ok-push_all.ensures.code c.in_ok-push_relation-2.ensures.code
    c.in_err-push_all-2.ensures.begins in
    search (rules, begins)
