use Rattle.std.proofs.Common.{rules, arith, ◌∙◌, ap, ◌+◌, ◌||◌, ◌&&◌, nat_eq}
use Rattle.std.specs.Prelude.{if◌then◌else◌}
use Rattle.std.specs.Str.{bytes_eq}
use Rattle.indexmap.specs.IndexMap.{get}
use Rattle.first_fault.specs.First.{any, or_else}
use Rattle.text_rules.specs.Surveys.{line_receives}
use Rattle.text_rules.specs.Received.{has_pair, counted_in, first_in, chosen}
use Rattle.text_rules.proofs.SurveySteps.{answers_in, blocks_fresh, blocks_step, blocks_named}
use Rattle.text_rules.proofs.SurveySteps.{blocks_pairs, blocks_counts, blocks_firsts}
use Rattle.text_rules.proofs.surveys.BlockTable.of.Goals as goal

pub receive_all-requires : goal.receive_all-requires
receive_all-requires c = record {
  fresh = blocks_fresh c.args.blocks.now _ _
      (λ n. get bytes_eq c.loop-block.numbers.names n) (answers_in c.loop-block.received) (omega arith)
      c.loop-block.invariant;
}

pub loop-block-preserved : goal.loop-block-preserved
loop-block-preserved c = blocks_step c.args.blocks.now _ c.loop-block.number _ c.block-item.result
    (λ n. get bytes_eq c.loop-block.numbers.names n) (λ n. get bytes_eq c.add.new.self.names n)
    (answers_in c.loop-block.received) (answers_in c.receive_all.new.self) (omega arith) c.block-item.is (search rules)
    (λ n. c.in_ok-add.ensures n)
    (λ b s. c.in_ok-receive_all.ensures.pairs b s
    ∙ ap (λ l. has_pair c.loop-block.received b s || (nat_eq b c.loop-block.number && any (line_receives s) l))
    c.as_slice.ensures)
    (λ s. c.in_ok-receive_all.ensures.counts s ∙ ap (λ l. counted_in c.loop-block.received s + (if any (line_receives s) l then 1 else 0)) c.as_slice.ensures)
    (λ s. c.in_ok-receive_all.ensures.first s ∙ ap
    (λ l. or_else (first_in c.loop-block.received s) (chosen (any (line_receives s) l) c.loop-block.number))
    c.as_slice.ensures)
    c.loop-block.invariant

pub invariant_of-result : goal.invariant_of-result
invariant_of-result c = record {
  named = blocks_named c.args.blocks.now _ _ (λ n. get bytes_eq c.loop-block.numbers.names n)
      (answers_in c.loop-block.received) (omega arith) c.loop-block.invariant;
  pairs = blocks_pairs c.args.blocks.now _ _ (λ n. get bytes_eq c.loop-block.numbers.names n)
      (answers_in c.loop-block.received) (omega arith) c.loop-block.invariant;
  counted = blocks_counts c.args.blocks.now _ _ (λ n. get bytes_eq c.loop-block.numbers.names n)
      (answers_in c.loop-block.received) (omega arith) c.loop-block.invariant;
  first = blocks_firsts c.args.blocks.now _ _ (λ n. get bytes_eq c.loop-block.numbers.names n)
      (answers_in c.loop-block.received) (omega arith) c.loop-block.invariant;
}
