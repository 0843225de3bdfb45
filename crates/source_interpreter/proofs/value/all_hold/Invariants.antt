use Rattle.std.proofs.Common.{◌≡◌, drop}
use Rattle.source_meaning.specs.Value.{all_value, answer_of}
use Rattle.job_types.specs.Truth.{one_if}
use Rattle.source_interpreter.specs.Kept.{AreRelationsOfText}
use Rattle.source_interpreter.proofs.value.all_hold.Given as goal

abbrev pub invariant-loop-relation : goal.invariant-loop-relation
invariant-loop-relation l = record {
  left : answer_of (all_value (drop l.relation-index l.relations) (one_if l.all) l.view) ≡ answer_of (all_value l.relations 1 l.view);
  kept : AreRelationsOfText (drop l.relation-index l.relations);
}
