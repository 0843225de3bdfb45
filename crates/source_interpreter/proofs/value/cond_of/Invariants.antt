use Rattle.std.proofs.Common.{◌≡◌, drop}
use Rattle.std.specs.List.{AllByRecursion}
use Rattle.source_meaning.specs.Value.{any_value, answer_of, cond_value}
use Rattle.job_types.specs.Truth.{one_if}
use Rattle.source_interpreter.specs.Kept.{AreRelationsOfText}
use Rattle.source_interpreter.proofs.value.cond_of.Given as goal

abbrev pub invariant-loop-relations : goal.invariant-loop-relations
invariant-loop-relations l = record {
  left : answer_of (any_value (drop l.relations-index l.relations-items) (one_if l.any) l.view) ≡ answer_of (cond_value l.cond l.view);
  kept : AllByRecursion AreRelationsOfText (drop l.relations-index l.relations-items);
}
