use Rattle.std.proofs.Common.{◌≡◌, [], length, drop}
use Rattle.source_meaning.specs.Value.{values_of}
use Rattle.source_interpreter.specs.Kept.{AreExprsOfText}
use Rattle.source_interpreter.specs.Running.{sight_of}
use Rattle.source_interpreter.proofs.run.Run.values.Given as goal

abbrev pub invariant-loop-e : goal.invariant-loop-e
invariant-loop-e l = record {
  some : length l.values ≡ l.e-index;
  kept : AreExprsOfText (drop l.e-index l.exprs);
  left : values_of (drop l.e-index l.exprs) l.values (sight_of l.self l.store) ≡ values_of l.exprs [] (sight_of l.self l.store);
}
