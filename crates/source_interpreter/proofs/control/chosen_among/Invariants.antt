use Rattle.std.proofs.Common.{◌≡◌, drop}
use Rattle.source_meaning.specs.Changes.{chosen}
use Rattle.source_interpreter.proofs.control.chosen_among.Given as goal

abbrev pub invariant-loop-when : goal.invariant-loop-when
invariant-loop-when l = chosen (drop l.when-index l.whens) l.number l.otherwise ≡ chosen l.whens l.number l.otherwise
