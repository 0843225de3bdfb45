use Rattle.std.proofs.Common.{◌≡◌, drop}
use Rattle.source_meaning.specs.Changes.{takes}
use Rattle.source_interpreter.proofs.run.take_values.Given as goal

abbrev pub invariant-loop-place : goal.invariant-loop-place
invariant-loop-place l = takes l.place (drop l.place l.names) l.values l.temps ≡ takes 0 l.names l.values l.initial.temps
