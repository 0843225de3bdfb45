use Rattle.std.proofs.Common.{◌≡◌, ◌≤◌}
use Rattle.std.specs.List.{concat}
use Rattle.text_parts.proofs.Written.{WroteParts, left_from}
use Rattle.text_parts.proofs.writing.write_parts.Given as goal

abbrev pub invariant-loop-i : goal.invariant-loop-i
invariant-loop-i g l = record {
  wrote : WroteParts (g.K.Sink.written l.initial.sink) (g.K.Sink.written l.sink) (left_from l.parts l.i) (concat l.parts);
  size : g.K.Sink.size l.sink ≡ g.K.Sink.size l.initial.sink;
  later : g.K.Sink.faults l.initial.sink ≤ g.K.Sink.faults l.sink;
}
