use Rattle.std.proofs.Common.{length, ◌-◌, ◌≡◌, ◌≤◌, take, []}
use Rattle.plex_io.specs.Written.{appended}
use Rattle.plex_io.proofs.sink.write_all.Given as goal

abbrev pub invariant-loop-at : goal.invariant-loop-at
invariant-loop-at g l = record {
  within : l.at ≤ length l.text;
  bytes : g.K.Sink.written l.sink ≡ appended (g.K.Sink.written l.initial.sink) (take l.at l.text);
  size : g.K.Sink.size l.sink ≡ g.K.Sink.size l.initial.sink;
  empty : l.text ≡ [] → l.sink ≡ l.initial.sink;
  later : g.K.Sink.faults l.initial.sink ≤ g.K.Sink.faults l.sink;
}

abbrev pub decreases-loop-at : goal.decreases-loop-at
decreases-loop-at g l = length l.text - l.at
