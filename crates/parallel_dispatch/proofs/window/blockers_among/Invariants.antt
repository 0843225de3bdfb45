use Rattle.std.proofs.Common.{◌≡◌, ◌-◌, drop, length}
use Rattle.parallel_dispatch.proofs.Passing.{PassAll}
use Rattle.parallel_dispatch.proofs.window.blockers_among.Given as goal

abbrev pub invariant-loop-behind : goal.invariant-loop-behind
invariant-loop-behind g l = record {
  kept : l.pairs ≡ l.initial.pairs;
  pass : PassAll l.initial.pairs l.later (drop (length l.older.items - l.behind) l.older.items);
}
