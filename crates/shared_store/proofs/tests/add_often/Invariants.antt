use Rattle.std.proofs.Common.{◌≡◌}
use Rattle.shared_store.proofs.tests.add_often.Given as goal

abbrev pub invariant-loop-round : goal.invariant-loop-round
invariant-loop-round l = record {
  store : l.seat.0 ≡ l.initial.seat.0;
  lent : l.seat.1.lent ≡ l.initial.seat.1.lent;
}
