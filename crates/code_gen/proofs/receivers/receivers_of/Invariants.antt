use Rattle.std.proofs.Common.{◌≡◌, ◌++◌, drop}
use Rattle.stmt_code.specs.Whole.{receivers_from}
use Rattle.code_gen.proofs.receivers.receivers_of.Given as goal

abbrev pub invariant-loop-number : goal.invariant-loop-number
invariant-loop-number l = l.list ++ receivers_from l.number l.signal (drop l.number l._block-items) ≡ receivers_from 0 l.signal l.exchange.blocks
