use Rattle.std.proofs.Common.{◌≡◌, ◌++◌, take}
use Rattle.expr_code.proofs.push.push_all.Given as goal

abbrev pub invariant-loop-op : goal.invariant-loop-op
invariant-loop-op l = l.ops ≡ l.fn.ops ++ take l.op-index l.more
