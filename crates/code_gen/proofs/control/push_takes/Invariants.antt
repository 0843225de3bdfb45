use Rattle.std.proofs.Common.{◌≡◌, ◌++◌, drop}
use Rattle.stmt_code.specs.StmtCode.{takes_code}
use Rattle.code_gen.proofs.control.push_takes.Given as goal

abbrev pub invariant-loop-k : goal.invariant-loop-k
invariant-loop-k l = l.ops ++ takes_code l.k (drop l.k l.temps) ≡ l.fn.ops ++ takes_code 0 l.temps
