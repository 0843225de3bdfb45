use Rattle.std.proofs.Common.{◌≡◌, ◌++◌, drop}
use Rattle.stmt_code.specs.StmtCode.{retrieve_code}
use Rattle.code_gen.proofs.signals.push_retrieves.Given as goal

abbrev pub invariant-loop-k : goal.invariant-loop-k
invariant-loop-k l = l.ops ++ retrieve_code l.k (drop l.k l.temps) ≡ l.fn.ops ++ retrieve_code 0 l.temps
