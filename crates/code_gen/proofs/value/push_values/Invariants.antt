use Rattle.std.proofs.Common.{◌≡◌, ◌++◌, drop}
use Rattle.stmt_code.specs.StmtCode.{values_code}
use Rattle.code_gen.specs.Settings.{places_in}
use Rattle.code_gen.proofs.value.push_values.Given as goal

abbrev pub invariant-loop-value : goal.invariant-loop-value
invariant-loop-value l =
    l.ops ++ values_code (drop l.value-index l.value-items) (places_in l.at).site l.first ≡ l.fn.ops ++ values_code l.values (places_in l.at).site l.first
