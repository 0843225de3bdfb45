use Rattle.std.proofs.Common.{◌≡◌, ◌++◌, take}
use Rattle.job_table.specs.Writing.{value_words}
use Rattle.job_table.proofs.write.add_values.Given as goal

abbrev pub invariant-loop-value : goal.invariant-loop-value
invariant-loop-value l = l.text ≡ l.fn.text ++ value_words (take l.value-index l.values)
