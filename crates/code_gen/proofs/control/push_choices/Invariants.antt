use Rattle.std.proofs.Common.{◌≡◌, ◌++◌, drop}
use Rattle.code_gen.specs.Choices.{choice_codes}
use Rattle.code_gen.proofs.control.push_choices.Given as goal

abbrev pub invariant-loop-choice : goal.invariant-loop-choice
invariant-loop-choice l = l.ops ++ choice_codes (drop l.choice-index l.choices) l.end ≡ l.fn.ops ++ choice_codes l.choices l.end
