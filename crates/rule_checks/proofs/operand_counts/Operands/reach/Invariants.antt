use Rattle.std.proofs.Common.{◌+◌, ◌-◌, length}
use Rattle.rule_checks.proofs.CountSteps.{Grown}
use Rattle.rule_checks.proofs.operand_counts.Operands.reach.Given as goal

abbrev pub invariant-room : goal.invariant-room
invariant-room l = Grown l.fn.self.of.items l.self.of.items

abbrev pub decreases-room : goal.decreases-room
decreases-room l = l.owner + 1 - length l.self.of.items
