use Rattle.std.proofs.Common.{◌≡◌, None, replicate}
use Rattle.least_facts.proofs.marks.no_firsts.Given as goal

abbrev pub invariant-loop : goal.invariant-loop
invariant-loop l = l.firsts ≡ replicate l.counter None
