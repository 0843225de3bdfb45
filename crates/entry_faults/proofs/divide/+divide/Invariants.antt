use Rattle.std.proofs.Common.{◌≡◌, drop, map}
use Rattle.std.specs.List.{list_any}
use Rattle.entry_summary.specs.Faults.{may_divide_by_zero}
use Rattle.entry_summary.specs.Divides.{joins_badly, term_divides}
use Rattle.entry_faults.proofs.divide.+divide.Given as goal

abbrev pub invariant-may_divide_by_zero-loop-term : goal.invariant-may_divide_by_zero-loop-term
invariant-may_divide_by_zero-loop-term l = list_any (λ t. t) (map term_divides (drop l.term-index l.term-items)) ≡ may_divide_by_zero l.e

abbrev pub invariant-term_divides-loop-joined : goal.invariant-term_divides-loop-joined
invariant-term_divides-loop-joined l = list_any (λ t. t) (map joins_badly (drop l.joined-index l.joined-items)) ≡ term_divides l.term
