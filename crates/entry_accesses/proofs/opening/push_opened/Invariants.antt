use Rattle.entry_accesses.specs.Opening.{OpenedBy}
use Rattle.entry_accesses.proofs.Adding.{AddsGo}
use Rattle.entry_accesses.proofs.opening.push_opened.Given as goal

abbrev pub invariant-loop-access : goal.invariant-loop-access
invariant-loop-access l = AddsGo (OpenedBy l.exchange) l.accesses l.access-index l.fn.all l.all
