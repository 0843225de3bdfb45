use Rattle.entry_accesses.specs.Uses.{UseGives}
use Rattle.entry_accesses.proofs.Adding.{AddsGo}
use Rattle.entry_accesses.proofs.accesses.push_all.Given as goal

abbrev pub invariant-loop-used : goal.invariant-loop-used
invariant-loop-used g l = AddsGo (UseGives (g.K.KnownFacts.knows l.known) l.entry l.point) l.uses l.used-index l.fn.accesses l.accesses
