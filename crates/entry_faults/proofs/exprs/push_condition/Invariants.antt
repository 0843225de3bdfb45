use Rattle.entry_faults.proofs.Listing.{AddsGo, condition_listed}
use Rattle.entry_faults.proofs.exprs.push_condition.Given as goal

abbrev pub invariant-loop-relations : goal.invariant-loop-relations
invariant-loop-relations l = AddsGo condition_listed l.relations-items l.fn.exprs l.relations-index l.exprs
