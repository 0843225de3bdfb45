use Rattle.entry_faults.proofs.Listing.{AddsGo, values_listed}
use Rattle.entry_faults.proofs.exprs.push_values.Given as goal

abbrev pub invariant-loop-value : goal.invariant-loop-value
invariant-loop-value l = AddsGo values_listed l.values l.fn.exprs l.value-index l.exprs
