use Rattle.exchange_model.specs.Inside.{relation_exprs}
use Rattle.entry_faults.proofs.Listing.{AddsGo}
use Rattle.entry_faults.proofs.exprs.push_relations.Given as goal

abbrev pub invariant-loop-relation : goal.invariant-loop-relation
invariant-loop-relation l = AddsGo relation_exprs l.relations l.fn.exprs l.relation-index l.exprs
