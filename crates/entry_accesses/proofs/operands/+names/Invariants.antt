use Rattle.source_meaning.specs.Named.{named_in_term, named_in_joined}
use Rattle.entry_accesses.proofs.Naming.{NamesGo}
use Rattle.entry_accesses.proofs.operands.+names.Given as goal

abbrev pub invariant-push_factors-loop-joined : goal.invariant-push_factors-loop-joined
invariant-push_factors-loop-joined l = NamesGo named_in_joined l.factors l.joined-index l.fn.names l.names

abbrev pub invariant-push_terms-loop-term : goal.invariant-push_terms-loop-term
invariant-push_terms-loop-term l = NamesGo named_in_term l.terms l.term-index l.fn.names l.names
