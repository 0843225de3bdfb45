use Rattle.source_meaning.specs.Named.{named_in}
use Rattle.entry_accesses.proofs.Naming.{NamesGo}
use Rattle.entry_accesses.proofs.operands.push_exprs.Given as goal

abbrev pub invariant-loop-value : goal.invariant-loop-value
invariant-loop-value l = NamesGo named_in l.values l.value-index l.fn.names l.names
