use Rattle.entry_accesses.proofs.Using.{ReadsGo}
use Rattle.entry_accesses.proofs.uses.push_reads.Given as goal

abbrev pub invariant-loop-name : goal.invariant-loop-name
invariant-loop-name l = ReadsGo l.here.exchange.now l.here.block l.names l.name-index l.fn.uses l.uses
