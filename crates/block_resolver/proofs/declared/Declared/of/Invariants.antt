use Rattle.block_resolver.specs.Tables.{meanings_in}
use Rattle.block_resolver.proofs.Meanings.{Meant}
use Rattle.block_resolver.proofs.declared.Declared.of.Given as goal

abbrev pub invariant-loop-event : goal.invariant-loop-event
invariant-loop-event l = Meant l.first_file l.events l.event-index (meanings_in l.declared)
