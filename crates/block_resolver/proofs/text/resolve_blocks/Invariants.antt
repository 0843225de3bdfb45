use Rattle.signal_types.specs.Signals.{signals_of}
use Rattle.block_resolver.proofs.BlockSteps.{Resolved}
use Rattle.block_resolver.proofs.text.resolve_blocks.Given as goal

abbrev pub invariant-loop-number : goal.invariant-loop-number
invariant-loop-number l = Resolved (signals_of l.tree) l.tree.blocks l.number l.list l.first
