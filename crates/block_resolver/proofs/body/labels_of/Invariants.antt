use Rattle.block_resolver.proofs.Items.{Placed}
use Rattle.block_resolver.proofs.body.labels_of.Given as goal

abbrev pub invariant-loop-item : goal.invariant-loop-item
invariant-loop-item l = Placed l.items l.item-index l.place l.list
