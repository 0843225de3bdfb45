use Rattle.block_resolver.specs.Tables.{env_in}
use Rattle.block_resolver.proofs.Items.{ItemsLeft}
use Rattle.block_resolver.proofs.body.make_items.Given as goal

abbrev pub invariant-loop-item : goal.invariant-loop-item
invariant-loop-item l = ItemsLeft (env_in l.names) l.items l.item-index l.made l.point l.fn.point
