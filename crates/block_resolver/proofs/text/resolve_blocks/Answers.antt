use Rattle.std.proofs.Common.{◌<◌, length, subst}
use Rattle.block_resolver.proofs.BlockSteps.{part_there}
use Rattle.block_resolver.proofs.text.resolve_blocks.Goals as goal

pub events_of-events-requires : goal.events_of-events-requires
events_of-events-requires c = part_there c.args.tree.now c.args.parts.now c.loop-number.number c.requires.parts
    (subst (λ l. c.loop-number.number < length l) c.as_slice-block-items.ensures c.loop-number-test.true)
