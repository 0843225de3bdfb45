use Rattle.std.proofs.Common.{rules}
use Rattle.std.proofs.lemmas.Grind.{common_steps}
use Rattle.front_end.proofs.Told.{is_kept}
use Rattle.front_end.proofs.phases.resolve.Goals as goal

pub exchange_with-requires : goal.exchange_with-requires
exchange_with-requires c = record {
  kept = is_kept c.args.tree.now c.in-Ok-kinds_of_signals.kinds
      c.in-Ok-blocks_of.blocks c.requires.kept c.requires.few c.in-Ok-blocks_of.ensures.fine
      (search (rules, common_steps)) c.in-Ok-blocks_of.ensures.blocks;
}
