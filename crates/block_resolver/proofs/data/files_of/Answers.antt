use Rattle.std.proofs.Common.{◌+◌, drop, arith, ◌∙◌}
use Rattle.resolved_block.specs.Blocks.{files_from}
use Rattle.block_resolver.proofs.Files.{files_cut}
use Rattle.block_resolver.proofs.data.files_of.Goals as goal

pub loop-decl-preserved : goal.loop-decl-preserved
loop-decl-preserved c = record {
  same = c.in_ok-add_file.ensures (files_from (drop (c.loop-decl.decl-index + 1) c.args.decls.now))
      ∙ files_cut c.args.decls.now _ _ _ _ _ (omega arith) c.decl-item.is c.loop-decl.invariant;
}
