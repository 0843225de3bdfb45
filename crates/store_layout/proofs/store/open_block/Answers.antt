use Rattle.std.proofs.Common.{◌++◌}
use Rattle.exchange_model.specs.Opening.{file_opening, inits}
use Rattle.store_layout.proofs.Opened.{filled_more}
use Rattle.store_layout.proofs.store.open_block.Goals as goal

pub loop-file-preserved : goal.loop-file-preserved
loop-file-preserved c =
    filled_more file_opening (c.args.store.now ++ inits c.args.block.now.variables) c.loop-file.store
    c.open_file.new.store c.args.block.now.files c.as_slice-file-items.result.now c.loop-file.file-index
    c.file-item.result c.as_slice-file-items.ensures c.loop-file-test.true c.file-item.is c.in_ok-open_file.ensures
    c.loop-file.invariant
