use Rattle.std.proofs.Common.{◌≡◌, List, rules}
use Rattle.std.proofs.lemmas.Grind.{common_steps}
use Rattle.exchange_model.specs.declared.block.Block.{Block}
use Rattle.store_layout.proofs.Laying.{files_fit}
use Rattle.report_text.proofs.Cells.{fields_begin}
use Rattle.report_text.proofs.stored.add_fields.Goals as goal

pub loop-number-init : goal.loop-number-init
loop-number-init c = fields_begin c.args.exchange.now.blocks c.args.store.now c.args.text.now

pub add_files-requires-clause-fits : goal.add_files-requires-clause-fits
add_files-requires-clause-fits c =
    let items : List Block = c.as_slice-block-items.result.now in
    let same : items ≡ c.args.exchange.now.blocks = search (rules, common_steps) in
    files_fit c.args.exchange.now items c.loop-number.number c.block-item.result c.as_slice.result.now c.kept.ensures
    same c.loop-number-test.true c.block-item.is c.as_slice.ensures
