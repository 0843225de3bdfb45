use Rattle.start_permit.proofs.Tabled.{all_filled, blocks_more, files_small, places_new}
use Rattle.start_permit.proofs.table.places_of_fields.Goals as goal

pub loop-block-init : goal.loop-block-init
loop-block-init c = places_new c.args.blocks.now c.new-places.result c.new-places.ensures

pub push_files-requires : goal.push_files-requires
push_files-requires c = files_small c.args.blocks.now c.loop-block.block-index c.block-item.result c.as_slice.result.now
    c.requires c.loop-block-test.true c.block-item.is c.as_slice.ensures

pub loop-block-preserved : goal.loop-block-preserved
loop-block-preserved c = blocks_more c.loop-block.places c.push_files.new.places c.args.blocks.now
    c.loop-block.block-index c.block-item.result c.as_slice.result.now c.loop-block-test.true c.block-item.is
    c.as_slice.ensures c.in_ok-push_files.ensures c.loop-block.invariant

pub returns : goal.returns
returns c = all_filled c.loop-block.places c.args.blocks.now c.loop-block.block-index c.loop-block-test.false c.loop-block.invariant
