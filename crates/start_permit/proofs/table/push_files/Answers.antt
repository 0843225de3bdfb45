use Rattle.std.proofs.Common.{rules}
use Rattle.start_permit.specs.Listed.{file_places}
use Rattle.start_permit.proofs.Tabled.{filled_begin, filled_end, files_more, file_small}
use Rattle.start_permit.proofs.table.push_files.Goals as goal

pub loop-file-init : goal.loop-file-init
loop-file-init c = filled_begin file_places c.args.places.now c.args.files.now

pub overflow_cast-count : goal.overflow_cast-count
overflow_cast-count c =
    let small = file_small c.args.files.now c.loop-file.file-index c.file-item.result c.len-count.result c.requires
    c.loop-file-test.true c.file-item.is c.len-count.ensures in
    search (rules, small)

pub loop-file-preserved : goal.loop-file-preserved
loop-file-preserved c = files_more c.args.places.now c.loop-file.places c.push_places.new.places c.args.files.now
    c.loop-file.file-index c.len-count.result c.file-item.result c.loop-file-test.true c.file-item.is
    c.len-count.ensures c.in_ok-push_places.ensures c.loop-file.invariant

pub returns : goal.returns
returns c = filled_end file_places c.args.places.now c.loop-file.places c.args.files.now c.loop-file.file-index c.loop-file-test.false c.loop-file.invariant
