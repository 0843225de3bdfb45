use Rattle.store_layout.proofs.Laying.{files_laid_more}
use Rattle.store_layout.proofs.layout.lay_files.Goals as goal

pub loop-file-preserved : goal.loop-file-preserved
loop-file-preserved c =
    files_laid_more c.args.rows.now c.loop-file.rows c.push.new.self c.args.first c.loop-file.word
    c.loop-file.file-index c.len.result c.record_cells.result c.cells-word.result c.args.files.now
    c.file-item.result c.loop-file-test.true c.file-item.is c.len.ensures c.record_cells.ensures
    c.cells-word.ensures c.in_ok-push.ensures c.loop-file.invariant
