use Rattle.store_layout.proofs.Opened.{records_more}
use Rattle.store_layout.proofs.store.open_file.Goals as goal

pub loop-record-preserved : goal.loop-record-preserved
loop-record-preserved c =
    records_more c.args.store.now c.loop-record.store c.open_record.new.store c.args.file.now c.loop-record._record
    c.in_ok-open_record.ensures c.loop-record.invariant
