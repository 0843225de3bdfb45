use Rattle.start_permit.specs.Listed.{place_at}
use Rattle.start_permit.proofs.Tabled.{range_more}
use Rattle.start_permit.proofs.table.push_places.Goals as goal

pub loop-field-preserved : goal.loop-field-preserved
loop-field-preserved c = range_more c.args.places.now c.loop-field.places c.push.new.self (place_at c.args.file)
    c.loop-field.field c.in_ok-push.ensures c.loop-field.invariant
