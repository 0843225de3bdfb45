use Rattle.job_table.proofs.Noting.{noted_more}
use Rattle.job_table.proofs.places.places_of.Goals as goal

pub loop-place-preserved : goal.loop-place-preserved
loop-place-preserved c =
    noted_more c.loop-place.places c.note.new.self c.args.lines.now c.loop-place.place c.index-lines-place.result
    c.loop-place-test.true c.index-lines-place.is c.loop-place.invariant c.in_ok-note.ensures
