use Rattle.conflict_rows.proofs.Finding.{found_place, missing_place}
use Rattle.conflict_rows.proofs.places.place_of.Goals as goal

pub returns-in-Ok : goal.returns-in-Ok
returns-in-Ok c = found_place c.args.accesses.now c.requires c.args.access c.in-Ok.place c.in-Ok.ensures.bound c.in-Ok.ensures.ok

pub returns-in-Err : goal.returns-in-Err
returns-in-Err c = missing_place c.args.accesses.now c.requires c.args.access _ c.in-Err.ensures.position
