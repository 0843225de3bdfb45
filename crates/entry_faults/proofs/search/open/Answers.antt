use Rattle.entry_faults.proofs.Marking.{new_within}
use Rattle.entry_faults.proofs.search.open.Goals as goal

pub set-requires : goal.set-requires
set-requires c = new_within c.args.reached.now c.args.marks.now c.args.point c.requires
