use Rattle.start_permit.proofs.Choosing.{sorted_rises}
use Rattle.start_permit.proofs.runs.sorted_numbers.Goals as goal

pub returns-in-Ok-clause-rising : goal.returns-in-Ok-clause-rising
returns-in-Ok-clause-rising c = sorted_rises c.sort_unstable.new.self.items c.from_vec.result c.sort_unstable.ensures.sorted c.from_vec.ensures
