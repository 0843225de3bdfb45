use Rattle.name_tables.proofs.Places.{found_is_first}
use Rattle.name_tables.proofs.laws.found_is_first.Goals as goal

pub returns : goal.returns
returns c = found_is_first
