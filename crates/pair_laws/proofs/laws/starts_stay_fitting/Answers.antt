use Rattle.pair_laws.proofs.Apart.{start_fits}
use Rattle.pair_laws.proofs.laws.starts_stay_fitting.Goals as goal

pub returns : goal.returns
returns c = λ x facts s t first later a b done h d chains dead next. start_fits x facts s first later a b done h d t chains dead next
