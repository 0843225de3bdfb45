use Rattle.pair_laws.proofs.Apart.{reads_stay, writes_stay}
use Rattle.pair_laws.proofs.laws.permits_stay.Goals as goal

pub returns-clause-reads : goal.returns-clause-reads
returns-clause-reads c = λ x facts s first later a b chains w h leaves. reads_stay x facts s first later a b chains h leaves w

pub returns-clause-writes : goal.returns-clause-writes
returns-clause-writes c = λ x facts s first later a b chains w h leaves. writes_stay x facts s first later a b chains h leaves w
