use Rattle.pair_laws.proofs.Apart.{reads_apart, writes_apart}
use Rattle.pair_laws.proofs.laws.permits_are_apart.Goals as goal

pub returns-clause-writes : goal.returns-clause-writes
returns-clause-writes c = λ x facts s first later a b w h p q. writes_apart x facts s first later a b h w p q

pub returns-clause-reads : goal.returns-clause-reads
returns-clause-reads c = λ x facts s first later a b w h p q. reads_apart x facts s first later a b h w p q
