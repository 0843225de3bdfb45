use Rattle.pair_laws.proofs.Ordering.{orders_same, reads_same, writes_same}
use Rattle.pair_laws.proofs.laws.orders_are_alike.Goals as goal

pub returns-clause-orders : goal.returns-clause-orders
returns-clause-orders c = λ x facts s first later a b h k l. orders_same x facts s first later a b h k l

pub returns-clause-reads : goal.returns-clause-reads
returns-clause-reads c = λ x facts s first later a b w h k. reads_same x facts s first later a b h k w

pub returns-clause-writes : goal.returns-clause-writes
returns-clause-writes c = λ x facts s first later a b w h k. writes_same x facts s first later a b h k w
