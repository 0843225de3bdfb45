use Rattle.pair_laws.proofs.Apart.{retired_store, retirement_apart}
use Rattle.pair_laws.proofs.laws.retirements_are_stores.Goals as goal

pub returns-clause-words : goal.returns-clause-words
returns-clause-words c = λ x facts s t first later a b done h d. retired_store x facts s first later a b done h d t

pub returns-clause-apart : goal.returns-clause-apart
returns-clause-apart c = λ x facts s first later a b done w h d reads. retirement_apart x facts s first later a b done h d w reads
