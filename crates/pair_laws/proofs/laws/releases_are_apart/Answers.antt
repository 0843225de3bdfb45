use Rattle.pair_laws.proofs.Apart.{other_forlopp, release_apart, some_forlopp}
use Rattle.pair_laws.proofs.laws.releases_are_apart.Goals as goal

pub returns-clause-forlopps : goal.returns-clause-forlopps
returns-clause-forlopps c = λ x facts s first later a b h fault.
    (some_forlopp x facts s first later a b h fault, other_forlopp x facts s first later a b h fault)

pub returns-clause-words : goal.returns-clause-words
returns-clause-words c = λ x facts s first later a b held store w h fault records hold reads. release_apart x facts s
    first later a b h fault held store w records hold reads
