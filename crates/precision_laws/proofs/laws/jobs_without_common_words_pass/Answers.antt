use Rattle.precision_laws.proofs.Wording.{all_pass, all_stand}
use Rattle.precision_laws.proofs.laws.jobs_without_common_words_pass.Goals as goal

pub returns : goal.returns
returns c = λ x e f first later a b chains kept one other none besides. all_pass x first later
    (all_stand x kept e first one) (all_stand x kept f later other) kept a b chains none besides
