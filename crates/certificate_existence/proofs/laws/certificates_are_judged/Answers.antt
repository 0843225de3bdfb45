use Rattle.certificate_existence.proofs.Certifying.{found}
use Rattle.certificate_existence.proofs.laws.certificates_are_judged.Goals as goal

pub returns : goal.returns
returns c = λ x certificate kept. found x kept certificate
