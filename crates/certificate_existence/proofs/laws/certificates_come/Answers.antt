use Rattle.certificate_existence.proofs.Certifying.{certificate}
use Rattle.certificate_existence.proofs.laws.certificates_come.Goals as goal

pub returns : goal.returns
returns c = certificate
