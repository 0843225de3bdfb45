use Rattle.certificate_text.proofs.Once.{one_certificate}
use Rattle.certificate_text.proofs.laws.text_has_one_certificate.Goals as goal

pub returns : goal.returns
returns c = one_certificate
