use Rattle.analysis_laws.proofs.Certifying.{certificate_once, certificate_text_once}
use Rattle.analysis_laws.proofs.laws.certificates_are_one.Goals as goal

pub returns-clause-certificate : goal.returns-clause-certificate
returns-clause-certificate c = certificate_once

pub returns-clause-text : goal.returns-clause-text
returns-clause-text c = certificate_text_once
