use Rattle.certificate_text.proofs.Once.{bad_line_told, certificate_told}
use Rattle.certificate_text.proofs.read.read_certificate.Goals as goal

pub returns-clause-certificate : goal.returns-clause-certificate
returns-clause-certificate c = λ k. certificate_told c.args.text.now c.read_text.result k c.read_text.ensures

pub returns-clause-bad_line : goal.returns-clause-bad_line
returns-clause-bad_line c = λ l. bad_line_told c.args.text.now c.read_text.result l c.read_text.ensures
