use Rattle.certificate_existence.proofs.Reading.{text_read}
use Rattle.certificate_existence.proofs.laws.texts_are_read.Goals as goal

pub returns : goal.returns
returns c = text_read
