use Rattle.certificate_text.proofs.Once.{its_texts, texts_apart}
use Rattle.certificate_text.proofs.laws.certificate_has_these_texts.Goals as goal

pub returns-clause-texts : goal.returns-clause-texts
returns-clause-texts c = its_texts

pub returns-clause-apart : goal.returns-clause-apart
returns-clause-apart c = texts_apart
