use Rattle.answer_meaning.proofs.Stages.{text_comes}
use Rattle.known_exchange.proofs.files.text_in.Goals as goal

pub returns-in-Ok-clause-comes : goal.returns-in-Ok-clause-comes
returns-in-Ok-clause-comes g c = text_comes _ _ c.in-Ok.text c.fitting.result _ _ c.in-Ok.ensures.bytes c.fitting.ensures.is c.in-Ok.ensures.later
