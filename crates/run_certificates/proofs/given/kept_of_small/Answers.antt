use Rattle.answer_meaning.proofs.Stages.{text_kept}
use Rattle.run_certificates.proofs.given.kept_of_small.Goals as goal

pub returns-in-Ok : goal.returns-in-Ok
returns-in-Ok c = text_kept c.args.exchange.now c.args.text.now c.in-Ok.certificate c.kept_of.result c.in-Ok.ensures.told c.kept_of.ensures
