use Rattle.certificate_text.proofs.Heads.{no_version}
use Rattle.certificate_text.proofs.read_head.version.Goals as goal

pub returns-in-None : goal.returns-in-None
returns-in-None c = no_version c.args.text.now c.in_default.ensures c.in-None.ensures
