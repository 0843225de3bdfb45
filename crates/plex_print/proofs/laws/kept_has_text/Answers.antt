use Rattle.plex_print.proofs.Productions.{kept}
use Rattle.plex_print.proofs.laws.kept_has_text.Goals as goal

pub returns : goal.returns
returns c = kept
