use Rattle.text_soundness.proofs.ServedSaid.{said_of}
use Rattle.text_soundness.proofs.laws.fine_blocks_are_served.Goals as goal

pub returns : goal.returns
returns c = said_of
