use Rattle.text_soundness.proofs.Whole.{is_exchange}
use Rattle.text_soundness.proofs.laws.fine_texts_are_exchanges.Goals as goal

pub returns : goal.returns
returns c = is_exchange
