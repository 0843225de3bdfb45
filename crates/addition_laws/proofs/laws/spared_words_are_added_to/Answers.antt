use Rattle.addition_laws.proofs.Sparing.{share_only}
use Rattle.addition_laws.proofs.laws.spared_words_are_added_to.Goals as goal

pub returns : goal.returns
returns c = λ x d s first later one other a b of_first of_later own. share_only x d s first later one other a b of_first of_later own
