use Rattle.text_soundness.proofs.SpelledTexts.{tree_least}
use Rattle.text_soundness.proofs.laws.choices_are_spelled.Goals as goal

pub returns : goal.returns
returns c = λ t w spelled. (tree_least t).long w spelled
