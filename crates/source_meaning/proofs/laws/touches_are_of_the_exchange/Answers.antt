use Rattle.source_meaning.proofs.Touching.{touches_inside}
use Rattle.source_meaning.proofs.laws.touches_are_of_the_exchange.Goals as goal

pub returns : goal.returns
returns c = λ x start store kept. touches_inside x kept start store
