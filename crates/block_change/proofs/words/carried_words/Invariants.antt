use Rattle.block_change.proofs.Wording.{CarriedUpTo}
use Rattle.block_change.proofs.words.carried_words.Given as goal

abbrev pub invariant-loop-word : goal.invariant-loop-word
invariant-loop-word l = CarriedUpTo l.old.exchange.now l.new l.words l.carried l.word
