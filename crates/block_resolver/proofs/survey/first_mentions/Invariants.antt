use Rattle.block_resolver.proofs.Mentioned.{Mentioned}
use Rattle.block_resolver.proofs.survey.first_mentions.Given as goal

abbrev pub invariant-loop-number : goal.invariant-loop-number
invariant-loop-number l = Mentioned l.numbers l.number-index l.seen.keys l.list
