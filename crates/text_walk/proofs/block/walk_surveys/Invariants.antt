use Rattle.text_events.specs.Blocks.{survey_walk}
use Rattle.text_events.proofs.Steps.{Turns}
use Rattle.text_walk.proofs.block.walk_surveys.Given as goal

abbrev pub invariant-loop-s : goal.invariant-loop-s
invariant-loop-s l = Turns survey_walk l.surveys l.s-index l.out l.fn.out
