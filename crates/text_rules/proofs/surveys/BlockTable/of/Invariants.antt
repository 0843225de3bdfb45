use Rattle.std.specs.Str.{bytes_eq}
use Rattle.indexmap.specs.IndexMap.{get}
use Rattle.text_rules.proofs.SurveySteps.{Told, answers_in}
use Rattle.text_rules.proofs.surveys.BlockTable.of.Given as goal

abbrev pub invariant-loop-block : goal.invariant-loop-block
invariant-loop-block l = Told l.blocks l.block-index l.number (λ n. get bytes_eq l.numbers.names n) (answers_in l.received)
