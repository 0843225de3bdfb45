use Rattle.resolved_block.specs.Blocks.{sent_in}
use Rattle.block_resolver.specs.Tables.{env_in}
use Rattle.block_resolver.proofs.Picked.{Picked}
use Rattle.block_resolver.proofs.survey.mentions_of.Given as goal

abbrev pub invariant-loop-survey : goal.invariant-loop-survey
invariant-loop-survey l = Picked (sent_in (env_in l.names)) l.surveys l.survey-index l.list
