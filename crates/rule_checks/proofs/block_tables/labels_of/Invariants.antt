use Rattle.std.specs.Str.{bytes_eq}
use Rattle.indexmap.specs.IndexSet.{contains}
use Rattle.text_rules.proofs.BlockSteps.{Labelled}
use Rattle.rule_checks.proofs.block_tables.labels_of.Given as goal

abbrev pub invariant-loop-event : goal.invariant-loop-event
invariant-loop-event l = Labelled l.events l.event-index (λ n. contains bytes_eq l.labels.names n)
