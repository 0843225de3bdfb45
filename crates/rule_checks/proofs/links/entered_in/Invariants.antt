use Rattle.std.specs.Str.{bytes_eq}
use Rattle.indexmap.specs.IndexSet.{contains}
use Rattle.text_rules.specs.Surveys.{item_enters}
use Rattle.text_rules.proofs.LinkSteps.{Has}
use Rattle.rule_checks.proofs.links.entered_in.Given as goal

abbrev pub invariant-loop-item : goal.invariant-loop-item
invariant-loop-item l = Has item_enters l.items l.item-index (λ s. contains bytes_eq l.names.names s)
