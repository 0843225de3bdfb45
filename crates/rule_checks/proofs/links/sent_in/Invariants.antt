use Rattle.std.specs.Str.{bytes_eq}
use Rattle.indexmap.specs.IndexSet.{contains}
use Rattle.text_rules.specs.Surveys.{line_sends}
use Rattle.text_rules.proofs.LinkSteps.{Has}
use Rattle.rule_checks.proofs.links.sent_in.Given as goal

abbrev pub invariant-loop-line : goal.invariant-loop-line
invariant-loop-line l = Has line_sends l.lines l.line-index (λ s. contains bytes_eq l.names.names s)
