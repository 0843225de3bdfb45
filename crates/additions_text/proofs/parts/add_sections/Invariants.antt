use Rattle.additions_text.specs.Additions.{IsSectionText}
use Rattle.additions_text.proofs.Turns.{Goes}
use Rattle.additions_text.proofs.parts.add_sections.Given as goal

abbrev pub invariant-loop-place : goal.invariant-loop-place
invariant-loop-place l = Goes (IsSectionText l.known.exchange.now l.known.summaries.now) l.sections l.place l.fn.text l.text
