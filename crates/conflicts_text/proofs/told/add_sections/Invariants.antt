use Rattle.least_facts.specs.Least.{IsFor}
use Rattle.conflicts_meaning.specs.Told.{HasSectionLines, IsSectionText}
use Rattle.conflicts_text.proofs.Telling.{Goes}
use Rattle.conflicts_text.proofs.told.add_sections.Given as goal

abbrev pub invariant-loop-place : goal.invariant-loop-place
invariant-loop-place l =
    Goes (IsSectionText l.means.exchange.now l.means.summaries.now)
    (HasSectionLines l.means.exchange.now l.means.summaries.now) l.most l.sections l.place l.room l.fn.text l.text
    × IsFor l.means.exchange.now l.means.table.now l.analyser
