use Rattle.conflict_rows.proofs.Finding.{contained}
use Rattle.additions_text.specs.Additions.{IsSectionText}
use Rattle.additions_text.proofs.Turns.{goes_begin, goes_end, goes_more}
use Rattle.additions_text.proofs.parts.add_sections.Goals as goal

pub loop-place-init : goal.loop-place-init
loop-place-init c = goes_begin (IsSectionText c.args.known.now.exchange.now c.args.known.now.summaries.now) c.args.sections.now c.args.text.now

pub section_text-requires-clause-within : goal.section_text-requires-clause-within
section_text-requires-clause-within c = c.requires.within c.section_at-section.result
    (contained c.args.sections.now c.loop-place.place c.section_at-section.result c.section_at-section.ensures)

pub section_text-requires-clause-asked : goal.section_text-requires-clause-asked
section_text-requires-clause-asked c = c.requires.asked c.section_at-section.result
    (contained c.args.sections.now c.loop-place.place c.section_at-section.result c.section_at-section.ensures)

pub loop-place-preserved : goal.loop-place-preserved
loop-place-preserved c =
    goes_more (IsSectionText c.args.known.now.exchange.now c.args.known.now.summaries.now) c.args.sections.now
    c.loop-place.place c.section_at-section.result c.in_ok-part.part c.as_slice-bytes.result.now c.args.text.now
    c.loop-place.text c.append.new.self
    c.section_at-section.ensures c.in_ok-part.ensures c.as_slice-bytes.ensures c.in_ok-append.ensures c.loop-place.invariant

pub returns : goal.returns
returns c =
    goes_end (IsSectionText c.args.known.now.exchange.now c.args.known.now.summaries.now) c.args.sections.now
    c.loop-place.place c.args.text.now c.loop-place.text c.loop-place-test.false c.loop-place.invariant
