use Rattle.conflict_rows.proofs.Finding.{contained}
use Rattle.conflicts_meaning.specs.Told.{HasSectionLines, IsSectionText}
use Rattle.conflicts_text.proofs.Telling.{goes_begin, goes_end, goes_more, goes_stop}
use Rattle.conflicts_text.proofs.told.add_sections.Goals as goal

pub loop-place-init : goal.loop-place-init
loop-place-init c = (
  goes_begin (IsSectionText c.args.means.now.exchange.now c.args.means.now.summaries.now)
      (HasSectionLines c.args.means.now.exchange.now c.args.means.now.summaries.now) c.args.most c.args.sections.now
      c.args.text.now,
  c.requires.own,
)

pub section_text-requires-clause-within : goal.section_text-requires-clause-within
section_text-requires-clause-within c = c.requires.within c.section_at-section.result
    (contained c.args.sections.now c.loop-place.place c.section_at-section.result c.section_at-section.ensures)

pub loop-place-preserved : goal.loop-place-preserved
loop-place-preserved c = (
  goes_more (IsSectionText c.args.means.now.exchange.now c.args.means.now.summaries.now)
      (HasSectionLines c.args.means.now.exchange.now c.args.means.now.summaries.now) c.args.most c.args.sections.now
      c.loop-place.place c.loop-place.room c.len-size.result c.section_at-section.result c.in_ok-found.found
      c.in-Some.part
      c.as_slice-bytes.result.now c.args.text.now c.loop-place.text c.append.new.self c.section_at-section.ensures
      c.in_ok-found.ensures.text c.in-Some.is c.len-size.ensures
      c.as_slice-bytes.ensures c.in_ok-append.ensures c.loop-place.invariant.0,
  c.in_ok-found.ensures.own,
)

pub returns-in_default : goal.returns-in_default
returns-in_default c =
    goes_stop (IsSectionText c.args.means.now.exchange.now c.args.means.now.summaries.now)
    (HasSectionLines c.args.means.now.exchange.now c.args.means.now.summaries.now) c.args.most c.args.sections.now
    c.loop-place.place c.loop-place.room c.section_at-section.result c.in_ok-found.found c.args.text.now
    c.loop-place.text c.add_limit.new.text
    c.section_at-section.ensures c.in_ok-found.ensures.text c.in_default.is c.in_ok-add_limit.ensures c.loop-place.invariant.0

pub returns : goal.returns
returns c =
    goes_end (IsSectionText c.args.means.now.exchange.now c.args.means.now.summaries.now)
    (HasSectionLines c.args.means.now.exchange.now c.args.means.now.summaries.now) c.args.most c.args.sections.now
    c.loop-place.place c.loop-place.room c.args.text.now c.loop-place.text c.add_last.new.text
    c.loop-place-test.false c.in_ok-add_last.ensures c.loop-place.invariant.0
