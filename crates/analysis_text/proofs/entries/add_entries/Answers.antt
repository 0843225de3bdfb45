use Rattle.std.specs.List.{concat}
use Rattle.plex_num.proofs.Lists.{some_at}
use Rattle.analysis_text.specs.Lines.{entries_text}
use Rattle.analysis_text.proofs.Listing.{bodies_begin, entries_begin, entries_end, entries_more}
use Rattle.analysis_text.proofs.Listing.{number_within}
use Rattle.analysis_text.proofs.entries.add_entries.Goals as goal

pub loop-number-init : goal.loop-number-init
loop-number-init c = (
  entries_begin c.args.exchange.now c.args.names.now c.args.summaries.now (concat c.args.parts.now),
  bodies_begin c.args.names.now c.args.summaries.now c.args.parts.now c.new-places.result c.new-places.ensures,
)

pub loop-number-preserved : goal.loop-number-preserved
loop-number-preserved c =
    let s = some_at c.args.summaries.now c.loop-number.number
    (number_within c.loop-number.number c.len-number-end.result c.args.summaries.now c.loop-number-test.true
    c.len-number-end.ensures) in (
      entries_more c.args.exchange.now c.args.names.now c.args.summaries.now c.loop-number.number s.0
          (concat c.args.parts.now) (concat c.loop-number.parts) (concat c.add_entry.new.parts)
          (entries_text c.args.exchange.now c.args.names.now c.args.summaries.now)
          s.1 (c.in_ok-add_entry.ensures.text s.0 s.1) c.loop-number.invariant.0,
      c.in_ok-add_entry.ensures.bodies,
    )

pub returns : goal.returns
returns c =
    entries_end c.args.exchange.now c.args.names.now c.args.summaries.now c.loop-number.number c.len-number-end.result
    (concat c.args.parts.now) (concat c.loop-number.parts)
    (entries_text c.args.exchange.now c.args.names.now c.args.summaries.now)
    c.len-number-end.ensures c.loop-number-test.false c.loop-number.invariant.0
