use Rattle.std.proofs.Common.{map}
use Rattle.std.specs.List.{range_with_len}
use Rattle.conflicts_meaning.specs.declared.rows.Section.TheVariants.{Entry}
use Rattle.conflicts_meaning.specs.Told.{pair_row}
use Rattle.conflicts_text.proofs.Ranges.{rows_begin, rows_more, rows_end}
use Rattle.conflicts_text.proofs.sections.all.Goals as goal

pub loop-first-init : goal.loop-first-init
loop-first-init c = rows_begin (pair_row c.args.count) (map Entry (range_with_len 0 c.args.count)) c.new-made.result
    c.push_entries.new.made c.new-made.ensures c.in_ok-push_entries.ensures

pub loop-first-preserved : goal.loop-first-preserved
loop-first-preserved c = rows_more (pair_row c.args.count) c.loop-first.first
    (map Entry (range_with_len 0 c.args.count)) c.loop-first.made c.push_row.new.made c.loop-first.invariant
    c.in_ok-push_row.ensures

pub returns : goal.returns
returns c = rows_end (pair_row c.args.count) c.loop-first.first c.args.count (map Entry (range_with_len 0 c.args.count))
    c.loop-first.made c.loop-first.auto.first-end c.loop-first-test.false c.loop-first.invariant
