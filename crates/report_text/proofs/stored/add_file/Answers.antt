use Rattle.std.proofs.Common.{◌≡◌, ◌+◌, ◌++◌, length, drop, sym, ap, ◌∙◌}
use Rattle.std.specs.List.{flat_map, range_with_len}
use Rattle.std.proofs.lemmas.List.{append-nil}
use Rattle.exchange_model.specs.Cells.{Placed}
use Rattle.report_text.specs.Names.{placed}
use Rattle.report_text.specs.Report.{record_lines, text_of}
use Rattle.report_text.proofs.Cells.{no_fields}
use Rattle.report_text.proofs.Lines.{drop_number, drop_numbers, left_end, left_more}
use Rattle.report_text.proofs.stored.add_file.Goals as goal

pub returns-then-len-eq0 : goal.returns-then-len-eq0
returns-then-len-eq0 c =
    let p : Placed = placed c.args.place.now in
    let none : length p.file.fields ≡ 0 = sym c.len.ensures ∙ c.if-len-eq0.true in
    sym (ap (λ ls. c.args.text.now ++ text_of ls) (no_fields c.args.exchange.now.blocks c.args.store.now p none) ∙ append-nil c.args.text.now)

pub loop-number-preserved : goal.loop-number-preserved
loop-number-preserved c =
    let p : Placed = placed c.args.place.now in
    let lines = record_lines c.args.exchange.now.blocks c.args.store.now p in
    let number = c.loop-number.number in
    left_more c.add_fields_of.new.text (lines number)
    (flat_map lines (drop (number + 1) (range_with_len 0 p.file.size)))
    (ap (flat_map lines) (drop_number p.file.size number c.loop-number-test.true)) c.in_ok-add_fields_of.ensures
    c.loop-number.invariant

pub returns : goal.returns
returns c =
    let p : Placed = placed c.args.place.now in
    left_end (ap (flat_map (record_lines c.args.exchange.now.blocks c.args.store.now p))
    (drop_numbers p.file.size c.loop-number.number c.loop-number-test.false)) c.loop-number.invariant
