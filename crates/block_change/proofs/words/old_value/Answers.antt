use Rattle.std.proofs.Common.{Some, sym, ap, ◌∙◌}
use Rattle.std.specs.Prelude.{slice_index}
use Rattle.std.specs.Option.{option_map}
use Rattle.exchange_model.specs.Cells.{cell_number}
use Rattle.block_change.proofs.Wording.{same_is_cell}
use Rattle.block_change.proofs.words.old_value.Goals as goal

pub returns : goal.returns
returns c =
    let x = c.args.old.now.exchange.now in
    let number = c.word_of.ensures x.blocks c.requires.layout
    (same_is_cell x c.args.new.now c.kept.ensures c.args.cell c.in-Some.found (sym c.in-Some.ensures)) in
    ap Some (c.value_at.ensures ∙ ap (slice_index c.args.words.now) number)
    ∙ ap (option_map (λ d. slice_index c.args.words.now (cell_number x.blocks d))) c.in-Some.ensures
