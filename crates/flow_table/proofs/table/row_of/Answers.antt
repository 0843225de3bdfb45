use Rattle.std.proofs.Common.{refl, ap, ◌∙◌}
use Rattle.flow_points.specs.Slots.{temp_count, given_count}
use Rattle.flow_table.specs.Texts.{seen}
use Rattle.flow_table.proofs.Rowing.{place_fits, row_is}
use Rattle.flow_table.proofs.table.row_of.Goals as goal

pub ways_of-requires : goal.ways_of-requires
ways_of-requires c = place_fits c.args.exchange.now (seen c.args.at.now) c.kept.ensures c.requires.place

pub returns : goal.returns
returns c =
    let slots = c.requires.slots in
    let x = c.args.exchange.now in
    row_is x (seen c.args.at.now) _ c.in_ok-ways.ways c.kept.ensures c.requires.place c.in_ok-ways.ensures
    (slots.temps ∙ ap (temp_count x) c.requires.block) (slots.given ∙ ap (given_count x) c.requires.block)
    c.answered_of.ensures refl
