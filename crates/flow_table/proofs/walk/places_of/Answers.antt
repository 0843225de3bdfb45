use Rattle.std.proofs.Common.{ap, ◌∙◌}
use Rattle.exchange_model.specs.Parts.{Parts}
use Rattle.flow_table.proofs.Walking.{places_are}
use Rattle.flow_table.proofs.walk.places_of.Goals as goal

pub returns : goal.returns
returns c =
    places_are c.args.exchange.now c.as_slice.result.now c.in_ok-places.places c.add_blocks.new.places c.kept.ensures
    (c.as_slice.ensures ∙ ap (λ (v : Parts). v.blocks) c.exchange.view_is) c.in_ok-places.ensures
    c.in_ok-add_blocks.ensures
