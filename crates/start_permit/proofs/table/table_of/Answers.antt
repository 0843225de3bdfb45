use Rattle.std.proofs.Common.{ap, ◌∙◌}
use Rattle.exchange_model.specs.Parts.{Parts}
use Rattle.start_permit.proofs.Tabled.{all_small, cells_small, table_is}
use Rattle.start_permit.proofs.table.table_of.Goals as goal

pub words_of_variables-requires : goal.words_of_variables-requires
words_of_variables-requires c = cells_small c.args.exchange.now c.as_slice.result.now c.kept.ensures
    (c.as_slice.ensures ∙ ap (λ (v : Parts). v.blocks) c.exchange.view_is)

pub places_of_fields-requires : goal.places_of_fields-requires
places_of_fields-requires c = all_small c.args.exchange.now c.as_slice-2.result.now c.kept.ensures
    (c.as_slice-2.ensures ∙ ap (λ (v : Parts). v.blocks) c.exchange.view_is)

pub returns : goal.returns
returns c =
    table_is c.args.exchange.now _ c.as_slice.result.now c.as_slice-2.result.now c.kept.ensures
    (c.as_slice.ensures ∙ ap (λ (v : Parts). v.blocks) c.exchange.view_is)
    (c.as_slice-2.ensures ∙ ap (λ (v : Parts). v.blocks) c.exchange.view_is)
    c.in_ok-variables.ensures c.in_ok-fields.ensures
