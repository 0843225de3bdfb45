use Rattle.std.proofs.Common.{ap, ◌∙◌}
use Rattle.exchange_model.specs.Parts.{Parts}
use Rattle.entry_accesses.proofs.Numbering.{variables_small, counts_small, numbers_are}
use Rattle.entry_accesses.proofs.numbers.numbers_of.Goals as goal

pub first_variables-requires : goal.first_variables-requires
first_variables-requires c = variables_small c.args.exchange.now c.as_slice.result.now c.kept.ensures
    (c.as_slice.ensures ∙ ap (λ (v : Parts). v.blocks) c.exchange.view_is)

pub first_fields-requires : goal.first_fields-requires
first_fields-requires c = counts_small c.args.exchange.now c.as_slice-2.result.now c.kept.ensures
    (c.as_slice-2.ensures ∙ ap (λ (v : Parts). v.blocks) c.exchange.view_is)

pub returns : goal.returns
returns c =
    let one = c.as_slice.ensures ∙ ap (λ (v : Parts). v.blocks) c.exchange.view_is in
    let other = c.as_slice-2.ensures ∙ ap (λ (v : Parts). v.blocks) c.exchange.view_is in
    numbers_are c.args.exchange.now _ c.as_slice.result.now c.as_slice-2.result.now one other c.in_ok-variables.ensures c.in_ok-fields.ensures
