use Rattle.std.proofs.Common.{sym, ◌∙◌}
use Rattle.start_permit.specs.Granted.{Selects}
use Rattle.start_permit.proofs.Rowing.{field_fits, no_field, no_row, run_below, selected_field}
use Rattle.start_permit.proofs.granting.push_selected.Goals as goal

pub returns-in_default : goal.returns-in_default
returns-in_default c = no_field c.args.exchange.now c.args.table.now c.args.number
    (λ file. Selects c.args.values.now c.args.selector) c.args.spans.now c.requires.table
    (sym c.in_default.is ∙ c.field.ensures)

pub returns-in_default-row_of : goal.returns-in_default-row_of
returns-in_default-row_of c =
    no_row c.args.exchange.now c.args.table.now c.args.number c.in-Some.at
    (λ file. Selects c.args.values.now c.args.selector) c.args.spans.now c.requires.table
    (sym c.in-Some.is ∙ c.field.ensures) c.in_default-row_of.ensures

pub push_run-requires-clause-fits : goal.push_run-requires-clause-fits
push_run-requires-clause-fits c =
    field_fits c.args.exchange.now c.args.table.now c.requires.table c.args.number c.in-Some.at
    (sym c.in-Some.is ∙ c.field.ensures) c.args.layout.now c.in-Some-row_of.row c.requires.layout
    c.in-Some-row_of.ensures

pub push_run-requires-clause-below : goal.push_run-requires-clause-below
push_run-requires-clause-below c = run_below c.in-Some-row_of.row.size (Selects c.args.values.now c.args.selector) c.selected-run.result c.selected-run.ensures

pub returns : goal.returns
returns c =
    selected_field c.args.exchange.now c.args.table.now c.args.number c.in-Some.at c.in-Some-row_of.row
    (λ file. Selects c.args.values.now c.args.selector) c.selected-run.result c.args.spans.now c.push_run.new.spans
    c.requires.table (sym c.in-Some.is ∙ c.field.ensures) c.in-Some-row_of.ensures c.selected-run.ensures c.in_ok-push_run.ensures
