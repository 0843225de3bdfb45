use Rattle.std.proofs.Common.{sym, ◌∙◌}
use Rattle.start_permit.specs.Granted.{MayHold}
use Rattle.start_permit.proofs.Rowing.{field_fits, no_field, no_row, own_field, runs_below_read}
use Rattle.start_permit.proofs.granting.push_own.Goals as goal

pub returns-in_default : goal.returns-in_default
returns-in_default c = λ chains all. no_field c.args.exchange.now c.args.table.now c.args.number
    (MayHold c.args.accesses.now c.args.chain.now chains) c.args.spans.now c.requires.table
    (sym c.in_default.is ∙ c.field.ensures)

pub returns-in_default-row_of : goal.returns-in_default-row_of
returns-in_default-row_of c = λ chains all.
    no_row c.args.exchange.now c.args.table.now c.args.number c.in-Some.at
    (MayHold c.args.accesses.now c.args.chain.now chains) c.args.spans.now c.requires.table
    (sym c.in-Some.is ∙ c.field.ensures) c.in_default-row_of.ensures

pub push_runs-requires-clause-fits : goal.push_runs-requires-clause-fits
push_runs-requires-clause-fits c =
    field_fits c.args.exchange.now c.args.table.now c.requires.table c.args.number c.in-Some.at
    (sym c.in-Some.is ∙ c.field.ensures) c.args.layout.now c.in-Some-row_of.row c.requires.layout
    c.in-Some-row_of.ensures

pub push_runs-requires-clause-below : goal.push_runs-requires-clause-below
push_runs-requires-clause-below c = runs_below_read c.in-Some-row_of.row.size c.in_ok-runs.runs c.as_slice.result.now
    c.as_slice.ensures c.in_ok-runs.ensures.below

pub returns : goal.returns
returns c = λ chains all.
    own_field c.args.exchange.now c.args.table.now c.args.number c.in-Some.at c.in-Some-row_of.row
    (MayHold c.args.accesses.now c.args.chain.now chains) c.in_ok-runs.runs c.as_slice.result.now c.args.spans.now
    c.push_runs.new.spans
    c.requires.table (sym c.in-Some.is ∙ c.field.ensures) c.in-Some-row_of.ensures c.as_slice.ensures
    (c.in_ok-runs.ensures.exact chains all) c.in_ok-push_runs.ensures
