use Rattle.std.proofs.Common.{true}
use Rattle.start_permit.specs.Granted.{Marks}
use Rattle.start_permit.proofs.Rowing.{mark_fits, marks_of, no_mark, runs_below_read}
use Rattle.start_permit.proofs.granting.push_free.Goals as goal

pub returns-in_default : goal.returns-in_default
returns-in_default c = λ chains all. no_mark c.args.exchange.now c.args.file (Marks true chains c.args.file) c.args.spans.now c.in_default.ensures

pub push_runs-requires-clause-fits : goal.push_runs-requires-clause-fits
push_runs-requires-clause-fits c = mark_fits c.args.exchange.now c.args.layout.now c.args.file c.in-Some.row c.requires c.in-Some.ensures

pub push_runs-requires-clause-below : goal.push_runs-requires-clause-below
push_runs-requires-clause-below c = runs_below_read c.in-Some.row.size c.in_ok-runs.runs c.as_slice.result.now c.as_slice.ensures c.in_ok-runs.ensures.below

pub returns : goal.returns
returns c = λ chains all.
    marks_of c.args.exchange.now c.args.file c.in-Some.row (Marks true chains c.args.file) c.in_ok-runs.runs
    c.as_slice.result.now c.args.spans.now c.push_runs.new.spans
    c.in-Some.ensures c.as_slice.ensures (c.in_ok-runs.ensures.exact chains all) c.in_ok-push_runs.ensures
