use Rattle.std.proofs.Common.{false}
use Rattle.start_permit.specs.Granted.{Marks}
use Rattle.start_permit.proofs.Rowing.{mark_fits, mark_of, no_mark, run_below}
use Rattle.start_permit.proofs.granting.push_marks.Goals as goal

pub returns-in_default : goal.returns-in_default
returns-in_default c = λ chains. no_mark c.args.exchange.now c.args.file (Marks false chains c.args.file) c.args.spans.now c.in_default.ensures

pub push_run-requires-clause-fits : goal.push_run-requires-clause-fits
push_run-requires-clause-fits c = mark_fits c.args.exchange.now c.args.layout.now c.args.file c.in-Some.row c.requires c.in-Some.ensures

pub push_run-requires-clause-below : goal.push_run-requires-clause-below
push_run-requires-clause-below c = run_below c.in-Some.row.size (λ n. Unit {0}) c.all_below.result c.all_below.ensures

pub returns : goal.returns
returns c = λ chains.
    mark_of c.args.exchange.now c.args.file c.in-Some.row (Marks false chains c.args.file) c.all_below.result c.args.spans.now c.push_run.new.spans
    c.in-Some.ensures c.all_below.ensures c.in_ok-push_run.ensures
