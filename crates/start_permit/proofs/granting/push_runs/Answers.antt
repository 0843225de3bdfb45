use Rattle.start_permit.specs.Recorded.{InRow}
use Rattle.start_permit.proofs.Gaining.{go_begin, go_end, go_more}
use Rattle.start_permit.proofs.Rowing.{run_in}
use Rattle.start_permit.proofs.granting.push_runs.Goals as goal

pub loop-run-init : goal.loop-run-init
loop-run-init c = go_begin (InRow c.args.row c.args.place) c.args.spans.now

pub push_run-requires-clause-below : goal.push_run-requires-clause-below
push_run-requires-clause-below c = run_in c.args.row.size c.args.runs.now c.loop-run.run-index _ c.loop-run-test.true c.requires.below

pub loop-run-preserved : goal.loop-run-preserved
loop-run-preserved c =
    go_more (InRow c.args.row c.args.place) c.args.runs.now c.loop-run.run-index _ c.args.spans.now c.loop-run.spans
    c.push_run.new.spans c.loop-run-test.true c.in_ok-push_run.ensures c.loop-run.invariant

pub returns : goal.returns
returns c = go_end (InRow c.args.row c.args.place) c.args.runs.now c.loop-run.run-index c.args.spans.now
    c.loop-run.spans c.loop-run-test.false c.loop-run.invariant
