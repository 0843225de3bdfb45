use Rattle.start_permit.proofs.Choosing.{own_are, own_below}
use Rattle.start_permit.proofs.runs.own_runs.Goals as goal

pub returns-clause-exact : goal.returns-clause-exact
returns-clause-exact c = λ chains all.
    own_are c.args.accesses.now c.args.chain.now chains c.args.file c.args.size c.in_ok-numbers.numbers
    c.as_slice.result.now c.in_ok-runs.runs c.push_ones.new.runs (c.in_ok-runs.ensures.exact chains all)
    c.in_ok-numbers.ensures.same c.as_slice.ensures c.in_ok-push_ones.ensures

pub returns-clause-below : goal.returns-clause-below
returns-clause-below c =
    own_below c.args.chain.now c.args.file c.args.size c.in_ok-numbers.numbers c.as_slice.result.now c.in_ok-runs.runs
    c.push_ones.new.runs c.in_ok-runs.ensures.below
    c.in_ok-numbers.ensures.same c.as_slice.ensures c.in_ok-push_ones.ensures
