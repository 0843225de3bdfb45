use Rattle.std.proofs.Common.{◌<◌, arith}
use Rattle.exchange_run.specs.Runs.{state_of}
use Rattle.run_certificates.proofs.Growth.{grown_checked, grown_ends}
use Rattle.worker_answers.proofs.Rooted.{is_context}
use Rattle.worker_answers.proofs.going.go_on.Goals as goal

pub run_at_once-requires-in-Long-clause-context : goal.run_at_once-requires-in-Long-clause-context
run_at_once-requires-in-Long-clause-context g c κs within =
    let some : 0 < c.args.workers = (let least = c.requires.workers.some in omega (arith, least)) in
    let checked = grown_checked c.args.exchange.now (state_of c.args.run) c.args.run.books.limit c.in_ok-end.field-0
    c.in-Long.long c.in-Long.checked c.in_ok-end.ensures c.in-Long.is in
    is_context _ c.requires.layout c.in_ok-code.ensures.faithful checked some

pub returns : goal.returns
returns g c = grown_ends c.args.exchange.now (state_of c.args.run) c.args.run.books.limit c.in_ok-end.field-0
    c.in-Long.long c.in-Long.checked c.in_ok-end-in-Long.end c.in_ok-end.ensures c.in-Long.is
    c.in_ok-end-in-Long.ensures
