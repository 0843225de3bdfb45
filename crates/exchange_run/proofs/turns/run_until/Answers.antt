use Rattle.std.proofs.Common.{◌≡◌, None, rules}
use Rattle.std.proofs.lemmas.Grind.{common_steps}
use Rattle.source_meaning.specs.SingleRun.{ending_at}
use Rattle.exchange_run.proofs.Resting.{goes_rests}
use Rattle.exchange_run.proofs.Turning.{goes_begin, goes_fewer, goes_more, goes_over, goes_told}
use Rattle.exchange_run.proofs.Turning.{goes_turn}
use Rattle.exchange_run.proofs.turns.run_until.Goals as goal

pub jobs-init : goal.jobs-init
jobs-init g c = record {
  goes = goes_begin g.W.Watcher.told c.args.exchange.now c.args.run.books c.let_arrive.new.books c.args.run.words
      c.args.watcher.now c.requires.run.nobody c.in_ok-let_arrive.ensures;
  runs = c.requires.runner;
}

pub make_turn-requires-clause-turn : goal.make_turn-requires-clause-turn
make_turn-requires-clause-turn g c =
    let goes : ending_at c.jobs.books.limit c.jobs.books.state ≡ None = search (rules, common_steps) in
    goes_turn c.kept.ensures c.requires.run.valid c.jobs.invariant.goes goes

pub jobs-smaller : goal.jobs-smaller
jobs-smaller g c =
    let goes : ending_at c.jobs.books.limit c.jobs.books.state ≡ None = search (rules, common_steps) in
    goes_fewer c.kept.ensures c.requires.run.valid c.jobs.invariant.goes goes c.in_ok-make_turn.ensures.turn

pub jobs-preserved : goal.jobs-preserved
jobs-preserved g c =
    let goes : ending_at c.jobs.books.limit c.jobs.books.state ≡ None = search (rules, common_steps) in
    let turn = c.in_ok-make_turn.ensures in
    record { goes = goes_more c.kept.ensures c.requires.run.valid c.jobs.invariant.goes goes turn.turn turn.watcher; runs = turn.runner }

pub returns-in-Some-clause-come : goal.returns-in-Some-clause-come
returns-in-Some-clause-come g c = goes_over c.kept.ensures c.requires.run.valid c.jobs.invariant.goes c.in-Some.ending c.in-Some.ensures

pub returns-in-Some-clause-told : goal.returns-in-Some-clause-told
returns-in-Some-clause-told g c = goes_told c.kept.ensures c.requires.run.valid c.jobs.invariant.goes c.in-Some.ensures

pub returns-then-may_rest-clause-come : goal.returns-then-may_rest-clause-come
returns-then-may_rest-clause-come g c = goes_rests c.kept.ensures c.requires.run.valid c.jobs.invariant.goes
