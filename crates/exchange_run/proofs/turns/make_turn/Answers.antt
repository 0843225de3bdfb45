use Rattle.std.proofs.Common.{◌≡◌}
use Rattle.exchange_run.proofs.Turning.{may_be, may_retire, may_run, told_turn, turned}
use Rattle.exchange_run.specs.Runs.{left_by}
use Rattle.exchange_run.proofs.turns.make_turn.Goals as goal

pub run-requires-clause-start : goal.run-requires-clause-start
run-requires-clause-start g c = may_run c.args.exchange.now c.args.books.now c.in-Some.start c.args.words.now
    c.in-Some.ensures.start c.requires.turn.nobody c.requires.turn.goes_on c.requires.turn.valid

pub retire-requires-clause-forlopp : goal.retire-requires-clause-forlopp
retire-requires-clause-forlopp g c = may_be c.args.exchange.now c.args.books.now c.next_job.new.self c.in-Some.start
    c.args.words.now c.in-Some.ensures.start c.requires.turn.nobody c.requires.turn.goes_on c.requires.turn.valid
    c.in-Some.ensures.left

pub retire-requires-clause-words : goal.retire-requires-clause-words
retire-requires-clause-words g c =
    let done : c.done.result.now ≡ left_by c.args.exchange.now c.in-Some.start c.args.words.now = c.done.ensures
    (left_by c.args.exchange.now c.in-Some.start c.args.words.now) c.in_ok-run.ensures.done in
    may_retire c.args.exchange.now c.args.books.now c.next_job.new.self c.in-Some.start c.done.result.now
    c.args.words.now c.run.new.words c.kept.ensures c.in-Some.ensures.start c.requires.turn.nobody
    c.requires.turn.goes_on c.requires.turn.valid c.in-Some.ensures.left done c.in_ok-run.ensures.words

pub returns-clause-turn : goal.returns-clause-turn
returns-clause-turn g c =
    let done : c.done.result.now ≡ left_by c.args.exchange.now c.in-Some.start c.args.words.now = c.done.ensures _ c.in_ok-run.ensures.done in
    turned c.requires.turn c.in-Some.ensures.start c.in-Some.ensures.left done c.in_ok-run.ensures.words
    c.in_ok-retire.ensures.retired c.in_ok-let_arrive.ensures

pub returns-clause-watcher : goal.returns-clause-watcher
returns-clause-watcher g c =
    let leaves = left_by c.args.exchange.now c.in-Some.start c.args.words.now in
    let done : c.done.result.now ≡ leaves = c.done.ensures leaves c.in_ok-run.ensures.done in
    let again : c.done-2.result.now ≡ leaves = c.done-2.ensures leaves c.in_ok-run.ensures.done in
    let turn = turned c.requires.turn c.in-Some.ensures.start c.in-Some.ensures.left done c.in_ok-run.ensures.words
    c.in_ok-retire.ensures.retired c.in_ok-let_arrive.ensures in
    told_turn g.W.Watcher.told c.requires.turn c.in-Some.ensures.start turn c.ended.ensures again c.in_ok-note.ensures
