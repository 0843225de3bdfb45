use Rattle.answer_table.proofs.Answering.{answers_are}
use Rattle.answer_table.proofs.answers.answers_of.Goals as goal

pub returns : goal.returns
returns c =
    answers_are c.args.exchange.now c.in_ok-places.places c.as_slice.result.now
    (record { awaited = c.in_ok-awaited.awaited; returns = c.in_ok-returns.returns }) c.in_ok-places.ensures
    c.as_slice.ensures c.in_ok-awaited.ensures c.in_ok-returns.ensures
