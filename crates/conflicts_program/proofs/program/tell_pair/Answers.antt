use Rattle.conflicts_program.proofs.Answering.{no_pair_answers, pair_answers, pair_makes}
use Rattle.conflicts_program.proofs.program.tell_pair.Goals as goal

pub returns-in-Some-clause-answers : goal.returns-in-Some-clause-answers
returns-in-Some-clause-answers g c =
    pair_answers _ c.args.exchange.now c.args.first.now c.args.later.now c.pair_of.result c.pair_of.ensures
    c.in-Some.pair _ _ c.tell.result c.in-Some.is c.tell.ensures.comes

pub returns-in-Some-clause-made : goal.returns-in-Some-clause-made
returns-in-Some-clause-made g c =
    pair_makes _ c.args.exchange.now c.args.first.now c.args.later.now c.pair_of.result c.pair_of.ensures
    c.in-Some.pair _ _ c.tell.result c.in-Some.is c.tell.ensures.comes c.tell.ensures.ending

pub returns-in-None-clause-answers : goal.returns-in-None-clause-answers
returns-in-None-clause-answers g c =
    no_pair_answers _ c.args.exchange.now c.args.first.now c.args.later.now c.pair_of.result c.pair_of.ensures
    _ c.usage_answer.result c.in-None.is c.usage_answer.ensures
