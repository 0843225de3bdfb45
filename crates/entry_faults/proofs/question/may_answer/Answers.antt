use Rattle.entry_faults.proofs.Asking.{answered, not_asked}
use Rattle.entry_faults.proofs.question.may_answer.Goals as goal

pub returns-in-None : goal.returns-in-None
returns-in-None g c = not_asked c.args.exchange.now (g.K.KnownFacts.knows c.args.known.now) c.args.entry c.args.point c.args.question c.in-None.is

pub returns-in_ok-values-in-Some : goal.returns-in_ok-values-in-Some
returns-in_ok-values-in-Some g c = answered c.args.exchange.now (g.K.KnownFacts.knows c.args.known.now) c.args.entry
    c.args.point c.args.question c.in-Some.asks c.in_ok-values-in-Some.values c.as_slice.result.now c.any_meets.result
    c.in-Some.is c.in_ok-values-in-Some.ensures c.as_slice.ensures c.any_meets.ensures
