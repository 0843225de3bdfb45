use Rattle.std.proofs.Common.{ap, ◌∙◌}
use Rattle.shared_store.proofs.Sampled.{adding_own, adding_own_read, adding_step}
use Rattle.shared_store.proofs.tests.add_often.Goals as goal

pub load-more-requires-clause-permit : goal.load-more-requires-clause-permit
load-more-requires-clause-permit c =
    adding_step _ c.args.step c.args.own (ap (λ l. l.permit) c.loop-round.invariant.lent ∙ c.requires.permit)

pub load-sum-requires-clause-permit : goal.load-sum-requires-clause-permit
load-sum-requires-clause-permit c =
    adding_own_read _ c.args.step c.args.own (ap (λ s. s.1.lent.permit) c.load-more.ensures.seat
    ∙ (ap (λ l. l.permit) c.loop-round.invariant.lent ∙ c.requires.permit))

pub store-requires-clause-permit : goal.store-requires-clause-permit
store-requires-clause-permit c = adding_own _ c.args.step c.args.own
    (ap (λ s. s.1.lent.permit) c.load-sum.ensures.seat
    ∙ (ap (λ s. s.1.lent.permit) c.load-more.ensures.seat
    ∙ (ap (λ l. l.permit) c.loop-round.invariant.lent ∙ c.requires.permit)))
