use Rattle.std.proofs.Common.{sym, ◌∙◌}
use Rattle.certificate_faults.specs.Returned.{IsAnsweredAt}
use Rattle.certificate_faults.proofs.Joining.{answered}
use Rattle.certificate_faults.proofs.Lowered.{left_out, lowest_of, not_awaited}
use Rattle.certificate_faults.proofs.missing.lowest_answered.Goals as goal

pub returns-then-is_before : goal.returns-then-is_before
returns-then-is_before g c =
    left_out (g.K.KnownFacts.knows c.args.known.now)
    (IsAnsweredAt c.args.exchange.now c.args.table.now (g.K.KnownFacts.knows c.args.known.now) c.args.fact.entry
    c.args.fact.point) c.args.fact.entry c.args.fact.point c.args.sent (λ f h. h.entry) (λ f h. h.point)
    c.requires.missing (c.is_before.ensures c.if-is_before.true)

pub returns-in_ok-push_answered-in-Some : goal.returns-in_ok-push_answered-in-Some
returns-in_ok-push_answered-in-Some g c =
    lowest_of (g.K.KnownFacts.knows c.args.known.now)
    (IsAnsweredAt c.args.exchange.now c.args.table.now (g.K.KnownFacts.knows c.args.known.now) c.args.fact.entry
    c.args.fact.point) c.args.sent c.lowest.result c.new-given.result c.push_answered.new.given
    c.as_slice.result.now c.new-given.ensures
    (answered c.args.exchange.now c.args.table.now c.args.returns.now.answers.now
    (g.K.KnownFacts.knows c.args.known.now) c.args.fact.entry c.args.fact.point c.in-Some.answer
    c.args.returns.now.joined.now c.new-given.result c.push_answered.new.given c.kept.ensures c.requires.answers
    c.requires.joined c.requires.reached (sym c.awaited_in.ensures ∙ c.in-Some.is)
    c.in_ok-push_answered-in-Some.ensures)
    c.as_slice.ensures c.lowest.ensures

pub returns-in-None : goal.returns-in-None
returns-in-None g c =
    not_awaited c.args.exchange.now c.args.table.now c.args.returns.now.answers.now
    (g.K.KnownFacts.knows c.args.known.now) c.args.fact.entry c.args.fact.point c.awaited_in.result c.args.sent
    c.requires.answers c.awaited_in.ensures c.in-None.is c.requires.missing
