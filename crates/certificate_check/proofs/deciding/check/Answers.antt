use Rattle.std.specs.List.{Contains}
use Rattle.certificate_check.proofs.Checking.{accepted, known_own, missing_told, wrong_shape}
use Rattle.certificate_check.proofs.Summing.{few_summaries}
use Rattle.certificate_check.proofs.deciding.check.Goals as goal

pub returns-then-not-is_same : goal.returns-then-not-is_same
returns-then-not-is_same c = wrong_shape c.args.exchange.now c.args.certificate c.shape_of-own.result c.is_same.result
    c.shape_of-own.ensures c.is_same.ensures c.if-not-is_same.true

pub missing_from-requires-clause-fit : goal.missing_from-requires-clause-fit
missing_from-requires-clause-fit c = known_own c.args.exchange.now c.args.certificate.facts c.as_slice.result.now
    c.in_ok-known.known c.in_order.result c.as_slice.ensures c.in_default.ensures c.in_ok-known.ensures
    c.in_order.ensures.same

pub returns-in-Some-2 : goal.returns-in-Some-2
returns-in-Some-2 c =
    missing_told c.args.exchange.now c.args.certificate c.shape_of-own.result c.is_same.result c.as_slice.result.now
    c.in_ok-known.known c.in_order.result c.in_ok-fact.field-0 c.shape_of-own.ensures c.is_same.ensures
    c.if-not-is_same.false c.as_slice.ensures c.in_default.ensures c.in_ok-known.ensures c.in_order.ensures.same
    c.in_ok-fact.ensures c.in-Some-2.fact c.in-Some-2.is

pub new-requires-2 : goal.new-requires-2
new-requires-2 c = few_summaries c.args.exchange.now (Contains c.in_ok-known.known) c.in_ok-summaries.summaries
    c.kept.ensures.limited.entries c.in_ok-summaries.ensures

pub returns : goal.returns
returns c =
    accepted c.args.exchange.now c.args.certificate c.shape_of-own.result c.is_same.result c.as_slice.result.now
    c.in_ok-known.known c.in_order.result c.in_ok-fact.field-0 c.shape_of-own.ensures c.is_same.ensures
    c.if-not-is_same.false c.as_slice.ensures c.in_default.ensures c.in_ok-known.ensures c.in_order.ensures.same
    c.in_ok-fact.ensures c.new-2.result c.in_ok-summaries.summaries c.in_default-2.is c.in_ok-summaries.ensures
    c.new-2.ensures
