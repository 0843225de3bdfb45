use Rattle.std.proofs.Common.{◌≡◌, true}
use Rattle.std.specs.Prelude.{◌↔◌}
use Rattle.entry_summary.specs.Faults.{GoesRound, MayFault}
use Rattle.entry_faults.proofs.Faulting.{sends_fault, last_faults}
use Rattle.entry_faults.proofs.Rounding.{ok_as}
use Rattle.entry_faults.proofs.fault.may_fault.Goals as goal

pub returns-then-too_many_sends : goal.returns-then-too_many_sends
returns-then-too_many_sends g c = sends_fault c.args.exchange.now (g.K.KnownFacts.knows c.args.known.now) c.args.entry
    c.too_many_sends.result c.too_many_sends.ensures c.if-too_many_sends.true

pub returns : goal.returns
returns g c =
    let P = g.K.KnownFacts.knows c.args.known.now in
    ok_as c.goes_round.result (λ b. (b ≡ true) ↔ GoesRound c.args.exchange.now P c.args.entry) (λ b. (b ≡ true) ↔ MayFault c.args.exchange.now P c.args.entry)
    (λ b h. last_faults c.args.exchange.now P c.args.entry c.too_many_sends.result c.in_ok-some_faults.field-0 b
    c.too_many_sends.ensures c.if-too_many_sends.false c.in_ok-some_faults.ensures c.if-branch.false h)
    c.goes_round.ensures
