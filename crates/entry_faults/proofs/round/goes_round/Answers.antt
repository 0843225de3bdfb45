use Rattle.std.proofs.Common.{◌≡◌, true}
use Rattle.std.specs.Prelude.{◌↔◌}
use Rattle.entry_summary.specs.Faults.{GoesRound}
use Rattle.entry_faults.specs.Circles.{Circles}
use Rattle.entry_faults.proofs.Rounding.{round_is, ok_as}
use Rattle.entry_faults.proofs.round.goes_round.Goals as goal

pub returns : goal.returns
returns g c =
    let P = g.K.KnownFacts.knows c.args.known.now in
    ok_as c.circles.result (λ b. (b ≡ true) ↔ Circles c.args.table.now c.in_ok-reached.reached) (λ b. (b ≡ true) ↔ GoesRound c.args.exchange.now P c.args.entry)
    (λ b h. round_is c.args.exchange.now P c.args.entry c.args.table.now c.args.places.now c.in_ok-reached.reached
    c.kept.ensures c.requires.table c.requires.places c.in_ok-reached.ensures b h)
    c.circles.ensures
