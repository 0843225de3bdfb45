use Rattle.std.proofs.Common.{length}
use Rattle.certificate_faults.specs.Missing.{StartsBelow}
use Rattle.certificate_faults.proofs.Lowered.{all_given, misses}
use Rattle.certificate_faults.proofs.Standing.{reached_cover}
use Rattle.certificate_faults.proofs.missing.least_missing.Goals as goal

pub returned_from-requires-clause-all : goal.returned_from-requires-clause-all
returned_from-requires-clause-all g c = reached_cover (g.K.KnownFacts.knows c.args.known.now) c.args.facts.now
    c.in_ok-reached.reached c.as_slice-points.result.now c.requires.same c.in_ok-reached.ensures
    c.as_slice-points.ensures

pub lowest_of_points-requires-clause-missing : goal.lowest_of_points-requires-clause-missing
lowest_of_points-requires-clause-missing g c =
    misses (g.K.KnownFacts.knows c.args.known.now)
    (StartsBelow c.args.exchange.now (g.K.KnownFacts.knows c.args.known.now) (length c.args.exchange.now.entries))
    c.in_ok-first.first c.in_ok-first.ensures

pub returns : goal.returns
returns g c =
    all_given c.args.exchange.now c.args.table.now c.in_ok-answers.answers (g.K.KnownFacts.knows c.args.known.now)
    c.as_slice-points.result.now c.kept.ensures c.requires.table c.in_ok-answers.ensures
    (reached_cover (g.K.KnownFacts.knows c.args.known.now) c.args.facts.now c.in_ok-reached.reached
    c.as_slice-points.result.now c.requires.same c.in_ok-reached.ensures c.as_slice-points.ensures)
    c.in_ok-first.first c.in_ok-least.least c.in_ok-first.ensures c.in_ok-least.ensures
