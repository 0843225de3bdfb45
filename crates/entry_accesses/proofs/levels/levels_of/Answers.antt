use Rattle.entry_accesses.proofs.Leveling.{levels_exact, levels_rising}
use Rattle.entry_accesses.proofs.levels.levels_of.Goals as goal

pub returns-clause-exact : goal.returns-clause-exact
returns-clause-exact g c =
    levels_exact c.args.exchange.now (g.K.KnownFacts.knows c.args.known.now) c.args.entry c.in_ok-sent.sent
    c.as_slice.result.now c.in_ok-levels.levels c.in_ok-sent.ensures c.as_slice.ensures c.in_ok-levels.ensures

pub returns-clause-rising : goal.returns-clause-rising
returns-clause-rising g c = levels_rising c.as_slice.result.now c.in_ok-levels.levels c.in_ok-levels.ensures
