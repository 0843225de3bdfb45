use Rattle.least_facts.specs.Giving.{IsOwnLeast}
use Rattle.least_facts.proofs.Growing.{found_always, found_exact}
use Rattle.least_facts.proofs.analyser.Analyser.facts_of.Goals as goal

pub returns-clause-exact : goal.returns-clause-exact
returns-clause-exact c =
    found_exact c.args.exchange.now c.args.entry c.learn.new.self.rows c.in_ok-facts.facts
    (found_always (IsOwnLeast c.args.exchange.now c.args.entry) c.in_ok-learn.field-0 c.in_ok-learn.ensures.learned).rows c.in_ok-facts.ensures
