use Rattle.least_facts.proofs.Growing.{learned_or_over}
use Rattle.least_facts.proofs.analyser.Analyser.learn.Goals as goal

pub returns-clause-learned : goal.returns-clause-learned
returns-clause-learned c = learned_or_over c.args.exchange.now c.args.table.now c.args.entry _ c.args.most c.in_ok-looked.looked c.in_ok-looked.ensures.found

pub find-requires-clause-setting : goal.find-requires-clause-setting
find-requires-clause-setting c = record { table = c.requires.table; answers = c.requires.own.answers }
