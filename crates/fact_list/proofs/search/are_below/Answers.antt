use Rattle.fact_list.proofs.Searching.{last_below}
use Rattle.fact_list.proofs.search.are_below.Goals as goal

pub returns : goal.returns
returns c = last_below c.args.facts.now c.args.fact c.requires c.args.count c.at.result c.is_less.result c.at.ensures c.is_less.ensures
