use Rattle.fact_list.proofs.Searching.{first_above}
use Rattle.fact_list.proofs.search.are_above.Goals as goal

pub returns : goal.returns
returns c = first_above c.args.facts.now c.args.fact c.requires c.args.place c.at.result c.is_greater.result c.at.ensures c.is_greater.ensures
