use Rattle.fact_list.proofs.Searching.{span_found, span_missing}
use Rattle.fact_list.proofs.search.search.Goals as goal

pub returns-in-Ok : goal.returns-in-Ok
returns-in-Ok c = span_found c.args.facts.now c.args.fact c.requires c.in-Ok.place c.in-Ok.ensures.bound c.in-Ok.ensures.ok

pub returns-in-Err : goal.returns-in-Err
returns-in-Err c = span_missing c.args.facts.now c.args.fact c.requires c.in-Err.place c.in-Err.ensures.bound c.in-Err.ensures.position
