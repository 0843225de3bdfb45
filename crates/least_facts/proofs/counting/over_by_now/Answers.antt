use Rattle.least_facts.proofs.Telling.{told_over}
use Rattle.least_facts.proofs.counting.over_by_now.Goals as goal

pub returns : goal.returns
returns c = told_over c.args.rows.now c.args.most c.if_over.result c.in_ok-told.told c.in_ok-told.ensures c.if_over.ensures
