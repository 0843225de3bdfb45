use Rattle.finite_facts.proofs.Facts.{least_facts}
use Rattle.finite_facts.proofs.laws.least_facts_are_a_list.Goals as goal

pub returns : goal.returns
returns c = λ x. (let l = least_facts x in (l.items, λ f. (l.each f, l.all f)))
