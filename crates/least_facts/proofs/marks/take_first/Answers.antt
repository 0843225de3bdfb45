use Rattle.least_facts.proofs.Marking.{first_taken}
use Rattle.least_facts.proofs.marks.take_first.Goals as goal

pub returns : goal.returns
returns c = first_taken c.pop_first.result c.args.marks.now.keys c.pop_first.new.self.keys c.pop_first.ensures.variant.1
    c.pop_first.ensures.removal c.pop_first.ensures.len
