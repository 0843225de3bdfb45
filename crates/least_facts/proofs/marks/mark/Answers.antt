use Rattle.least_facts.proofs.Marking.{one_marked}
use Rattle.least_facts.proofs.marks.mark.Goals as goal

pub returns-in-Ok : goal.returns-in-Ok
returns-in-Ok c = one_marked c.args.marks.now.keys c.insert.new.self.keys c.mark_at.result c.args.point c.in-Ok.ensures.keys c.mark_at.ensures
