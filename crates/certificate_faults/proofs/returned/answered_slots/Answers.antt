use Rattle.certificate_faults.proofs.Joining.{slots_answered}
use Rattle.certificate_faults.proofs.returned.answered_slots.Goals as goal

pub returns : goal.returns
returns c = slots_answered c.args.exchange.now c.args.answer c.count_of-count.result c.new-slots.result
    c.push_numbered.new.slots c.new-slots.ensures c.count_of-count.ensures c.in_ok-push_numbered.ensures
