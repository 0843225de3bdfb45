use Rattle.std.proofs.Common.{Contains}
use Rattle.certificate_faults.proofs.Joining.{handed_out}
use Rattle.certificate_faults.proofs.returned.push_answered.Goals as goal

pub returns : goal.returns
returns c = handed_out c.args.exchange.now (Contains c.args.joined.now) c.args.entry c.args.answer c.args.point
    c.in_ok-slots.slots c.as_slice.result.now c.args.given.now c.push_slots.new.given c.in_ok-slots.ensures
    c.as_slice.ensures c.in_ok-push_slots.ensures
