use Rattle.std.proofs.Common.{ap, arith}
use Rattle.run_books.specs.Events.{Logged, event_of}
use Rattle.run_books.proofs.Told.{more_told}
use Rattle.run_books.proofs.event_log.EventLog.push_reserved.Goals as goal

pub invariant_of-self : goal.invariant_of-self
invariant_of-self c = (
  more_told c.self.inside.bytes.items c.put_event.new.bytes.items (event_of c.args.event) c.self.invariant.0
      c.put_event.ensures.items c.put_event.ensures.narrow,
  omega (arith, c.self.invariant.1, c.put_event.ensures.room, c.put_event.ensures.capacity, c.requires, ap (λ (l : Logged). l.room) c.self.view_is),
)
