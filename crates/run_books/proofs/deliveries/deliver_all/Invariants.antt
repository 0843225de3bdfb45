use Rattle.run_books.proofs.Traffic.{Delivers}
use Rattle.run_books.proofs.deliveries.deliver_all.Given as goal

abbrev pub invariant-loop-sent : goal.invariant-loop-sent
invariant-loop-sent l = Delivers l.forlopp l.ended l.sends l.sent-index l.fn.events.room l.fn.waiting.waiting
    l.fn.events.events l.next l.waiting.waiting l.events.events l.after l.waiting.room l.events.room
