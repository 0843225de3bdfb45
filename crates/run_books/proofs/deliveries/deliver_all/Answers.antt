use Rattle.run_books.proofs.Traffic.{delivers_more}
use Rattle.run_books.proofs.deliveries.deliver_all.Goals as goal

pub loop-sent-preserved : goal.loop-sent-preserved
loop-sent-preserved c =
    delivers_more c.args.forlopp c.args.ended c.args.sends.now c.loop-sent.sent-index c.args.events.now.room
    c.args.waiting.now.waiting c.args.events.now.events c.args.next
    c.loop-sent.waiting.waiting c.deliver-after.new.waiting.waiting c.loop-sent.events.events
    c.deliver-after.new.events.events c.loop-sent.after c.deliver-after.result
    c.loop-sent.waiting.room c.deliver-after.new.waiting.room c.loop-sent.events.room c.deliver-after.new.events.room c.sent-item.result
    c.loop-sent-test.true c.sent-item.is c.deliver-after.ensures.state c.deliver-after.ensures.room
    c.deliver-after.ensures.events c.deliver-after.ensures.up c.deliver-after.ensures.few c.loop-sent.invariant
