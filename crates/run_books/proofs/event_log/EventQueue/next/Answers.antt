use Rattle.std.proofs.Common.{◌≡◌, ◌<◌, ◌∙◌, length, reverse, sym, ap, arith}
use Rattle.std.proofs.lemmas.Grind.{common_steps}
use Rattle.std.proofs.lemmas.List.{length-reverse}
use Rattle.run_books.specs.Bytes.{after_event}
use Rattle.run_books.specs.Events.{event_of}
use Rattle.run_books.proofs.Told.{next_told, told_empty, told_next}
use Rattle.run_books.proofs.event_log.EventQueue.next.Goals as goal

pub returns-then-is_empty : goal.returns-then-is_empty
returns-then-is_empty c =
    let bytes = c.self.inside.last_first.items in
    let none : length bytes ≡ 0 = grind (arith, common_steps) in
    sym c.self.view_is ∙ told_empty bytes none

pub invariant_of-self : goal.invariant_of-self
invariant_of-self c =
    let bytes = c.self.inside.last_first.items in
    let some : 0 < length bytes = grind (arith, common_steps) in
    let left : reverse c.give_back.new.bytes.items ≡ after_event (reverse bytes) = ap reverse c.give_back.ensures ∙ c.read_event-event.ensures.left in
    next_told (reverse bytes) (reverse c.give_back.new.bytes.items) (event_of c.read_event-event.result)
    c.self.invariant (omega (arith, some, length-reverse bytes)) c.read_event-event.ensures.event left

pub returns : goal.returns
returns c =
    let bytes = c.self.inside.last_first.items in
    let some : 0 < length bytes = grind (arith, common_steps) in
    let left : reverse c.give_back.new.bytes.items ≡ after_event (reverse bytes) = ap reverse c.give_back.ensures ∙ c.read_event-event.ensures.left in
    sym c.self.view_is ∙ told_next (reverse bytes) (reverse c.give_back.new.bytes.items)
    (event_of c.read_event-event.result) c.self.invariant (omega (arith, some, length-reverse bytes))
    c.read_event-event.ensures.event left
