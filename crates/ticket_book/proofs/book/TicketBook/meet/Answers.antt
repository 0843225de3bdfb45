use Rattle.std.proofs.Common.{◌∙◌, sym, ap, arith}
use Rattle.ticket_book.specs.Rule.{both}
use Rattle.ticket_book.proofs.Booking.{meets, compares}
use Rattle.ticket_book.proofs.book.TicketBook.meet.Goals as goal

pub join_seat-requires : goal.join_seat-requires
join_seat-requires c = let home = ap (λ p. p.0) c.mine.view_is
    ∙ (c.requires.mine ∙ sym c.self.view_is) in let words =
    ap (λ z. z.words) home in let one = c.mine.invariant.one_word in (
      home,
      ap (λ p. p.0) c.theirs.view_is ∙ (c.requires.theirs ∙ sym c.self.view_is),
      ap (λ m. m.1) c.theirs.invariant.ticket,
      omega arith,
      meets _ _ _ _ _ _ (ap (λ m. m.0) c.mine.invariant.ticket) (ap (λ m. m.0) c.theirs.invariant.ticket),
    )

pub load-found-requires : goal.load-found-requires
load-found-requires c = let home = ap (λ p. p.0) c.mine.view_is
    ∙ (c.requires.mine ∙ sym c.self.view_is) in let words =
    ap (λ z. z.words) home in let one = c.mine.invariant.one_word in (
      c.join_seat.ensures.0 ∙ home,
      omega arith,
      compares _ _ _ _ _ (ap (λ m. m.0) c.join_seat.ensures.2 ∙ λ i. both (c.mine.invariant.ticket i).0 (c.theirs.invariant.ticket i).0),
    )
