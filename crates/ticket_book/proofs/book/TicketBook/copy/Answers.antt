use Rattle.std.proofs.Common.{◌∙◌, sym, ap, arith}
use Rattle.ticket_book.proofs.Booking.{copies}
use Rattle.ticket_book.proofs.book.TicketBook.copy.Goals as goal

pub split_seat-seat-requires : goal.split_seat-seat-requires
split_seat-seat-requires c = let home = ap (λ p. p.0) c.ticket.view_is
    ∙ (c.requires.book ∙ sym c.self.view_is) in let words =
    ap (λ z. z.words) home in let one = c.ticket.invariant.one_word in (
      home,
      omega arith,
      copies _ _ _ (ap (λ m. m.0) c.ticket.invariant.ticket),
    )
