use Rattle.std.proofs.Common.{◌∙◌, sym, ap, arith}
use Rattle.ticket_book.proofs.Booking.{writes}
use Rattle.ticket_book.proofs.book.TicketBook.write_as.Goals as goal

pub split_seat-seat-requires : goal.split_seat-seat-requires
split_seat-seat-requires g c = let home = ap (λ p. p.0) c.pen.view_is
    ∙ (c.requires.book ∙ sym c.self.view_is) in let words =
    ap (λ z. z.words) home in let one = c.pen.invariant.one_word in (
      home,
      omega arith,
      writes _ _ _ _ (ap (λ m. m.0) c.pen.invariant.pen),
    )
