use Rattle.ticket_book.proofs.Booking.{opens}
use Rattle.ticket_book.proofs.book.TicketBook.new.Goals as goal

pub of_words-requires : goal.of_words-requires
of_words-requires c = opens _
