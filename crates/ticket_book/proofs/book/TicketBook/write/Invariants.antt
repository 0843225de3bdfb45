use Rattle.ticket_book.proofs.book.TicketBook.write.Given as goal

abbrev pub ghosts-write_as : goal.ghosts-write_as
ghosts-write_as a = record { loan = a.seat.now.1.lent }
