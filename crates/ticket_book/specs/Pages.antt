-- What contracts see of a book, of its pen and of its tickets.
use Rattle.std.specs.Prelude.{◌≡◌, ℕ, []}
use Rattle.atomic_table.specs.Seated.{TableId}
use Rattle.atomic_table.specs.Table.{Me}
use Rattle.shared_store.specs.declared.view.Lent.{Lent}
use Rattle.shared_store.specs.Loans.{lent, unlent}
use Rattle.shared_store.specs.Seats.{no_start, no_permit}
use Rattle.ticket_book.specs.declared.page.Claim.{Claim}
use Rattle.ticket_book.specs.declared.page.Page.{Page}
use Rattle.ticket_book.specs.declared.page.Page.TheVariants.{Writes, Claims}

-- which book it is
abbrev pub BookId : Type 0
BookId = TableId

-- the pen: its book, and how many tickets it has written
abbrev pub PenView : Type 0
PenView = BookId × ℕ

-- a ticket: its book, and what it claims
abbrev pub TicketView : Type 0
TicketView = BookId × Claim

-- a ticket of this number, for this loan
abbrev pub claim : ℕ → Lent → Claim
claim number loan = record { number = number; loan = loan }

-- a loan that stands where there is no ticket
abbrev pub no_loan : Lent
no_loan = lent (unlent []) no_start no_permit

-- the loan that a ticket was written for
abbrev pub loan_of : Page → Lent
loan_of (Claims c) = c.loan
loan_of _ = no_loan

-- the pen's seat holds no slot of the table, which has one word
pub record IsPen (written : ℕ) (table : TableId) (me : Me (Unit {0}) Page) : Type 0 where
  pub pen : me ≡ (Writes written, [])
  pub one_word : table.words ≡ 1

-- the seat of a ticket of this number holds no slot of the table, which has one word
pub record IsTicket (number : ℕ) (table : TableId) (me : Me (Unit {0}) Page) : Type 0 where
  pub ticket : me ≡ (Claims (claim number (loan_of me.0)), [])
  pub one_word : table.words ≡ 1
