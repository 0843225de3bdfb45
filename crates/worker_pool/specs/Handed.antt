-- What threads hand to one another, and what is known of it whoever hands it.
use Rattle.std.specs.Prelude.{◌≡◌, []}
use Rattle.exchange_model.specs.declared.exchange.Exchange.{Exchange}
use Rattle.exchange_model.specs.Parts.{parts}
use Rattle.machine_code.specs.Coded.{Code}
use Rattle.machine_meaning.specs.Faithful.{Faithful}
use Rattle.machine_meaning.specs.Private.{Private}
use Rattle.job_runner.specs.Runs.{IsReady, HasRun}
use Rattle.shared_store.specs.Seats.{StoreId, JobView}
use Rattle.ticket_book.specs.Pages.{BookId, TicketView}

-- an exchange, a code, a store and a book that stand where none is named
abbrev pub no_exchange : Exchange
no_exchange = parts [] [] [] [] 0

abbrev pub no_code : Code
no_code = record { ops = []; entries = [] }

abbrev pub no_store : StoreId
no_store = record {
  words = 0;
  slots = 0;
  views_name = 0;
  atom = 0;
  block = 0;
  offset = 0;
  slot_names = [];
}

abbrev pub no_book : BookId
no_book = no_store

-- a job that waits: its ticket is of this book and for the loan of its seat, the code is faithful,
-- and the seat and the run are ready for that loan's job
pub record IsTask (x : Exchange) (code : Code) (store : StoreId) (book : BookId)
    (ticket : TicketView) (seat : JobView) (run : Private) : Type 0 where
  pub book_is : ticket.0 ≡ book
  pub loan_is : ticket.1.loan ≡ seat.1.lent
  pub faithful : Faithful x code
  pub ready : IsReady x code store seat run

-- a job that has run: its ticket is of this book, and the seat and the run are what comes back of
-- the job of the ticket's loan
pub record IsEnded (x : Exchange) (code : Code) (store : StoreId) (book : BookId)
    (ticket : TicketView) (seat : JobView) (run : Private) : Type 0 where
  pub book_is : ticket.0 ≡ book
  pub ran : HasRun x code store ticket.1.loan seat run
