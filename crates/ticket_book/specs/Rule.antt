-- The rule of the book, and what its steps tell.
--
-- There is a list of loans, which only grows. The one pen knows its length, and the loan of each
-- ticket stands at the ticket's number. The table's word never changes: it is there since a seat
-- learns of the rule by a step on a word.
use Rattle.std.specs.Prelude.{◌≡◌, ℕ, suc, Bool, true, false, List, length}
use mathlib.Core.Option.{some}
use lib.ListN.{get_elem?}
use Rattle.atomic_table.specs.Table.{State, Me, Step}
use Rattle.shared_store.specs.declared.view.Lent.{Lent}
use Rattle.ticket_book.specs.declared.page.Claim.{Claim}
use Rattle.ticket_book.specs.declared.page.Page.{Page}
use Rattle.ticket_book.specs.declared.page.Page.TheVariants.{Writes, Claims, Meets, Spent}
use Rattle.ticket_book.specs.Pages.{claim}

-- a table as the rule sees it: its words and the pages of its seats
abbrev pub St : Type 0
St = State (Unit {0}) Page

-- a seat as its steps see it: its page, and the slots that it holds, which are none
abbrev pub Sat : Type 0
Sat = Me (Unit {0}) Page

-- the loan that is claimed stands at the number that is claimed
abbrev pub IsLentAs : List Lent → Claim → Type 0
IsLentAs loans c = get_elem? loans c.number ≡ some c.loan

-- what a page says is so
abbrev pub IsSo : List Lent → Page → Type 0
IsSo loans (Writes n) = n ≡ length loans
IsSo loans (Claims c) = IsLentAs loans c
IsSo loans (Meets c d) = IsLentAs loans c × IsLentAs loans d
IsSo loans Spent = Unit {0}

abbrev pub is_pen : Page → Bool
is_pen (Writes n) = true
is_pen (Claims c) = false
is_pen (Meets c d) = false
is_pen Spent = false

-- the rule
pub record Booked (s : St) : Type 0 where
  pub loans : List Lent
  pub so : (j : ℕ) (v : Page) → get_elem? s.views j ≡ some v → IsSo loans v
  pub one_pen : (j k : ℕ) (v w : Page) → get_elem? s.views j ≡ some v → get_elem? s.views k ≡ some w
      → is_pen v ≡ true → is_pen w ≡ true → j ≡ k

-- two tickets of one number in one seat are for one loan
abbrev pub compared : Step (Unit {0}) → Sat → ℕ → Sat → Type 0
compared st m n m' = (c d : Claim) → m.0 ≡ Meets c d → c.number ≡ d.number → c.loan ≡ d.loan

-- how a new ticket cuts the pen's page in two: what the pen has then, and what the ticket has
abbrev pub pen_after : Page → Page
pen_after (Writes n) = Writes (suc n)
pen_after _ = Spent

abbrev pub ticket_after : Lent → Page → Page
ticket_after loan (Writes n) = Claims (claim n loan)
ticket_after loan _ = Spent

-- what a ticket has after it met another
abbrev pub both : Page → Page → Page
both (Claims c) (Claims d) = Meets c d
both v _ = v
