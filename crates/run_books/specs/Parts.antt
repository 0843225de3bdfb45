-- The parts of the books of which no job runs, and which parts are those of books.
use Rattle.std.specs.Prelude.{◌≡◌, ℕ, nat_eq, ◌≤◌, length}
use Rattle.std.specs.HashMap.{get}
use Rattle.run_books.specs.declared.parts.BookParts.{BookParts}
use Rattle.run_books.specs.Accounts.{Account, IsKept, account}
use Rattle.run_books.specs.Lines.{AreFound, timetable}

-- the books of these parts
abbrev pub account_of : BookParts → Account
account_of p = account (timetable p.lines p.given) p.buffers.waiting p.chains.chains p.chains.dead
    p.events.events p.next_forlopp p.ended p.restarts 0 p.limit

-- the parts are those of books: each line that has arrived has a forlopp, which is found by the
-- number of the line, and what holds of all books holds of these
pub record AreParts (p : BookParts) : Type 0 where
  pub next_line : p.next_line ≡ length p.given
  pub within : length p.given ≤ length p.lines
  pub numbers : AreFound (get nat_eq p.numbers) p.lines p.given
  pub kept : IsKept (account_of p)

-- the same parts but for the events: two tables are the same in which each look finds the same
pub record AreAlike (p q : BookParts) : Type 0 where
  pub waiting : q.buffers.waiting ≡ p.buffers.waiting
  pub chains : q.chains.chains ≡ p.chains.chains
  pub dead : q.chains.dead ≡ p.chains.dead
  pub lines : q.lines ≡ p.lines
  pub next_line : q.next_line ≡ p.next_line
  pub given : q.given ≡ p.given
  pub numbers : (n : ℕ) → get nat_eq q.numbers n ≡ get nat_eq p.numbers n
  pub next : q.next_forlopp ≡ p.next_forlopp
  pub ended : q.ended ≡ p.ended
  pub restarts : q.restarts ≡ p.restarts
  pub limit : q.limit ≡ p.limit
