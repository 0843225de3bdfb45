-- The rule of the shared words, and what its steps tell.
--
-- Each cell has a place among the table's words, and the table's word 0 is none of them. The rule
-- is in three parts: of the root's list alone, of the list and the seats, and of the words. A seat
-- that was joined into the root is `Spent`, and the rule says nothing of it.
use Rattle.std.specs.Prelude.{◌≡◌, ◌≢◌, ℕ, ◌<◌, ◌^◌, true, false, List, length, slice_index}
use mathlib.Core.Option.{some}
use lib.ListN.{get_elem?}
use Rattle.atomic_table.specs.Table.{State, Me, Step}
use Rattle.job_types.specs.declared.job.JobStart.{JobStart}
use Rattle.machine_code.specs.declared.permit.Permit.{Permit}
use Rattle.job_types.specs.declared.touch.Touch.TheVariants.{Load, Store}
use Rattle.machine_code.specs.Permits.{may_write, may_read, Apart}
use Rattle.shared_store.specs.declared.view.Lent.{Lent}
use Rattle.shared_store.specs.declared.view.Top.{Top}
use Rattle.shared_store.specs.declared.view.Hold.{Hold}
use Rattle.shared_store.specs.declared.view.View.{View}
use Rattle.shared_store.specs.declared.view.View.TheVariants.{Root, Loan, Spent}
use Rattle.shared_store.specs.Places.{place}
use Rattle.shared_store.specs.Sound.{Sound}
use Rattle.shared_store.specs.Loans.{Has, Differ, lent_out, lender, borrower, current, touched}
use Rattle.shared_store.specs.Loans.{taken_back, with_value}

-- a table as the rule sees it: its words and the views of its seats
abbrev pub St : Type 0
St = State (Unit {0}) View

-- a seat as its steps see it: its view, and the slots that it holds, which are none
abbrev pub Sat : Type 0
Sat = Me (Unit {0}) View

-- the seat j has the loan h
abbrev pub Holds : List View → ℕ → Hold → Type 0
Holds views j h = get_elem? views j ≡ some (Loan h)

-- The root's list: the loans' numbers differ, a loan is known by its number, no two loans meet in a
-- word that one of them may write, a loan's words still have its base values in the root's view,
-- and all values are below 2^32, one for each cell.
pub record Listing (t : Top) : Type 0 where
  pub differ : Differ t.loans
  pub distinct : (a b : Lent) → Has t.loans a → Has t.loans b → a.number ≡ b.number → a ≡ b
  pub apart : (a b : Lent) → Has t.loans a → Has t.loans b → a.number ≢ b.number
      → Apart a.permit b.permit
  pub long : (a : Lent) → Has t.loans a → length a.base ≡ length t.values
  pub based : (a : Lent) → Has t.loans a → (w : ℕ) → may_read a.permit w ≡ true
      → slice_index a.base w ≡ slice_index t.values w
  pub small : (w : ℕ) → slice_index t.values w < 2 ^ 32
  pub small_base : (a : Lent) → Has t.loans a → (w : ℕ) → slice_index a.base w < 2 ^ 32

-- The list and the seats: there is one root, its list has the loan of each seat and of no other, no
-- two seats have one loan, and each seat's touches are sound.
pub record Seats (t : Top) (views : List View) : Type 0 where
  pub root : ℕ
  pub at_root : get_elem? views root ≡ some (Root t)
  pub one_root : (j : ℕ) (u : Top) → get_elem? views j ≡ some (Root u) → j ≡ root
  pub listed : (j : ℕ) (h : Hold) → Holds views j h → Has t.loans h.lent
  pub one_seat : (j k : ℕ) (h i : Hold) → Holds views j h → Holds views k i
      → h.lent.number ≡ i.lent.number → j ≡ k
  pub live : (a : Lent) → Has t.loans a → (j : ℕ) × (h : Hold) × Holds views j h × (h.lent ≡ a)
  pub sound : (j : ℕ) (h : Hold) → Holds views j h → Sound h.lent.permit h.lent.base h.touches

-- The words: the first is 0, all are below 2^32, a word that a loan may write has what that loan's
-- seat sees, and any other has the root's value. So many words stay free behind each cell.
pub record AreShared (free : ℕ) (t : Top) (views : List View) (words : List ℕ) : Type 0 where
  pub wide : length words ≡ place free (length t.values)
  pub first : slice_index words 0 ≡ 0
  pub fit : (i : ℕ) → slice_index words i < 2 ^ 32
  pub mine : (j : ℕ) (h : Hold) → Holds views j h → (w : ℕ) → may_write h.lent.permit w ≡ true
      → w < length t.values → slice_index words (place free w) ≡ slice_index (current h) w
  pub others : (w : ℕ) → lent_out t.loans w ≡ false → w < length t.values
      → slice_index words (place free w) ≡ slice_index t.values w

-- the rule
pub record Lending (s : St) : Type 0 where
  pub top : Top
  pub listing : Listing top
  pub seats : Seats top s.views
  pub words : AreShared (length s.homes) top s.views s.words

-- a loan's load: the seat has one load more, of what it sees there
abbrev pub looked : Step (Unit {0}) → Sat → ℕ → Sat → Type 0
looked st m n m' = (h : Hold) (w : ℕ) → m.0 ≡ Loan h → st.word ≡ place st.slots w
    → (m' ≡ (Loan (touched h (Load w n)), m.1)) × (n ≡ slice_index (current h) w) × (n < 2 ^ 32)

-- a loan's store: the seat has one store more
abbrev pub put : Step (Unit {0}) → Sat → ℕ → Sat → Type 0
put st m n m' = (h : Hold) (w : ℕ) → m.0 ≡ Loan h → st.word ≡ place st.slots w
    → m' ≡ (Loan (touched h (Store w n)), m.1)

-- the root's load: nothing changes
abbrev pub root_looked : Step (Unit {0}) → Sat → ℕ → Sat → Type 0
root_looked st m n m' = (t : Top) (w : ℕ) → m.0 ≡ Root t → st.word ≡ place st.slots w
    → (m' ≡ m) × (n ≡ slice_index t.values w) × (n < 2 ^ 32)

-- the root's store: that word alone changes
abbrev pub root_put : Step (Unit {0}) → Sat → ℕ → Sat → Type 0
root_put st m n m' = (t : Top) (w : ℕ) → m.0 ≡ Root t → st.word ≡ place st.slots w
    → m' ≡ (Root (with_value t w n), m.1)

-- how a loan cuts the root's view in two: what stays with the root, and what the new seat has
abbrev pub cut_left : JobStart → Permit → View → View
cut_left start permit (Root t) = Root (lender start permit t)
cut_left start permit _ = Spent

abbrev pub cut_right : JobStart → Permit → View → View
cut_right start permit (Root t) = Loan (borrower start permit t)
cut_right start permit _ = Spent

-- what the root has after a loan has come back
abbrev pub both : View → View → View
both (Root t) (Loan h) = Root (taken_back t h)
both (Root t) _ = Root t
both v _ = v
