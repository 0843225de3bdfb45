-- The permits that the tests lend.
use Rattle.std.proofs.Common.{◌≡◌, ◌≢◌, ◌⊎◌, ℕ, true, false, ◌||◌, List, [], length, sym, ap, ◌∙◌}
use Rattle.std.proofs.Common.{subst, inl, inr, ⊎_elim}
use Rattle.std.proofs.lemmas.Bool.{cases_Bool, or_cases, or_left, false≢true}
use Rattle.job_types.specs.declared.job.JobStart.{JobStart}
use Rattle.machine_code.specs.declared.permit.Permit.{Permit}
use Rattle.machine_code.specs.Permits.{spans, may_write, may_read, Apart}
use Rattle.job_types.proofs.Touched.{length-stored}
use Rattle.shared_store.specs.declared.view.Lent.{Lent}
use Rattle.shared_store.specs.declared.view.Top.{Top}
use Rattle.shared_store.specs.declared.view.Hold.{Hold}
use Rattle.shared_store.specs.Loans.{Has, lent, lender, taken_back, FitsBeside}
use Rattle.shared_store.specs.Seats.{StoreId, RootView}
use Rattle.shared_store.specs.OneWord.{one_word}
use Rattle.shared_store.specs.TestPermits.{adding, reading, AllReading}
use Rattle.shared_store.proofs.Touched.{written_touched}
use Rattle.shared_store.proofs.Loaned.{kept_out}
use Rattle.shared_store.proofs.OneWord.{one_word_in, one_word_out}

-- the last of a list of spans
one_out : (w u : ℕ) → (spans (one_word w) u || false) ≡ true → w ≡ u
one_out w u e = ⊎_elim (λ (h : spans (one_word w) u ≡ true). one_word_out w u h)
    (λ (h : false ≡ true). absurd (false≢true h)) (or_cases (spans (one_word w) u) false e)

adding_writes : (step own u : ℕ) → may_write (adding step own) u ≡ true → own ≡ u
adding_writes step own u e = one_out own u e

adding_reads : (step own u : ℕ) → may_read (adding step own) u ≡ true → (step ≡ u) ⊎ (own ≡ u)
adding_reads step own u e = ⊎_elim (λ h. inl (one_out step u h)) (λ h. inr (one_out own u h))
    (or_cases (spans (one_word step) u || false) (may_write (adding step own) u) e)

pub adding_own : (p : Permit) (step own : ℕ) → p ≡ adding step own → may_write p own ≡ true
adding_own p step own e = subst (λ (q : Permit). may_write q own ≡ true) (sym e) (or_left (spans (one_word own) own) false (one_word_in own))

pub adding_own_read : (p : Permit) (step own : ℕ) → p ≡ adding step own → may_read p own ≡ true
adding_own_read p step own e = written_touched p own (adding_own p step own e)

pub adding_step : (p : Permit) (step own : ℕ) → p ≡ adding step own → may_read p step ≡ true
adding_step p step own e = subst (λ (q : Permit). may_read q step ≡ true) (sym e)
    (or_left (spans (one_word step) step || false) _ (or_left (spans (one_word step) step) false (one_word_in step)))

pub reading_reads : (p : Permit) (w : ℕ) → p ≡ reading w → may_read p w ≡ true
reading_reads p w e = subst (λ (q : Permit). may_read q w ≡ true) (sym e)
    (or_left (spans (one_word w) w || false) _ (or_left (spans (one_word w) w) false (one_word_in w)))

keeps_off : (step own other : ℕ) → own ≢ step → own ≢ other → (u : ℕ) → may_write (adding step own) u ≡ true → may_read (adding step other) u ≡ false
keeps_off step own other s o u e = let is = adding_writes step own u e in
    ⊎_elim (λ (t : may_read (adding step other) u ≡ true). absurd
    (⊎_elim (λ (d : step ≡ u). s (is ∙ sym d)) (λ (d : other ≡ u). o (is ∙ sym d)) (adding_reads step other u t)))
    (λ f. f) (cases_Bool (may_read (adding step other) u))

-- two jobs that add one word to different ones do not meet
pub adding_apart : (p q : Permit) (step own other : ℕ) → p ≡ adding step own → q ≡ adding step other → own ≢ step → other ≢ step → own ≢ other → Apart p q
adding_apart p q step own other e f s t o =
    subst (λ (z : Permit × Permit). Apart z.0 z.1) (λ i. (sym e i, sym f i))
    (λ u. (keeps_off step own other s o u, keeps_off step other own t (λ d. o (sym d)) u))

-- jobs that read one_word do not meet
pub reading_apart : (p q : Permit) (w : ℕ) → p ≡ reading w → q ≡ reading w → Apart p q
reading_apart p q w e f = subst (λ (z : Permit × Permit). Apart z.0 z.1) (λ i. (sym e i, sym f i))
    (λ u. (λ n. absurd (false≢true n), λ n. absurd (false≢true n)))

-- a permit beside the only loan
pub beside_one : (ls : List Lent) (t : Top) (start : JobStart) (p q : Permit) → ls ≡ (lender start p t).loans → t.loans ≡ [] → Apart p q → FitsBeside ls q
beside_one ls t start p q e none a = subst (λ (zs : List Lent). FitsBeside zs q) (sym e)
    (λ l s. ⊎_elim (λ (c : lent t start p ≡ l). subst (λ (z : Lent). Apart z.permit q) c a)
    (λ (c : Has t.loans l). absurd (subst (λ (zs : List Lent). Has zs l) none c)) s)

-- a permit that reads beside loans that read
pub beside_reading : (ls : List Lent) (p : Permit) (w : ℕ) → AllReading w ls → p ≡ reading w → FitsBeside ls p
beside_reading ls p w all e = λ l s. reading_apart l.permit p w (all l s) e

pub lender_reading : (ls : List Lent) (t : Top) (start : JobStart) (p : Permit) (w : ℕ) → ls ≡ (lender start p t).loans
    → p ≡ reading w → AllReading w t.loans → AllReading w ls
lender_reading ls t start p w e is all = subst (AllReading w) (sym e)
    (λ l s. ⊎_elim (λ (c : lent t start p ≡ l). subst (λ (z : Lent). z.permit ≡ reading w) c is)
    (λ (c : Has t.loans l). all l c) s)

pub taken_reading : (ls : List Lent) (t : Top) (h : Hold) (w : ℕ) → ls ≡ (taken_back t h).loans → AllReading w t.loans → AllReading w ls
taken_reading ls t h w e all = subst (AllReading w) (sym e) (λ l s. all l (kept_out h.lent.number t.loans l s).0)

pub taken_cells : (r : RootView) (s : StoreId) (t : Top) (h : Hold) → r ≡ (s, taken_back t h) → length r.1.values ≡ length t.values
taken_cells r s t h e = ap (λ (z : RootView). length z.1.values) e ∙ length-stored h.touches t.values
