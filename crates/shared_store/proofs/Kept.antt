-- What the root's seat begins with, and what each seat keeps after a step of its own.
use Rattle.std.proofs.Common.{◌≡◌, ℕ, List, [], ◌∷◌, length, flat_map, refl, sym, ap, ◌∙◌, subst}
use Rattle.shared_store.specs.Sound.{Sound}
use Rattle.atomic_table.specs.Seated.{TableId}
use Rattle.shared_store.specs.declared.view.Top.{Top}
use Rattle.shared_store.specs.declared.view.Hold.{Hold}
use Rattle.shared_store.specs.declared.view.View.TheVariants.{Root, Loan}
use Rattle.shared_store.specs.Loans.{unlent}
use Rattle.shared_store.specs.Places.{place, line}
use Rattle.shared_store.proofs.Places.{row_wide}
use Rattle.shared_store.specs.Seats.{top_of, hold_of, IsJobSeat, IsRootSeat}
use Rattle.shared_store.specs.Rule.{Sat}

pub begins_root : (z z' : TableId) (me : Sat) (values row : List ℕ) (slots : List (Unit {0})) (free : ℕ)
    → z.words ≡ length row → z.slots ≡ length slots → z' ≡ z → me ≡ (Root (unlent values), [])
    → length slots ≡ free → row ≡ flat_map (line free) (0 ∷ values) → IsRootSeat z' me
begins_root z z' me values row slots free wide count same is counted laid =
    subst (λ (x : TableId × Sat). IsRootSeat x.0 x.1) (λ i. (sym same i, sym is i)) record {
      root = refl;
      cells = ap (λ (n : ℕ). place n (length values)) (count ∙ counted)
          ∙ (sym (row_wide free values) ∙ (ap (λ (ws : List ℕ). length ws) (sym laid) ∙ sym wide));
    }

pub keeps_job : (z z' : TableId) (me me' : Sat) (h' : Hold) → IsJobSeat z me → z' ≡ z → me' ≡ (Loan h', me.1)
    → length h'.lent.base ≡ length (hold_of me.0).lent.base → Sound h'.lent.permit h'.lent.base h'.touches
    → IsJobSeat z' me'
keeps_job z z' me me' h' k same e len ok =
    subst (λ (x : TableId × Sat). IsJobSeat x.0 x.1) (λ i. (sym same i, sym e i)) record
    { loan = λ i. (Loan h', ap (λ (m : Sat). m.1) k.loan i); cells = ap (place z.slots) len ∙ k.cells; sound = ok }

pub keeps_root : (z z' : TableId) (me me' : Sat) (t' : Top) → IsRootSeat z me → z' ≡ z → me' ≡ (Root t', me.1)
    → length t'.values ≡ length (top_of me.0).values → IsRootSeat z' me'
keeps_root z z' me me' t' k same e len =
    subst (λ (x : TableId × Sat). IsRootSeat x.0 x.1) (λ i. (sym same i, sym e i)) record
    { root = λ i. (Root t', ap (λ (m : Sat). m.1) k.root i); cells = ap (place z.slots) len ∙ k.cells }
