-- A new loan, and one that comes back, keep the rule.
use Rattle.std.proofs.Common.{◌≡◌, ◌≢◌, ℕ, ◌<◌, ◌^◌, true, false, [], ◌∷◌, ◌++◌, length, get_or}
use Rattle.std.proofs.Common.{set, sym, refl, ap, ◌∙◌, subst, ⊎_elim, arith}
use Rattle.std.proofs.lemmas.Bool.{cases_Bool, or_parts, both_ways}
use mathlib.Core.Logic.{dite}
use mathlib.Core.Option.{some}
use native.Mathlib.Decide.{ℕ_discrete}
use lib.ListN.{get_elem?}
use Rattle.atomic_table.specs.Table.{Splits, Joins}
use Rattle.job_types.specs.declared.job.JobStart.{JobStart}
use Rattle.machine_code.specs.declared.permit.Permit.{Permit}
use Rattle.machine_code.specs.Permits.{may_write, may_read, Apart}
use Rattle.shared_store.specs.declared.view.Lent.{Lent}
use Rattle.shared_store.specs.declared.view.Top.{Top}
use Rattle.shared_store.specs.declared.view.Hold.{Hold}
use Rattle.shared_store.specs.declared.view.View.{View}
use Rattle.shared_store.specs.declared.view.View.TheVariants.{Root, Loan, Spent}
use Rattle.shared_store.specs.Loans.{Has, lent_out, without, lent, lender, borrower, current}
use Rattle.shared_store.specs.Loans.{taken_back, FitsBeside}
use Rattle.shared_store.specs.Rule.{Holds, Listing, Seats, AreShared, Lending, cut_left, cut_right}
use Rattle.shared_store.specs.Rule.{both}
use Rattle.job_types.proofs.Touched.{length-stored}
use Rattle.shared_store.proofs.Touched.{written_touched, stored_agree, stored_else, stored_small}
use Rattle.shared_store.proofs.Loaned.{lent_out_none, lent_out_all, fresh_above, kept_out, kept_in}
use Rattle.shared_store.proofs.Loaned.{Differ-without, Apart-sym}
use Rattle.shared_store.specs.Places.{place}
use Rattle.shared_store.proofs.Views.{same_root}
use Rattle.shared_store.proofs.RootSeats.{lent_was, seated_more, held_before, stayed, seated_fewer}

-- a new loan
pub cuts : (id : ℕ) (t : Top) (v : View) (start : JobStart) (permit : Permit) → v ≡ Root t → FitsBeside t.loans permit
    → Splits Lending id v (cut_left start permit v) (cut_right start permit v)
cuts id t v start permit is fits s r at =
    let here : get_elem? s.views id ≡ some (Root t) = at ∙ ap (λ (v : View). some v) is in
    let top : r.top ≡ t = same_root r.top t (sym r.seats.at_root ∙ subst (λ (k : ℕ). get_elem? s.views k ≡ some (Root t)) (r.seats.one_root id t here) here) in
    let k : AreShared (length s.homes) t s.views s.words = subst (λ (z : Top). AreShared (length s.homes) z s.views s.words) top r.words in
    let g : Listing t = subst Listing top r.listing in let q : Seats t s.views = subst (λ (z : Top). Seats z s.views) top r.seats in
    let t' : Top = lender start permit t in let l : Lent = lent t start permit in let h : Hold = borrower start permit t in
    let above : (a : Lent) → Has t.loans a → a.number < l.number = λ a s. fresh_above t.loans a s in
    subst (λ (z : View). Lending record {
      words = s.words;
      homes = s.homes;
      views = set s.views id (cut_left start permit z) ++ cut_right start permit z ∷ [];
    }) (sym is) record {
      top = t';
      listing = record {
        differ = (λ a s e. let lo = above a s in absurd (omega arith), g.differ);
        distinct = λ a b sa sb n. ⊎_elim
            (λ (c : l ≡ a). ⊎_elim (λ (d : l ≡ b). sym c ∙ d)
            (λ (d : Has t.loans b). let lo = above b d in let e : l.number
            ≡ a.number = ap (λ (z : Lent). z.number) c in absurd (omega arith)) sb)
            (λ (c : Has t.loans a). ⊎_elim (λ (d : l ≡ b). let lo = above a c in let e : l.number
            ≡ b.number = ap (λ (z : Lent). z.number) d in absurd (omega arith))
            (λ (d : Has t.loans b). g.distinct a b c d n) sb) sa;
        apart = λ a b sa sb n. ⊎_elim
            (λ (c : l ≡ a). ⊎_elim (λ (d : l ≡ b). absurd (n (ap (λ (z : Lent). z.number) (sym c ∙ d))))
            (λ (d : Has t.loans b). subst (λ (z : Lent). Apart z.permit b.permit) c
            (Apart-sym b.permit permit (fits b d))) sb)
            (λ (c : Has t.loans a). ⊎_elim (λ (d : l ≡ b). subst (λ (z : Lent). Apart a.permit z.permit) d (fits a c))
            (λ (d : Has t.loans b). g.apart a b c d n) sb) sa;
        long = λ a s. ⊎_elim (λ (c : l ≡ a). ap (λ (z : Lent). length z.base) (sym c)) (λ (c : Has t.loans a). g.long a c) s;
        based = λ a s u touch. ⊎_elim (λ (c : l ≡ a). ap (λ (z : Lent). get_or z.base u 0) (sym c)) (λ (c : Has t.loans a). g.based a c u touch) s;
        small = g.small;
        small_base = λ a s. ⊎_elim (λ (c : l ≡ a). subst (λ (z : Lent). (w : ℕ) → get_or z.base w 0 < 2 ^ 32) c g.small)
            (λ (c : Has t.loans a). g.small_base a c) s;
      };
      seats = seated_more s.views id t t' q here h refl above tt;
      words = record {
        wide = k.wide;
        first = k.first;
        fit = k.fit;
        mine = λ j i e u uw lt. ⊎_elim (λ (c : Holds s.views j i). k.mine j i c u uw lt)
            (λ (c : (j ≡ length (set s.views id (Root t'))) × (h ≡ i)). subst
            (λ (z : Hold). get_or s.words (place (length s.homes) u) 0 ≡ get_or (current z) u 0) c.1
            (k.others u (lent_out_all t.loans u (λ a s. ⊎_elim
            (λ (wr : may_write a.permit u ≡ true). absurd
            (both_ways (may_read permit u) ((fits a s u).0 wr)
            (written_touched permit u (subst (λ (z : Hold). may_write z.lent.permit u ≡ true) (sym c.1) uw))))
            (λ (f : may_write a.permit u ≡ false). f) (cases_Bool (may_write a.permit u)))) lt))
            (lent_was s.views id t t' q here h refl above tt j i e);
        others = λ u out lt. k.others u (or_parts (may_write permit u) (lent_out t.loans u) out).1 lt;
      };
    }

-- a loan comes back
pub rejoins : (id : ℕ) (t : Top) (v : View) (other : ℕ) (h : Hold) (u : View) → v ≡ Root t → u ≡ Loan h → Joins Lending id v other u (both v u) Spent
rejoins id t v other h u is is' s r at ne at' =
    let here : get_elem? s.views id ≡ some (Root t) = at ∙ ap (λ (v : View). some v) is in
    let top : r.top ≡ t = same_root r.top t (sym r.seats.at_root ∙ subst (λ (k : ℕ). get_elem? s.views k ≡ some (Root t)) (r.seats.one_root id t here) here) in
    let k : AreShared (length s.homes) t s.views s.words = subst (λ (z : Top). AreShared (length s.homes) z s.views s.words) top r.words in
    let g : Listing t = subst Listing top r.listing in let q : Seats t s.views = subst (λ (z : Top). Seats z s.views) top r.seats in
    let t' : Top = taken_back t h in let n : ℕ = h.lent.number in
    let goes : both v u ≡ Root t' = (λ i. both (is i) (is' i)) in
    let held : Holds (set s.views id (Root t')) other h = subst
    (λ (z : View). get_elem? (set s.views id z) other ≡ some u) goes at' ∙ ap (λ (v : View). some v) is' in
    let before : Holds s.views other h = held_before s.views id t t' q here h other ne held refl in
    let has' : Has t.loans h.lent = q.listed other h before in let sound' = q.sound other h before in let p : Permit = h.lent.permit in
    let apart : (a : Lent) (w : ℕ) → Has t.loans a → a.number ≢ n → may_read a.permit w ≡ true → may_write p w ≡ false = λ a w s d touch.
    ⊎_elim (λ (wr : may_write p w ≡ true). absurd
    (both_ways (may_read a.permit w) ((g.apart a h.lent s has' d w).1 wr) touch)) (λ (f : may_write p w ≡ false). f)
    (cases_Bool (may_write p w)) in
    subst (λ (z : View). Lending record { words = s.words; homes = s.homes; views = set (set s.views id z) other Spent }) (sym goes) record {
      top = t';
      listing = record {
        differ = Differ-without n t.loans g.differ;
        distinct = λ a b sa sb e. g.distinct a b (kept_out n t.loans a sa).0 (kept_out n t.loans b sb).0 e;
        apart = λ a b sa sb d. g.apart a b (kept_out n t.loans a sa).0 (kept_out n t.loans b sb).0 d;
        long = λ a s. g.long a (kept_out n t.loans a s).0 ∙ sym (length-stored h.touches t.values);
        based = λ a s w touch. let o = kept_out n t.loans a s in g.based a o.0 w touch
            ∙ sym (stored_else p h.touches h.lent.base t.values w sound' (apart a w o.0 o.1 touch));
        small = stored_small p h.touches h.lent.base t.values sound' g.small;
        small_base = λ a s. g.small_base a (kept_out n t.loans a s).0;
      };
      seats = seated_fewer s.views id t t' q here h other ne held refl;
      words = record {
        wide = k.wide ∙ ap (place (length s.homes)) (sym (length-stored h.touches t.values));
        first = k.first;
        fit = k.fit;
        mine = λ j i e w wr lt. let len = length-stored h.touches t.values in k.mine j i
            (stayed s.views id t t' q here h other ne held refl j i e).0 w wr (omega arith);
        others = λ w out lt. let len = length-stored h.touches t.values in let lt' : w < length t.values = omega arith in ⊎_elim
            (λ (wr : may_write p w ≡ true). k.mine other h before w wr lt'
            ∙ stored_agree h.touches h.lent.base t.values w (g.long h.lent has') (g.based h.lent has' w (written_touched p w wr)))
            (λ (f : may_write p w ≡ false). k.others w (lent_out_all t.loans w (λ a s. dite (ℕ_discrete a.number n)
            (λ (e : a.number ≡ n). subst (λ (z : Lent). may_write z.permit w ≡ false) (sym (g.distinct a h.lent s has' e)) f)
            (λ (d : a.number ≢ n). lent_out_none (without n t.loans) a w (kept_in n t.loans a s d) out))) lt'
            ∙ sym (stored_else p h.touches h.lent.base t.values w sound' f))
            (cases_Bool (may_write p w));
      };
    }
