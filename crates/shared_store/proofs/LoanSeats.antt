-- What the seat of one loan may rely on, and what its step leaves behind.
use Rattle.std.proofs.Common.{◌≡◌, ◌≢◌, ℕ, ◌<◌, ◌^◌, true, false, List, [], ◌∷◌, ◌++◌, length}
use Rattle.std.proofs.Common.{get_or, set, sym, refl, ap, ◌∙◌, subst, ⊎_elim, arith, length-set}
use Rattle.std.proofs.Common.{get_or-set_same, get_or-set_other}
use Rattle.std.proofs.lemmas.Bool.{cases_Bool, both_ways}
use mathlib.Core.Logic.{dite}
use mathlib.Core.Option.{some}
use native.Mathlib.Decide.{ℕ_discrete}
use lib.ListN.{get_elem?}
use Rattle.atomic_table.proofs.Lists.{at_set, set_else}
use Rattle.job_types.specs.declared.touch.Touch.TheVariants.{Load, Store}
use Rattle.machine_code.specs.Permits.{may_write, may_read}
use Rattle.shared_store.specs.Sound.{Sound}
use Rattle.shared_store.specs.declared.view.Lent.{Lent}
use Rattle.shared_store.specs.declared.view.Top.{Top}
use Rattle.shared_store.specs.declared.view.Hold.{Hold}
use Rattle.shared_store.specs.declared.view.View.{View}
use Rattle.shared_store.specs.declared.view.View.TheVariants.{Root, Loan}
use Rattle.shared_store.specs.Loans.{Has, lent_out, current, touched}
use Rattle.shared_store.specs.Seats.{hold_of}
use Rattle.shared_store.specs.Rule.{Holds, Listing, Seats, AreShared}
use Rattle.job_types.proofs.Touched.{length-stored}
use Rattle.shared_store.proofs.Touched.{written_touched, set_small, stored-snoc, stored_else}
use Rattle.shared_store.proofs.Touched.{Sound-snoc}
use Rattle.shared_store.proofs.Loaned.{lent_out_none, lent_out_all}
use Rattle.shared_store.proofs.Views.{same_loan, loan-not-root, set_at}
use Rattle.shared_store.specs.Places.{place}
use Rattle.shared_store.proofs.Places.{place_later, place_same, place_within}

-- a step of the seat id, whose loan stays the same but for its touches
module _ (views : List View) (id : ℕ) (h h' : Hold) (at : Holds views id h) (same : h'.lent ≡ h.lent) where
  pub back : (j : ℕ) (i : Hold) → Holds (set views id (Loan h')) j i → (k : Hold) × Holds views j k × (k.lent ≡ i.lent)
  back j i e = ⊎_elim (λ (c : (j ≡ id) × (Loan h' ≡ Loan i)).
      (h, subst (λ (k : ℕ). Holds views k h) (sym c.0) at, sym same ∙ ap (λ (v : View). (hold_of v).lent) c.1))
      (λ (c : (j ≢ id) × Holds views j i). (i, c.1, refl)) (at_set views id j (Loan h') (Loan i) e)

  pub forth : (j : ℕ) (k : Hold) → Holds views j k → (i : Hold) × Holds (set views id (Loan h')) j i × (i.lent ≡ k.lent)
  forth j k e = dite (ℕ_discrete j id)
      (λ (d : j ≡ id). (
        h',
        subst (λ (n : ℕ). Holds (set views id (Loan h')) n h') (sym d) (set_at views id (Loan h) (Loan h') at),
        same ∙ ap (λ (z : Hold). z.lent) (same_loan h k (sym at ∙ subst (λ (n : ℕ). Holds views n k) d e)),
      ))
      (λ (d : j ≢ id). (k, set_else views id j (Loan h') d ∙ e, refl))

  pub moved : (t : Top) → Seats t views → Sound h'.lent.permit h'.lent.base h'.touches → Seats t (set views id (Loan h'))
  moved t q ok = record {
    root = q.root;
    at_root = set_else views id q.root (Loan h')
        (λ (e : q.root ≡ id). loan-not-root h t
        (sym at ∙ subst (λ (n : ℕ). get_elem? views n ≡ some (Root t)) e q.at_root)) ∙ q.at_root;
    one_root = λ j u e. ⊎_elim (λ (c : (j ≡ id) × (Loan h' ≡ Root u)). absurd (loan-not-root h' u (ap (λ (v : View). some v) c.1)))
        (λ (c : (j ≢ id) × (get_elem? views j ≡ some (Root u))). q.one_root j u c.1) (at_set views id j (Loan h') (Root u) e);
    listed = λ j i e. let b = back j i e in subst (Has t.loans) b.2 (q.listed j b.0 b.1);
    one_seat = λ j k a b ja kb n. let x = back j a ja in let y = back k b kb in
        q.one_seat j k x.0 y.0 x.1 y.1 (ap (λ (l : Lent). l.number) x.2 ∙ (n ∙ sym (ap (λ (l : Lent). l.number) y.2)));
    live = λ a s. let l = q.live a s in let f = forth l.0 l.1 l.2 in (l.0, f.0, f.1, f.2 ∙ l.3);
    sound = λ j i e. ⊎_elim (λ (c : (j ≡ id) × (Loan h' ≡ Loan i)). subst (λ (z : Hold). Sound z.lent.permit z.lent.base z.touches) (ap hold_of c.1) ok)
        (λ (c : (j ≢ id) × Holds views j i). q.sound j i c.1) (at_set views id j (Loan h') (Loan i) e);
  }

-- what the seat id of the loan h may rely on
module _ (free : ℕ) (t : Top) (views : List View) (words : List ℕ) (r : Listing t) (q : Seats t views)
    (k : AreShared free t views words) (id : ℕ) (h : Hold) (at : Holds views id h) where
  pub has : Has t.loans h.lent
  has = q.listed id h at

  pub no_other : (j : ℕ) (i : Hold) (w : ℕ) → Holds views j i → j ≢ id → may_write i.lent.permit w ≡ true → may_read h.lent.permit w ≡ true → ⊥
  no_other j i w there other wr touch =
      both_ways (may_read h.lent.permit w) ((r.apart i.lent h.lent (q.listed j i there) has (λ e. other (q.one_seat j id i h there at e)) w).0 wr) touch

  pub only_read : (w : ℕ) → may_read h.lent.permit w ≡ true → may_write h.lent.permit w ≡ false → lent_out t.loans w ≡ false
  only_read w touch out = lent_out_all t.loans w (λ l s. dite (ℕ_discrete l.number h.lent.number)
      (λ (e : l.number ≡ h.lent.number). subst (λ (z : Lent). may_write z.permit w ≡ false) (sym (r.distinct l h.lent s has e)) out)
      (λ (ne : l.number ≢ h.lent.number). ⊎_elim
      (λ (wr : may_write l.permit w ≡ true). absurd
      (both_ways (may_read h.lent.permit w) ((r.apart l h.lent s has ne w).0 wr) touch))
      (λ (f : may_write l.permit w ≡ false). f) (cases_Bool (may_write l.permit w))))

  pub long : length (current h) ≡ length t.values
  long = length-stored h.touches h.lent.base ∙ r.long h.lent has

  -- the table's word is what the seat sees
  pub found : (w : ℕ) → may_read h.lent.permit w ≡ true → w < length t.values → get_or words (place free w) 0 ≡ get_or (current h) w 0
  found w touch lt = ⊎_elim (λ (wr : may_write h.lent.permit w ≡ true). k.mine id h at w wr lt)
      (λ (out : may_write h.lent.permit w ≡ false). k.others w (only_read w touch out) lt
      ∙ (sym (r.based h.lent has w touch) ∙ sym (stored_else h.lent.permit h.touches h.lent.base h.lent.base w (q.sound id h at) out)))
      (cases_Bool (may_write h.lent.permit w))

  pub loaded_sound : (w : ℕ) → may_read h.lent.permit w ≡ true → w < length t.values
      → Sound h.lent.permit h.lent.base (h.touches ++ Load w (get_or words (place free w) 0) ∷ [])
  loaded_sound w touch lt = let wide = long in Sound-snoc h.lent.permit h.touches h.lent.base (Load w (get_or words (place free w) 0)) (q.sound id h at)
      (touch, omega arith, found w touch lt, tt)

  pub loaded_words : (w n : ℕ) → AreShared free t (set views id (Loan (touched h (Load w n)))) words
  loaded_words w n = record {
    wide = k.wide;
    first = k.first;
    fit = k.fit;
    mine = λ j i e u uw lt. ⊎_elim
        (λ (c : (j ≡ id) × (Loan (touched h (Load w n)) ≡ Loan i)). subst
        (λ (z : Hold). may_write z.lent.permit u ≡ true → get_or words (place free u) 0 ≡ get_or (current z) u 0)
        (ap hold_of c.1)
        (λ uw'. k.mine id h at u uw' lt ∙ sym (ap (λ (vs : List ℕ). get_or vs u 0) (stored-snoc h.touches h.lent.base (Load w n)))) uw)
        (λ (c : (j ≢ id) × Holds views j i). k.mine j i c.1 u uw lt) (at_set views id j (Loan (touched h (Load w n))) (Loan i) e);
    others = k.others;
  }

  pub stored_sound : (w x : ℕ) → may_write h.lent.permit w ≡ true → w < length t.values → x < 2 ^ 32
      → Sound h.lent.permit h.lent.base (h.touches ++ Store w x ∷ [])
  stored_sound w x wr lt fits = let wide = long in Sound-snoc h.lent.permit h.touches h.lent.base (Store w x) (q.sound id h at) (wr, omega arith, fits, tt)

  pub stored_words : (w x : ℕ) → may_write h.lent.permit w ≡ true → w < length t.values → x < 2 ^ 32
      → AreShared free t (set views id (Loan (touched h (Store w x)))) (set words (place free w) x)
  stored_words w x wr lt fits = let h' : Hold = touched h (Store w x) in let inside = place_within free w
      (length t.values) (length words) (sym k.wide) lt in let later = place_later free w in let wide = long in record {
        wide = length-set words (place free w) x ∙ k.wide;
        first = get_or-set_other words (place free w) 0 x 0 (λ e. absurd (omega (arith, later, e))) ∙ k.first;
        fit = set_small words (place free w) x fits k.fit;
        mine = λ j i e u uw lt'. ⊎_elim
            (λ (c : (j ≡ id) × (Loan h' ≡ Loan i)). subst
            (λ (z : Hold). may_write z.lent.permit u ≡ true
            → get_or (set words (place free w) x) (place free u) 0 ≡ get_or (current z) u 0) (ap hold_of c.1)
            (λ uw'. subst (λ (vs : List ℕ). get_or (set words (place free w) x) (place free u) 0 ≡ get_or vs u 0)
            (sym (stored-snoc h.touches h.lent.base (Store w x)))
            (dite (ℕ_discrete u w)
            (λ (d : u ≡ w). subst (λ (n : ℕ). get_or (set words (place free w) x) (place free n) 0 ≡ get_or (set (current h) w x) n 0) (sym d)
            (get_or-set_same words (place free w) x 0 inside ∙ sym (get_or-set_same (current h) w x 0 (omega arith))))
            (λ (d : u ≢ w). get_or-set_other words (place free w) (place free u) x 0 (λ e'. d (place_same free u w e'))
            ∙ (k.mine id h at u uw' lt' ∙ sym (get_or-set_other (current h) w u x 0 d))))) uw)
            (λ (c : (j ≢ id) × Holds views j i).
            get_or-set_other words (place free w) (place free u) x 0 (λ e'. let d : u ≡ w = place_same free u w e' in
            no_other j i w c.1 c.0 (subst (λ (n : ℕ). may_write i.lent.permit n ≡ true) d uw) (written_touched h.lent.permit w wr)) ∙ k.mine j i c.1 u uw lt')
            (at_set views id j (Loan h') (Loan i) e);
        others = λ u out lt'. get_or-set_other words (place free w) (place free u) x 0 (λ e'. let d : u ≡ w = place_same free u w e' in
            both_ways (may_write h.lent.permit w) (subst (λ (n : ℕ). may_write h.lent.permit n ≡ false) d
            (lent_out_none t.loans h.lent u has out)) wr) ∙ k.others u out lt';
      }
