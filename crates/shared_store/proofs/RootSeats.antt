-- The seats after the root's view has changed: alone, with a new loan, or with a loan that came
-- back.
use Rattle.std.proofs.Common.{◌≡◌, ◌≢◌, ◌⊎◌, ℕ, ◌<◌, List, [], ◌∷◌, ◌++◌, length, set, sym, refl}
use Rattle.std.proofs.Common.{ap, ◌∙◌, subst, inl, inr, ⊎_elim, arith}
use mathlib.Core.Option.{some}
use lib.ListN.{get_elem?}
use Rattle.atomic_table.proofs.Lists.{at_set, set_else, at_longer, at_last}
use Rattle.shared_store.specs.Sound.{Sound}
use Rattle.shared_store.specs.declared.view.Lent.{Lent}
use Rattle.shared_store.specs.declared.view.Top.{Top}
use Rattle.shared_store.specs.declared.view.Hold.{Hold}
use Rattle.shared_store.specs.declared.view.View.{View}
use Rattle.shared_store.specs.declared.view.View.TheVariants.{Root, Loan, Spent}
use Rattle.shared_store.specs.Loans.{Has, without}
use Rattle.shared_store.specs.Seats.{hold_of}
use Rattle.shared_store.specs.Rule.{Holds, Seats}
use Rattle.shared_store.proofs.Loaned.{kept_out, kept_in}
use Rattle.shared_store.proofs.Views.{same_loan, loan-not-root, root-not-spent, loan-not-spent}
use Rattle.shared_store.proofs.Views.{set_at, snoc_at}

-- a step of the root, whose view becomes t'
module _ (views : List View) (id : ℕ) (t t' : Top) (q : Seats t views) (at : get_elem? views id ≡ some (Root t)) where
  abbrev pub after : List View
  after = set views id (Root t')

  pub is_root : id ≡ q.root
  is_root = q.one_root id t at

  pub loan_was : (j : ℕ) (i : Hold) → Holds after j i → Holds views j i
  loan_was j i e = ⊎_elim (λ (c : (j ≡ id) × (Root t' ≡ Loan i)). absurd (loan-not-root i t' (ap (λ (v : View). some v) (sym c.1))))
      (λ (c : (j ≢ id) × Holds views j i). c.1) (at_set views id j (Root t') (Loan i) e)

  pub loan_stays : (j : ℕ) (i : Hold) → Holds views j i → Holds after j i
  loan_stays j i e = set_else views id j (Root t')
      (λ (d : j ≡ id). loan-not-root i t (sym e ∙ subst (λ (n : ℕ). get_elem? views n ≡ some (Root t)) (sym d) at)) ∙ e

  pub root_here : get_elem? after id ≡ some (Root t')
  root_here = set_at views id (Root t) (Root t') at

  pub only_root : (j : ℕ) (u : Top) → get_elem? after j ≡ some (Root u) → j ≡ id
  only_root j u e = ⊎_elim (λ (c : (j ≡ id) × (Root t' ≡ Root u)). c.0)
      (λ (c : (j ≢ id) × (get_elem? views j ≡ some (Root u))). q.one_root j u c.1 ∙ sym is_root) (at_set views id j (Root t') (Root u) e)

  pub reseated : ((a : Lent) → Has t.loans a → Has t'.loans a) → ((a : Lent) → Has t'.loans a → Has t.loans a) → Seats t' after
  reseated there back' = record {
    root = id;
    at_root = root_here;
    one_root = only_root;
    listed = λ j i e. there i.lent (q.listed j i (loan_was j i e));
    one_seat = λ j k a b ja kb n. q.one_seat j k a b (loan_was j a ja) (loan_was k b kb) n;
    live = λ a s. let l = q.live a (back' a s) in (l.0, l.1, loan_stays l.0 l.1 l.2, l.3);
    sound = λ j i e. q.sound j i (loan_was j i e);
  }

  -- one more loan
  module _ (h : Hold) (fits : t'.loans ≡ h.lent ∷ t.loans)
      (above : (a : Lent) → Has t.loans a → a.number < h.lent.number)
      (ok : Sound h.lent.permit h.lent.base h.touches) where
    abbrev pub longer : List View
    longer = after ++ Loan h ∷ []

    pub lent_was : (j : ℕ) (i : Hold) → Holds longer j i → Holds views j i ⊎ ((j ≡ length after) × (h ≡ i))
    lent_was j i e = ⊎_elim (λ (c : Holds after j i). inl (loan_was j i c)) (λ (c : (j ≡ length after) × (Loan h ≡ Loan i)). inr (c.0, ap hold_of c.1))
        (snoc_at after (Loan h) (Loan i) j e)

    pub old_number : (j : ℕ) (i : Hold) → Holds views j i → i.lent.number < h.lent.number
    old_number j i e = above i.lent (q.listed j i e)

    pub more : (a : Lent) → Has (h.lent ∷ t.loans) a → Has t'.loans a
    more a s = subst (λ (ls : List Lent). Has ls a) (sym fits) s

    pub seated_more : Seats t' longer
    seated_more = record {
      root = id;
      at_root = at_longer after (Loan h ∷ []) id (Root t') root_here;
      one_root = λ j u e. ⊎_elim (λ (c : get_elem? after j ≡ some (Root u)). only_root j u c)
          (λ (c : (j ≡ length after) × (Loan h ≡ Root u)). absurd (loan-not-root h u (ap (λ (v : View). some v) c.1))) (snoc_at after (Loan h) (Root u) j e);
      listed = λ j i e. ⊎_elim (λ (c : Holds views j i). more i.lent (inr (q.listed j i c)))
          (λ (c : (j ≡ length after) × (h ≡ i)). more i.lent (inl (ap (λ (z : Hold). z.lent) c.1)))
          (lent_was j i e);
      one_seat = λ j k a b ja kb n. ⊎_elim
          (λ (c : Holds views j a). ⊎_elim (λ (d : Holds views k b). q.one_seat j k a b c d n)
          (λ (d : (k ≡ length after) × (h ≡ b)). let lo = old_number j a c in let hi : h.lent.number
          ≡ b.lent.number = ap (λ (z : Hold). z.lent.number) d.1 in absurd (omega arith)) (lent_was k b kb))
          (λ (c : (j ≡ length after) × (h ≡ a)). ⊎_elim
          (λ (d : Holds views k b). let lo = old_number k b d in let hi : h.lent.number
          ≡ a.lent.number = ap (λ (z : Hold). z.lent.number) c.1 in absurd (omega arith))
          (λ (d : (k ≡ length after) × (h ≡ b)). c.0 ∙ sym d.0) (lent_was k b kb)) (lent_was j a ja);
      live = λ a s. ⊎_elim (λ (c : h.lent ≡ a). (length after, h, at_last after (Loan h) (length after) refl, c))
          (λ (c : Has t.loans a). let l = q.live a c in (l.0, l.1, at_longer after (Loan h ∷ []) l.0 (Loan l.1) (loan_stays l.0 l.1 l.2), l.3))
          (subst (λ (ls : List Lent). Has ls a) fits s);
      sound = λ j i e. ⊎_elim (λ (c : Holds views j i). q.sound j i c)
          (λ (c : (j ≡ length after) × (h ≡ i)). subst (λ (z : Hold). Sound z.lent.permit z.lent.base z.touches) c.1 ok) (lent_was j i e);
    }

  -- one loan less: the seat `other` has it, and is spent
  module _ (h : Hold) (other : ℕ) (ne : ¬ (other ≡ id)) (held : Holds after other h) (same : t'.loans ≡ without h.lent.number t.loans) where
    abbrev pub fewer : List View
    fewer = set after other Spent

    pub held_before : Holds views other h
    held_before = loan_was other h held

    pub stayed : (j : ℕ) (i : Hold) → Holds fewer j i → Holds views j i × (j ≢ other)
    stayed j i e = ⊎_elim (λ (c : (j ≡ other) × (Spent ≡ Loan i)). absurd (loan-not-spent i c.1))
        (λ (c : (j ≢ other) × Holds after j i). (loan_was j i c.1, c.0))
        (at_set after other j Spent (Loan i) e)

    pub seated_fewer : Seats t' fewer
    seated_fewer = record {
      root = id;
      at_root = set_else after other id Spent (λ (e : id ≡ other). ne (sym e)) ∙ root_here;
      one_root = λ j u e. ⊎_elim (λ (c : (j ≡ other) × (Spent ≡ Root u)). absurd (root-not-spent u c.1))
          (λ (c : (j ≢ other) × (get_elem? after j ≡ some (Root u))). only_root j u c.1)
          (at_set after other j Spent (Root u) e);
      listed = λ j i e. let b = stayed j i e in subst (λ (ls : List Lent). Has ls i.lent) (sym same)
          (kept_in h.lent.number t.loans i.lent (q.listed j i b.0) (λ n. b.1 (q.one_seat j other i h b.0 held_before n)));
      one_seat = λ j k a b ja kb n. q.one_seat j k a b (stayed j a ja).0 (stayed k b kb).0 n;
      live = λ a s. let o = kept_out h.lent.number t.loans a (subst (λ (ls : List Lent). Has ls a) same s) in let l = q.live a o.0 in (
        l.0,
        l.1,
        set_else after other l.0 Spent (λ (d : l.0 ≡ other). o.1 (sym (ap (λ (z : Lent). z.number) l.3)
            ∙ ap (λ (z : Hold). z.lent.number) (same_loan l.1 h (sym l.2 ∙ subst (λ (n : ℕ). Holds views n h) (sym d) held_before)))) ∙ loan_stays l.0 l.1 l.2,
        l.3,
      );
      sound = λ j i e. q.sound j i (stayed j i e).0;
    }
