-- A loan's load and store keep the rule.
use Rattle.std.proofs.Common.{◌≡◌, ℕ, ◌<◌, ◌^◌, true, List, length, get_or, set, sym, refl, ap, ◌∙◌}
use Rattle.std.proofs.Common.{subst, arith}
use mathlib.Core.Option.{none, some}
use lib.Seq.{set-get_or}
use Rattle.atomic_table.specs.Table.{step, keeps, Allows}
use Rattle.job_types.specs.declared.touch.Touch.TheVariants.{Load, Store}
use Rattle.machine_code.specs.Permits.{may_write, may_read}
use Rattle.shared_store.specs.declared.view.Hold.{Hold}
use Rattle.shared_store.specs.declared.view.View.{View}
use Rattle.shared_store.specs.declared.view.View.TheVariants.{Loan}
use Rattle.shared_store.specs.Loans.{current, touched}
use Rattle.shared_store.specs.Rule.{Sat, Holds, AreShared, Lending, looked, put}
use Rattle.shared_store.specs.Places.{place}
use Rattle.shared_store.proofs.Places.{place_same}
use Rattle.shared_store.proofs.Views.{same_loan}
use Rattle.shared_store.proofs.LoanSeats.{moved, found, loaded_sound, loaded_words, stored_sound}
use Rattle.shared_store.proofs.LoanSeats.{stored_words}

-- a job's load
pub looks : (slots id : ℕ) (me : Sat) (h : Hold) (w : ℕ) → me.0 ≡ Loan h → may_read h.lent.permit w ≡ true → w < length h.lent.base
    → Allows Lending slots id me (place slots w) (λ n. n) (looked (step slots (place slots w) 0 0 none) me)
looks slots id me h w is touch lt s r homes at _ =
    let n : ℕ = get_or s.words (place slots w) 0 in let here : Holds s.views id h = at ∙ ap (λ (v : View). some v) is in let t = r.top in
    let wide = r.listing.long h.lent (r.seats.listed id h here) in let lt' : w
    < length t.values = omega arith in let k : AreShared slots t s.views s.words = subst
    (λ (m : ℕ). AreShared m t s.views s.words) homes r.words in (
      Loan (touched h (Load w n)),
      keeps,
      tt,
      subst (λ (ws : List ℕ). Lending record {
        words = ws;
        homes = s.homes;
        views = set s.views id (Loan (touched h (Load w n)));
      }) (sym (set-get_or s.words (place slots w) 0)) record {
        top = t;
        listing = r.listing;
        seats = moved s.views id h (touched h (Load w n)) here refl t r.seats (loaded_sound slots t s.views s.words r.listing r.seats k id h here w touch lt');
        words = subst (λ (m : ℕ). AreShared m t (set s.views id (Loan (touched h (Load w n)))) s.words) (sym homes)
            (loaded_words slots t s.views s.words r.listing r.seats k id h here w n);
      },
      (λ h0 w0 e0 there. let same : h ≡ h0 = same_loan h h0 (ap (λ (v : View). some v) (sym is ∙ e0)) in let k' : w ≡ w0 = place_same slots w w0 there in
          subst (λ (z : Hold × ℕ). ◌≡◌ {A = Sat} (Loan (touched h (Load w n)), me.1)
          (Loan (touched z.0 (Load z.1 n)), me.1) × (n ≡ get_or (current z.0) z.1 0) × (n < 2 ^ 32))
          (λ i. (same i, k' i))
          (refl, found slots t s.views s.words r.listing r.seats k id h here w touch lt', k.fit (place slots w))),
    )

-- a job's store
pub puts : (slots id : ℕ) (me : Sat) (h : Hold) (w x : ℕ) → me.0 ≡ Loan h → may_write h.lent.permit w ≡ true → w < length h.lent.base → x < 2 ^ 32
    → Allows Lending slots id me (place slots w) (λ _. x) (λ _. put (step slots (place slots w) x 0 none) me x)
puts slots id me h w x is wr lt fits s r homes at _ =
    let here : Holds s.views id h = at ∙ ap (λ (v : View). some v) is in let t = r.top in
    let wide = r.listing.long h.lent (r.seats.listed id h here) in let lt' : w
    < length t.values = omega arith in let k : AreShared slots t s.views s.words = subst
    (λ (m : ℕ). AreShared m t s.views s.words) homes r.words in (
      Loan (touched h (Store w x)),
      keeps,
      tt,
      record {
        top = t;
        listing = r.listing;
        seats = moved s.views id h (touched h (Store w x)) here refl t r.seats
            (stored_sound slots t s.views s.words r.listing r.seats k id h here w x wr lt' fits);
        words = subst (λ (m : ℕ). AreShared m t (set s.views id (Loan (touched h (Store w x))))
            (set s.words (place slots w) x)) (sym homes)
            (stored_words slots t s.views s.words r.listing r.seats k id h here w x wr lt' fits);
      },
      (λ h0 w0 e0 there. let same : h ≡ h0 = same_loan h h0 (ap (λ (v : View). some v) (sym is ∙ e0)) in let k' : w ≡ w0 = place_same slots w w0 there in
          subst (λ (z : Hold × ℕ). ◌≡◌ {A = Sat} (Loan (touched h (Store w x)), me.1) (Loan (touched z.0 (Store z.1 x)), me.1)) (λ i. (same i, k' i)) refl),
    )
