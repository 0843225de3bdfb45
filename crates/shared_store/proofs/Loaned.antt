-- The root's list of loans.
use Rattle.std.proofs.Common.{◌≡◌, ◌≢◌, ℕ, ◌<◌, Bool, false, List, [], ◌∷◌, sym, refl, ap, ◌∙◌}
use Rattle.std.proofs.Common.{subst, inl, inr, ⊎_elim, arith, eq-eqb, ne_eqb, if◌then◌else◌}
use Rattle.std.proofs.lemmas.Bool.{or_parts, or_from}
use mathlib.Core.Logic.{dite}
use native.Mathlib.Decide.{ℕ_discrete}
use Rattle.machine_code.specs.declared.permit.Permit.{Permit}
use Rattle.machine_code.specs.Permits.{may_write, may_read, Apart}
use Rattle.shared_store.specs.declared.view.Lent.{Lent}
use Rattle.shared_store.specs.Loans.{Has, Differ, lent_out, seen_by, fresh, without}

pub lent_out_none : (ls : List Lent) (l : Lent) (w : ℕ) → Has ls l → lent_out ls w ≡ false → may_write l.permit w ≡ false
lent_out_none [] l w h e = absurd h
lent_out_none (x ∷ xs) l w h e = ⊎_elim (λ (s : x ≡ l). subst (λ (z : Lent). may_write z.permit w ≡ false) s
    (or_parts (may_write x.permit w) (lent_out xs w) e).0)
    (λ (s : Has xs l). lent_out_none xs l w s (or_parts (may_write x.permit w) (lent_out xs w) e).1) h

pub lent_out_all : (ls : List Lent) (w : ℕ) → ((l : Lent) → Has ls l → may_write l.permit w ≡ false) → lent_out ls w ≡ false
lent_out_all [] w h = refl
lent_out_all (x ∷ xs) w h = or_from (may_write x.permit w) (lent_out xs w) (h x (inl refl)) (lent_out_all xs w (λ l s. h l (inr s)))

pub seen_by_none : (ls : List Lent) (l : Lent) (w : ℕ) → Has ls l → seen_by ls w ≡ false → may_read l.permit w ≡ false
seen_by_none [] l w h e = absurd h
seen_by_none (x ∷ xs) l w h e = ⊎_elim (λ (s : x ≡ l). subst (λ (z : Lent). may_read z.permit w ≡ false) s (or_parts (may_read x.permit w) (seen_by xs w) e).0)
    (λ (s : Has xs l). seen_by_none xs l w s (or_parts (may_read x.permit w) (seen_by xs w) e).1) h

pub seen_by_all : (ls : List Lent) (w : ℕ) → ((l : Lent) → Has ls l → may_read l.permit w ≡ false) → seen_by ls w ≡ false
seen_by_all [] w h = refl
seen_by_all (x ∷ xs) w h = or_from (may_read x.permit w) (seen_by xs w) (h x (inl refl)) (seen_by_all xs w (λ l s. h l (inr s)))

pub fresh_above : (ls : List Lent) (l : Lent) → Has ls l → l.number < fresh ls
fresh_above [] l h = absurd h
fresh_above (x ∷ xs) l h = ⊎_elim (λ (s : x ≡ l). let e : x.number ≡ l.number = ap (λ (z : Lent). z.number) s in omega arith)
    (λ (s : Has xs l). let e = fresh_above xs l s in omega arith) h

pub kept_out : (n : ℕ) (ls : List Lent) (l : Lent) → Has (without n ls) l → Has ls l × (l.number ≢ n)
kept_out n [] l h = absurd h
kept_out n (x ∷ xs) l h = let F : Bool → Type 0 = λ (b : Bool). Has (if b then without n xs else x ∷ without n xs) l in dite (ℕ_discrete n x.number)
    (λ (e : n ≡ x.number). let k = kept_out n xs l (subst F (eq-eqb n x.number e) h) in (inr k.0, k.1))
    (λ (ne : n ≢ x.number). ⊎_elim (λ (s : x ≡ l). (inl s, λ (e : l.number ≡ n). ne (sym e ∙ sym (ap (λ (z : Lent). z.number) s))))
    (λ (s : Has (without n xs) l). let k = kept_out n xs l s in (inr k.0, k.1)) (subst F (ne_eqb n x.number ne) h))

pub kept_in : (n : ℕ) (ls : List Lent) (l : Lent) → Has ls l → l.number ≢ n → Has (without n ls) l
kept_in n [] l h ne = absurd h
kept_in n (x ∷ xs) l h ne = let F : Bool → Type 0 = λ (b : Bool). Has (if b then without n xs else x ∷ without n xs) l in dite (ℕ_discrete n x.number)
    (λ (e : n ≡ x.number). subst F (sym (eq-eqb n x.number e))
    (⊎_elim (λ (s : x ≡ l). absurd (ne (sym (ap (λ (z : Lent). z.number) s) ∙ sym e)))
    (λ (s : Has xs l). kept_in n xs l s ne) h))
    (λ (d : n ≢ x.number). subst F (sym (ne_eqb n x.number d)) (⊎_elim (λ (s : x ≡ l). inl s) (λ (s : Has xs l). inr (kept_in n xs l s ne)) h))

pub Apart-sym : (p q : Permit) → Apart p q → Apart q p
Apart-sym p q a w = ((a w).1, (a w).0)

pub Differ-without : (n : ℕ) (ls : List Lent) → Differ ls → Differ (without n ls)
Differ-without n [] d = tt
Differ-without n (x ∷ xs) d = let F : Bool → Type 0 = λ (b : Bool). Differ (if b then without n xs else x ∷ without n xs) in dite (ℕ_discrete n x.number)
    (λ (e : n ≡ x.number). subst F (sym (eq-eqb n x.number e)) (Differ-without n xs d.1))
    (λ (ne : n ≢ x.number). subst F (sym (ne_eqb n x.number ne)) (λ l s. d.0 l (kept_out n xs l s).0, Differ-without n xs d.1))
