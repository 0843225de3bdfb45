-- What a list of touches leaves in the words.
use Rattle.std.proofs.Common.{◌≡◌, ℕ, zero, suc, ◌<◌, ◌^◌, true, false, List, [], ◌∷◌, ◌++◌, length}
use Rattle.std.proofs.Common.{get_or, set, sym, refl, ◌∙◌, subst, arith, length-set}
use Rattle.std.proofs.Common.{get_or-set_other}
use Rattle.std.proofs.lemmas.Bool.{or_right, both_ways}
use Rattle.machine_code.specs.declared.permit.Permit.{Permit}
use Rattle.job_types.specs.declared.touch.Touch.{Touch}
use Rattle.job_types.specs.declared.touch.Touch.TheVariants.{Load, Store}
use Rattle.machine_code.specs.Permits.{may_write, may_read}
use Rattle.shared_store.specs.Sound.{Sound}
use Rattle.job_types.specs.Touches.{stored}
use Rattle.job_types.proofs.Touched.{stored-append}

pub written_touched : (p : Permit) (w : ℕ) → may_write p w ≡ true → may_read p w ≡ true
written_touched p w e = or_right _ (may_write p w) e

pub set_agree : (a b : List ℕ) (u x w : ℕ) → length a ≡ length b → get_or a w 0 ≡ get_or b w 0 → get_or (set a u x) w 0 ≡ get_or (set b u x) w 0
set_agree [] [] u x w l e = refl
set_agree [] (y ∷ ys) u x w l e = absurd (omega arith)
set_agree (y ∷ ys) [] u x w l e = absurd (omega arith)
set_agree (y ∷ ys) (z ∷ zs) zero x zero l e = refl
set_agree (y ∷ ys) (z ∷ zs) zero x (suc w) l e = e
set_agree (y ∷ ys) (z ∷ zs) (suc u) x zero l e = e
set_agree (y ∷ ys) (z ∷ zs) (suc u) x (suc w) l e = set_agree ys zs u x w (omega arith) e

pub set_small : (a : List ℕ) (u x : ℕ) → x < 2 ^ 32 → ((w : ℕ) → get_or a w 0 < 2 ^ 32) → (w : ℕ) → get_or (set a u x) w 0 < 2 ^ 32
set_small [] u x f h w = h w
set_small (y ∷ ys) zero x f h zero = f
set_small (y ∷ ys) zero x f h (suc w) = h (suc w)
set_small (y ∷ ys) (suc u) x f h zero = h zero
set_small (y ∷ ys) (suc u) x f h (suc w) = set_small ys u x f (λ k. h (suc k)) w

pub stored-snoc : (ts : List Touch) (vs : List ℕ) (t : Touch) → stored vs (ts ++ t ∷ []) ≡ stored (stored vs ts) (t ∷ [])
stored-snoc ts vs t = stored-append ts (t ∷ []) vs

-- a word that two lists agree on, they agree on after the same touches
pub stored_agree : (ts : List Touch) (a b : List ℕ) (w : ℕ) → length a ≡ length b → get_or a w 0 ≡ get_or b w 0
    → get_or (stored a ts) w 0 ≡ get_or (stored b ts) w 0
stored_agree [] a b w l e = e
stored_agree (Load u x ∷ ts) a b w l e = stored_agree ts a b w l e
stored_agree (Store u x ∷ ts) a b w l e =
    stored_agree ts (set a u x) (set b u x) w (length-set a u x ∙ (l ∙ sym (length-set b u x))) (set_agree a b u x w l e)

-- a word that the permit keeps from writing stays
pub stored_else : (p : Permit) (ts : List Touch) (vs a : List ℕ) (w : ℕ) → Sound p vs ts → may_write p w ≡ false → get_or (stored a ts) w 0 ≡ get_or a w 0
stored_else p [] vs a w s out = refl
stored_else p (Load u x ∷ ts) vs a w s out = stored_else p ts vs a w s.3 out
stored_else p (Store u x ∷ ts) vs a w s out =
    stored_else p ts (set vs u x) (set a u x) w s.3 out
    ∙ get_or-set_other a u w x 0 (λ e. both_ways (may_write p u) (subst (λ (k : ℕ). may_write p k ≡ false) e out)
    s.0)

pub stored_small : (p : Permit) (ts : List Touch) (vs a : List ℕ) → Sound p vs ts → ((w : ℕ) → get_or a w 0 < 2 ^ 32)
    → (w : ℕ) → get_or (stored a ts) w 0 < 2 ^ 32
stored_small p [] vs a s h = h
stored_small p (Load u x ∷ ts) vs a s h = stored_small p ts vs a s.3 h
stored_small p (Store u x ∷ ts) vs a s h = stored_small p ts (set vs u x) (set a u x) s.3 (set_small a u x s.2 h)

pub Sound-snoc : (p : Permit) (ts : List Touch) (vs : List ℕ) (t : Touch) → Sound p vs ts → Sound p (stored vs ts) (t ∷ []) → Sound p vs (ts ++ t ∷ [])
Sound-snoc p [] vs t s q = q
Sound-snoc p (Load u x ∷ ts) vs t s q = (s.0, s.1, s.2, Sound-snoc p ts vs t s.3 q)
Sound-snoc p (Store u x ∷ ts) vs t s q = (s.0, s.1, s.2, Sound-snoc p ts (set vs u x) t s.3 q)
