-- Options and results: what they hold, and what a test chooses.
use Rattle.std.proofs.Common.{◌≡◌, Bool, true, false, cond, Option, Some, None, Result, Ok, Err}
use Rattle.std.proofs.Common.{refl, sym, ap, subst, ◌∙◌}
use lib.Dec.{T}
use Rattle.std.specs.Prelude.{◌&&◌, is_some}
use Rattle.std.specs.Option.{IsSome, option_or}

-- what an option or a result holds

pub not_some : {A : Type 0} (o : Option A) → is_some o ≡ false → o ≡ None
not_some None e = refl
not_some (Some x) e = cc

pub none_is_none : {A : Type 0} (o : Option A) → o ≡ None → IsSome o → ⊥
none_is_none {A} o none some = let here : IsSome {T = A} None = subst (λ u. IsSome u) none some in cc

pub same_Ok : {A E : Type 0} (x y : A) → ◌≡◌ {A = Result A E} (Ok x) (Ok y) → x ≡ y
same_Ok x y e = cc

pub err-ok : {A E : Type 0} (f : E) (x : A) → ◌≡◌ {A = Result A E} (Err f) (Ok x) → ⊥
err-ok f x e = cc

-- what a test chooses

-- nothing was chosen, so the test failed
pub not_chosen : {A : Type 0} (b : Bool) (x : A) → cond b (Some x) None ≡ None → b ≡ false
not_chosen true x e = cc
not_chosen false x e = refl

pub option_or-None : {A : Type 0} (o : Option A) → option_or o None ≡ o
option_or-None None = refl
option_or-None (Some x) = refl

-- what was there stays, where the test holds of it
pub stays : {A : Type 0} (t : Bool) (o : Option A) (x y : A) → (t ≡ true → o ≡ Some y) → o ≡ option_or o (cond t (Some x) None)
stays true o x y h = let e : o ≡ Some y = h refl in e ∙ ap (λ p. option_or p (Some x)) (sym e)
stays false o x y h = sym (option_or-None o)

-- something comes where nothing was
pub comes : {A : Type 0} (t : Bool) (o : Option A) (x : A) → (t ≡ true → o ≡ None) → cond t (Some x) o ≡ option_or o (cond t (Some x) None)
comes true o x h = ap (λ p. option_or p (Some x)) (sym (h refl))
comes false o x h = sym (option_or-None o)

-- both tests hold
pub split : (a b : Bool) → T (a && b) → T a × T b
split true b p = (tt, p)
split false b p = absurd p
