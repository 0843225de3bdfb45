-- What a list of touches leaves in the words.
use Rattle.std.proofs.Common.{◌≡◌, ◌<◌, get_or, get_or-set_same, get_or-set_other, sym, subst, ℕ}
use Rattle.std.proofs.Common.{List, [], ◌∷◌, ◌++◌, length, set, refl, ◌∙◌, length-set}
use Rattle.job_types.specs.declared.touch.Touch.{Touch}
use Rattle.job_types.specs.declared.touch.Touch.TheVariants.{Load, Store}
use Rattle.job_types.specs.Touches.{stored, NoStore}

pub length-stored : (ts : List Touch) (vs : List ℕ) → length (stored vs ts) ≡ length vs
length-stored [] vs = refl
length-stored (Load u x ∷ ts) vs = length-stored ts vs
length-stored (Store u x ∷ ts) vs = length-stored ts (set vs u x) ∙ length-set vs u x

pub stored-append : (a b : List Touch) (vs : List ℕ) → stored vs (a ++ b) ≡ stored (stored vs a) b
stored-append [] b vs = refl
stored-append (Load u x ∷ a) b vs = stored-append a b vs
stored-append (Store u x ∷ a) b vs = stored-append a b (set vs u x)

-- a word to which nothing was stored stays
pub stored-kept : (ts : List Touch) (vs : List ℕ) (w : ℕ) → NoStore w ts → get_or (stored vs ts) w 0 ≡ get_or vs w 0
stored-kept [] vs w free = refl
stored-kept (Load u x ∷ ts) vs w free = stored-kept ts vs w free
stored-kept (Store u x ∷ ts) vs w free = stored-kept ts (set vs u x) w free.1 ∙ get_or-set_other vs u w x 0 free.0

-- a word has the value that was stored to it last
pub stored-last : (a b : List Touch) (vs : List ℕ) (w x : ℕ) → w < length vs → NoStore w b → get_or (stored vs (a ++ Store w x ∷ b)) w 0 ≡ x
stored-last [] b vs w x lt free = stored-kept b (set vs w x) w free ∙ get_or-set_same vs w x 0 lt
stored-last (Load u y ∷ a) b vs w x lt free = stored-last a b vs w x lt free
stored-last (Store u y ∷ a) b vs w x lt free = stored-last a b (set vs u y) w x (subst (λ (n : ℕ). w < n) (sym (length-set vs u y)) lt) free
