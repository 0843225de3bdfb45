-- What a list of touches leaves behind. The touches stand in the order in which they were made.
use Rattle.std.specs.Prelude.{◌≢◌, ℕ, List, [], ◌∷◌, slice_set}
use Rattle.job_types.specs.declared.touch.Touch.{Touch}
use Rattle.job_types.specs.declared.touch.Touch.TheVariants.{Load, Store}

-- the values after the stores of the list
abbrev pub stored : List ℕ → List Touch → List ℕ
stored vs [] = vs
stored vs (Load w x ∷ ts) = stored vs ts
stored vs (Store w x ∷ ts) = stored (slice_set vs w x) ts

-- no touch of the list stores to the word
abbrev pub NoStore : ℕ → List Touch → Type 0
NoStore w [] = Unit {0}
NoStore w (Load u x ∷ ts) = NoStore w ts
NoStore w (Store u x ∷ ts) = (w ≢ u) × NoStore w ts
