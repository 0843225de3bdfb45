-- What a loan's touches have to be.
use Rattle.std.specs.Prelude.{◌≡◌, ℕ, ◌<◌, ◌^◌, true, List, [], ◌∷◌, length, slice_index, slice_set}
use Rattle.machine_code.specs.declared.permit.Permit.{Permit}
use Rattle.job_types.specs.declared.touch.Touch.{Touch}
use Rattle.job_types.specs.declared.touch.Touch.TheVariants.{Load, Store}
use Rattle.machine_code.specs.Permits.{may_write, may_read}

-- each load is of a word that may be read and found its last store, or else its base value;
-- each store is to a word that may be written, of a value below 2^32
abbrev pub Sound : Permit → List ℕ → List Touch → Type 0
Sound p vs [] = Unit {0}
Sound p vs (Load w x ∷ ts) =
    (may_read p w ≡ true) × (w < length vs) × (x ≡ slice_index vs w) × Sound p vs ts
Sound p vs (Store w x ∷ ts) =
    (may_write p w ≡ true) × (w < length vs) × (x < 2 ^ 32) × Sound p (slice_set vs w x) ts
