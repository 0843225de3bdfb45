-- Words that differ by amounts, after the same stores elsewhere, and after an addition.
use Rattle.std.proofs.Common.{◌≡◌, inl, inr, ⊎_elim, ℕ, ◌+◌, ◌%◌, ◌^◌, ◌<◌, ◌≤◌, List, [], ◌∷◌}
use Rattle.std.proofs.Common.{length, sym, ap, ◌∙◌, subst, arith}
use Rattle.std.proofs.Math.ListN.{length-set}
use Rattle.std.proofs.lemmas.List.{get_or-set_same, get_or-set_other, get_or_past}
use Rattle.std.proofs.lemmas.Bool.{cases_eq, cases_lt}
use Rattle.std.specs.Prelude.{slice_index, slice_set}
use Rattle.std.specs.List.{AllByRecursion}
use Rattle.job_types.specs.declared.touch.Touch.{Touch}
use Rattle.job_types.specs.declared.touch.Touch.TheVariants.{Load, Store}
use Rattle.job_types.specs.Touches.{stored, NoStore}
use Rattle.job_types.proofs.Touched.{length-stored, stored-kept}
use Rattle.source_meaning.specs.Traces.{Answers, IsTouched}
use Rattle.source_meaning.proofs.Agreeing.{agree_answers, stored_alike}
use Rattle.additions_meaning.specs.Amounts.{DiffersBy}
use Rattle.addition_laws.specs.Either.{IsOutside}

touched_outside : (D : ℕ → Type 0) (ts : List Touch) (w : ℕ) → AllByRecursion (IsOutside D) ts → IsTouched ts w → D w → ⊥
touched_outside D [] w each at d = absurd at
touched_outside D (t ∷ ts) w each (inl here) d = each.0 (subst D (sym here) d)
touched_outside D (t ∷ ts) w each (inr later) d = touched_outside D ts w each.1 later d

pub no_store : (D : ℕ → Type 0) (ts : List Touch) (w : ℕ) → AllByRecursion (IsOutside D) ts → D w → NoStore w ts
no_store D [] w each d = tt
no_store D (Load u v ∷ ts) w each d = no_store D ts w each.1 d
no_store D (Store u v ∷ ts) w each d = ((λ same. each.0 (subst D same d)), no_store D ts w each.1 d)

-- how many words there are more where nothing is stored
unset : (s : List ℕ) (cell v : ℕ) → length s ≤ cell → slice_index (slice_set s cell v) cell ≡ slice_index s cell
unset s cell v past =
    let after : length (slice_set s cell v) ≤ cell = omega (arith, length-set s cell v, past) in
    get_or_past (slice_set s cell v) cell 0 after ∙ sym (get_or_past s cell 0 past)

module _ (D : ℕ → Type 0) (more : ℕ → ℕ) where
  -- what touches other words is answered alike
  pub differ_answers : (ts : List Touch) (s t : List ℕ) → DiffersBy D more s t → AllByRecursion (IsOutside D) ts → Answers s ts → Answers t ts
  differ_answers ts s t words each told = agree_answers ts s t words.long (λ w at. words.same w (touched_outside D ts w each at)) told

  -- and leaves the amounts
  pub differ_stored : (ts : List Touch) (s t : List ℕ) → DiffersBy D more s t → AllByRecursion (IsOutside D) ts → DiffersBy D more (stored s ts) (stored t ts)
  differ_stored ts s t words each = record {
    long = length-stored ts s ∙ words.long ∙ sym (length-stored ts t);
    same = λ w not. stored_alike ts s t w words.long (words.same w not);
    added = λ w d.
        let none = no_store D ts w each d in
        stored-kept ts t w none ∙ words.added w d ∙ ap (λ n. (n + more w) % 2 ^ 32) (sym (stored-kept ts s w none));
  }

  -- a word of D gets a value, and in the other list so much more
  pub differ_set : (s t : List ℕ) (cell u v : ℕ) → DiffersBy D more s t → D cell → v ≡ (u + more cell) % 2 ^ 32
      → DiffersBy D more (slice_set s cell u) (slice_set t cell v)
  differ_set s t cell u v words d is = record {
    long = length-set s cell u ∙ words.long ∙ sym (length-set t cell v);
    same = λ w not.
        let other : w ≡ cell → ⊥ = λ same. not (subst D (sym same) d) in
        get_or-set_other s cell w u 0 other ∙ words.same w not ∙ sym (get_or-set_other t cell w v 0 other);
    added = λ w e. ⊎_elim (λ same. subst (λ n. slice_index (slice_set t cell v) n ≡ (slice_index (slice_set s cell u) n + more n) % 2 ^ 32) (sym same) here)
        (λ other. get_or-set_other t cell w v 0 other ∙ words.added w e
        ∙ ap (λ n. (n + more w) % 2 ^ 32) (sym (get_or-set_other s cell w u 0 other))) (cases_eq w cell);
  }
    where
      here : slice_index (slice_set t cell v) cell ≡ (slice_index (slice_set s cell u) cell + more cell) % 2 ^ 32
      here = ⊎_elim
          (λ within. get_or-set_same t cell v 0 (subst (λ n. cell < n) words.long within) ∙ is
          ∙ ap (λ n. (n + more cell) % 2 ^ 32) (sym (get_or-set_same s cell u 0 within)))
          (λ past. unset t cell v (subst (λ n. n ≤ cell) words.long past) ∙ words.added cell d ∙ ap (λ n. (n + more cell) % 2 ^ 32) (sym (unset s cell u past)))
          (cases_lt cell (length s))
