-- Where the cells stand in the table.
use Rattle.std.proofs.Common.{◌≡◌, ℕ, zero, suc, ◌+◌, ◌*◌, ◌<◌, ◌^◌, List, [], ◌∷◌, ◌++◌, length}
use Rattle.std.proofs.Common.{get_or, replicate, flat_map, sym, refl, ap, ◌∙◌, subst, arith}
use Rattle.std.proofs.Common.{add-one, lit<, get_or-append-add}
use Rattle.std.proofs.lemmas.List.{length-append, length-replicate}
use Rattle.std.proofs.Math.Nat.{suc-mul}
use Rattle.std.proofs.Math.Nat.{zero-mul}
use Rattle.std.proofs.Math.Nat.{mul-lt-mul_of_pos_right}
use Rattle.std.proofs.Math.Nat.{eq_of_mul-eq-mul_right}
use Rattle.shared_store.specs.Places.{place, line}

pub place_is : (free w : ℕ) → (w + 1) * (free + 1) ≡ place free w
unfolding place
place_is free w = refl

some : (n : ℕ) → 0 < n + 1
some n = omega arith

pub place_before : (free u w : ℕ) → u < w → place free u < place free w
unfolding place
place_before free u w lt = let more : u + 1 < w + 1 = omega arith in mul-lt-mul_of_pos_right more (some free)

-- the table's word 0 is no cell's
pub place_later : (free w : ℕ) → 0 < place free w
unfolding place
place_later free w = let one : 0 < 1 = omega arith in let least : 0 * (free + 1)
    < (w + 1) * (free + 1) = mul-lt-mul_of_pos_right (some w) (some free) in omega (arith, least)

pub place_same : (free u w : ℕ) → place free u ≡ place free w → u ≡ w
unfolding place
place_same free u w e = let same : u + 1 ≡ w + 1 = eq_of_mul-eq-mul_right (free + 1) (some free) (u + 1) (w + 1) e in omega (arith, same)

-- a cell of a table is within it
pub place_within : (free w cells words : ℕ) → place free cells ≡ words → w < cells → place free w < words
place_within free w cells words is lt = subst (λ (n : ℕ). place free w < n) is (place_before free w cells lt)

-- the words of the table at the start
module _ (free : ℕ) where
  line_long : (v : ℕ) → length (line free v) ≡ free + 1
  line_long v = let zeros : length {A = ℕ} (replicate free 0) ≡ free = length-replicate free 0 in omega (arith, zeros)

  row_long : (vs : List ℕ) → length (flat_map (line free) vs) ≡ length vs * (free + 1)
  row_long [] = sym (zero-mul (free + 1))
  row_long (v ∷ vs) = length-append (line free v) (flat_map (line free) vs)
      ∙ let here = line_long v in let there = row_long vs in let more = suc-mul (length vs) (free + 1) in omega (arith, here, there, more)

  pub row_wide : (vs : List ℕ) → length (flat_map (line free) (0 ∷ vs)) ≡ place free (length vs)
  row_wide vs = row_long (0 ∷ vs) ∙ (ap (λ (n : ℕ). n * (free + 1)) (sym (rw add-one refl)) ∙ place_is free (length vs))

  read : (vs : List ℕ) (i : ℕ) → get_or (flat_map (line free) vs) (i * (free + 1)) 0 ≡ get_or vs i 0
  read [] i = refl
  read (v ∷ vs) zero = ap (λ (n : ℕ). get_or (flat_map (line free) (v ∷ vs)) n 0) (zero-mul (free + 1))
  read (v ∷ vs) (suc i) =
      let on : suc i * (free + 1) ≡ length (line free v) + i * (free + 1) =
      let here = line_long v in let more = suc-mul i (free + 1) in omega (arith, here, more) in
      ap (λ (n : ℕ). get_or (flat_map (line free) (v ∷ vs)) n 0) on ∙ (get_or-append-add (line free v) (flat_map (line free) vs) (i * (free + 1)) 0 ∙ read vs i)

  pub row_read : (vs : List ℕ) (w : ℕ) → get_or (flat_map (line free) (0 ∷ vs)) (place free w) 0 ≡ get_or vs w 0
  row_read vs w = ap (λ (n : ℕ). get_or (flat_map (line free) (0 ∷ vs)) n 0) (sym (place_is free w)) ∙ (read (0 ∷ vs) (w + 1) ∙ rw add-one refl)

small_append : (xs ys : List ℕ) → ((k : ℕ) → get_or xs k 0 < 2 ^ 32) → ((k : ℕ) → get_or ys k 0 < 2 ^ 32) → (k : ℕ) → get_or (xs ++ ys) k 0 < 2 ^ 32
small_append [] ys f g k = g k
small_append (x ∷ xs) ys f g zero = f zero
small_append (x ∷ xs) ys f g (suc k) = small_append xs ys (λ j. f (suc j)) g k

small_line : (free v : ℕ) → v < 2 ^ 32 → (k : ℕ) → get_or (line free v) k 0 < 2 ^ 32
small_line free v f zero = f
small_line zero v f (suc k) = lit< tt
small_line (suc free) v f (suc k) = small_line free 0 (lit< tt) k

pub row_small : (free : ℕ) (vs : List ℕ) → ((w : ℕ) → get_or vs w 0 < 2 ^ 32) → (k : ℕ) → get_or (flat_map (line free) vs) k 0 < 2 ^ 32
row_small free [] small k = small k
row_small free (v ∷ vs) small k = small_append (line free v) (flat_map (line free) vs) (small_line free v (small zero))
    (row_small free vs (λ w. small (suc w))) k
