-- What may follow the first lines of a listing.
--
-- Lines stand with their ends. E says which lines are entries, by their numbers, and O which are
-- instructions: once those of the form, once those without fault.
use Rattle.std.proofs.Common.{◌≡◌, ℕ, suc, ◌+◌, List, [], ◌∷◌, ◌++◌, length, map, refl, sym, subst}
use Rattle.std.proofs.Common.{arith, ◌⊎◌, inl, inr}
use Rattle.std.specs.List.{AllByRecursion}
use Rattle.listing.specs.Forms.{EachFrom}
use Rattle.listing.specs.Listing.{last_line}
use Rattle.text_lines.proofs.Texts.{ended_once}
use Rattle.text_lines.specs.Lines.{ended}

-- entries, instructions and the last line are told apart
pub record ToldApart (E : ℕ → List ℕ → Type 0) (O : List ℕ → Type 0) : Type 0 where
  pub entry_op : (i : ℕ) (line : List ℕ) → E i line → O line → ⊥
  pub entry_last : (i : ℕ) (line : List ℕ) → E i line → line ≡ last_line → ⊥
  pub op_last : (line : List ℕ) → O line → line ≡ last_line → ⊥

-- what stands behind the inner lines of a listing
abbrev pub closing : List (List ℕ)
closing = ended last_line ∷ [] ∷ []

heads : {a b : List ℕ} {xs ys : List (List ℕ)} → ended a ∷ xs ≡ ended b ∷ ys → (a ≡ b) × (xs ≡ ys)
heads {a} {b} {xs} {ys} e =
    let first : ended a ≡ ended b = cc in
    let rest : xs ≡ ys = cc in
    (ended_once a b first, rest)

-- the line that follows instructions
op_next : (E : ℕ → List ℕ → Type 0) (O : List ℕ → Type 0) → ToldApart E O
    → (os all : List (List ℕ)) (piece : List ℕ) (more : List (List ℕ)) → AllByRecursion O os → AllByRecursion O all
    → map ended os ++ piece ∷ more ≡ map ended all ++ closing
    → (line : List ℕ) × (piece ≡ ended line) × (O line ⊎ (line ≡ last_line))
op_next E O apart [] [] piece more ho ha e = let first : piece ≡ ended last_line = cc in (last_line, first, inr refl)
op_next E O apart [] (a ∷ all) piece more ho ha e = let first : piece ≡ ended a = cc in (a, first, inl ha.0)
op_next E O apart (o ∷ os) [] piece more ho ha e = absurd (apart.op_last o ho.0 (heads e).0)
op_next E O apart (o ∷ os) (a ∷ all) piece more ho ha e = op_next E O apart os all piece more ho.1 ha.1 (heads e).1

-- the line that follows entries and instructions
pub line_next : (E : ℕ → List ℕ → Type 0) (O : List ℕ → Type 0) → ToldApart E O
    → (i : ℕ) (es os fs all : List (List ℕ)) (piece : List ℕ) (more : List (List ℕ)) → EachFrom E i es
    → AllByRecursion O os → EachFrom E i fs → AllByRecursion O all
    → map ended es ++ (map ended os ++ piece ∷ more) ≡ map ended fs ++ (map ended all ++ closing)
    → (line : List ℕ) × (piece ≡ ended line) × (((os ≡ []) × E (i + length es) line) ⊎ (O line ⊎ (line ≡ last_line)))
line_next E O apart i [] os [] all piece more he ho hf ha e =
    let next = op_next E O apart os all piece more ho ha e in
    (next.0, next.1, inr next.2)
line_next E O apart i [] [] (f ∷ fs) all piece more he ho hf ha e =
    let first : piece ≡ ended f = cc in
    let here : i ≡ i + 0 = omega arith in
    (f, first, inl (refl, subst (λ (k : ℕ). E k f) here hf.0))
line_next E O apart i [] (o ∷ os) (f ∷ fs) all piece more he ho hf ha e =
    let same = (heads e).0 in
    absurd (apart.entry_op i f hf.0 (subst O same ho.0))
line_next E O apart i (a ∷ es) os [] [] piece more he ho hf ha e = absurd (apart.entry_last i a he.0 (heads e).0)
line_next E O apart i (a ∷ es) os [] (b ∷ all) piece more he ho hf ha e =
    let same = (heads e).0 in
    absurd (apart.entry_op i a he.0 (subst O (sym same) ha.0))
line_next E O apart i (a ∷ es) os (f ∷ fs) all piece more he ho hf ha e =
    let next = line_next E O apart (i + 1) es os fs all piece more he.1 ho hf.1 ha (heads e).1 in
    let count : i + 1 + length es ≡ i + suc (length es) = omega arith in
    (next.0, next.1, counted next.0 count next.2)
  where
    counted : (line : List ℕ) → i + 1 + length es ≡ i + suc (length es)
        → ((os ≡ []) × E (i + 1 + length es) line) ⊎ (O line ⊎ (line ≡ last_line))
        → ((os ≡ []) × E (i + suc (length es)) line) ⊎ (O line ⊎ (line ≡ last_line))
    counted line count (inl p) = inl (p.0, subst (λ (k : ℕ). E k line) count p.1)
    counted line count (inr p) = inr p

-- nothing follows the last line
op_last : (E : ℕ → List ℕ → Type 0) (O : List ℕ → Type 0) → ToldApart E O
    → (os all : List (List ℕ)) (piece : List ℕ) (more : List (List ℕ)) → AllByRecursion O os → AllByRecursion O all
    → map ended os ++ ended last_line ∷ piece ∷ more ≡ map ended all ++ closing → piece ≡ []
op_last E O apart [] [] piece more ho ha e = cc
op_last E O apart [] (a ∷ all) piece more ho ha e = absurd (apart.op_last a ha.0 (sym (heads e).0))
op_last E O apart (o ∷ os) [] piece more ho ha e = absurd (apart.op_last o ho.0 (heads e).0)
op_last E O apart (o ∷ os) (a ∷ all) piece more ho ha e = op_last E O apart os all piece more ho.1 ha.1 (heads e).1

pub line_last : (E : ℕ → List ℕ → Type 0) (O : List ℕ → Type 0) → ToldApart E O
    → (i : ℕ) (es os fs all : List (List ℕ)) (piece : List ℕ) (more : List (List ℕ)) → EachFrom E i es
    → AllByRecursion O os → EachFrom E i fs → AllByRecursion O all
    → map ended es ++ (map ended os ++ ended last_line ∷ piece ∷ more) ≡ map ended fs ++ (map ended all ++ closing)
    → piece ≡ []
line_last E O apart i [] os [] all piece more he ho hf ha e = op_last E O apart os all piece more ho ha e
line_last E O apart i [] [] (f ∷ fs) all piece more he ho hf ha e = absurd (apart.entry_last i f hf.0 (sym (heads e).0))
line_last E O apart i [] (o ∷ os) (f ∷ fs) all piece more he ho hf ha e =
    let same = (heads e).0 in
    absurd (apart.entry_op i f hf.0 (subst O same ho.0))
line_last E O apart i (a ∷ es) os [] [] piece more he ho hf ha e = absurd (apart.entry_last i a he.0 (heads e).0)
line_last E O apart i (a ∷ es) os [] (b ∷ all) piece more he ho hf ha e =
    let same = (heads e).0 in
    absurd (apart.entry_op i a he.0 (subst O (sym same) ha.0))
line_last E O apart i (a ∷ es) os (f ∷ fs) all piece more he ho hf ha e = line_last E O apart (i + 1) es os fs all piece more he.1 ho hf.1 ha (heads e).1
