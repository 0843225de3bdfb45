-- Chains: which records one has when a record joins it or leaves it, and what a map of chains tells
-- of a number.
use Rattle.std.proofs.Common.{◌≡◌, ◌⊎◌, inl, inr, ⊎_elim, ℕ, ◌≤◌, Bool, true, false, List, [], ◌∷◌}
use Rattle.std.proofs.Common.{◌++◌, length, refl, sym, ap, ◌∙◌, subst, arith}
use Rattle.std.proofs.lemmas.Bool.{true≢false, eqb-true, eq-eqb, and_parts, both_ways, cases_Bool}
use Rattle.std.proofs.lemmas.Bool.{or_parts, or_right}
use Rattle.std.specs.Prelude.{nat_eq, ◌&&◌, ◌||◌, if◌then◌else◌}
use Rattle.std.specs.List.{AllByRecursion}
use Rattle.std.specs.FinMap as fin
use Rattle.job_types.specs.declared.chain.Held.{Held}
use Rattle.job_types.specs.Chain.{is_record, holds, without}
use Rattle.source_meaning.specs.Valid.{IsOnce}

-- one record

pub record_is : (file number : ℕ) (h : Held) → is_record file number h ≡ true → (h.file ≡ file) × (h.number ≡ number)
record_is file number h is = let b = and_parts (nat_eq h.file file) (nat_eq h.number number) is in (eqb-true h.file file b.0, eqb-true h.number number b.1)

pub record_itself : (file number : ℕ) → is_record file number (record { file = file; number = number }) ≡ true
record_itself file number = ap (λ b. b && nat_eq number number) (eq-eqb file file refl) ∙ eq-eqb number number refl

-- a chain with a record more

pub holds_more : (chain : List Held) (r : Held) (file number : ℕ) → holds (chain ++ r ∷ []) file number ≡ true
    → (holds chain file number ≡ true) ⊎ (is_record file number r ≡ true)
holds_more [] r file number h = by (is_record file number r) h
  where
    by : (b : Bool) → (b || false) ≡ true → (false ≡ true) ⊎ (b ≡ true)
    by true h = inr refl
    by false h = cc
holds_more (g ∷ chain) r file number h = by (is_record file number g) h (holds_more chain r file number)
  where
    by : (b : Bool) → (b || holds (chain ++ r ∷ []) file number) ≡ true
        → (holds (chain ++ r ∷ []) file number ≡ true
        → (holds chain file number ≡ true) ⊎ (is_record file number r ≡ true))
        → ((b || holds chain file number) ≡ true) ⊎ (is_record file number r ≡ true)
    by true h more = inl refl
    by false h more = more h

pub holds_still : (chain : List Held) (r : Held) (file number : ℕ) → holds chain file number ≡ true → holds (chain ++ r ∷ []) file number ≡ true
holds_still [] r file number h = cc
holds_still (g ∷ chain) r file number h = by (is_record file number g) h (holds_still chain r file number)
  where
    by : (b : Bool) → (b || holds chain file number) ≡ true
        → (holds chain file number ≡ true → holds (chain ++ r ∷ []) file number ≡ true)
        → (b || holds (chain ++ r ∷ []) file number) ≡ true
    by true h more = refl
    by false h more = more h

pub holds_last : (chain : List Held) (r : Held) (file number : ℕ) → is_record file number r ≡ true → holds (chain ++ r ∷ []) file number ≡ true
holds_last [] r file number is = ap (λ b. b || false) is
holds_last (g ∷ chain) r file number is = by (is_record file number g) (holds_last chain r file number is)
  where
    by : (b : Bool) → holds (chain ++ r ∷ []) file number ≡ true → (b || holds (chain ++ r ∷ []) file number) ≡ true
    by true h = refl
    by false h = h

pub once_more : (chain : List Held) (r : Held) → IsOnce chain → holds chain r.file r.number ≡ false → IsOnce (chain ++ r ∷ [])
once_more [] r once free = (refl, tt)
once_more (g ∷ chain) r once free = (still (cases_Bool (holds (chain ++ r ∷ []) g.file g.number)), once_more chain r once.1 later)
  where
    parts : (is_record r.file r.number g ≡ false) × (holds chain r.file r.number ≡ false)
    parts = or_parts (is_record r.file r.number g) (holds chain r.file r.number) free

    later : holds chain r.file r.number ≡ false
    later = parts.1

    -- the first is not the last, seen from either
    turned : is_record g.file g.number r ≡ true → is_record r.file r.number g ≡ true
    turned is =
        let same = record_is g.file g.number r is in
        ap (λ b. b && nat_eq g.number r.number) (eq-eqb g.file r.file (sym same.0)) ∙ eq-eqb g.number r.number (sym same.1)

    still : (holds (chain ++ r ∷ []) g.file g.number ≡ true) ⊎ (holds (chain ++ r ∷ []) g.file g.number ≡ false)
        → holds (chain ++ r ∷ []) g.file g.number ≡ false
    still (inl yes_it) = ⊎_elim (λ old. absurd (both_ways (holds chain g.file g.number) once.0 old))
        (λ new. absurd (both_ways (is_record r.file r.number g) parts.0 (turned new)))
        (holds_more chain r g.file g.number yes_it)
    still (inr not_it) = not_it

-- a chain without a record

pub holds_before : (chain : List Held) (file number f n : ℕ) → holds (without chain file number) f n ≡ true → holds chain f n ≡ true
holds_before [] file number f n h = h
holds_before (g ∷ chain) file number f n h = by (is_record file number g) h (holds_before chain file number f n)
  where
    first : (b : Bool) → is_record f n g ≡ b → (b || holds (without chain file number) f n) ≡ true
        → (holds (without chain file number) f n ≡ true → holds chain f n ≡ true)
        → (is_record f n g || holds chain f n) ≡ true
    first true is h more = ap (λ b. b || holds chain f n) is
    first false is h more = or_right (is_record f n g) (holds chain f n) (more h)

    by : (b : Bool) → holds (if b then chain else g ∷ without chain file number) f n ≡ true
        → (holds (without chain file number) f n ≡ true → holds chain f n ≡ true)
        → (is_record f n g || holds chain f n) ≡ true
    by true h more = or_right (is_record f n g) (holds chain f n) h
    by false h more = first (is_record f n g) refl h more

-- another record stays
pub holds_other : (chain : List Held) (file number f n : ℕ) → holds chain f n ≡ true → holds (without chain file number) f n ≡ false → (f ≡ file) × (n ≡ number)
holds_other [] file number f n h out = cc
holds_other (g ∷ chain) file number f n h out = by (is_record file number g) refl (is_record f n g) refl h out (holds_other chain file number f n)
  where
    by : (gone : Bool) → is_record file number g ≡ gone → (here : Bool) → is_record f n g ≡ here
        → (here || holds chain f n) ≡ true → holds (if gone then chain else g ∷ without chain file number) f n ≡ false
        → (holds chain f n ≡ true → holds (without chain file number) f n ≡ false → (f ≡ file) × (n ≡ number)) → (f ≡ file) × (n ≡ number)
    by true is true at h out more = let a = record_is file number g is in let b = record_is f n g at in (sym b.0 ∙ a.0, sym b.1 ∙ a.1)
    by true is false at h out more = absurd (both_ways (holds chain f n) out h)
    by false is true at h out more = absurd (true≢false (sym (ap (λ b. b || holds (without chain file number) f n) at) ∙ out))
    by false is false at h out more = more h (sym (ap (λ b. b || holds (without chain file number) f n) at) ∙ out)

pub once_without : (chain : List Held) (file number : ℕ) → IsOnce chain → IsOnce (without chain file number)
once_without [] file number once = tt
once_without (g ∷ chain) file number once = by (is_record file number g) (once_without chain file number once.1)
  where
    still : (holds (without chain file number) g.file g.number ≡ true)
        ⊎ (holds (without chain file number) g.file g.number ≡ false)
        → holds (without chain file number) g.file g.number ≡ false
    still (inl yes_it) = absurd (both_ways (holds chain g.file g.number) once.0 (holds_before chain file number g.file g.number yes_it))
    still (inr not_it) = not_it

    by : (gone : Bool) → IsOnce (without chain file number) → IsOnce (if gone then chain else g ∷ without chain file number)
    by true rest = once.1
    by false rest = (still (cases_Bool (holds (without chain file number) g.file g.number)), rest)

-- the record itself is gone
pub gone : (chain : List Held) (file number : ℕ) → IsOnce chain → holds (without chain file number) file number ≡ false
gone [] file number once = refl
gone (g ∷ chain) file number once = by (is_record file number g) refl (gone chain file number once.1)
  where
    by : (out : Bool) → is_record file number g ≡ out → holds (without chain file number) file number ≡ false
        → holds (if out then chain else g ∷ without chain file number) file number ≡ false
    by true is rest = let same = record_is file number g is in ap (λ f. holds chain f number) (sym same.0)
        ∙ ap (λ n. holds chain g.file n) (sym same.1) ∙ once.0
    by false is rest = ap (λ b. b || holds (without chain file number) file number) is ∙ rest

pub without_few : (chain : List Held) (file number : ℕ) → length (without chain file number) ≤ length chain
without_few [] file number = omega arith
without_few (g ∷ chain) file number = by (is_record file number g) (without_few chain file number)
  where
    by : (out : Bool) → length (without chain file number) ≤ length chain → length (if out then chain else g ∷ without chain file number) ≤ length (g ∷ chain)
    by true few = omega arith
    by false few = omega arith

pub all_without : (P : Held → Type 0) (chain : List Held) (file number : ℕ) → AllByRecursion P chain → AllByRecursion P (without chain file number)
all_without P [] file number all = tt
all_without P (g ∷ chain) file number all = by (is_record file number g) (all_without P chain file number all.1)
  where
    by : (out : Bool) → AllByRecursion P (without chain file number) → AllByRecursion P (if out then chain else g ∷ without chain file number)
    by true rest = all.1
    by false rest = (all.0, rest)

-- a record that a chain has is one of its list
pub holds_all : (P : Held → Type 0) (chain : List Held) (file number : ℕ) → AllByRecursion P chain
    → holds chain file number ≡ true → P (record { file = file; number = number })
holds_all P [] file number all h = cc
holds_all P (g ∷ chain) file number all h = by (is_record file number g) refl h (holds_all P chain file number all.1)
  where
    by : (b : Bool) → is_record file number g ≡ b → (b || holds chain file number) ≡ true
        → (holds chain file number ≡ true → P (record { file = file; number = number }))
        → P (record { file = file; number = number })
    by true is h more = let same = record_is file number g is in subst (λ f. P (record { file = f; number = number }))
        same.0 (subst (λ n. P (record { file = g.file; number = n })) same.1 all.0)
    by false is h more = more h
