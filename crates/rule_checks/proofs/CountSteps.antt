-- What is counted of a statement: room made for it, and one more.
use Rattle.std.proofs.Common.{◌≡◌, ℕ, zero, suc, ◌+◌, ◌<◌, ◌≤◌, inl, inr, List, [], ◌∷◌, ◌++◌}
use Rattle.std.proofs.Common.{length, get_or, set, nat_eq, refl, sym, ◌∙◌, ap, arith}
use Rattle.std.specs.Prelude.{if◌then◌else◌}
use Rattle.std.proofs.lemmas.Bool.{cases_eq, eq-eqb, ne_eqb}
use Rattle.std.proofs.lemmas.List.{get_or_default, get_or_past, get_or-set_same, get_or-set_other}

-- the counts with more room count the same
pub record Grown (old now : List ℕ) : Type 0 where
  pub same : (o : ℕ) → get_or now o 0 ≡ get_or old o 0

pub grown_begin : (old : List ℕ) → Grown old old
grown_begin old = record { same = λ o. refl }

room_at_end : (xs : List ℕ) (o : ℕ) → get_or (xs ++ 0 ∷ []) o 0 ≡ get_or xs o 0
room_at_end [] zero = refl
room_at_end [] (suc o) = refl
room_at_end (x ∷ xs) zero = refl
room_at_end (x ∷ xs) (suc o) = room_at_end xs o

pub grown_more : (old now new : List ℕ) → new ≡ now ++ 0 ∷ [] → Grown old now → Grown old new
grown_more old now new is g = record { same = λ o. ap (λ l. get_or l o 0) is ∙ room_at_end now o ∙ g.same o }

pub grown_end : (old now : List ℕ) → Grown old now → (o : ℕ) → get_or now o 0 ≡ get_or old o 0
grown_end old now g o = g.same o

pub counted_there : (xs : List ℕ) (i x n : ℕ) → i < length xs → x ≡ get_or xs i x → n ≡ x → n ≡ get_or xs i 0
counted_there xs i x n inside is e = e ∙ is ∙ get_or_default xs i x 0 inside

pub counted_nowhere : (xs : List ℕ) (i : ℕ) → length xs ≤ i → 0 ≡ get_or xs i 0
counted_nowhere xs i past = sym (get_or_past xs i 0 past)

pub counted_more : (old xs new : List ℕ) (i x y : ℕ) → ((o : ℕ) → get_or xs o 0 ≡ get_or old o 0) → i < length xs
    → x ≡ get_or xs i x → y ≡ x + 1 → new ≡ set xs i y → (o : ℕ)
    → get_or new o 0 ≡ get_or old o 0 + (if nat_eq o i then 1 else 0)
counted_more old xs new i x y same inside is more put o = elim (cases_eq o i) [
  | inl here ↦
      let one : 1 ≡ (if nat_eq o i then 1 else 0) = ap (λ b. if b then 1 else 0) (sym (eq-eqb o i here)) in
      ap (λ l. get_or l o 0) put ∙ ap (λ p. get_or (set xs i y) p 0) here ∙ get_or-set_same xs i y 0 inside ∙ more
      ∙ ap (λ n. n + 1) (is ∙ get_or_default xs i x 0 inside ∙ ap (λ p. get_or xs p 0) (sym here) ∙ same o) ∙ ap (λ n. get_or old o 0 + n) one
  | inr apart ↦
      let stays : get_or old o 0 ≡ get_or old o 0 + 0 = omega arith in
      let none : 0 ≡ (if nat_eq o i then 1 else 0) = ap (λ b. if b then 1 else 0) (sym (ne_eqb o i apart)) in
      ap (λ l. get_or l o 0) put ∙ get_or-set_other xs i o y 0 apart ∙ same o ∙ stays ∙ ap (λ n. get_or old o 0 + n) none
]
