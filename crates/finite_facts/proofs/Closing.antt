-- What rules give from a list may be added until nothing new comes: of finitely many things that
-- takes finitely many turns.
use Rattle.std.proofs.Common.{◌≡◌, ◌⊎◌, inl, inr, ℕ, zero, suc, ◌≤◌, List, [], ◌∷◌, length}
use Rattle.std.proofs.Common.{Contains, refl, sym, ◌∙◌, subst, arith, le_refl}
use Rattle.plex_num.proofs.Members.{none_in, first_is, later_is, first_or_later}
use Rattle.finite_facts.proofs.Finite.{Decided, yes, no, Listed, any, is_in, listed_if, refuted}

-- each of the list, latest first, follows from those before it
abbrev pub IsBuilt : {A : Type 0} → (List A → A → Type 0) → List A → Type 0
IsBuilt Rule [] = Unit {0}
IsBuilt Rule (a ∷ before) = Rule before a × IsBuilt Rule before

-- such a list, to which the rules add nothing
pub record Closed {A : Type 0} (Rule : List A → A → Type 0) : Type 0 where
  pub items : List A
  pub built : IsBuilt Rule items
  pub closed : (a : A) → Rule items a → Contains items a

-- a list without one of its places
pub record Without {A : Type 0} (a : A) (xs : List A) : Type 0 where
  pub others : List A
  pub shorter : suc (length others) ≡ length xs
  pub left : (b : A) → Contains xs b → (b ≡ a) ⊎ Contains others b

pub without : {A : Type 0} (a : A) (xs : List A) → Contains xs a → Without a xs
without a [] c = absurd (none_in a c)
without {A} a (x ∷ xs) c = by (first_or_later x a xs c) (λ d. without a xs d)
  where
    left : (x ≡ a) → (b : A) → (x ≡ b) ⊎ Contains xs b → (b ≡ a) ⊎ Contains xs b
    left is b (inl same) = inl (sym same ∙ is)
    left is b (inr d) = inr d

    more : (w : Without a xs) (b : A) → (x ≡ b) ⊎ Contains xs b → (b ≡ a) ⊎ Contains (x ∷ w.others) b
    more w b (inl same) = inr (subst (Contains (x ∷ w.others)) same (first_is x w.others))
    more w b (inr d) = next (w.left b d)
      where
        next : (b ≡ a) ⊎ Contains w.others b → (b ≡ a) ⊎ Contains (x ∷ w.others) b
        next (inl is) = inl is
        next (inr e) = inr (later_is x b w.others e)

    by : (x ≡ a) ⊎ Contains xs a → (Contains xs a → Without a xs) → Without a (x ∷ xs)
    by (inl is) rest = record { others = xs; shorter = refl; left = λ b d. left is b (first_or_later x b xs d) }
    by (inr d) rest =
        let w = rest d in
        record { others = x ∷ w.others; shorter = (let short = w.shorter in omega (arith, short)); left = λ b e. more w b (first_or_later x b xs e) }

module _ {A : Type 0} (same : (a b : A) → Decided (a ≡ b)) (Rule : List A → A → Type 0) (rules : (known : List A) → Listed (Rule known)) where
  stable : (xs : List A) (a : A) → Decided (Contains xs a) → ((Contains xs a → ⊥) → ⊥) → Contains xs a
  stable xs a (yes c) h = c
  stable xs a (no n) h = absurd (h n)

  -- all that is ever built is known or among those that are left
  abbrev Stays : List A → List A → Type 0
  Stays known rest = (before : List A) → IsBuilt Rule before → (a : A) → Rule before a → Contains known a ⊎ Contains rest a

  others_left : (known rest : List A) (a : A) → (Contains known a → ⊥) → Contains known a ⊎ Contains rest a → Contains rest a
  others_left known rest a new (inl c) = absurd (new c)
  others_left known rest a new (inr c) = c

  stays : (known rest : List A) (a : A) (w : Without a rest) → Stays known rest → Stays (a ∷ known) w.others
  stays known rest a w within before b c r = by (within before b c r)
    where
      at : (c ≡ a) ⊎ Contains w.others c → Contains (a ∷ known) c ⊎ Contains w.others c
      at (inl is) = inl (subst (Contains (a ∷ known)) (sym is) (first_is a known))
      at (inr d) = inr d

      by : Contains known c ⊎ Contains rest c → Contains (a ∷ known) c ⊎ Contains w.others c
      by (inl d) = inl (later_is a c known d)
      by (inr d) = at (w.left c d)

  news : (known : List A) → Decided ((a : A) × (Rule known a × (Contains known a → ⊥)))
  news known = any (λ a. Rule known a × (Contains known a → ⊥))
      (listed_if (Rule known) (λ a. Contains known a → ⊥) (rules known) (λ a r. refuted (is_in same known a)))

  grow : (n : ℕ) (rest known : List A) → length rest ≤ n → IsBuilt Rule known → Stays known rest → Closed Rule
  grow zero rest known short built within = record { items = known; built = built; closed = λ a r. by a (within known built a r) }
    where
      by : (a : A) → Contains known a ⊎ Contains rest a → Contains known a
      by a (inl c) = c
      by a (inr c) = absurd (let lt = c.1 in omega (arith, short, lt))
  grow (suc n) rest known short built within = by (news known)
      (λ a r new. next a r (without a rest (others_left known rest a new (within known built a r)))
      (λ w few. grow n w.others (a ∷ known) few (r, built) (stays known rest a w within)))
    where
      next : (a : A) → Rule known a → Without a rest → ((w : Without a rest) → length w.others ≤ n → Closed Rule) → Closed Rule
      next a r w go = go w (let short_by = w.shorter in omega (arith, short, short_by))

      by : Decided ((a : A) × (Rule known a × (Contains known a → ⊥))) → ((a : A) → Rule known a → (Contains known a → ⊥) → Closed Rule) → Closed Rule
      by (yes h) go = go h.0 h.1.0 h.1.1
      by (no none) go = record { items = known; built = built; closed = λ a r. stable known a (is_in same known a) (λ new. none (a, (r, new))) }

  -- all that is ever built stands in one list
  pub closing : (universe : List A) → ((before : List A) → IsBuilt Rule before → (a : A) → Rule before a → Contains universe a) → Closed Rule
  closing universe within = grow (length universe) universe [] (le_refl (length universe)) tt (λ before b a r. inr (within before b a r))
