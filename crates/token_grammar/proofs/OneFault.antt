-- A list of tokens has at most one fault, and none where it is a sentence.
use Rattle.std.proofs.Common.{◌≡◌, ℕ, zero, suc, ◌+◌, ◌<◌, ◌≤◌, List, [], ◌∷◌, ◌++◌, take, refl}
use Rattle.std.proofs.Common.{sym, ap, subst, inl, inr, append_assoc, arith}
use Rattle.std.proofs.lemmas.Bool.{cases_order}
use Rattle.std.proofs.lemmas.List.{append-nil}
use Rattle.plex_lexer.specs.declared.token.Token.{Token}
use Rattle.token_grammar.specs.Language.{Lang}
use Rattle.token_grammar.specs.Faults.{Begun, Within, First, IsUnexpected, IsTooDeep}

-- a list up to a place begins with that up to an earlier place
split_at : (i j : ℕ) (w : List Token) → i ≤ j → (v : List Token) × (take j w ≡ take i w ++ v)
split_at zero j w h = (take j w, refl)
split_at (suc i) zero w h = absurd (omega arith)
split_at (suc i) (suc j) [] h = ([], refl)
split_at (suc i) (suc j) (t ∷ w) h = let k = split_at i j w (omega arith) in (k.0, ap (λ y. t ∷ y) k.1)

whole_split : (i : ℕ) (w : List Token) → (v : List Token) × (w ≡ take i w ++ v)
whole_split zero w = (w, refl)
whole_split (suc i) [] = ([], refl)
whole_split (suc i) (t ∷ w) = let k = whole_split i w in (k.0, ap (λ y. t ∷ y) k.1)

module _ {X : Type 0} (L : X → Lang) where
  begun_front : (p v : List Token) → Begun L (p ++ v) → Begun L p
  begun_front p v h = (h.0, v ++ h.1, subst (L h.0) (append_assoc p v h.1) h.2)

  -- what is a sentence has no first token at fault
  pub no_first : (w : List Token) (i : ℕ) → Begun L w → First L w i → ⊥
  no_first w i h f = let k = whole_split (i + 1) w in f.past (begun_front (take (i + 1) w) k.0 (subst (Begun L) k.1 h))

  pub sentence_begun : (w : List Token) (x : X) → L x w → Begun L w
  sentence_begun w x h = (x, [], subst (L x) (sym (append-nil w)) h)

  later : (w : List Token) (i j : ℕ) → i < j → First L w i → First L w j → ⊥
  later w i j h f g = let k = split_at (i + 1) j w (omega arith) in f.past (begun_front (take (i + 1) w) k.0 (subst (Begun L) k.1 g.front))

  -- the first token at fault stands at one place
  pub one_first : (w : List Token) (i j : ℕ) → First L w i → First L w j → i ≡ j
  one_first w i j f g = elim (cases_order i j) [ inl e ↦ e | inr h ↦ elim h [ inl k ↦ absurd (later w i j k f g) | inr k ↦ absurd (later w j i k g f) ] ]

module _ {X : Type 0} (L : ℕ → ℕ → X → Lang) (b s : ℕ) (w : List Token) where
  pub not_both : (i j : ℕ) → IsUnexpected L b s w i → IsTooDeep L b s w j → ⊥
  not_both i j u d = u.never (subst (λ k. Begun (Within L) (take (k + 1) w)) (sym (one_first (L b s) w i j u.first d.first)) d.allowed)
