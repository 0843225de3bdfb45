-- Lists that grow by what each item gives.
use Rattle.std.proofs.Common.{◌≡◌, ℕ, ◌+◌, ◌<◌, ◌≤◌, List, [], ◌∷◌, ◌++◌, length, take, get_or, sym}
use Rattle.std.proofs.Common.{◌∙◌, ap}
use Rattle.std.specs.List.{flat_map}
use Rattle.std.proofs.lemmas.List.{append_assoc, append-nil, take_all}
use Rattle.first_fault.proofs.First.{more_events}

flat_push : {X A : Type 0} (f : X → List A) (xs : List X) (x : X) → flat_map f (xs ++ x ∷ []) ≡ flat_map f xs ++ f x
flat_push f [] x = append-nil (f x)
flat_push f (y ∷ xs) x = ap (λ l. f y ++ l) (flat_push f xs x) ∙ sym (append_assoc (f y) (flat_map f xs) (f x))

-- what the first items give stands behind a list
pub record Flat {X A : Type 0} (f : X → List A) (xs : List X) (i : ℕ) (now old : List A) : Type 0 where
  pub same : now ≡ old ++ flat_map f (take i xs)

pub flat_begin : {X A : Type 0} (f : X → List A) (xs : List X) (old : List A) → Flat f xs 0 old old
flat_begin f xs old = record { same = sym (append-nil old) }

pub flat_step : {X A : Type 0} (f : X → List A) (xs : List X) (i : ℕ) (x : X) (now new old : List A) → i < length xs
    → x ≡ get_or xs i x → new ≡ now ++ f x → Flat f xs i now old → Flat f xs (i + 1) new old
flat_step f xs i x now new old inside is e g = record {
  same = e ∙ ap (λ l. l ++ f x) g.same ∙ append_assoc old (flat_map f (take i xs)) (f x)
      ∙ ap (λ l. old ++ l) (sym (flat_push f (take i xs) x))
      ∙ ap (λ l. old ++ flat_map f l) (sym (more_events xs i x inside is));
}

pub flat_end : {X A : Type 0} (f : X → List A) (xs : List X) (i : ℕ) (now old : List A) → length xs ≤ i → Flat f xs i now old → now ≡ old ++ flat_map f xs
flat_end f xs i now old past g = g.same ∙ ap (λ l. old ++ flat_map f l) (take_all i xs past)
