-- What stands before a place of a text in parts.
use Rattle.std.proofs.Common.{◌≡◌, ℕ, ◌+◌, ◌<◌, ◌≤◌, List, [], ◌∷◌, ◌++◌, length, take, get_or, sym}
use Rattle.std.proofs.Common.{◌∙◌, ap}
use Rattle.std.proofs.lemmas.List.{append_assoc, append-nil, take_all}
use Rattle.first_fault.proofs.First.{more_events}
use Rattle.exchange_model.specs.Inside.{joined}
use Rattle.exchange_model.proofs.Lists.{joined_push}

module _ {T : Type 0} where
  pub so_far_begin : (done : List (List T)) (own : List T) → joined done ≡ joined done ++ take 0 own
  so_far_begin done own = sym (append-nil (joined done))

  pub so_far_more : (done : List (List T)) (own : List T) (i : ℕ) (e : T) → i < length own → e ≡ get_or own i e
      → (joined done ++ take i own) ++ e ∷ [] ≡ joined done ++ take (i + 1) own
  so_far_more done own i e inside is = append_assoc (joined done) (take i own) (e ∷ []) ∙ ap (λ l. joined done ++ l) (sym (more_events own i e inside is))

  pub so_far_end : (parts : List (List T)) (i : ℕ) (own : List T) (j : ℕ) → i < length parts → own ≡ get_or parts i own
      → length own ≤ j → joined (take i parts) ++ take j own ≡ joined (take (i + 1) parts)
  so_far_end parts i own j inside is past = ap (λ l. joined (take i parts) ++ l) (take_all j own past)
      ∙ sym (joined_push (take i parts) own) ∙ ap joined (sym (more_events parts i own inside is))
