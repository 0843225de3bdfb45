-- Where some block receives a signal, the first that does is found.
use Rattle.std.proofs.Common.{◌≡◌, ℕ, ◌<◌, ◌+◌, Bool, true, false, List, [], ◌∷◌, length, position}
use Rattle.std.proofs.Common.{Option, Some, None, refl, sym, ◌∙◌, ap, arith, nat_eq}
use Rattle.std.specs.Prelude.{if◌then◌else◌}
use Rattle.std.specs.List.{position_from}
use Rattle.std.proofs.lemmas.Iterator.Adapters.{position_from-zero}
use Rattle.std.proofs.lemmas.List.Quantifiers.{position-Some}
use Rattle.std.proofs.lemmas.Option.{slice_get-get_or}
use Rattle.first_fault.specs.First.{count}
use Rattle.plex_ast.specs.declared.block.Block.{Block}
use Rattle.text_rules.specs.Surveys.{receives, first_receiver, receiver_count, receives_at, is_so}

-- a list in which nothing is found has nothing to be found
count_none : {X : Type 0} (test : X → Bool) (start : ℕ) (xs : List X) → position_from test start xs ≡ None → count test xs ≡ 0
count_none test start [] h = refl
count_none test start (x ∷ xs) h = here (test x) refl h (count_none test (start + 1) xs)
  where
    here : (b : Bool) → test x ≡ b → (if b then Some start else position_from test (start + 1) xs) ≡ None
        → (position_from test (start + 1) xs ≡ None → count test xs ≡ 0) → (if b then 1 else 0) + count test xs ≡ 0
    here true is h more = absurd cc
    here false is h more = omega (arith, more h)

pub position_within : {X : Type 0} (test : X → Bool) (xs : List X) (i : ℕ) → position test xs ≡ Some i → i < length xs
position_within test [] i h = absurd cc
position_within test (x ∷ xs) i h = (position-Some test (x ∷ xs) i x h).0

-- the first block that receives a signal
pub record FirstFound (blocks : List Block) (s : List ℕ) : Type 0 where
  pub block : ℕ
  pub is : first_receiver blocks s ≡ Some block
  pub receives : receives_at blocks block s ≡ true

none_found : (blocks : List Block) (s : List ℕ) → nat_eq (receiver_count blocks s) 0 ≡ false → first_receiver blocks s ≡ None → ⊥
none_found blocks s many none =
    let zero : receiver_count blocks s ≡ 0 = count_none (receives s) 0 blocks (sym (position_from-zero (receives s) blocks) ∙ none) in
    never (sym (ap (λ n. nat_eq n 0) zero) ∙ many)
  where
    never : true ≡ false → ⊥
    never e = cc

pub first_found : (blocks : List Block) (s : List ℕ) → nat_eq (receiver_count blocks s) 0 ≡ false → FirstFound blocks s
first_found [] s many = absurd (none_found [] s many refl)
first_found (b ∷ blocks) s many = here (first_receiver (b ∷ blocks) s) refl
  where
    here : (o : Option ℕ) → first_receiver (b ∷ blocks) s ≡ o → FirstFound (b ∷ blocks) s
    here None is = absurd (none_found (b ∷ blocks) s many is)
    here (Some i) is =
        let found = position-Some (receives s) (b ∷ blocks) i b is in
        record { block = i; is = is; receives = ap (λ o. is_so (receives s) o) (slice_get-get_or (b ∷ blocks) i b found.0) ∙ found.1 }
