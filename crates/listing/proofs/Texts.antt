-- The lines of a text.
use Rattle.std.proofs.Common.{◌≡◌, ℕ, Bool, true, false, nat_eq, List, [], ◌∷◌, ◌++◌, refl, ap, ◌∙◌}
use Rattle.std.specs.Prelude.{if◌then◌else◌}
use Rattle.std.specs.List.{onto_first}
use Rattle.machine_code.specs.Coded.{Code}
use Rattle.listing.specs.Faults.{whole}
use Rattle.listing.specs.Listing.{code_text, first_line, inner_lines, last_line}
use Rattle.text_lines.proofs.Cuts.{HasNo-head, HasNo-tail}
use Rattle.text_lines.proofs.Texts.{lines_on, text-lines}
use Rattle.text_lines.specs.Lines.{lines_in, ended}
use Rattle.text_lines.specs.Parts.{HasNo}

-- one that is not is the last
pub lines_in-open : (text : List ℕ) → HasNo 10 text → lines_in text ≡ text ∷ []
unfolding lines_in
lines_in-open [] apart = refl
lines_in-open (b ∷ text) apart = lines_on b text (HasNo-head 10 b text apart) ∙ ap (onto_first b) (lines_in-open text (HasNo-tail 10 b text apart))

-- no line that is ended has no LF
pub ended_has : (line : List ℕ) → HasNo 10 (ended line) → ⊥
ended_has [] apart = HasNo-head 10 10 [] apart refl
ended_has (b ∷ line) apart = ended_has line (HasNo-tail 10 b (ended line) apart)

-- bytes have a first line, and it is not empty
pub some_line : (b : ℕ) (rest : List ℕ) → (line : List ℕ) × (lines : List (List ℕ)) × (lines_in (b ∷ rest) ≡ (b ∷ line) ∷ lines)
unfolding lines_in
some_line b rest = at (nat_eq b 10) (lines_in rest)
  where
    put : (parts : List (List ℕ)) → (line : List ℕ) × (lines : List (List ℕ)) × (onto_first b parts ≡ (b ∷ line) ∷ lines)
    put [] = ([], [], refl)
    put (part ∷ parts) = (part, parts, refl)

    at : (t : Bool) (parts : List (List ℕ)) → (line : List ℕ) × (lines : List (List ℕ))
        × ((if t then (b ∷ []) ∷ parts else onto_first b parts) ≡ (b ∷ line) ∷ lines)
    at true parts = ([], parts, refl)
    at false parts = put parts

-- a text whose lines are those of a listing is the listing
pub code_text-lines : (text : List ℕ) (code : Code) → lines_in text ≡ whole (inner_lines code) → text ≡ code_text code
unfolding code_text
code_text-lines text code e =
    text-lines text (first_line ∷ inner_lines code ++ last_line ∷ []) e
