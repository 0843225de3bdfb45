-- The lines of a text.
use Rattle.std.proofs.Common.{◌≡◌, ℕ, Bool, true, false, nat_eq, List, [], ◌∷◌, ◌++◌, refl, sym, ap}
use Rattle.std.proofs.Common.{◌∙◌, append-nil}
use Rattle.std.specs.Prelude.{if◌then◌else◌}
use Rattle.std.specs.List.{flat_map, onto_first}
use Rattle.certificate_text.specs.Lines.{whole}
use Rattle.text_lines.proofs.Texts.{HaveNoEnd, lines_in-all, lines_joined}
use Rattle.text_lines.specs.Lines.{lines_in, ended}

-- a text has a first line
pub some_line : (text : List ℕ) → (line : List ℕ) × (lines : List (List ℕ)) × (lines_in text ≡ line ∷ lines)
unfolding lines_in
some_line [] = ([], [], refl)
some_line (b ∷ rest) = at (nat_eq b 10) (lines_in rest)
  where
    put : (parts : List (List ℕ)) → (line : List ℕ) × (lines : List (List ℕ)) × (onto_first b parts ≡ line ∷ lines)
    put [] = (b ∷ [], [], refl)
    put (part ∷ parts) = (b ∷ part, parts, refl)

    at : (t : Bool) (parts : List (List ℕ)) → (line : List ℕ) × (lines : List (List ℕ)) × ((if t then (b ∷ []) ∷ parts else onto_first b parts) ≡ line ∷ lines)
    at true parts = (b ∷ [], parts, refl)
    at false parts = put parts

-- one that is empty has no bytes behind it
pub no_line : (text : List ℕ) (lines : List (List ℕ)) → lines_in text ≡ [] ∷ lines → text ≡ []
unfolding lines_in
no_line [] lines e = refl
no_line (b ∷ rest) lines e = absurd (at (nat_eq b 10) (lines_in rest) e)
  where
    put : (parts : List (List ℕ)) → onto_first b parts ≡ [] ∷ lines → ⊥
    put [] e = cc
    put (part ∷ parts) e = cc

    at : (t : Bool) (parts : List (List ℕ)) → (if t then (b ∷ []) ∷ parts else onto_first b parts) ≡ [] ∷ lines → ⊥
    at true parts e = cc
    at false parts e = put parts e

-- the first line stands in front of the text
pub first_in_front : (text line : List ℕ) (lines : List (List ℕ)) → lines_in text ≡ line ∷ lines → text ≡ line ++ flat_map (λ part. part) lines
first_in_front text line lines e = sym (lines_joined text) ∙ ap (flat_map (λ part. part)) e

-- the lines of lines that are ended are these
pub lines_in-whole : (lines : List (List ℕ)) → HaveNoEnd lines → lines_in (flat_map ended lines) ≡ whole lines
unfolding lines_in
lines_in-whole lines apart = ap lines_in (sym (append-nil (flat_map ended lines))) ∙ lines_in-all lines [] apart
