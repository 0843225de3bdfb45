-- The lines of a text.
use Rattle.std.proofs.Common.{◌≡◌, ◌≢◌, ℕ, Bool, true, false, nat_eq, List, [], ◌∷◌, ◌++◌, map}
use Rattle.std.proofs.Common.{refl, sym, ap, ◌∙◌, append_assoc}
use Rattle.std.specs.Prelude.{if◌then◌else◌}
use Rattle.std.specs.List.{AllByRecursion, flat_map, onto_first}
use Rattle.std.proofs.lemmas.Bool.{ne_eqb}
use Rattle.std.proofs.lemmas.List.{append_cancel_right}
use Rattle.text_lines.specs.Lines.{ended, lines_in}
use Rattle.text_lines.specs.Parts.{HasNo}
use Rattle.text_lines.proofs.Cuts.{HasNo-head, HasNo-tail}

pub lines_on : (b : ℕ) (rest : List ℕ) → b ≢ 10 → lines_in (b ∷ rest) ≡ onto_first b (lines_in rest)
unfolding lines_in
lines_on b rest other = ap (λ (t : Bool). if t then (b ∷ []) ∷ lines_in rest else onto_first b (lines_in rest)) (ne_eqb b 10 other)

-- a line before an LF is the first
pub lines_in-cut : (line after : List ℕ) → HasNo 10 line → lines_in (line ++ 10 ∷ after) ≡ ended line ∷ lines_in after
unfolding lines_in
lines_in-cut [] after apart = refl
lines_in-cut (b ∷ line) after apart =
    lines_on b (line ++ 10 ∷ after) (HasNo-head 10 b line apart) ∙ ap (onto_first b) (lines_in-cut line after (HasNo-tail 10 b line apart))

-- so is a line that is ended
pub lines_in-ended : (line after : List ℕ) → HasNo 10 line → lines_in (ended line ++ after) ≡ ended line ∷ lines_in after
lines_in-ended line after apart = ap lines_in (append_assoc line (10 ∷ []) after) ∙ lines_in-cut line after apart

-- the lines one after the other are the text
onto_joined : (b : ℕ) (parts : List (List ℕ)) → flat_map (λ part. part) (onto_first b parts) ≡ b ∷ flat_map (λ part. part) parts
onto_joined b [] = refl
onto_joined b (part ∷ parts) = refl

pub lines_joined : (text : List ℕ) → flat_map (λ part. part) (lines_in text) ≡ text
unfolding lines_in
lines_joined [] = refl
lines_joined (b ∷ rest) = at (nat_eq b 10) (lines_joined rest)
  where
    at : (t : Bool) → flat_map (λ part. part) (lines_in rest) ≡ rest
        → flat_map (λ part. part) (if t then (b ∷ []) ∷ lines_in rest else onto_first b (lines_in rest)) ≡ b ∷ rest
    at true e = ap (λ (r : List ℕ). b ∷ r) e
    at false e = onto_joined b (lines_in rest) ∙ ap (λ (r : List ℕ). b ∷ r) e

-- the lines of lines that are ended, and of what follows them
pub lines_joined-ended : (lines : List (List ℕ)) → flat_map (λ part. part) (map ended lines ++ [] ∷ []) ≡ flat_map ended lines
lines_joined-ended [] = refl
lines_joined-ended (line ∷ lines) = ap (λ (r : List ℕ). ended line ++ r) (lines_joined-ended lines)

-- a text whose lines are these is these lines
pub text-lines : (text : List ℕ) (lines : List (List ℕ)) → lines_in text ≡ map ended lines ++ [] ∷ [] → text ≡ flat_map ended lines
text-lines text lines e = sym (lines_joined text) ∙ ap (flat_map (λ part. part)) e ∙ lines_joined-ended lines

-- no LF stands in these lines
abbrev pub HaveNoEnd : List (List ℕ) → Type 0
HaveNoEnd lines = AllByRecursion (HasNo 10) lines

-- the lines of lines that are ended are these, before those of what follows
pub lines_in-all : (lines : List (List ℕ)) (after : List ℕ) → HaveNoEnd lines → lines_in (flat_map ended lines ++ after) ≡ map ended lines ++ lines_in after
lines_in-all [] after apart = refl
lines_in-all (line ∷ lines) after apart =
    ap lines_in (append_assoc (ended line) (flat_map ended lines) after)
    ∙ lines_in-ended line (flat_map ended lines ++ after) apart.0 ∙ ap (λ (ls : List (List ℕ)). ended line ∷ ls) (lines_in-all lines after apart.1)

pub ended_once : (a b : List ℕ) → ended a ≡ ended b → a ≡ b
ended_once a b e = append_cancel_right a b (10 ∷ []) e
