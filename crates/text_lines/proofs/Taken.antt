-- The first lines of a text, where it is known what they are.
use Rattle.std.proofs.Common.{◌≡◌, ℕ, ◌+◌, List, [], ◌∷◌, ◌++◌, length, take, sym, ap, ◌∙◌, arith}
use Rattle.std.proofs.Common.{append_assoc, length-append}
use Rattle.std.proofs.lemmas.List.{take_at}
use Rattle.text_lines.specs.Lines.{lines_in}

pub before_here : (text : List ℕ) (lines pieces : List (List ℕ)) (number : ℕ) → lines_in text ≡ lines ++ pieces
    → number ≡ length lines → take number (lines_in text) ≡ lines
before_here text lines pieces number so counted = ap (take number) so ∙ take_at lines pieces number (sym counted)

pub up_to_here : (text : List ℕ) (lines : List (List ℕ)) (piece : List ℕ) (pieces : List (List ℕ)) (number : ℕ)
    → lines_in text ≡ lines ++ piece ∷ pieces → number ≡ length lines
    → take (number + 1) (lines_in text) ≡ lines ++ piece ∷ []
up_to_here text lines piece pieces number so counted =
    let more : length (lines ++ piece ∷ []) ≡ number + 1 = omega (arith, length-append lines (piece ∷ []), counted) in
    ap (take (number + 1)) (so ∙ sym (append_assoc lines (piece ∷ []) pieces)) ∙ take_at (lines ++ piece ∷ []) pieces (number + 1) more
