-- Lines of a text, from the front.
use Rattle.std.proofs.Common.{◌≡◌, ℕ, ◌+◌, List, [], ◌∷◌, length, drop, take, position, Some, None}
use Rattle.std.proofs.Common.{refl, sym, ap, ◌∙◌, arith}
use Rattle.std.specs.Prelude.{if◌then◌else◌}
use Rattle.std.specs.Str.Lines.{lines, lines_of_parts, strip_carriage_return}
use Rattle.std.proofs.lemmas.List.{drop_all}
use Rattle.text_lines.specs.Words.{is_line_end}
use Rattle.text_lines.proofs.Splits.{some_part, split_at, split_none, suc_ne}

pub line_none : (t : List ℕ) → length t ≡ 0 → lines t ≡ []
line_none [] e = refl
line_none (x ∷ t) e = absurd (omega arith)

pub line_last : (t rest : List ℕ) → (length t ≡ 0 → ⊥) → position is_line_end t ≡ None → rest ≡ drop (length t) t → lines t ≡ t ∷ lines rest
line_last [] rest some none is = absurd (some refl)
line_last (x ∷ t) rest some none is =
    let n : lines rest ≡ [] = ap lines (is ∙ drop_all (length (x ∷ t)) (x ∷ t) (omega arith)) in
    let l : lines (x ∷ t) ≡ (x ∷ t) ∷ [] = ap lines_of_parts (split_none is_line_end (x ∷ t) none)
    ∙ ap (λ b. if b then [] else (x ∷ t) ∷ []) (suc_ne (length t)) in
    l ∙ ap (λ r. (x ∷ t) ∷ r) (sym n)

pub line_ended : (t line rest : List ℕ) (i : ℕ) → position is_line_end t ≡ Some i
    → line ≡ strip_carriage_return (take i t) → rest ≡ drop (i + 1) t → lines t ≡ line ∷ lines rest
line_ended t line rest i at first after =
    let r = some_part is_line_end (drop (i + 1) t) in
    ap lines_of_parts (split_at is_line_end t i at ∙ ap (λ ps. take i t ∷ ps) r.2)
    ∙ ap (λ l. l ∷ lines_of_parts (r.0 ∷ r.1)) (sym first) ∙ ap (λ ps. line ∷ lines_of_parts ps) (sym r.2)
    ∙ ap (λ u. line ∷ lines u) (sym after)
