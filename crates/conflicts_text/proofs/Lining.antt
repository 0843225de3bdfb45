-- Lines, part by part.
use Rattle.std.proofs.Common.{◌≡◌, ℕ, List, [], ◌∷◌, ◌++◌, codes, ap, ◌∙◌, append_assoc}
use Rattle.std.specs.Fmt.{decimal}
use Rattle.exchange_model.specs.declared.exchange.Exchange.{Exchange}
use Rattle.conflicts_meaning.specs.declared.rows.ClashRow.{ClashRow}
use Rattle.conflicts_meaning.specs.declared.rows.EntryPair.{EntryPair}
use Rattle.conflicts_meaning.specs.declared.rows.GivenAt.{GivenAt}
use Rattle.conflicts_meaning.specs.Lines.{clash_text, later_words, line_at, point_text}

three_parts : (old f i g j h k a b c : List ℕ) → a ≡ old ++ f ++ i → b ≡ a ++ g ++ j → c ≡ b ++ h ++ k → c ≡ old ++ f ++ i ++ g ++ j ++ h ++ k
three_parts old f i g j h k a b c a_is b_is c_is =
    let to_b : b ≡ old ++ f ++ i ++ g ++ j = b_is ∙ ap (λ t. t ++ g ++ j) a_is in
    c_is ∙ ap (λ t. t ++ h ++ k) to_b

point_parts : (old f i g j h k m l z a b c d new : List ℕ) → a ≡ old ++ f ++ i → b ≡ a ++ g ++ j → c ≡ b ++ h ++ k → d ≡ c ++ m ++ l → new ≡ d ++ z
    → new ≡ old ++ (f ++ i ++ g ++ j ++ h ++ k ++ m ++ l ++ z)
point_parts old f i g j h k m l z a b c d new a_is b_is c_is d_is new_is =
    let to_c : c ≡ old ++ f ++ i ++ g ++ j ++ h ++ k = three_parts old f i g j h k a b c a_is b_is c_is in
    let to_d : d ≡ old ++ f ++ i ++ g ++ j ++ h ++ k ++ m ++ l = d_is ∙ ap (λ t. t ++ m ++ l) to_c in
    let to_new : new ≡ old ++ f ++ i ++ g ++ j ++ h ++ k ++ m ++ l ++ z = new_is ∙ ap (λ t. t ++ z) to_d in
    to_new ∙ simp append_assoc

clash_parts : (old f i g j h k w z a b c d new : List ℕ) → a ≡ old ++ f ++ i → b ≡ a ++ g ++ j → c ≡ b ++ h ++ k → d ≡ c ++ w → new ≡ d ++ z
    → new ≡ old ++ (f ++ i ++ g ++ j ++ h ++ k ++ w ++ z)
clash_parts old f i g j h k w z a b c d new a_is b_is c_is d_is new_is =
    let to_c : c ≡ old ++ f ++ i ++ g ++ j ++ h ++ k = three_parts old f i g j h k a b c a_is b_is c_is in
    let to_d : d ≡ old ++ f ++ i ++ g ++ j ++ h ++ k ++ w = d_is ∙ ap (λ t. t ++ w) to_c in
    let to_new : new ≡ old ++ f ++ i ++ g ++ j ++ h ++ k ++ w ++ z = new_is ∙ ap (λ t. t ++ z) to_d in
    to_new ∙ simp append_assoc

pub point_written : (x : Exchange) (e : ℕ) (r : GivenAt) (line : ℕ) (old a b c d new : List ℕ) → line ≡ line_at x r.point
    → a ≡ old ++ codes "AT " ++ decimal e → b ≡ a ++ codes " " ++ decimal r.number
    → c ≡ b ++ codes " POINT " ++ decimal r.point → d ≡ c ++ codes " LINE " ++ decimal line
    → new ≡ d ++ 10 ∷ [] → new ≡ old ++ point_text x e r
point_written x e r line old a b c d new is a_is b_is c_is d_is new_is =
    point_parts old (codes "AT ") (decimal e) (codes " ") (decimal r.number) (codes " POINT ") (decimal r.point)
    (codes " LINE ") (decimal (line_at x r.point)) (10 ∷ []) a b c d new
    a_is b_is c_is (d_is ∙ ap (λ n. c ++ codes " LINE " ++ decimal n) is) new_is

pub clash_written : (p : EntryPair) (r : ClashRow) (old a b c d new : List ℕ)
    → a ≡ old ++ codes "CLASH " ++ decimal p.first → b ≡ a ++ codes " " ++ decimal p.later
    → c ≡ b ++ codes " " ++ decimal r.first → d ≡ c ++ later_words r.clash r.later
    → new ≡ d ++ 10 ∷ [] → new ≡ old ++ clash_text p r
clash_written p r old a b c d new =
    clash_parts old (codes "CLASH ") (decimal p.first) (codes " ") (decimal p.later) (codes " ") (decimal r.first)
    (later_words r.clash r.later) (10 ∷ []) a b c d new
