-- What is counted layer by layer, opened: the depths, operands, spots and choices of one layer are
-- made of those of its parts.
use Rattle.std.specs.Prelude.{◌≡◌, ℕ, ◌+◌, max, List, ◌∷◌, ◌++◌, length, map, refl}
use Rattle.std.proofs.Common.{ap, ◌∙◌}
use Rattle.std.proofs.lemmas.List.{length-map}
use Rattle.exchange_model.specs.declared.expr.Expr.{Expr, out-Expr, fold_out-Expr}
use Rattle.exchange_model.specs.declared.expr.Term.{Term, out-Term, fold_out-Term}
use Rattle.exchange_model.specs.declared.expr.Joined.{Joined, fold_out-Joined}
use Rattle.exchange_model.specs.declared.expr.Factor.{Factor, Factor-F, out-Factor, fold_out-Factor}
use Rattle.exchange_model.specs.declared.expr.Factor.{map-Factor}
use Rattle.exchange_model.specs.declared.expr.Factor.TheOpen.{Bracket}
use Rattle.exchange_model.specs.declared.stmt.Stmt.{Stmt, fold-Stmt, fold_out-Stmt}
use Rattle.exchange_model.specs.declared.stmt.When.{When, out-When, fold-When, fold_out-When}
use Rattle.exchange_model.specs.declared.stmt.StmtKind.{StmtKind, StmtKind-F, out-StmtKind}
use Rattle.exchange_model.specs.declared.stmt.StmtKind.{fold_out-StmtKind, map-StmtKind}
use Rattle.exchange_model.specs.declared.stmt.StmtKind.TheOpen.{If, Case, On}
use Rattle.exchange_model.specs.Inside.{most, total, joined, factor_depth, bracket_depth}
use Rattle.exchange_model.specs.Inside.{factor_operands, operand_count, kind_layer_depth}
use Rattle.exchange_model.specs.Inside.{kind_depth, PointLine, kind_layer_spots, inner_spots}
use Rattle.exchange_model.specs.Inside.{kind_layer_whens, inner_whens}
use Rattle.exchange_model.specs.PartCounts.{term_depth, joined_depth, factor_own_depth}
use Rattle.exchange_model.specs.PartCounts.{inside_depth, term_operands, joined_operands}
use Rattle.exchange_model.specs.PartCounts.{factor_own_operands, inside_operands, when_depth}
use Rattle.exchange_model.specs.PartCounts.{parts_depth, stmt_spots, when_spots, parts_spots}
use Rattle.exchange_model.specs.PartCounts.{when_whens, parts_whens}

-- brackets

pub bracket_depth-out : (e : Expr) → bracket_depth e ≡ most (map term_depth (out-Expr e).terms)
unfolding bracket_depth term_depth
bracket_depth-out e = fold_out-Expr ℕ ℕ ℕ ℕ factor_depth (λ e. most e.terms) (λ j. j.factor) (λ t. most t.factors) e

pub term_depth-out : (t : Term) → term_depth t ≡ most (map joined_depth (out-Term t).factors)
unfolding term_depth joined_depth
term_depth-out t = fold_out-Term ℕ ℕ ℕ ℕ factor_depth (λ e. most e.terms) (λ j. j.factor) (λ t. most t.factors) t

pub joined_depth-out : (j : Joined) → joined_depth j ≡ factor_own_depth j.factor
unfolding joined_depth factor_own_depth
joined_depth-out j = fold_out-Joined ℕ ℕ ℕ ℕ factor_depth (λ e. most e.terms) (λ j. j.factor) (λ t. most t.factors) j

depth_inside : (l : Factor-F Factor Expr Joined Term)
    → factor_depth (map-Factor Factor Expr Joined Term ℕ ℕ ℕ ℕ factor_own_depth bracket_depth joined_depth term_depth l)
    ≡ inside_depth l
depth_inside (Bracket e) = refl
depth_inside _ = refl

pub factor_own_depth-out : (f : Factor) → factor_own_depth f ≡ inside_depth (out-Factor f)
unfolding factor_own_depth bracket_depth joined_depth term_depth
factor_own_depth-out f = fold_out-Factor ℕ ℕ ℕ ℕ factor_depth (λ e. most e.terms) (λ j. j.factor) (λ t. most t.factors) f ∙ depth_inside (out-Factor f)

-- operands

pub operand_count-out : (e : Expr) → operand_count e ≡ total (map term_operands (out-Expr e).terms)
unfolding operand_count term_operands
operand_count-out e = fold_out-Expr ℕ ℕ ℕ ℕ factor_operands (λ e. total e.terms) (λ j. j.factor) (λ t. total t.factors) e

pub term_operands-out : (t : Term) → term_operands t ≡ total (map joined_operands (out-Term t).factors)
unfolding term_operands joined_operands
term_operands-out t = fold_out-Term ℕ ℕ ℕ ℕ factor_operands (λ e. total e.terms) (λ j. j.factor) (λ t. total t.factors) t

pub joined_operands-out : (j : Joined) → joined_operands j ≡ factor_own_operands j.factor
unfolding joined_operands factor_own_operands
joined_operands-out j = fold_out-Joined ℕ ℕ ℕ ℕ factor_operands (λ e. total e.terms) (λ j. j.factor) (λ t. total t.factors) j

operands_inside : (l : Factor-F Factor Expr Joined Term)
    → factor_operands (map-Factor Factor Expr Joined Term ℕ ℕ ℕ ℕ factor_own_operands operand_count joined_operands
    term_operands l) ≡ inside_operands l
operands_inside (Bracket e) = refl
operands_inside _ = refl

pub factor_own_operands-out : (f : Factor) → factor_own_operands f ≡ inside_operands (out-Factor f)
unfolding factor_own_operands operand_count joined_operands term_operands
factor_own_operands-out f = fold_out-Factor ℕ ℕ ℕ ℕ factor_operands (λ e. total e.terms) (λ j. j.factor)
    (λ t. total t.factors) f ∙ operands_inside (out-Factor f)

-- statements in statements

stmt_depth_is : (s : Stmt) → fold-Stmt ℕ ℕ ℕ kind_layer_depth (λ s. s.kind) (λ w. most w.body) s ≡ kind_depth s.kind
unfolding kind_depth
stmt_depth_is s = fold_out-Stmt ℕ ℕ ℕ kind_layer_depth (λ s. s.kind) (λ w. most w.body) s

when_depth_is : (w : When) → fold-When ℕ ℕ ℕ kind_layer_depth (λ s. s.kind) (λ w. most w.body) w ≡ when_depth w
when_depth_is w = fold_out-When ℕ ℕ ℕ kind_layer_depth (λ s. s.kind) (λ w. most w.body) w ∙ λ i. most (map (λ (s : Stmt). stmt_depth_is s i) (out-When w).body)

depth_parts : (l : StmtKind-F StmtKind Stmt When)
    → kind_layer_depth (map-StmtKind StmtKind Stmt When ℕ ℕ ℕ kind_depth
    (fold-Stmt ℕ ℕ ℕ kind_layer_depth (λ s. s.kind) (λ w. most w.body))
    (fold-When ℕ ℕ ℕ kind_layer_depth (λ s. s.kind) (λ w. most w.body)) l) ≡ parts_depth l
depth_parts (If cond yes_part no_part) = λ i. 1
    + max (most (map (λ (s : Stmt). stmt_depth_is s i) yes_part)) (most (map (λ (s : Stmt). stmt_depth_is s i) no_part))
depth_parts (Case value whens otherwise) = λ i. 1
    + max (most (map (λ (w : When). when_depth_is w i) whens)) (most (map (λ (s : Stmt). stmt_depth_is s i) otherwise))
depth_parts (On temp from upto body) = λ i. 1 + most (map (λ (s : Stmt). stmt_depth_is s i) body)
depth_parts _ = refl

pub kind_depth-out : (k : StmtKind) → kind_depth k ≡ parts_depth (out-StmtKind k)
unfolding kind_depth
kind_depth-out k = fold_out-StmtKind ℕ ℕ ℕ kind_layer_depth (λ s. s.kind) (λ w. most w.body) k ∙ depth_parts (out-StmtKind k)

-- the statements in a statement

stmt_spots_are : (s : Stmt) → fold-Stmt (List PointLine) (List PointLine) (List PointLine) kind_layer_spots
    (λ s. record { point = s.point; line = s.line } ∷ s.kind) (λ w. joined w.body) s ≡ stmt_spots s
unfolding inner_spots
stmt_spots_are s = fold_out-Stmt (List PointLine) (List PointLine) (List PointLine) kind_layer_spots
    (λ s. record { point = s.point; line = s.line } ∷ s.kind) (λ w. joined w.body) s

when_spots_are : (w : When) → fold-When (List PointLine) (List PointLine) (List PointLine) kind_layer_spots
    (λ s. record { point = s.point; line = s.line } ∷ s.kind) (λ w. joined w.body) w ≡ when_spots w
when_spots_are w = fold_out-When (List PointLine) (List PointLine) (List PointLine) kind_layer_spots
    (λ s. record { point = s.point; line = s.line } ∷ s.kind) (λ w. joined w.body) w
    ∙ λ i. joined (map (λ (s : Stmt). stmt_spots_are s i) (out-When w).body)

spots_parts : (l : StmtKind-F StmtKind Stmt When)
    → kind_layer_spots (map-StmtKind StmtKind Stmt When (List PointLine) (List PointLine) (List PointLine) inner_spots
    (fold-Stmt (List PointLine) (List PointLine) (List PointLine) kind_layer_spots
    (λ s. record { point = s.point; line = s.line } ∷ s.kind) (λ w. joined w.body))
    (fold-When (List PointLine) (List PointLine) (List PointLine) kind_layer_spots
    (λ s. record { point = s.point; line = s.line } ∷ s.kind) (λ w. joined w.body)) l) ≡ parts_spots l
spots_parts (If cond yes_part no_part) = λ i. joined (map (λ (s : Stmt). stmt_spots_are s i) yes_part)
    ++ joined (map (λ (s : Stmt). stmt_spots_are s i) no_part)
spots_parts (Case value whens otherwise) = λ i. joined (map (λ (w : When). when_spots_are w i) whens)
    ++ joined (map (λ (s : Stmt). stmt_spots_are s i) otherwise)
spots_parts (On temp from upto body) = λ i. joined (map (λ (s : Stmt). stmt_spots_are s i) body)
spots_parts _ = refl

pub inner_spots-out : (k : StmtKind) → inner_spots k ≡ parts_spots (out-StmtKind k)
unfolding inner_spots
inner_spots-out k = fold_out-StmtKind (List PointLine) (List PointLine) (List PointLine) kind_layer_spots
    (λ s. record { point = s.point; line = s.line } ∷ s.kind) (λ w. joined w.body) k ∙ spots_parts (out-StmtKind k)

-- the choices of the CASEs in a statement

stmt_whens_are : (s : Stmt) → fold-Stmt ℕ ℕ ℕ kind_layer_whens (λ s. s.kind) (λ w. total w.body) s ≡ inner_whens s.kind
unfolding inner_whens
stmt_whens_are s = fold_out-Stmt ℕ ℕ ℕ kind_layer_whens (λ s. s.kind) (λ w. total w.body) s

when_whens_are : (w : When) → fold-When ℕ ℕ ℕ kind_layer_whens (λ s. s.kind) (λ w. total w.body) w ≡ when_whens w
when_whens_are w = fold_out-When ℕ ℕ ℕ kind_layer_whens (λ s. s.kind) (λ w. total w.body) w
    ∙ λ i. total (map (λ (s : Stmt). stmt_whens_are s i) (out-When w).body)

whens_parts : (l : StmtKind-F StmtKind Stmt When)
    → kind_layer_whens (map-StmtKind StmtKind Stmt When ℕ ℕ ℕ inner_whens
    (fold-Stmt ℕ ℕ ℕ kind_layer_whens (λ s. s.kind) (λ w. total w.body))
    (fold-When ℕ ℕ ℕ kind_layer_whens (λ s. s.kind) (λ w. total w.body)) l) ≡ parts_whens l
whens_parts (If cond yes_part no_part) = λ i. total (map (λ (s : Stmt). stmt_whens_are s i) yes_part) + total (map (λ (s : Stmt). stmt_whens_are s i) no_part)
whens_parts (Case value whens otherwise) =
    ap (λ n. n + total (map (fold-When ℕ ℕ ℕ kind_layer_whens (λ s. s.kind) (λ w. total w.body)) whens)
    + total (map (fold-Stmt ℕ ℕ ℕ kind_layer_whens (λ s. s.kind) (λ w. total w.body)) otherwise))
    (length-map whens (fold-When ℕ ℕ ℕ kind_layer_whens (λ s. s.kind) (λ w. total w.body)))
    ∙ λ i. length whens + total (map (λ (w : When). when_whens_are w i) whens) + total (map (λ (s : Stmt). stmt_whens_are s i) otherwise)
whens_parts (On temp from upto body) = λ i. total (map (λ (s : Stmt). stmt_whens_are s i) body)
whens_parts _ = refl

pub inner_whens-out : (k : StmtKind) → inner_whens k ≡ parts_whens (out-StmtKind k)
unfolding inner_whens
inner_whens-out k = fold_out-StmtKind ℕ ℕ ℕ kind_layer_whens (λ s. s.kind) (λ w. total w.body) k ∙ whens_parts (out-StmtKind k)
