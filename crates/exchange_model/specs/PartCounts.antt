-- What is counted of the parts of one layer: depths, operands, spots and choices.
use Rattle.std.specs.Prelude.{ℕ, ◌+◌, max, List, [], ◌∷◌, ◌++◌, length, map}
use Rattle.exchange_model.specs.declared.expr.Expr.{Expr}
use Rattle.exchange_model.specs.declared.expr.Term.{Term, fold-Term}
use Rattle.exchange_model.specs.declared.expr.Joined.{Joined, fold-Joined}
use Rattle.exchange_model.specs.declared.expr.Factor.{Factor, Factor-F, fold-Factor}
use Rattle.exchange_model.specs.declared.expr.Factor.TheOpen.{Bracket}
use Rattle.exchange_model.specs.declared.stmt.Stmt.{Stmt}
use Rattle.exchange_model.specs.declared.stmt.When.{When, out-When}
use Rattle.exchange_model.specs.declared.stmt.StmtKind.{StmtKind-F}
use Rattle.exchange_model.specs.declared.stmt.StmtKind.TheOpen.{If, Case, On}
use Rattle.exchange_model.specs.Inside.{most, total, joined, factor_depth, bracket_depth}
use Rattle.exchange_model.specs.Inside.{factor_operands, operand_count, text_depth, PointLine}
use Rattle.exchange_model.specs.Inside.{inner_spots, spots, when_count}

-- how deep the brackets of a term, of a joined factor and of a factor stand in one another
unfoldable pub term_depth : Term → ℕ
term_depth = fold-Term ℕ ℕ ℕ ℕ factor_depth (λ e. most e.terms) (λ j. j.factor)
    (λ t. most t.factors)

unfoldable pub joined_depth : Joined → ℕ
joined_depth = fold-Joined ℕ ℕ ℕ ℕ factor_depth (λ e. most e.terms) (λ j. j.factor)
    (λ t. most t.factors)

unfoldable pub factor_own_depth : Factor → ℕ
factor_own_depth = fold-Factor ℕ ℕ ℕ ℕ factor_depth (λ e. most e.terms) (λ j. j.factor)
    (λ t. most t.factors)

-- what is in brackets is one less deep
abbrev pub inside_depth : {A B C : Type 0} → Factor-F A Expr B C → ℕ
inside_depth (Bracket e) = bracket_depth e + 1
inside_depth _ = 0

-- the operands of a term, of a joined factor and of a factor
unfoldable pub term_operands : Term → ℕ
term_operands = fold-Term ℕ ℕ ℕ ℕ factor_operands (λ e. total e.terms) (λ j. j.factor)
    (λ t. total t.factors)

unfoldable pub joined_operands : Joined → ℕ
joined_operands = fold-Joined ℕ ℕ ℕ ℕ factor_operands (λ e. total e.terms) (λ j. j.factor)
    (λ t. total t.factors)

unfoldable pub factor_own_operands : Factor → ℕ
factor_own_operands =
    fold-Factor ℕ ℕ ℕ ℕ factor_operands (λ e. total e.terms) (λ j. j.factor) (λ t. total t.factors)

-- a bracket counts what is in it, and any other factor 1
abbrev pub inside_operands : {A B C : Type 0} → Factor-F A Expr B C → ℕ
inside_operands (Bracket e) = operand_count e
inside_operands _ = 1

-- how deep the statements of a choice stand in one another
abbrev pub when_depth : When → ℕ
when_depth w = text_depth (out-When w).body

-- what is in a statement is one less deep
abbrev pub parts_depth : {K : Type 0} → StmtKind-F K Stmt When → ℕ
parts_depth (If cond yes_part no_part) = 1 + max (text_depth yes_part) (text_depth no_part)
parts_depth (Case value whens otherwise) =
    1 + max (most (map when_depth whens)) (text_depth otherwise)
parts_depth (On temp from upto body) = 1 + text_depth body
parts_depth _ = 0

-- a statement and those in it, in the order of the text
abbrev pub stmt_spots : Stmt → List PointLine
stmt_spots s = record { point = s.point; line = s.line } ∷ inner_spots s.kind

abbrev pub when_spots : When → List PointLine
when_spots w = spots (out-When w).body

abbrev pub parts_spots : {K : Type 0} → StmtKind-F K Stmt When → List PointLine
parts_spots (If cond yes_part no_part) = spots yes_part ++ spots no_part
parts_spots (Case value whens otherwise) = joined (map when_spots whens) ++ spots otherwise
parts_spots (On temp from upto body) = spots body
parts_spots _ = []

-- the choices of the CASEs in a choice, and in a statement
abbrev pub when_whens : When → ℕ
when_whens w = when_count (out-When w).body

abbrev pub parts_whens : {K : Type 0} → StmtKind-F K Stmt When → ℕ
parts_whens (If cond yes_part no_part) = when_count yes_part + when_count no_part
parts_whens (Case value whens otherwise) =
    length whens + total (map when_whens whens) + when_count otherwise
parts_whens (On temp from upto body) = when_count body
parts_whens _ = 0
