-- What stands in an expression or in a statement, at whatever depth, and how deep that is.
--
-- Each is said by one layer: what a node gives, once each of its parts has given its own.
use Rattle.std.specs.Prelude.{ℕ, ◌+◌, max, List, [], ◌∷◌, ◌++◌, length, map}
use Rattle.exchange_model.specs.declared.expr.Expr.{Expr, fold-Expr}
use Rattle.exchange_model.specs.declared.expr.Factor.TheOpen.{Factor-F, Bracket}
use Rattle.exchange_model.specs.declared.expr.Cond.{Cond}
use Rattle.exchange_model.specs.declared.expr.Relation.{Relation}
use Rattle.exchange_model.specs.declared.stmt.Stmt.{Stmt}
use Rattle.exchange_model.specs.declared.stmt.StmtKind.{StmtKind, StmtKind-F, fold-StmtKind}
use Rattle.exchange_model.specs.declared.stmt.StmtKind.TheOpen.{SetTemp, SetVariable, SetField}
use Rattle.exchange_model.specs.declared.stmt.StmtKind.TheOpen.{IfGoto, If, Case, On, ForFirst}
use Rattle.exchange_model.specs.declared.stmt.StmtKind.TheOpen.{Send, Return}

-- the greatest of these numbers, and 0 of none
abbrev pub most : List ℕ → ℕ
most [] = 0
most (n ∷ ns) = max n (most ns)

-- these numbers together
abbrev pub total : List ℕ → ℕ
total [] = 0
total (n ∷ ns) = n + total ns

-- these lists one after the other
abbrev pub joined : {T : Type 0} → List (List T) → List T
joined [] = []
joined (ts ∷ rest) = ts ++ joined rest

-- how deep the brackets of an expression stand in one another
abbrev pub factor_depth : Factor-F ℕ ℕ ℕ ℕ → ℕ
factor_depth (Bracket n) = n + 1
factor_depth _ = 0

unfoldable pub bracket_depth : Expr → ℕ
bracket_depth = fold-Expr ℕ ℕ ℕ ℕ factor_depth (λ e. most e.terms) (λ j. j.factor)
    (λ t. most t.factors)

-- how many numbers, names, fields and references an expression has; the pointer of a field counts
-- nothing
abbrev pub factor_operands : Factor-F ℕ ℕ ℕ ℕ → ℕ
factor_operands (Bracket n) = n
factor_operands _ = 1

unfoldable pub operand_count : Expr → ℕ
operand_count = fold-Expr ℕ ℕ ℕ ℕ factor_operands (λ e. total e.terms) (λ j. j.factor)
    (λ t. total t.factors)

-- the expressions of a condition
abbrev pub relation_exprs : List Relation → List Expr
relation_exprs [] = []
relation_exprs (r ∷ rest) = r.left ∷ r.right ∷ relation_exprs rest

abbrev pub cond_exprs : Cond → List Expr
cond_exprs c = joined (map relation_exprs c.any)

-- the expressions of a statement itself, and not of those in it
abbrev pub own_exprs : {K S W : Type 0} → StmtKind-F K S W → List Expr
own_exprs (SetTemp temp value) = value ∷ []
own_exprs (SetVariable variable value) = value ∷ []
own_exprs (SetField file field pointer value) = value ∷ []
own_exprs (IfGoto cond label) = cond_exprs cond
own_exprs (If cond yes_part no_part) = cond_exprs cond
own_exprs (Case value whens otherwise) = value ∷ []
own_exprs (On temp from upto body) = from ∷ upto ∷ []
own_exprs (ForFirst temp file field rel value label) = value ∷ []
own_exprs (Send signal to values fresh) = values
own_exprs (Return answer values) = values
own_exprs _ = []

-- how deep statements that hold statements stand in one another
abbrev pub kind_layer_depth : StmtKind-F ℕ ℕ ℕ → ℕ
kind_layer_depth (If cond yes_part no_part) = 1 + max (most yes_part) (most no_part)
kind_layer_depth (Case value whens otherwise) = 1 + max (most whens) (most otherwise)
kind_layer_depth (On temp from upto body) = 1 + most body
kind_layer_depth _ = 0

unfoldable pub kind_depth : StmtKind → ℕ
kind_depth = fold-StmtKind ℕ ℕ ℕ kind_layer_depth (λ s. s.kind) (λ w. most w.body)

abbrev pub text_depth : List Stmt → ℕ
text_depth body = most (map (λ (s : Stmt). kind_depth s.kind) body)

-- the number of a statement, and the line of its first token
pub record PointLine : Type 0 where
  pub point : ℕ
  pub line : ℕ

-- those of the statements in a statement, in the order of the text
abbrev pub kind_layer_spots : StmtKind-F (List PointLine) (List PointLine) (List PointLine)
    → List PointLine
kind_layer_spots (If cond yes_part no_part) = joined yes_part ++ joined no_part
kind_layer_spots (Case value whens otherwise) = joined whens ++ joined otherwise
kind_layer_spots (On temp from upto body) = joined body
kind_layer_spots _ = []

unfoldable pub inner_spots : StmtKind → List PointLine
inner_spots = fold-StmtKind (List PointLine) (List PointLine) (List PointLine) kind_layer_spots
    (λ s. record { point = s.point; line = s.line } ∷ s.kind) (λ w. joined w.body)

-- those of a text
abbrev pub spots : List Stmt → List PointLine
spots body = joined (map (λ (s : Stmt). record { point = s.point; line = s.line }
    ∷ inner_spots s.kind) body)

-- how many choices the CASEs of a statement have
abbrev pub kind_layer_whens : StmtKind-F ℕ ℕ ℕ → ℕ
kind_layer_whens (If cond yes_part no_part) = total yes_part + total no_part
kind_layer_whens (Case value whens otherwise) = length whens + total whens + total otherwise
kind_layer_whens (On temp from upto body) = total body
kind_layer_whens _ = 0

unfoldable pub inner_whens : StmtKind → ℕ
inner_whens = fold-StmtKind ℕ ℕ ℕ kind_layer_whens (λ s. s.kind) (λ w. total w.body)

abbrev pub when_count : List Stmt → ℕ
when_count body = total (map (λ (s : Stmt). inner_whens s.kind) body)
