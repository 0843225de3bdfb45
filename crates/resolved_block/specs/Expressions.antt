-- Expressions and conditions with numbers for names, one line for each alternative of the grammar.
use Rattle.std.specs.Prelude.{ℕ, Bool, true, false, List, [], ◌∷◌, map, Option, Some, None}
use Rattle.token_grammar.specs.declared.named.Named.{Named}
use Rattle.plex_ast.specs.declared.expr.Expr.{Expr, fold-Expr}
use Rattle.plex_ast.specs.declared.expr.Added.{Added, fold-Added}
use Rattle.plex_ast.specs.declared.expr.Added.TheOpen.{Added-F, FactorKind-F, Multiplied-F, Expr-F}
use Rattle.plex_ast.specs.declared.expr.Added.TheOpen.{Factor-F, Term-F, Plus, Minus, Times, Over}
use Rattle.plex_ast.specs.declared.expr.Added.TheOpen.{Mod, Number, Name, Field, Bracket, Reference}
use Rattle.plex_ast.specs.declared.expr.Term.{Term, fold-Term}
use Rattle.plex_ast.specs.declared.expr.Multiplied.{Multiplied, fold-Multiplied}
use Rattle.plex_ast.specs.declared.expr.Factor.{Factor, fold-Factor}
use Rattle.plex_ast.specs.declared.expr.FactorKind.{FactorKind, fold-FactorKind}
use Rattle.plex_ast.specs.declared.expr.RelKind.{RelKind}
use Rattle.plex_ast.specs.declared.expr.RelKind.TheVariants as rel
use Rattle.plex_ast.specs.declared.expr.Relation.{Relation}
use Rattle.plex_ast.specs.declared.expr.Conj.{Conj}
use Rattle.plex_ast.specs.declared.expr.Cond.{Cond}
use Rattle.plex_ast.specs.declared.expr.Exprs.{Exprs}
use Rattle.plex_ast.specs.declared.stmt.Names.{Names}
use Rattle.exchange_model.specs.declared.expr.Expr.{Expr as MExpr, roll-Expr}
use Rattle.exchange_model.specs.declared.expr.Term.{Term as MTerm, roll-Term}
use Rattle.exchange_model.specs.declared.expr.Joined.{Joined as MJoined}
use Rattle.exchange_model.specs.declared.expr.Factor.{Factor as MFactor}
use Rattle.exchange_model.specs.declared.expr.Factor.TheVariants as factor
use Rattle.exchange_model.specs.declared.expr.FactorOp.{FactorOp}
use Rattle.exchange_model.specs.declared.expr.FactorOp.TheVariants as op
use Rattle.exchange_model.specs.declared.expr.Cond.{Cond as MCond}
use Rattle.exchange_model.specs.declared.expr.Relation.{Relation as MRelation}
use Rattle.exchange_model.specs.declared.expr.Rel.{Rel as MRel}
use Rattle.exchange_model.specs.declared.expr.Rel.TheVariants as made_rel
use Rattle.resolved_block.specs.Names.{Env}
use Rattle.resolved_block.specs.Meant.{value_in, temporary_of, field_file, field_place, block_of}

-- a factor of a product
abbrev pub joined : FactorOp → MFactor → MJoined
joined by f = record { by = by; factor = f }

-- a product, which is added or taken away
abbrev pub product : Bool → List MJoined → MTerm
product minus factors = roll-Term (record { minus = minus; factors = factors })

abbrev pub sum_of : List MTerm → MExpr
sum_of terms = roll-Expr (record { terms = terms })

abbrev pub field_of : Env → Named → Named → MFactor
field_of env n pointer =
    factor.Field (field_file env n) (field_place env n) (temporary_of env pointer)

abbrev pub factor_kind_layer : Env → FactorKind-F MTerm MFactor MJoined MExpr MFactor (List MJoined)
    → MFactor
factor_kind_layer env (Number n) = factor.Number n.value
factor_kind_layer env (Name n) = value_in (env.name n.name)
factor_kind_layer env (Field n pointer) = field_of env n pointer
factor_kind_layer env (Bracket e) = factor.Bracket e
factor_kind_layer env (Reference n) = factor.Reference (block_of env n)

abbrev pub multiplied_layer : Multiplied-F MTerm MFactor MJoined MExpr MFactor (List MJoined)
    → MJoined
multiplied_layer (Times f) = joined op.Times f
multiplied_layer (Over f) = joined op.Divide f
multiplied_layer (Mod f) = joined op.Modulo f

abbrev pub added_layer : Added-F MTerm MFactor MJoined MExpr MFactor (List MJoined) → MTerm
added_layer (Plus t) = product false t
added_layer (Minus t) = product true t

abbrev pub expr_layer : Expr-F MTerm MFactor MJoined MExpr MFactor (List MJoined) → MExpr
expr_layer e = sum_of (product false e.first ∷ e.rest)

abbrev pub factor_layer : Factor-F MTerm MFactor MJoined MExpr MFactor (List MJoined) → MFactor
factor_layer f = f.kind

abbrev pub term_layer : Term-F MTerm MFactor MJoined MExpr MFactor (List MJoined) → List MJoined
term_layer t = joined op.Times t.first ∷ t.rest

unfoldable pub typed_added : Env → Added → MTerm
typed_added env = fold-Added MTerm MFactor MJoined MExpr MFactor (List MJoined) added_layer
    (factor_kind_layer env) multiplied_layer expr_layer factor_layer term_layer

unfoldable pub typed_factor_kind : Env → FactorKind → MFactor
typed_factor_kind env = fold-FactorKind MTerm MFactor MJoined MExpr MFactor (List MJoined)
    added_layer (factor_kind_layer env) multiplied_layer expr_layer factor_layer term_layer

unfoldable pub typed_multiplied : Env → Multiplied → MJoined
typed_multiplied env = fold-Multiplied MTerm MFactor MJoined MExpr MFactor (List MJoined)
    added_layer (factor_kind_layer env) multiplied_layer expr_layer factor_layer term_layer

unfoldable pub typed_expr : Env → Expr → MExpr
typed_expr env = fold-Expr MTerm MFactor MJoined MExpr MFactor (List MJoined) added_layer
    (factor_kind_layer env) multiplied_layer expr_layer factor_layer term_layer

unfoldable pub typed_factor : Env → Factor → MFactor
typed_factor env = fold-Factor MTerm MFactor MJoined MExpr MFactor (List MJoined) added_layer
    (factor_kind_layer env) multiplied_layer expr_layer factor_layer term_layer

unfoldable pub typed_term : Env → Term → List MJoined
typed_term env = fold-Term MTerm MFactor MJoined MExpr MFactor (List MJoined) added_layer
    (factor_kind_layer env) multiplied_layer expr_layer factor_layer term_layer

-- conditions

abbrev pub typed_rel : RelKind → MRel
typed_rel rel.Equal = made_rel.Equal
typed_rel rel.Unequal = made_rel.Unequal
typed_rel rel.Below = made_rel.Below
typed_rel rel.AtMost = made_rel.AtMost
typed_rel rel.Above = made_rel.Above
typed_rel rel.AtLeast = made_rel.AtLeast

abbrev pub typed_relation : Env → Relation → MRelation
typed_relation env r = record {
  left = typed_expr env r.left;
  rel = typed_rel r.rel.kind;
  right = typed_expr env r.right;
}

abbrev pub typed_conj : Env → Conj → List MRelation
typed_conj env c = typed_relation env c.first ∷ map (typed_relation env) c.rest

abbrev pub typed_cond : Env → Cond → MCond
typed_cond env c = record { any = typed_conj env c.first ∷ map (typed_conj env) c.rest }

-- lists of values, and of temporaries

abbrev pub typed_values : Env → Option Exprs → List MExpr
typed_values env None = []
typed_values env (Some es) = typed_expr env es.first ∷ map (typed_expr env) es.rest

abbrev pub typed_temps : Env → Option Names → List ℕ
typed_temps env None = []
typed_temps env (Some ns) = temporary_of env ns.first ∷ map (temporary_of env) ns.rest
