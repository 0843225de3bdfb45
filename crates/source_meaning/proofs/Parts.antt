-- Induction over an expression by the lists of its parts.
use Rattle.std.proofs.Common.{ℕ, sym, ap, ◌∙◌, subst}
use Rattle.std.specs.List.{AllByRecursion}
use Rattle.exchange_model.specs.declared.expr.Expr.{Expr, Expr', out-Expr, outs-Expr', Row_of-Term}
use Rattle.exchange_model.specs.declared.expr.Expr.{end_of-Term, more_of-Term, items-the_row-Term}
use Rattle.exchange_model.specs.declared.expr.Expr.{items_shown-the_row-Term-0}
use Rattle.exchange_model.specs.declared.expr.Term.{Term, Term', out-Term, outs-Term'}
use Rattle.exchange_model.specs.declared.expr.Term.{Row_of-Joined, end_of-Joined, more_of-Joined}
use Rattle.exchange_model.specs.declared.expr.Term.{items-the_row-Joined}
use Rattle.exchange_model.specs.declared.expr.Term.{items_shown-the_row-Joined-1}
use Rattle.exchange_model.specs.declared.expr.Joined.{Joined}
use Rattle.exchange_model.specs.declared.expr.Factor.{Factor}
use Rattle.exchange_model.specs.declared.expr.Factor.TheVariants.{Number, Variable, Temporary}
use Rattle.exchange_model.specs.declared.expr.Factor.TheVariants.{Field, Bracket, Reference}

-- what is to be shown at each node, where it holds of the node's parts
pub record NodeParts (P : Expr → Type 0) (Q : Term → Type 0) (R : Factor → Type 0) : Type 0 where
  pub expr : (e : Expr) → AllByRecursion Q (out-Expr e).terms → P e
  pub term : (t : Term) → AllByRecursion (λ (j : Joined). R j.factor) (out-Term t).factors → Q t
  pub number : (n : ℕ) → R (Number n)
  pub variable : (v : ℕ) → R (Variable v)
  pub temporary : (t : ℕ) → R (Temporary t)
  pub field : (file field pointer : ℕ) → R (Field file field pointer)
  pub bracket : (e : Expr) → P e → R (Bracket e)
  pub reference : (b : ℕ) → R (Reference b)

module _ {P : Expr → Type 0} {Q : Term → Type 0} {R : Factor → Type 0} (parts : NodeParts P Q R) where
  mutual
    pub every_expr : (e : Expr) → P e
    every_expr (Expr' n row) =
        let same = ap (λ l. l.terms) (outs-Expr' n row) ∙ items_shown-the_row-Term-0 n row in
        parts.expr (Expr' n row) (subst (AllByRecursion Q) (sym same) (every_in_terms row))

    every_in_terms : {n : _} (row : Row_of-Term n) → AllByRecursion Q (items-the_row-Term _ row)
    every_in_terms end_of-Term = tt
    every_in_terms (more_of-Term t rest) = (every_term t, every_in_terms rest)

    pub every_term : (t : Term) → Q t
    every_term (Term' minus n row) =
        let same = ap (λ l. l.factors) (outs-Term' minus n row) ∙ items_shown-the_row-Joined-1 n row in
        parts.term (Term' minus n row) (subst (AllByRecursion (λ (j : Joined). R j.factor)) (sym same) (every_in_factors row))

    every_in_factors : {n : _} (row : Row_of-Joined n) → AllByRecursion (λ (j : Joined). R j.factor) (items-the_row-Joined _ row)
    every_in_factors end_of-Joined = tt
    every_in_factors (more_of-Joined by factor rest) = (every_factor factor, every_in_factors rest)

    pub every_factor : (f : Factor) → R f
    every_factor (Number n) = parts.number n
    every_factor (Variable v) = parts.variable v
    every_factor (Temporary t) = parts.temporary t
    every_factor (Field file field pointer) = parts.field file field pointer
    every_factor (Bracket e) = parts.bracket e (every_expr e)
    every_factor (Reference b) = parts.reference b
