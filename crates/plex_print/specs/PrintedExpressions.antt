-- What is written for names, numbers, expressions and conditions, one line for each production or
-- alternative of the grammar, in its order. As in the grammar, the limit of brackets is a
-- parameter: what nests deeper is left out.
use Rattle.std.specs.Prelude.{ℕ, zero, suc, codes}
use Rattle.std.specs.Fmt.{decimal}
use Rattle.token_grammar.specs.declared.named.Named.{Named}
use Rattle.token_grammar.specs.declared.named.Numbered.{Numbered}
use Rattle.token_grammar.specs.declared.named.Leveled.{Leveled}
use Rattle.token_grammar.specs.Language.{level_name}
use Rattle.plex_ast.specs.declared.expr.Expr.{Expr}
use Rattle.plex_ast.specs.declared.expr.Added.{Added, out-Added}
use Rattle.plex_ast.specs.declared.expr.Added.TheOpen as open_expr
use Rattle.plex_ast.specs.declared.expr.Term.{Term}
use Rattle.plex_ast.specs.declared.expr.Multiplied.{Multiplied, out-Multiplied}
use Rattle.plex_ast.specs.declared.expr.Factor.{Factor}
use Rattle.plex_ast.specs.declared.expr.FactorKind.{FactorKind, out-FactorKind}
use Rattle.plex_ast.specs.declared.expr.Rel.{Rel}
use Rattle.plex_ast.specs.declared.expr.RelKind.{RelKind}
use Rattle.plex_ast.specs.declared.expr.RelKind.TheVariants as rels
use Rattle.plex_ast.specs.declared.expr.Relation.{Relation}
use Rattle.plex_ast.specs.declared.expr.Conj.{Conj}
use Rattle.plex_ast.specs.declared.expr.Cond.{Cond}
use Rattle.plex_ast.specs.declared.stmt.Reference.{Reference}
use Rattle.plex_ast.specs.declared.block.Field.{Field}
use Rattle.plex_print.specs.Writing.{Writer, say, leave, ◌▷◌, each_of}

-- names and numbers

abbrev pub name_text : Named → Writer
name_text n = say n.name

abbrev pub number_text : Numbered → Writer
number_text n = say (decimal n.value)

abbrev pub level_text : Leveled → Writer
level_text l = say (level_name l.level)

-- expressions: `inner` writes what a bracket holds, `F` a factor, `T` a term

abbrev pub factor_at : (Expr → Writer) → open_expr.FactorKind-F Added FactorKind Multiplied Expr
    Factor Term → Writer
factor_at inner (open_expr.Number n) = number_text n
factor_at inner (open_expr.Name n) = name_text n
factor_at inner (open_expr.Field n p) =
    name_text n ▷ (say (codes "(") ▷ (name_text p ▷ say (codes ")")))
factor_at inner (open_expr.Bracket e) = say (codes "(") ▷ (inner e ▷ say (codes ")"))
factor_at inner (open_expr.Reference m) = say (codes "REFERENCE") ▷ name_text m

abbrev pub factor_with : (Expr → Writer) → Factor → Writer
factor_with inner f = factor_at inner (out-FactorKind f.kind)

abbrev pub multiplied_at : (Factor → Writer) → open_expr.Multiplied-F Added FactorKind Multiplied
    Expr Factor Term → Writer
multiplied_at F (open_expr.Times f) = say (codes "*") ▷ F f
multiplied_at F (open_expr.Over f) = say (codes "/") ▷ F f
multiplied_at F (open_expr.Mod f) = say (codes "MOD") ▷ F f

abbrev pub multiplied_with : (Factor → Writer) → Multiplied → Writer
multiplied_with F m = multiplied_at F (out-Multiplied m)

abbrev pub term_with : (Factor → Writer) → Term → Writer
term_with F t = F t.first ▷ each_of (multiplied_with F) t.rest

abbrev pub added_at : (Term → Writer) → open_expr.Added-F Added FactorKind Multiplied Expr Factor
    Term → Writer
added_at T (open_expr.Plus t) = say (codes "+") ▷ T t
added_at T (open_expr.Minus t) = say (codes "-") ▷ T t

abbrev pub added_with : (Term → Writer) → Added → Writer
added_with T a = added_at T (out-Added a)

abbrev pub expr_with : (Term → Writer) → Expr → Writer
expr_with T e = T e.first ▷ each_of (added_with T) e.rest

-- what a bracket holds, where brackets may nest b deep
unfoldable pub inside_text : ℕ → Expr → Writer
inside_text zero e = leave
inside_text (suc b) e = expr_with (term_with (factor_with (inside_text b))) e

unfoldable pub factor_text : ℕ → Factor → Writer
factor_text b = factor_with (inside_text b)

unfoldable pub multiplied_text : ℕ → Multiplied → Writer
multiplied_text b = multiplied_with (factor_text b)

unfoldable pub term_text : ℕ → Term → Writer
term_text b t = factor_text b t.first ▷ each_of (multiplied_text b) t.rest

unfoldable pub added_text : ℕ → Added → Writer
added_text b = added_with (term_text b)

unfoldable pub expr_text : ℕ → Expr → Writer
expr_text b e = term_text b e.first ▷ each_of (added_text b) e.rest

-- conditions

abbrev pub rel_at : RelKind → Writer
rel_at rels.Equal = say (codes "=")
rel_at rels.Unequal = say (codes "<>")
rel_at rels.Below = say (codes "<")
rel_at rels.AtMost = say (codes "<=")
rel_at rels.Above = say (codes ">")
rel_at rels.AtLeast = say (codes ">=")

unfoldable pub rel_text : Rel → Writer
rel_text r = rel_at r.kind

unfoldable pub relation_text : ℕ → Relation → Writer
relation_text b r = expr_text b r.left ▷ (rel_text r.rel ▷ expr_text b r.right)

unfoldable pub and_text : ℕ → Relation → Writer
and_text b r = say (codes "AND") ▷ relation_text b r

unfoldable pub conj_text : ℕ → Conj → Writer
conj_text b c = relation_text b c.first ▷ each_of (and_text b) c.rest

unfoldable pub or_text : ℕ → Conj → Writer
or_text b c = say (codes "OR") ▷ conj_text b c

unfoldable pub cond_text : ℕ → Cond → Writer
cond_text b c = conj_text b c.first ▷ each_of (or_text b) c.rest
