-- The grammar of expressions, conditions and lists, read by descent with one token of sight.
-- A reader here has the same parts in the same order as the language of its production.
use Rattle.std.specs.Prelude.{ℕ, zero, suc, List, [], ◌∷◌, ◌++◌, Option, Some, None}
use Rattle.plex_lexer.specs.declared.token.Token.{Token}
use Rattle.token_grammar.specs.declared.named.Named.{Named}
use Rattle.token_grammar.specs.declared.named.Numbered.{Numbered}
use Rattle.token_grammar.specs.Language.{NAME, NUMBER}
use Rattle.token_grammar.specs.Reading.{Reader, word_of, many, both, branch, halt, lined, after}
use Rattle.token_grammar.specs.Reading.{ended, pair, optional, name_read, number_read}
use Rattle.plex_ast.specs.declared.expr.Expr.{Expr}
use Rattle.plex_ast.specs.declared.expr.Added.{Added, Plus, Minus}
use Rattle.plex_ast.specs.declared.expr.Term.{Term}
use Rattle.plex_ast.specs.declared.expr.Multiplied.{Multiplied, Times, Over, Mod}
use Rattle.plex_ast.specs.declared.expr.Factor.{Factor}
use Rattle.plex_ast.specs.declared.expr.FactorKind.{FactorKind, Number, Name, Field, Bracket}
use Rattle.plex_ast.specs.declared.expr.FactorKind as factors
use Rattle.plex_ast.specs.declared.expr.Rel.{Rel}
use Rattle.plex_ast.specs.declared.expr.RelKind.{RelKind}
use Rattle.plex_ast.specs.declared.expr.RelKind.TheVariants as rels
use Rattle.plex_ast.specs.declared.expr.Relation.{Relation}
use Rattle.plex_ast.specs.declared.expr.Conj.{Conj}
use Rattle.plex_ast.specs.declared.expr.Cond.{Cond}
use Rattle.plex_ast.specs.declared.expr.Exprs.{Exprs}
use Rattle.plex_ast.specs.declared.stmt.Names.{Names}
use Rattle.plex_ast.specs.declared.stmt.Reference.{Reference}
use Rattle.plex_ast.specs.declared.stmt.ReferenceKind.{ReferenceKind}
use Rattle.plex_ast.specs.declared.stmt.ReferenceKind.TheVariants as references
use Rattle.plex_ast.specs.Words.{WITH, REFERENCE, AND, OR, MOD, COMMA, OPEN, CLOSE, EQUAL, PLUS}
use Rattle.plex_ast.specs.Words.{MINUS, TIMES, OVER, BELOW, ABOVE, AT_MOST, AT_LEAST, UNEQUAL}

-- expressions

abbrev pub with_pointer : Named → Option Named → FactorKind
with_pointer n None = Name n
with_pointer n (Some p) = Field n p

abbrev pub in_brackets_read : Reader Named
in_brackets_read = after OPEN (ended name_read CLOSE)

unfoldable pub pointer_read : Reader (Option Named)
pointer_read = optional OPEN in_brackets_read

unfoldable pub block_read : Reader FactorKind
block_read = lined (λ _ (m : Named). factors.Reference m) (after REFERENCE name_read)

abbrev pub named_read : Reader FactorKind
named_read = both with_pointer name_read pointer_read

unfoldable pub plain_read : Reader FactorKind
plain_read = branch NUMBER (lined (λ _ (n : Numbered). Number n) number_read)
    (branch REFERENCE block_read named_read)

abbrev pub PLAIN : List ℕ
PLAIN = NUMBER ++ (REFERENCE ++ NAME)

unfoldable pub bracket_read : Reader Expr → Reader FactorKind
bracket_read inner = lined (λ _ (e : Expr). Bracket e) (after OPEN (ended inner CLOSE))

-- a bracket, where brackets may nest b deep
abbrev pub bracket_at : ℕ → Reader Expr → Reader FactorKind
bracket_at zero inner = halt OPEN
bracket_at (suc b) inner = bracket_read inner

abbrev pub kind_with : Reader FactorKind → Reader FactorKind
kind_with bracket = branch PLAIN plain_read bracket

abbrev pub factor_made : ℕ → FactorKind → Factor
factor_made line k = record { line = line; kind = k }

unfoldable pub factor_by : Reader FactorKind → Reader Factor
factor_by bracket = lined factor_made (kind_with bracket)

abbrev pub MULTIPLY : List ℕ
MULTIPLY = TIMES ++ (OVER ++ MOD)

unfoldable pub multiplied_by : Reader Factor → Reader Multiplied
multiplied_by F = branch TIMES (lined (λ _ (f : Factor). Times f) (after TIMES F))
    (branch OVER (lined (λ _ (f : Factor). Over f) (after OVER F))
    (lined (λ _ (f : Factor). Mod f) (after MOD F)))

abbrev pub term_made : ℕ → Factor × List Multiplied → Term
term_made line p = record { line = line; first = p.0; rest = p.1 }

unfoldable pub term_by : Reader Factor → Reader Term
term_by F = lined term_made (pair F (many MULTIPLY (multiplied_by F)))

abbrev pub ADD : List ℕ
ADD = PLUS ++ MINUS

unfoldable pub added_by : Reader Term → Reader Added
added_by T = branch PLUS (lined (λ _ (t : Term). Plus t) (after PLUS T))
    (lined (λ _ (t : Term). Minus t) (after MINUS T))

abbrev pub expr_made : ℕ → Term × List Added → Expr
expr_made line p = record { line = line; first = p.0; rest = p.1 }

unfoldable pub expr_by : Reader Term → Reader Expr
expr_by T = lined expr_made (pair T (many ADD (added_by T)))

-- what a bracket holds, where brackets may nest b deep; at 0 it is never read
unfoldable pub inside_read : ℕ → Reader Expr
inside_read zero = halt []
inside_read (suc b) = expr_by (term_by (factor_by (bracket_at b (inside_read b))))

unfoldable pub factor_read : ℕ → Reader Factor
factor_read b = factor_by (bracket_at b (inside_read b))

unfoldable pub term_read : ℕ → Reader Term
term_read b = term_by (factor_read b)

unfoldable pub expr_read : ℕ → Reader Expr
expr_read b = expr_by (term_read b)

-- conditions

-- the word of this class, which stands for this comparison
abbrev pub sign_read : ℕ → RelKind → Reader RelKind
sign_read c k = lined (λ _ (t : Token). k) (word_of (c ∷ []))

unfoldable pub rel_kind_read : Reader RelKind
rel_kind_read =
    branch EQUAL (lined (λ _ (t : Token). rels.Equal) (word_of EQUAL))
    (branch UNEQUAL (lined (λ _ (t : Token). rels.Unequal) (word_of UNEQUAL))
    (branch BELOW (lined (λ _ (t : Token). rels.Below) (word_of BELOW))
    (branch AT_MOST (lined (λ _ (t : Token). rels.AtMost) (word_of AT_MOST))
    (branch ABOVE (lined (λ _ (t : Token). rels.Above) (word_of ABOVE))
    (lined (λ _ (t : Token). rels.AtLeast) (word_of AT_LEAST))))))

abbrev pub rel_made : ℕ → RelKind → Rel
rel_made line k = record { line = line; kind = k }

unfoldable pub rel_read : Reader Rel
rel_read = lined rel_made rel_kind_read

abbrev pub relation_made : ℕ → Expr × (Rel × Expr) → Relation
relation_made line p = record { line = line; left = p.0; rel = p.1.0; right = p.1.1 }

abbrev pub compared_read : ℕ → Reader (Rel × Expr)
compared_read b = pair rel_read (expr_read b)

unfoldable pub relation_read : ℕ → Reader Relation
relation_read b = lined relation_made (pair (expr_read b) (compared_read b))

abbrev pub conj_made : ℕ → Relation × List Relation → Conj
conj_made line p = record { line = line; first = p.0; rest = p.1 }

unfoldable pub and_read : ℕ → Reader Relation
and_read b = after AND (relation_read b)

unfoldable pub conj_read : ℕ → Reader Conj
conj_read b = lined conj_made (pair (relation_read b) (many AND (and_read b)))

abbrev pub cond_made : ℕ → Conj × List Conj → Cond
cond_made line p = record { line = line; first = p.0; rest = p.1 }

unfoldable pub or_read : ℕ → Reader Conj
or_read b = after OR (conj_read b)

unfoldable pub cond_read : ℕ → Reader Cond
cond_read b = lined cond_made (pair (conj_read b) (many OR (or_read b)))

-- lists of names and of values, and a receiver

unfoldable pub comma_name_read : Reader Named
comma_name_read = after COMMA name_read

abbrev pub names_made : ℕ → Named × List Named → Names
names_made line p = record { line = line; first = p.0; rest = p.1 }

unfoldable pub names_read : Reader Names
names_read = lined names_made (after WITH (pair name_read (many COMMA comma_name_read)))

unfoldable pub comma_expr_read : ℕ → Reader Expr
comma_expr_read b = after COMMA (expr_read b)

abbrev pub exprs_made : ℕ → Expr × List Expr → Exprs
exprs_made line p = record { line = line; first = p.0; rest = p.1 }

unfoldable pub exprs_read : ℕ → Reader Exprs
exprs_read b = lined exprs_made (after WITH (pair (expr_read b) (many COMMA (comma_expr_read b))))

unfoldable pub held_read : Reader ReferenceKind
held_read = lined (λ _ (v : Named). references.Held v) in_brackets_read

unfoldable pub receiver_kind_read : Reader ReferenceKind
receiver_kind_read = branch OPEN held_read (lined (λ _ (m : Named). references.Block m) name_read)

abbrev pub reference_made : ℕ → ReferenceKind → Reference
reference_made line k = record { line = line; kind = k }

unfoldable pub reference_read : Reader Reference
reference_read = lined reference_made (after REFERENCE receiver_kind_read)
