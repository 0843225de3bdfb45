-- What the loops of the parser rest on, over plain variables: a loop's reader takes a token, one
-- more may be read, no more, or the reading stops.
use Rattle.std.proofs.Common.{◌≡◌, ℕ, zero, suc, ◌-◌, ◌<◌, true, false, List, [], ◌∷◌, ◌++◌, length}
use Rattle.std.proofs.Common.{Ok, Err, Result, refl, ap, ◌∙◌, arith}
use Rattle.plex_lexer.specs.declared.token.Token.{Token}
use Rattle.token_grammar.specs.declared.named.Named.{Named}
use Rattle.token_grammar.specs.Reading.{Stuck, at, many, with_front, halt}
use Rattle.token_grammar.proofs.Exact.{Exact-shorter, loop_more, loop_stop, loop_fail, branch_then}
use Rattle.token_grammar.proofs.Exact.{branch_else}
use Rattle.plex_ast.specs.declared.expr.Added.{Added}
use Rattle.plex_ast.specs.declared.expr.Multiplied.{Multiplied}
use Rattle.plex_ast.specs.declared.expr.Expr.{Expr}
use Rattle.plex_ast.specs.declared.expr.Relation.{Relation}
use Rattle.plex_ast.specs.declared.expr.Conj.{Conj}
use Rattle.plex_ast.specs.Words.{AND, OR, COMMA, OPEN}
use Rattle.plex_expr_parser.specs.Readers.{plain_read, PLAIN, bracket_read, bracket_at, kind_with}
use Rattle.plex_expr_parser.specs.Readers.{inside_read, MULTIPLY, multiplied_by, ADD, added_by}
use Rattle.plex_expr_parser.specs.Readers.{factor_read, term_read, expr_read, and_read, or_read}
use Rattle.plex_expr_parser.specs.Readers.{comma_name_read, comma_expr_read}
use Rattle.plex_expr_parser.proofs.Expressions.{Exact-added, Exact-multiplied, Exact-term}
use Rattle.plex_expr_parser.proofs.Expressions.{Exact-factor}
use Rattle.plex_expr_parser.proofs.Conditions.{Exact-and, Exact-or, Exact-comma-name}
use Rattle.plex_expr_parser.proofs.Conditions.{Exact-comma-expr}

-- the three beginnings of a factor

pub factor_plain : (b : ℕ) (w : List Token) → at PLAIN w ≡ true → kind_with (bracket_at b (inside_read b)) w ≡ plain_read w
factor_plain b w h = branch_then PLAIN plain_read (bracket_at b (inside_read b)) w h

pub factor_halts : (b : ℕ) (w : List Token) → at PLAIN w ≡ false → b ≡ 0 → kind_with (bracket_at b (inside_read b)) w ≡ halt OPEN w
factor_halts zero w h e = branch_else PLAIN plain_read (halt OPEN) w h
factor_halts (suc b) w h e = absurd (omega arith)

pub factor_opens : (b : ℕ) (w : List Token) → at PLAIN w ≡ false → (b ≡ 0 → ⊥) → kind_with (bracket_at b (inside_read b)) w ≡ bracket_read (expr_read (b - 1)) w
unfolding expr_read term_read factor_read inside_read
factor_opens zero w h n = absurd (n refl)
factor_opens (suc b) w h n = let e : b ≡ suc b - 1 = omega arith in branch_else PLAIN plain_read
    (bracket_read (inside_read (suc b))) w h ∙ ap (λ k. bracket_read (expr_read k) w) e

-- the loops

pub added_less : (b : ℕ) → (w rest : List Token) (x : Added) → added_by (term_read b) w ≡ Ok (x, rest) → length rest < length w
added_less b = Exact-shorter (Exact-added (Exact-term b (suc b) (omega arith)))

pub added_on : (b : ℕ) → (front : List Added) (x : Added) (w rest : List Token)
    (all : Result (List Added × List Token) Stuck) → at ADD w ≡ true → added_by (term_read b) w ≡ Ok (x, rest)
    → with_front front (many ADD (added_by (term_read b)) w) ≡ all
    → with_front (front ++ (x ∷ [])) (many ADD (added_by (term_read b)) rest) ≡ all
added_on b = loop_more ADD (added_by (term_read b)) (added_less b)

pub added_end : (b : ℕ) → (front : List Added) (w : List Token) (all : Result (List Added × List Token) Stuck)
    → at ADD w ≡ false → with_front front (many ADD (added_by (term_read b)) w) ≡ all → all ≡ Ok (front, w)
added_end b = loop_stop ADD (added_by (term_read b)) (added_less b)

pub added_bad : (b : ℕ) → (front : List Added) (w : List Token) (e : Stuck)
    (all : Result (List Added × List Token) Stuck) → at ADD w ≡ true → added_by (term_read b) w ≡ Err e
    → with_front front (many ADD (added_by (term_read b)) w) ≡ all → all ≡ Err e
added_bad b = loop_fail ADD (added_by (term_read b)) (added_less b)

pub multiplied_less : (b : ℕ) → (w rest : List Token) (x : Multiplied) → multiplied_by (factor_read b) w ≡ Ok (x, rest) → length rest < length w
multiplied_less b = Exact-shorter (Exact-multiplied (Exact-factor b (suc b) (omega arith)))

pub multiplied_on : (b : ℕ) → (front : List Multiplied) (x : Multiplied) (w rest : List Token)
    (all : Result (List Multiplied × List Token) Stuck) → at MULTIPLY w ≡ true
    → multiplied_by (factor_read b) w ≡ Ok (x, rest)
    → with_front front (many MULTIPLY (multiplied_by (factor_read b)) w) ≡ all
    → with_front (front ++ (x ∷ [])) (many MULTIPLY (multiplied_by (factor_read b)) rest) ≡ all
multiplied_on b = loop_more MULTIPLY (multiplied_by (factor_read b)) (multiplied_less b)

pub multiplied_end : (b : ℕ) → (front : List Multiplied) (w : List Token)
    (all : Result (List Multiplied × List Token) Stuck) → at MULTIPLY w ≡ false
    → with_front front (many MULTIPLY (multiplied_by (factor_read b)) w) ≡ all → all ≡ Ok (front, w)
multiplied_end b = loop_stop MULTIPLY (multiplied_by (factor_read b)) (multiplied_less b)

pub multiplied_bad : (b : ℕ) → (front : List Multiplied) (w : List Token) (e : Stuck)
    (all : Result (List Multiplied × List Token) Stuck) → at MULTIPLY w ≡ true → multiplied_by (factor_read b) w ≡ Err e
    → with_front front (many MULTIPLY (multiplied_by (factor_read b)) w) ≡ all → all ≡ Err e
multiplied_bad b = loop_fail MULTIPLY (multiplied_by (factor_read b)) (multiplied_less b)

pub and_less : (b : ℕ) → (w rest : List Token) (x : Relation) → and_read b w ≡ Ok (x, rest) → length rest < length w
and_less b = Exact-shorter (Exact-and b (suc b) (omega arith))

pub and_on : (b : ℕ) → (front : List Relation) (x : Relation) (w rest : List Token)
    (all : Result (List Relation × List Token) Stuck) → at AND w ≡ true → and_read b w ≡ Ok (x, rest)
    → with_front front (many AND (and_read b) w) ≡ all
    → with_front (front ++ (x ∷ [])) (many AND (and_read b) rest) ≡ all
and_on b = loop_more AND (and_read b) (and_less b)

pub and_end : (b : ℕ) → (front : List Relation) (w : List Token) (all : Result (List Relation × List Token) Stuck)
    → at AND w ≡ false → with_front front (many AND (and_read b) w) ≡ all → all ≡ Ok (front, w)
and_end b = loop_stop AND (and_read b) (and_less b)

pub and_bad : (b : ℕ) → (front : List Relation) (w : List Token) (e : Stuck)
    (all : Result (List Relation × List Token) Stuck) → at AND w ≡ true → and_read b w ≡ Err e
    → with_front front (many AND (and_read b) w) ≡ all → all ≡ Err e
and_bad b = loop_fail AND (and_read b) (and_less b)

pub or_less : (b : ℕ) → (w rest : List Token) (x : Conj) → or_read b w ≡ Ok (x, rest) → length rest < length w
or_less b = Exact-shorter (Exact-or b (suc b) (omega arith))

pub or_on : (b : ℕ) → (front : List Conj) (x : Conj) (w rest : List Token) (all : Result (List Conj × List Token) Stuck)
    → at OR w ≡ true → or_read b w ≡ Ok (x, rest) → with_front front (many OR (or_read b) w) ≡ all
    → with_front (front ++ (x ∷ [])) (many OR (or_read b) rest) ≡ all
or_on b = loop_more OR (or_read b) (or_less b)

pub or_end : (b : ℕ) → (front : List Conj) (w : List Token) (all : Result (List Conj × List Token) Stuck)
    → at OR w ≡ false → with_front front (many OR (or_read b) w) ≡ all → all ≡ Ok (front, w)
or_end b = loop_stop OR (or_read b) (or_less b)

pub or_bad : (b : ℕ) → (front : List Conj) (w : List Token) (e : Stuck) (all : Result (List Conj × List Token) Stuck)
    → at OR w ≡ true → or_read b w ≡ Err e → with_front front (many OR (or_read b) w) ≡ all → all ≡ Err e
or_bad b = loop_fail OR (or_read b) (or_less b)

pub name_less : (w rest : List Token) (x : Named) → comma_name_read w ≡ Ok (x, rest) → length rest < length w
name_less = Exact-shorter Exact-comma-name

pub name_on : (front : List Named) (x : Named) (w rest : List Token) (all : Result (List Named × List Token) Stuck)
    → at COMMA w ≡ true → comma_name_read w ≡ Ok (x, rest) → with_front front (many COMMA comma_name_read w) ≡ all
    → with_front (front ++ (x ∷ [])) (many COMMA comma_name_read rest) ≡ all
name_on = loop_more COMMA comma_name_read name_less

pub name_end : (front : List Named) (w : List Token) (all : Result (List Named × List Token) Stuck) → at COMMA w ≡ false
    → with_front front (many COMMA comma_name_read w) ≡ all → all ≡ Ok (front, w)
name_end = loop_stop COMMA comma_name_read name_less

pub name_bad : (front : List Named) (w : List Token) (e : Stuck) (all : Result (List Named × List Token) Stuck)
    → at COMMA w ≡ true → comma_name_read w ≡ Err e → with_front front (many COMMA comma_name_read w) ≡ all
    → all ≡ Err e
name_bad = loop_fail COMMA comma_name_read name_less

pub expr_less : (b : ℕ) → (w rest : List Token) (x : Expr) → comma_expr_read b w ≡ Ok (x, rest) → length rest < length w
expr_less b = Exact-shorter (Exact-comma-expr b (suc b) (omega arith))

pub expr_on : (b : ℕ) → (front : List Expr) (x : Expr) (w rest : List Token)
    (all : Result (List Expr × List Token) Stuck) → at COMMA w ≡ true → comma_expr_read b w ≡ Ok (x, rest)
    → with_front front (many COMMA (comma_expr_read b) w) ≡ all
    → with_front (front ++ (x ∷ [])) (many COMMA (comma_expr_read b) rest) ≡ all
expr_on b = loop_more COMMA (comma_expr_read b) (expr_less b)

pub expr_end : (b : ℕ) → (front : List Expr) (w : List Token) (all : Result (List Expr × List Token) Stuck)
    → at COMMA w ≡ false → with_front front (many COMMA (comma_expr_read b) w) ≡ all → all ≡ Ok (front, w)
expr_end b = loop_stop COMMA (comma_expr_read b) (expr_less b)

pub expr_bad : (b : ℕ) → (front : List Expr) (w : List Token) (e : Stuck) (all : Result (List Expr × List Token) Stuck)
    → at COMMA w ≡ true → comma_expr_read b w ≡ Err e → with_front front (many COMMA (comma_expr_read b) w) ≡ all
    → all ≡ Err e
expr_bad b = loop_fail COMMA (comma_expr_read b) (expr_less b)
