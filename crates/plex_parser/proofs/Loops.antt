-- What the loops over statements rest on, over plain variables: a loop's reader takes a token, one
-- more may be read, no more, or the reading stops.
use Rattle.std.proofs.Common.{◌≡◌, ℕ, zero, suc, ◌-◌, ◌<◌, true, false, List, [], ◌∷◌, ◌++◌, length}
use Rattle.std.proofs.Common.{Ok, Err, Result, refl, ap, ◌∙◌, arith}
use Rattle.plex_lexer.specs.declared.token.Token.{Token}
use Rattle.token_grammar.specs.Reading.{Stuck, Reader, at, many, with_front, halt, lined, ◌>>=◌}
use Rattle.token_grammar.proofs.Exact.{Exact, Exact-shorter, loop_more, loop_stop, loop_fail}
use Rattle.token_grammar.proofs.Exact.{branch_then, branch_else}
use Rattle.plex_ast.specs.declared.expr.Cond.{Cond}
use Rattle.plex_ast.specs.declared.stmt.Stmt.{Stmt}
use Rattle.plex_ast.specs.declared.stmt.When.{When}
use Rattle.plex_ast.specs.Words.{GOTO, IF, THEN, CASE, ON, WHEN}
use Rattle.plex_ast.specs.Grammar.{body}
use Rattle.plex_parser.specs.Statements.{STMT, stmt_read, body_read, when_by, held_at, if_at}
use Rattle.plex_parser.specs.Statements.{nest_at, nest_by, if_made, if_tail_at, gone_read, then_at}
use Rattle.plex_parser.specs.Statements.{then_by}
use Rattle.plex_parser.proofs.Statements.{Exact-stmt, Exact-body, Exact-when}

-- what a statement may hold, as a reader: statements that hold statements at most n deep
abbrev pub inside : ℕ → ℕ → Reader (List Stmt)
inside b n = many STMT (stmt_read b n)

-- the three beginnings of a statement that may hold statements

pub held_if : (b n : ℕ) (w : List Token) → at IF w ≡ true → held_at b n (body_read b n) w ≡ if_at b n (body_read b n) w
unfolding held_at
held_if b n w h = branch_then IF (if_at b n (body_read b n)) (nest_at b n (body_read b n)) w h

pub held_halts : (b n : ℕ) (w : List Token) → at IF w ≡ false → n ≡ 0 → held_at b n (body_read b n) w ≡ halt (CASE ++ ON) w
unfolding held_at
held_halts b zero w h e = branch_else IF (if_at b zero (body_read b zero)) (halt (CASE ++ ON)) w h
held_halts b (suc n) w h e = absurd (omega arith)

pub held_nests : (b n : ℕ) (w : List Token) → at IF w ≡ false → (n ≡ 0 → ⊥) → held_at b n (body_read b n) w ≡ nest_by b (inside b (n - 1)) w
unfolding held_at body_read stmt_read
held_nests b zero w h k = absurd (k refl)
held_nests b (suc n) w h k = let e : n ≡ suc n - 1 = omega arith in branch_else IF
    (if_at b (suc n) (body_read b (suc n))) (nest_by b (body_read b (suc n))) w h ∙ ap (λ m. nest_by b (inside b m) w) e

-- .. and of what follows a condition

pub tail_goes : (c : Cond) (b n : ℕ) (w : List Token) → at GOTO w ≡ true
    → lined (λ _ tail. if_made c tail) (if_tail_at n (body_read b n)) w ≡ lined (λ _ tail. if_made c tail) gone_read w
tail_goes c b n w h = ap (λ z. z >>= λ x. Ok (if_made c x.0, x.1)) (branch_then GOTO gone_read (then_at n (body_read b n)) w h)

pub tail_halts : (c : Cond) (b n : ℕ) (w : List Token) → at GOTO w ≡ false → n ≡ 0
    → lined (λ _ tail. if_made c tail) (if_tail_at n (body_read b n)) w
    ≡ Err (record { left = length w; deep = at THEN w })
tail_halts c b zero w h e = ap (λ z. z >>= λ x. Ok (if_made c x.0, x.1)) (branch_else GOTO gone_read (halt THEN) w h)
tail_halts c b (suc n) w h e = absurd (omega arith)

pub tail_does : (c : Cond) (b n : ℕ) (w : List Token) → at GOTO w ≡ false → (n ≡ 0 → ⊥)
    → lined (λ _ tail. if_made c tail) (if_tail_at n (body_read b n)) w
    ≡ lined (λ _ tail. if_made c tail) (then_by (inside b (n - 1))) w
unfolding body_read stmt_read
tail_does c b zero w h k = absurd (k refl)
tail_does c b (suc n) w h k = let e : n ≡ suc n - 1 = omega arith in
    ap (λ z. z >>= λ x. Ok (if_made c x.0, x.1)) (branch_else GOTO gone_read (then_by (body_read b (suc n))) w h)
    ∙ ap (λ m. lined (λ _ tail. if_made c tail) (then_by (inside b m)) w) e

-- the loops

pub stmt_less : (b : ℕ) (n : ℕ) → (w rest : List Token) (x : Stmt) → stmt_read b n w ≡ Ok (x, rest) → length rest < length w
stmt_less b n = Exact-shorter (Exact-stmt b (suc b) (omega arith) n (suc n) (omega arith))

pub stmt_on : (b : ℕ) (n : ℕ) → (front : List Stmt) (x : Stmt) (w rest : List Token)
    (all : Result (List Stmt × List Token) Stuck) → at STMT w ≡ true → stmt_read b n w ≡ Ok (x, rest)
    → with_front front (many STMT (stmt_read b n) w) ≡ all
    → with_front (front ++ (x ∷ [])) (many STMT (stmt_read b n) rest) ≡ all
stmt_on b n = loop_more STMT (stmt_read b n) (stmt_less b n)

pub stmt_end : (b : ℕ) (n : ℕ) → (front : List Stmt) (w : List Token) (all : Result (List Stmt × List Token) Stuck)
    → at STMT w ≡ false → with_front front (many STMT (stmt_read b n) w) ≡ all → all ≡ Ok (front, w)
stmt_end b n = loop_stop STMT (stmt_read b n) (stmt_less b n)

pub stmt_bad : (b : ℕ) (n : ℕ) → (front : List Stmt) (w : List Token) (e : Stuck)
    (all : Result (List Stmt × List Token) Stuck) → at STMT w ≡ true → stmt_read b n w ≡ Err e
    → with_front front (many STMT (stmt_read b n) w) ≡ all → all ≡ Err e
stmt_bad b n = loop_fail STMT (stmt_read b n) (stmt_less b n)

Exact-inside : (b n : ℕ) → Exact (body true b (suc n)) (body true (suc b) (suc (suc n))) STMT true STMT (inside b n) (inside (suc b) (suc n))
unfolding body_read stmt_read
Exact-inside b n = Exact-body b (suc b) (omega arith) n (suc n) (omega arith)

pub when_less : (b : ℕ) (n : ℕ) → (w rest : List Token) (x : When) → when_by (inside b n) w ≡ Ok (x, rest) → length rest < length w
when_less b n = Exact-shorter (Exact-when (body true b (suc n)) (body true (suc b) (suc (suc n))) (Exact-inside b n))

pub when_on : (b : ℕ) (n : ℕ) → (front : List When) (x : When) (w rest : List Token)
    (all : Result (List When × List Token) Stuck) → at WHEN w ≡ true → when_by (inside b n) w ≡ Ok (x, rest)
    → with_front front (many WHEN (when_by (inside b n)) w) ≡ all
    → with_front (front ++ (x ∷ [])) (many WHEN (when_by (inside b n)) rest) ≡ all
when_on b n = loop_more WHEN (when_by (inside b n)) (when_less b n)

pub when_end : (b : ℕ) (n : ℕ) → (front : List When) (w : List Token) (all : Result (List When × List Token) Stuck)
    → at WHEN w ≡ false → with_front front (many WHEN (when_by (inside b n)) w) ≡ all → all ≡ Ok (front, w)
when_end b n = loop_stop WHEN (when_by (inside b n)) (when_less b n)

pub when_bad : (b : ℕ) (n : ℕ) → (front : List When) (w : List Token) (e : Stuck)
    (all : Result (List When × List Token) Stuck) → at WHEN w ≡ true → when_by (inside b n) w ≡ Err e
    → with_front front (many WHEN (when_by (inside b n)) w) ≡ all → all ≡ Err e
when_bad b n = loop_fail WHEN (when_by (inside b n)) (when_less b n)
