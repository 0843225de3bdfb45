-- What is written word by word.
use Rattle.std.proofs.Common.{◌≡◌, ℕ, zero, suc, ◌-◌, List, ◌++◌, refl, ap, append_assoc, arith}
use Rattle.plex_ast.specs.declared.expr.Expr.{Expr}
use Rattle.plex_print.specs.Printed.{stmt_text, kind_text, body_text}
use Rattle.plex_print.specs.PrintedExpressions.{inside_text, factor_text, multiplied_text}
use Rattle.plex_print.specs.PrintedExpressions.{term_text, added_text, expr_text}
use Rattle.plex_print.specs.Writing.{each_of}
use Rattle.plex_ast.specs.declared.stmt.Stmt.{Stmt}

pub said : (text bytes part : List ℕ) → (text ++ bytes) ++ part ≡ text ++ (bytes ++ part)
said text bytes part = append_assoc text bytes part

pub inside_none : (b : ℕ) (e : Expr) (text : List ℕ) → b ≡ 0 → inside_text b e text ≡ text
unfolding inside_text
inside_none zero e text h = refl
inside_none (suc b) e text h = absurd (omega arith)

pub inside_some : (b : ℕ) (e : Expr) (text : List ℕ) → (b ≡ 0 → ⊥) → inside_text b e text ≡ expr_text (b - 1) e text
unfolding inside_text expr_text added_text term_text multiplied_text factor_text
inside_some zero e text h = absurd (h refl)
inside_some (suc b) e text h = let k : b ≡ suc b - 1 = omega arith in ap (λ c. expr_text c e text) k

pub body_none : (b n : ℕ) (xs : List Stmt) (text : List ℕ) → n ≡ 0 → body_text b n xs text ≡ text
unfolding body_text
body_none b zero xs text h = refl
body_none b (suc n) xs text h = absurd (omega arith)

pub body_some : (b n : ℕ) (xs : List Stmt) (text : List ℕ) → (n ≡ 0 → ⊥) → body_text b n xs text ≡ each_of (stmt_text b (n - 1)) xs text
unfolding body_text stmt_text kind_text
body_some b zero xs text h = absurd (h refl)
body_some b (suc n) xs text h = let k : n ≡ suc n - 1 = omega arith in ap (λ m. each_of (stmt_text b m) xs text) k
