-- What stands in an expression or in a statement, told by its outermost layer.
use Rattle.std.proofs.Common.{◌≡◌, ℕ, List, length, map}
use Rattle.plex_ast.specs.declared.expr.Added.{Added, fold_out-Added, out-Added, map-Added}
use Rattle.plex_ast.specs.declared.expr.Multiplied.{Multiplied, fold_out-Multiplied, out-Multiplied}
use Rattle.plex_ast.specs.declared.expr.Multiplied.{map-Multiplied}
use Rattle.plex_ast.specs.declared.expr.FactorKind.{FactorKind, fold_out-FactorKind, out-FactorKind}
use Rattle.plex_ast.specs.declared.expr.FactorKind.{map-FactorKind}
use Rattle.plex_ast.specs.declared.expr.Expr.{Expr, fold_out-Expr}
use Rattle.plex_ast.specs.declared.expr.Factor.{Factor, fold_out-Factor}
use Rattle.plex_ast.specs.declared.expr.Term.{Term, fold_out-Term}
use Rattle.plex_ast.specs.declared.expr.Added.TheOpen as factors
use Rattle.plex_ast.specs.declared.stmt.Stmt.{Stmt, fold_out-Stmt}
use Rattle.plex_ast.specs.declared.stmt.When.{When, fold_out-When, out-When}
use Rattle.plex_ast.specs.declared.stmt.StmtKind.{StmtKind, StmtKind-F, fold_out-StmtKind}
use Rattle.plex_ast.specs.declared.stmt.StmtKind.{out-StmtKind, map-StmtKind}
use Rattle.text_events.specs.Note.{Event}
use Rattle.text_events.specs.Note as note
use Rattle.text_events.specs.Walk.{OwnWalk, add, each_walk, expr_walk, term_walk, factor_walk}
use Rattle.text_events.specs.Walk.{factor_kind_walk, added_walk, multiplied_walk, added_walk_at}
use Rattle.text_events.specs.Walk.{factor_walk_at, multiplied_walk_at, expr_walk_at, one_factor}
use Rattle.text_events.specs.Walk.{term_walk_at, StmtWalk, KindWalk, body_walk, kind_walk}
use Rattle.text_events.specs.Walk.{stmt_walk, when_walk, kind_walk_at, stmt_walk_at, when_walk_at}

pub expr_walk-out : (e : Expr) (owner : ℕ) (out : List Event) → expr_walk e owner out ≡ each_walk (map added_walk e.rest) owner (term_walk e.first owner out)
unfolding expr_walk term_walk added_walk
expr_walk-out e owner out = λ i. fold_out-Expr OwnWalk OwnWalk OwnWalk OwnWalk OwnWalk OwnWalk added_walk_at
    factor_walk_at multiplied_walk_at expr_walk_at one_factor term_walk_at e i owner out

pub term_walk-out : (t : Term) (owner : ℕ) (out : List Event)
    → term_walk t owner out ≡ each_walk (map multiplied_walk t.rest) owner (factor_walk t.first owner out)
unfolding term_walk factor_walk multiplied_walk
term_walk-out t owner out = λ i. fold_out-Term OwnWalk OwnWalk OwnWalk OwnWalk OwnWalk OwnWalk added_walk_at
    factor_walk_at multiplied_walk_at expr_walk_at one_factor term_walk_at t i owner out

pub factor_walk-out : (f : Factor) (owner : ℕ) (out : List Event) → factor_walk f owner out ≡ factor_kind_walk f.kind owner out
unfolding factor_walk factor_kind_walk
factor_walk-out f owner out = λ i. fold_out-Factor OwnWalk OwnWalk OwnWalk OwnWalk OwnWalk OwnWalk added_walk_at
    factor_walk_at multiplied_walk_at expr_walk_at one_factor term_walk_at f i owner out

-- one layer, once the walk of each of its parts is known

abbrev pub opened_factor : factors.FactorKind-F Added FactorKind Multiplied Expr Factor Term
    → factors.FactorKind-F OwnWalk OwnWalk OwnWalk OwnWalk OwnWalk OwnWalk
opened_factor l = map-FactorKind Added FactorKind Multiplied Expr Factor Term OwnWalk OwnWalk OwnWalk OwnWalk OwnWalk
    OwnWalk added_walk factor_kind_walk multiplied_walk expr_walk factor_walk term_walk l

pub factor_kind_walk-out : (k : FactorKind) → factor_kind_walk k ≡ factor_walk_at (opened_factor (out-FactorKind k))
unfolding expr_walk term_walk factor_walk factor_kind_walk added_walk multiplied_walk
factor_kind_walk-out k = fold_out-FactorKind OwnWalk OwnWalk OwnWalk OwnWalk OwnWalk OwnWalk added_walk_at
    factor_walk_at multiplied_walk_at expr_walk_at one_factor term_walk_at k

abbrev pub opened_added : factors.Added-F Added FactorKind Multiplied Expr Factor Term → factors.Added-F OwnWalk OwnWalk OwnWalk OwnWalk OwnWalk OwnWalk
opened_added l = map-Added Added FactorKind Multiplied Expr Factor Term OwnWalk OwnWalk OwnWalk OwnWalk OwnWalk OwnWalk
    added_walk factor_kind_walk multiplied_walk expr_walk factor_walk term_walk l

pub added_walk-out : (a : Added) → added_walk a ≡ added_walk_at (opened_added (out-Added a))
unfolding expr_walk term_walk factor_walk factor_kind_walk added_walk multiplied_walk
added_walk-out a = fold_out-Added OwnWalk OwnWalk OwnWalk OwnWalk OwnWalk OwnWalk added_walk_at factor_walk_at
    multiplied_walk_at expr_walk_at one_factor term_walk_at a

abbrev pub opened_multiplied : factors.Multiplied-F Added FactorKind Multiplied Expr Factor Term
    → factors.Multiplied-F OwnWalk OwnWalk OwnWalk OwnWalk OwnWalk OwnWalk
opened_multiplied l = map-Multiplied Added FactorKind Multiplied Expr Factor Term OwnWalk OwnWalk OwnWalk OwnWalk
    OwnWalk OwnWalk added_walk factor_kind_walk multiplied_walk expr_walk factor_walk term_walk l

pub multiplied_walk-out : (m : Multiplied) → multiplied_walk m ≡ multiplied_walk_at (opened_multiplied (out-Multiplied m))
unfolding expr_walk term_walk factor_walk factor_kind_walk added_walk multiplied_walk
multiplied_walk-out m = fold_out-Multiplied OwnWalk OwnWalk OwnWalk OwnWalk OwnWalk OwnWalk added_walk_at factor_walk_at
    multiplied_walk_at expr_walk_at one_factor term_walk_at m

-- statements

abbrev pub opened : StmtKind-F StmtKind Stmt When → StmtKind-F KindWalk StmtWalk OwnWalk
opened l = map-StmtKind StmtKind Stmt When KindWalk StmtWalk OwnWalk kind_walk stmt_walk when_walk l

pub kind_walk-out : (k : StmtKind) → kind_walk k ≡ kind_walk_at (opened (out-StmtKind k))
unfolding kind_walk stmt_walk when_walk
kind_walk-out k = fold_out-StmtKind KindWalk StmtWalk OwnWalk kind_walk_at stmt_walk_at when_walk_at k

pub stmt_walk-out : (s : Stmt) → stmt_walk s ≡ record {
  head = (kind_walk s.kind).head;
  walk = λ before after out. (kind_walk s.kind).walk (length out)
      (add s.line (note.Begins (kind_walk s.kind).head before after) out);
}
unfolding kind_walk stmt_walk
stmt_walk-out s = fold_out-Stmt KindWalk StmtWalk OwnWalk kind_walk_at stmt_walk_at when_walk_at s

pub when_walk-out : (w : When) (owner : ℕ) (out : List Event)
    → when_walk w owner out ≡ body_walk (map stmt_walk (out-When w).body)
    (add (out-When w).number.line (note.Chooses owner (out-When w).number.value) out)
unfolding stmt_walk when_walk
when_walk-out w owner out = λ i. fold_out-When KindWalk StmtWalk OwnWalk kind_walk_at stmt_walk_at when_walk_at w i owner out
