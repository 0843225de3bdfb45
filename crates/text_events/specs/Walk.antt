-- What stands in an expression or in a statement, in the order of the text: each walk takes the
-- events so far and gives these and its own.
use Rattle.std.specs.Prelude.{ℕ, List, [], ◌∷◌, ◌++◌, length, map, Option, Some, None, true, false}
use Rattle.std.specs.Prelude.{Bool}
use Rattle.token_grammar.specs.declared.named.Named.{Named}
use Rattle.plex_ast.specs.declared.expr.Added.{Added, Added-F, fold-Added}
use Rattle.plex_ast.specs.declared.expr.Multiplied.{Multiplied, Multiplied-F, fold-Multiplied}
use Rattle.plex_ast.specs.declared.expr.FactorKind.{FactorKind, FactorKind-F, fold-FactorKind}
use Rattle.plex_ast.specs.declared.expr.Expr.{Expr, fold-Expr}
use Rattle.plex_ast.specs.declared.expr.Factor.{Factor, fold-Factor}
use Rattle.plex_ast.specs.declared.expr.Term.{Term, fold-Term}
use Rattle.plex_ast.specs.declared.expr.Added.TheOpen as factors
use Rattle.plex_ast.specs.declared.expr.Cond.{Cond}
use Rattle.plex_ast.specs.declared.expr.Conj.{Conj}
use Rattle.plex_ast.specs.declared.expr.Relation.{Relation}
use Rattle.plex_ast.specs.declared.expr.Exprs.{Exprs}
use Rattle.plex_ast.specs.declared.stmt.Names.{Names}
use Rattle.plex_ast.specs.declared.stmt.Reference.{Reference}
use Rattle.plex_ast.specs.declared.stmt.ReferenceKind.{ReferenceKind}
use Rattle.plex_ast.specs.declared.stmt.ReferenceKind.TheVariants as references
use Rattle.plex_ast.specs.declared.stmt.Stmt.{Stmt, fold-Stmt}
use Rattle.plex_ast.specs.declared.stmt.When.{When, When-F, fold-When}
use Rattle.plex_ast.specs.declared.stmt.StmtKind.{StmtKind, StmtKind-F, fold-StmtKind, out-StmtKind}
use Rattle.plex_ast.specs.declared.stmt.StmtKind.TheOpen as stmts
use Rattle.text_events.specs.declared.role.Need.TheVariants as need
use Rattle.text_events.specs.declared.role.Role.TheVariants as role
use Rattle.text_events.specs.Note.{Event, Note, Head, SignalWay}
use Rattle.text_events.specs.Note as note

-- from the events so far, these and more
abbrev pub EventWalk : Type 0
EventWalk = List Event → List Event

abbrev pub add : ℕ → Note → EventWalk
add line said out = out ++ record { line = line; note = said } ∷ []

abbrev pub in_turn : List EventWalk → EventWalk
in_turn [] out = out
in_turn (w ∷ ws) out = in_turn ws (w out)

-- within the statement that begins at a place
abbrev pub OwnWalk : Type 0
OwnWalk = ℕ → EventWalk

abbrev pub each_walk : List OwnWalk → OwnWalk
each_walk [] owner out = out
each_walk (w ∷ ws) owner out = each_walk ws owner (w owner out)

-- expressions: each number, name, field and block counts, and the pointer of a field does not

abbrev pub factor_walk_at : factors.FactorKind-F OwnWalk OwnWalk OwnWalk OwnWalk OwnWalk OwnWalk
    → OwnWalk
factor_walk_at (factors.Number n) owner out = add n.line (note.Counts owner) out
factor_walk_at (factors.Name n) owner out = add n.line (note.Reads n.name need.Value owner) out
factor_walk_at (factors.Field n p) owner out = add p.line (note.Uses p.name need.Temporary)
    (add n.line (note.Reads n.name need.Field owner) out)
factor_walk_at (factors.Bracket e) owner out = e owner out
factor_walk_at (factors.Reference m) owner out = add m.line (note.Refers m.name owner) out

abbrev pub multiplied_walk_at : factors.Multiplied-F OwnWalk OwnWalk OwnWalk OwnWalk OwnWalk OwnWalk
    → OwnWalk
multiplied_walk_at (factors.Times f) = f
multiplied_walk_at (factors.Over f) = f
multiplied_walk_at (factors.Mod f) = f

abbrev pub added_walk_at : factors.Added-F OwnWalk OwnWalk OwnWalk OwnWalk OwnWalk OwnWalk → OwnWalk
added_walk_at (factors.Plus t) = t
added_walk_at (factors.Minus t) = t

abbrev pub term_walk_at : factors.Term-F OwnWalk OwnWalk OwnWalk OwnWalk OwnWalk OwnWalk → OwnWalk
term_walk_at t owner out = each_walk t.rest owner (t.first owner out)

abbrev pub expr_walk_at : factors.Expr-F OwnWalk OwnWalk OwnWalk OwnWalk OwnWalk OwnWalk → OwnWalk
expr_walk_at e owner out = each_walk e.rest owner (e.first owner out)

abbrev pub one_factor : factors.Factor-F OwnWalk OwnWalk OwnWalk OwnWalk OwnWalk OwnWalk → OwnWalk
one_factor f = f.kind

unfoldable pub expr_walk : Expr → OwnWalk
expr_walk = fold-Expr OwnWalk OwnWalk OwnWalk OwnWalk OwnWalk OwnWalk added_walk_at factor_walk_at
    multiplied_walk_at expr_walk_at one_factor term_walk_at

unfoldable pub term_walk : Term → OwnWalk
term_walk = fold-Term OwnWalk OwnWalk OwnWalk OwnWalk OwnWalk OwnWalk added_walk_at factor_walk_at
    multiplied_walk_at expr_walk_at one_factor term_walk_at

unfoldable pub factor_walk : Factor → OwnWalk
factor_walk = fold-Factor OwnWalk OwnWalk OwnWalk OwnWalk OwnWalk OwnWalk added_walk_at
    factor_walk_at multiplied_walk_at expr_walk_at one_factor term_walk_at

unfoldable pub factor_kind_walk : FactorKind → OwnWalk
factor_kind_walk = fold-FactorKind OwnWalk OwnWalk OwnWalk OwnWalk OwnWalk OwnWalk added_walk_at
    factor_walk_at multiplied_walk_at expr_walk_at one_factor term_walk_at

unfoldable pub added_walk : Added → OwnWalk
added_walk = fold-Added OwnWalk OwnWalk OwnWalk OwnWalk OwnWalk OwnWalk added_walk_at factor_walk_at
    multiplied_walk_at expr_walk_at one_factor term_walk_at

unfoldable pub multiplied_walk : Multiplied → OwnWalk
multiplied_walk = fold-Multiplied OwnWalk OwnWalk OwnWalk OwnWalk OwnWalk OwnWalk added_walk_at
    factor_walk_at multiplied_walk_at expr_walk_at one_factor term_walk_at

-- conditions

abbrev pub relation_walk : Relation → OwnWalk
relation_walk r owner out = expr_walk r.right owner (expr_walk r.left owner out)

abbrev pub conj_walk : Conj → OwnWalk
conj_walk c owner out = each_walk (map relation_walk c.rest) owner (relation_walk c.first owner out)

abbrev pub cond_walk : Cond → OwnWalk
cond_walk c owner out = each_walk (map conj_walk c.rest) owner (conj_walk c.first owner out)

-- what stands after WITH

abbrev pub names_of : Option Names → List Named
names_of None = []
names_of (Some x) = x.first ∷ x.rest

abbrev pub values_of : Option Exprs → List Expr
values_of None = []
values_of (Some x) = x.first ∷ x.rest

abbrev pub name_walk : Named → EventWalk
name_walk n out = add n.line (note.Uses n.name need.Temporary) out

abbrev pub names_walk : Option Names → EventWalk
names_walk ns out = in_turn (map name_walk (names_of ns)) out

abbrev pub values_walk : Option Exprs → OwnWalk
values_walk es owner out = each_walk (map expr_walk (values_of es)) owner out

-- REFERENCE: a held one uses its name, and a block's name is looked at with the statement

abbrev pub is_there : Option Reference → Bool
is_there None = false
is_there (Some r) = true

abbrev pub way_at : ReferenceKind → SignalWay
way_at (references.Block m) = note.To m.name
way_at (references.Held v) = note.Held

abbrev pub way_of : Option Reference → SignalWay
way_of None = note.Open
way_of (Some r) = way_at r.kind

abbrev pub reference_kind_walk : ReferenceKind → EventWalk
reference_kind_walk (references.Block m) out = out
reference_kind_walk (references.Held v) out = add v.line (note.Uses v.name need.Value) out

abbrev pub reference_walk : Option Reference → EventWalk
reference_walk None out = out
reference_walk (Some r) out = reference_kind_walk r.kind out

-- a statement: as its neighbours see it, and its events between two neighbours
pub record StmtWalk : Type 0 where
  pub head : Head
  pub walk : Head → Head → EventWalk

-- what follows a statement's first token
pub record KindWalk : Type 0 where
  pub head : Head
  pub walk : OwnWalk

abbrev pub first_head : List StmtWalk → Head
first_head [] = note.Nothing
first_head (s ∷ rest) = s.head

-- statements in a list, after what stands before it
abbrev pub list_walk : List StmtWalk → Head → EventWalk
list_walk [] before out = out
list_walk (s ∷ rest) before out = list_walk rest s.head (s.walk before (first_head rest) out)

abbrev pub body_walk : List StmtWalk → EventWalk
body_walk ss out = list_walk ss note.Nothing out

abbrev pub branch_walk : Option (List StmtWalk) → EventWalk
branch_walk None out = out
branch_walk (Some ss) out = body_walk ss out

abbrev pub kind_head : {A S W : Type 0} → StmtKind-F A S W → Head
kind_head (stmts.Send n r es fresh) = note.Sends n.name (way_of r) (length (values_of es)) fresh
kind_head (stmts.Retrieve n ns) = note.Retrieves n.name (length (names_of ns))
kind_head (stmts.Return n es) = note.Returns n.name (length (values_of es))
kind_head (stmts.Transfer n r) = note.Transfers n.name (way_of r)
kind_head _ = note.Other

abbrev pub kind_own : StmtKind-F KindWalk StmtWalk OwnWalk → OwnWalk
kind_own (stmts.Assign n e) owner out =
    expr_walk e owner (add n.line (note.Uses n.name need.Value) out)
kind_own (stmts.SetField n p e) owner out = expr_walk e owner
    (add p.line (note.Uses p.name need.Temporary) (add n.line (note.Uses n.name need.Field) out))
kind_own (stmts.Goto l) owner out = add l.line (note.Goes l.name) out
kind_own (stmts.IfGoto c l) owner out = add l.line (note.Goes l.name) (cond_walk c owner out)
kind_own (stmts.If c first other) owner out =
    branch_walk other (body_walk first (cond_walk c owner out))
kind_own (stmts.Case e whens other) owner out =
    body_walk other (each_walk whens owner (expr_walk e owner out))
kind_own (stmts.On n from upto body) owner out =
    body_walk body (expr_walk upto owner (expr_walk from owner (name_walk n out)))
kind_own (stmts.ForFirst n file field r e l) owner out =
    add l.line (note.Goes l.name) (expr_walk e owner
    (add field.line (note.Compares field.name file.name)
    (add file.line (note.Searches file.name) (name_walk n out))))
kind_own (stmts.Send n r es fresh) owner out = values_walk es owner
    (reference_walk r (add n.line (note.Names n.name (role.Sent (is_there r))) out))
kind_own (stmts.Retrieve n ns) owner out =
    names_walk ns (add n.line (note.Names n.name role.Answer) out)
kind_own (stmts.Return n es) owner out =
    values_walk es owner (add n.line (note.Names n.name role.Answer) out)
kind_own (stmts.Transfer n r) owner out =
    reference_walk r (add n.line (note.Names n.name role.Transferred) out)
kind_own (stmts.Seize n file l) owner out =
    add l.line (note.Goes l.name) (add file.line (note.Holds file.name) (name_walk n out))
kind_own (stmts.Free n file) owner out = add file.line (note.Holds file.name) (name_walk n out)
kind_own stmts.Exit owner out = out

abbrev pub kind_walk_at : StmtKind-F KindWalk StmtWalk OwnWalk → KindWalk
kind_walk_at k = record { head = kind_head k; walk = kind_own k }

abbrev pub stmt_walk_at : stmts.Stmt-F KindWalk StmtWalk OwnWalk → StmtWalk
stmt_walk_at s = record {
  head = s.kind.head;
  walk = λ before after out. s.kind.walk (length out)
      (add s.line (note.Begins s.kind.head before after) out);
}

abbrev pub when_walk_at : When-F KindWalk StmtWalk OwnWalk → OwnWalk
when_walk_at w owner out =
    body_walk w.body (add w.number.line (note.Chooses owner w.number.value) out)

unfoldable pub kind_walk : StmtKind → KindWalk
kind_walk = fold-StmtKind KindWalk StmtWalk OwnWalk kind_walk_at stmt_walk_at when_walk_at

unfoldable pub stmt_walk : Stmt → StmtWalk
stmt_walk = fold-Stmt KindWalk StmtWalk OwnWalk kind_walk_at stmt_walk_at when_walk_at

unfoldable pub when_walk : When → OwnWalk
when_walk = fold-When KindWalk StmtWalk OwnWalk kind_walk_at stmt_walk_at when_walk_at

abbrev pub head_of : Stmt → Head
head_of s = kind_head (out-StmtKind s.kind)

abbrev pub other_walk : Option (List Stmt) → EventWalk
other_walk None out = out
other_walk (Some ss) out = body_walk (map stmt_walk ss) out
