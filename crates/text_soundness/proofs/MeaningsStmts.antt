-- Statements declare nothing.
use Rattle.std.proofs.Common.{List, [], ◌∷◌, length, map, Option, Some, None, sym, subst}
use Rattle.token_grammar.specs.declared.named.Named.{Named}
use Rattle.plex_ast.specs.declared.expr.Exprs.{Exprs}
use Rattle.plex_ast.specs.declared.stmt.Names.{Names}
use Rattle.plex_ast.specs.declared.stmt.Reference.{Reference}
use Rattle.plex_ast.specs.declared.stmt.ReferenceKind.{ReferenceKind}
use Rattle.plex_ast.specs.declared.stmt.ReferenceKind.TheVariants as references
use Rattle.plex_ast.specs.declared.stmt.Stmt.{Stmt, fold-roll-Stmt, map-Stmt, ind-Stmt}
use Rattle.plex_ast.specs.declared.stmt.When.{When, fold-roll-When, map-When}
use Rattle.plex_ast.specs.declared.stmt.StmtKind.{StmtKind, StmtKind-F, fold-roll-StmtKind}
use Rattle.plex_ast.specs.declared.stmt.StmtKind.{map-StmtKind}
use Rattle.plex_ast.specs.declared.stmt.StmtKind.TheOpen as stmts
use Rattle.text_events.specs.Note.{Head}
use Rattle.text_events.specs.Note as note
use Rattle.text_events.specs.declared.role.Need.TheVariants as need
use Rattle.text_events.specs.declared.role.Role.TheVariants as role
use Rattle.text_events.specs.Walk.{OwnWalk, StmtWalk, KindWalk, add, each_walk, expr_walk}
use Rattle.text_events.specs.Walk.{cond_walk, name_walk, names_of, names_walk, values_of}
use Rattle.text_events.specs.Walk.{values_walk, is_there, reference_walk, reference_kind_walk}
use Rattle.text_events.specs.Walk.{first_head, list_walk, body_walk, kind_own, kind_walk_at}
use Rattle.text_events.specs.Walk.{stmt_walk_at, when_walk_at, kind_walk, stmt_walk, when_walk}
use Rattle.text_soundness.proofs.MeaningsSaid.{adds_one, adds_then, Quiet, QuietOwn, quiet_none}
use Rattle.text_soundness.proofs.MeaningsSaid.{quiet_then, each_quiet, all_each_quiet}
use Rattle.text_soundness.proofs.MeaningsSaid.{in_turn_quiet}
use Rattle.text_soundness.proofs.MeaningsExprs.{expr_quiet, cond_quiet}

pub name_quiet : (n : Named) → Quiet (name_walk n)
name_quiet n = adds_one n.line (note.Uses n.name need.Temporary)

pub names_quiet : (ns : Option Names) → Quiet (names_walk ns)
names_quiet ns = in_turn_quiet name_walk name_quiet (names_of ns)

pub values_quiet : (es : Option Exprs) → QuietOwn (values_walk es)
values_quiet es = all_each_quiet expr_walk expr_quiet (values_of es)

reference_quiet : (r : Option Reference) → Quiet (reference_walk r)
reference_quiet None = quiet_none
reference_quiet (Some r) = here r.kind
  where
    here : (k : ReferenceKind) → Quiet (reference_kind_walk k)
    here (references.Block m) = quiet_none
    here (references.Held v) = adds_one v.line (note.Uses v.name need.Value)

abbrev pub QuietStmt : StmtWalk → Type 0
QuietStmt w = (before after : Head) → Quiet (w.walk before after)

abbrev pub QuietKind : KindWalk → Type 0
QuietKind w = QuietOwn w.walk

abbrev KindQuiet : StmtKind → Type 0
KindQuiet k = QuietKind (kind_walk k)

abbrev StmtQuiet : Stmt → Type 0
StmtQuiet s = QuietStmt (stmt_walk s)

abbrev WhenQuiet : When → Type 0
WhenQuiet w = QuietOwn (when_walk w)

abbrev K : Type 0
K = (k : StmtKind) × KindQuiet k

abbrev S : Type 0
S = (s : Stmt) × StmtQuiet s

abbrev W : Type 0
W = (w : When) × WhenQuiet w

list_quiet : (ys : List S) (before : Head) → Quiet (list_walk (map stmt_walk (map (λ (p : S). p.0) ys)) before)
list_quiet [] before = quiet_none
list_quiet (p ∷ rest) before =
    quiet_then ((stmt_walk p.0).walk before (first_head (map stmt_walk (map (λ (q : S). q.0) rest))))
    (list_walk (map stmt_walk (map (λ (q : S). q.0) rest)) (stmt_walk p.0).head)
    (p.1 before (first_head (map stmt_walk (map (λ (q : S). q.0) rest)))) (list_quiet rest (stmt_walk p.0).head)

abbrev KindLayer : StmtKind-F StmtKind Stmt When → Type 0
KindLayer l = QuietOwn (kind_own (map-StmtKind StmtKind Stmt When KindWalk StmtWalk OwnWalk kind_walk stmt_walk when_walk l))

kind_layer : (y : StmtKind-F K S W) → KindLayer (map-StmtKind K S W StmtKind Stmt When (λ p. p.0) (λ p. p.0) (λ p. p.0) y)
kind_layer (stmts.Assign n e) owner = quiet_then (add n.line (note.Uses n.name need.Value)) (expr_walk e owner)
    (adds_one n.line (note.Uses n.name need.Value)) (expr_quiet e owner)
kind_layer (stmts.SetField n p e) owner =
    quiet_then (λ out. add p.line (note.Uses p.name need.Temporary) (add n.line (note.Uses n.name need.Field) out)) (expr_walk e owner)
    (quiet_then (add n.line (note.Uses n.name need.Field)) (add p.line (note.Uses p.name need.Temporary))
    (adds_one n.line (note.Uses n.name need.Field)) (adds_one p.line (note.Uses p.name need.Temporary)))
    (expr_quiet e owner)
kind_layer (stmts.Goto l) owner = adds_one l.line (note.Goes l.name)
kind_layer (stmts.IfGoto c l) owner = quiet_then (cond_walk c owner) (add l.line (note.Goes l.name)) (cond_quiet c owner) (adds_one l.line (note.Goes l.name))
kind_layer (stmts.If c first None) owner = quiet_then (cond_walk c owner)
    (body_walk (map stmt_walk (map (λ (p : S). p.0) first))) (cond_quiet c owner) (list_quiet first note.Nothing)
kind_layer (stmts.If c first (Some other)) owner =
    quiet_then (λ out. body_walk (map stmt_walk (map (λ (p : S). p.0) first)) (cond_walk c owner out)) (body_walk (map stmt_walk (map (λ (p : S). p.0) other)))
    (quiet_then (cond_walk c owner) (body_walk (map stmt_walk (map (λ (p : S). p.0) first))) (cond_quiet c owner) (list_quiet first note.Nothing))
    (list_quiet other note.Nothing)
kind_layer (stmts.Case e whens other) owner =
    quiet_then (λ out. each_walk (map when_walk (map (λ (p : W). p.0) whens)) owner (expr_walk e owner out))
    (body_walk (map stmt_walk (map (λ (p : S). p.0) other)))
    (quiet_then (expr_walk e owner) (each_walk (map when_walk (map (λ (p : W). p.0) whens)) owner) (expr_quiet e owner) (each_quiet when_walk whens owner))
    (list_quiet other note.Nothing)
kind_layer (stmts.On n from upto body) owner =
    quiet_then (λ out. expr_walk upto owner (expr_walk from owner (name_walk n out))) (body_walk (map stmt_walk (map (λ (p : S). p.0) body)))
    (quiet_then (λ out. expr_walk from owner (name_walk n out)) (expr_walk upto owner)
    (quiet_then (name_walk n) (expr_walk from owner) (name_quiet n) (expr_quiet from owner))
    (expr_quiet upto owner))
    (list_quiet body note.Nothing)
kind_layer (stmts.ForFirst n file field r e l) owner =
    let searches = quiet_then (name_walk n) (add file.line (note.Searches file.name)) (name_quiet n) (adds_one file.line (note.Searches file.name)) in
    let compares = quiet_then (λ out. add file.line (note.Searches file.name) (name_walk n out))
    (add field.line (note.Compares field.name file.name)) searches
    (adds_one field.line (note.Compares field.name file.name)) in
    let values = quiet_then (λ out. add field.line (note.Compares field.name file.name)
    (add file.line (note.Searches file.name) (name_walk n out))) (expr_walk e owner) compares (expr_quiet e owner)
    in
    quiet_then (λ out. expr_walk e owner (add field.line (note.Compares field.name file.name)
    (add file.line (note.Searches file.name) (name_walk n out)))) (add l.line (note.Goes l.name)) values
    (adds_one l.line (note.Goes l.name))
kind_layer (stmts.Send n r es fresh) owner =
    quiet_then (λ out. reference_walk r (add n.line (note.Names n.name (role.Sent (is_there r))) out)) (values_walk es owner)
    (quiet_then (add n.line (note.Names n.name (role.Sent (is_there r)))) (reference_walk r)
    (adds_one n.line (note.Names n.name (role.Sent (is_there r)))) (reference_quiet r))
    (values_quiet es owner)
kind_layer (stmts.Retrieve n ns) owner = quiet_then (add n.line (note.Names n.name role.Answer)) (names_walk ns)
    (adds_one n.line (note.Names n.name role.Answer)) (names_quiet ns)
kind_layer (stmts.Return n es) owner = quiet_then (add n.line (note.Names n.name role.Answer)) (values_walk es owner)
    (adds_one n.line (note.Names n.name role.Answer)) (values_quiet es owner)
kind_layer (stmts.Transfer n r) owner = quiet_then (add n.line (note.Names n.name role.Transferred)) (reference_walk r)
    (adds_one n.line (note.Names n.name role.Transferred)) (reference_quiet r)
kind_layer (stmts.Seize n file l) owner =
    quiet_then (λ out. add file.line (note.Holds file.name) (name_walk n out)) (add l.line (note.Goes l.name))
    (quiet_then (name_walk n) (add file.line (note.Holds file.name)) (name_quiet n) (adds_one file.line (note.Holds file.name)))
    (adds_one l.line (note.Goes l.name))
kind_layer (stmts.Free n file) owner = quiet_then (name_walk n) (add file.line (note.Holds file.name)) (name_quiet n)
    (adds_one file.line (note.Holds file.name))
kind_layer stmts.Exit owner = quiet_none

abbrev StmtLayer : stmts.Stmt-F StmtKind Stmt When → Type 0
StmtLayer l = QuietStmt (stmt_walk_at (map-Stmt StmtKind Stmt When KindWalk StmtWalk OwnWalk kind_walk stmt_walk when_walk l))

stmt_layer : (y : stmts.Stmt-F K S W) → StmtLayer (map-Stmt K S W StmtKind Stmt When (λ p. p.0) (λ p. p.0) (λ p. p.0) y)
stmt_layer y before after out =
    let begun = add y.line (note.Begins (kind_walk y.kind.0).head before after) out in
    adds_then out begun ((kind_walk y.kind.0).walk (length out) begun) [] []
    (adds_one y.line (note.Begins (kind_walk y.kind.0).head before after) out) (y.kind.1 (length out) begun)

abbrev WhenLayer : stmts.When-F StmtKind Stmt When → Type 0
WhenLayer l = QuietOwn (when_walk_at (map-When StmtKind Stmt When KindWalk StmtWalk OwnWalk kind_walk stmt_walk when_walk l))

when_layer : (y : stmts.When-F K S W) → WhenLayer (map-When K S W StmtKind Stmt When (λ p. p.0) (λ p. p.0) (λ p. p.0) y)
when_layer y owner =
    quiet_then (add y.number.line (note.Chooses owner y.number.value)) (body_walk (map stmt_walk (map (λ (p : S). p.0) y.body)))
    (adds_one y.number.line (note.Chooses owner y.number.value)) (list_quiet y.body note.Nothing)

pub stmt_quiet : (s : Stmt) → QuietStmt (stmt_walk s)
unfolding kind_walk stmt_walk when_walk
stmt_quiet = ind-Stmt KindQuiet StmtQuiet WhenQuiet
    (λ x y is. subst QuietKind (sym (fold-roll-StmtKind KindWalk StmtWalk OwnWalk kind_walk_at stmt_walk_at when_walk_at
    x)) (subst KindLayer is (kind_layer y)))
    (λ x y is. subst QuietStmt (sym (fold-roll-Stmt KindWalk StmtWalk OwnWalk kind_walk_at stmt_walk_at when_walk_at x)) (subst StmtLayer is (stmt_layer y)))
    (λ x y is. subst QuietOwn (sym (fold-roll-When KindWalk StmtWalk OwnWalk kind_walk_at stmt_walk_at when_walk_at x)) (subst WhenLayer is (when_layer y)))
