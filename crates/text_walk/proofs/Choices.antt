-- One layer of what is a choice: what stands in each alternative.
use Rattle.std.proofs.Common.{◌≡◌, ℕ, List, map, Some, None, refl, sym, ◌∙◌, ap}
use Rattle.plex_ast.specs.declared.expr.Added.{Added, out-Added}
use Rattle.plex_ast.specs.declared.expr.Added.TheOpen as factors
use Rattle.plex_ast.specs.declared.expr.Multiplied.{Multiplied, out-Multiplied}
use Rattle.plex_ast.specs.declared.expr.FactorKind.{FactorKind, out-FactorKind}
use Rattle.plex_ast.specs.declared.expr.Expr.{Expr}
use Rattle.plex_ast.specs.declared.expr.Factor.{Factor}
use Rattle.plex_ast.specs.declared.expr.Term.{Term}
use Rattle.plex_ast.specs.declared.stmt.Stmt.{Stmt}
use Rattle.plex_ast.specs.declared.stmt.When.{When}
use Rattle.plex_ast.specs.declared.stmt.StmtKind.{StmtKind, StmtKind-F, out-StmtKind}
use Rattle.plex_ast.specs.declared.stmt.StmtKind.TheOpen as layer
use Rattle.text_events.specs.Note.{Event}
use Rattle.text_events.specs.Note as note
use Rattle.text_events.specs.declared.role.Need.TheVariants as need
use Rattle.text_events.specs.declared.role.Role.TheVariants as role
use Rattle.text_events.specs.Walk.{OwnWalk, add, expr_walk, factor_kind_walk, added_walk}
use Rattle.text_events.specs.Walk.{multiplied_walk, added_walk_at, factor_walk_at}
use Rattle.text_events.specs.Walk.{multiplied_walk_at, each_walk, cond_walk, name_walk, names_walk}
use Rattle.text_events.specs.Walk.{values_walk, is_there, reference_walk, body_walk, other_walk}
use Rattle.text_events.specs.Walk.{kind_own, kind_walk, stmt_walk, when_walk}
use Rattle.text_events.proofs.Layers.{opened_factor, factor_kind_walk-out, opened_added}
use Rattle.text_events.proofs.Layers.{added_walk-out, opened_multiplied, multiplied_walk-out}
use Rattle.text_events.proofs.Layers.{opened, kind_walk-out}

pub added_is : (a : Added) (l : factors.Added-F Added FactorKind Multiplied Expr Factor Term) (owner : ℕ)
    (out new : List Event) → out-Added a ≡ l → new ≡ added_walk_at (opened_added l) owner out
    → new ≡ added_walk a owner out
added_is a l owner out new is h = h ∙ sym (ap (λ w. w owner out) (added_walk-out a) ∙ ap (λ x. added_walk_at (opened_added x) owner out) is)

pub multiplied_is : (m : Multiplied) (l : factors.Multiplied-F Added FactorKind Multiplied Expr Factor Term) (owner : ℕ)
    (out new : List Event) → out-Multiplied m ≡ l → new ≡ multiplied_walk_at (opened_multiplied l) owner out
    → new ≡ multiplied_walk m owner out
multiplied_is m l owner out new is h = h ∙ sym (ap (λ w. w owner out) (multiplied_walk-out m) ∙ ap (λ x. multiplied_walk_at (opened_multiplied x) owner out) is)

pub factor_is : (k : FactorKind) (l : factors.FactorKind-F Added FactorKind Multiplied Expr Factor Term) (owner : ℕ)
    (out new : List Event) → out-FactorKind k ≡ l → new ≡ factor_walk_at (opened_factor l) owner out
    → new ≡ factor_kind_walk k owner out
factor_is k l owner out new is h = h ∙ sym (ap (λ w. w owner out) (factor_kind_walk-out k) ∙ ap (λ x. factor_walk_at (opened_factor x) owner out) is)

-- what a statement of this kind has, its parts walked
abbrev pub parts_walk : StmtKind-F StmtKind Stmt When → OwnWalk
parts_walk (layer.If c first other) owner out = other_walk other (body_walk (map stmt_walk first) (cond_walk c owner out))
parts_walk (layer.Case e whens other) owner out = body_walk (map stmt_walk other) (each_walk (map when_walk whens) owner (expr_walk e owner out))
parts_walk (layer.On n from upto body) owner out = body_walk (map stmt_walk body) (expr_walk upto owner (expr_walk from owner (name_walk n out)))
parts_walk (layer.Assign n e) owner out = expr_walk e owner (add n.line (note.Uses n.name need.Value) out)
parts_walk (layer.SetField n p e) owner out = expr_walk e owner (add p.line (note.Uses p.name need.Temporary) (add n.line (note.Uses n.name need.Field) out))
parts_walk (layer.Goto l) owner out = add l.line (note.Goes l.name) out
parts_walk (layer.IfGoto c l) owner out = add l.line (note.Goes l.name) (cond_walk c owner out)
parts_walk (layer.ForFirst n file field r e l) owner out =
    add l.line (note.Goes l.name) (expr_walk e owner
    (add field.line (note.Compares field.name file.name)
    (add file.line (note.Searches file.name) (name_walk n out))))
parts_walk (layer.Send n r es fresh) owner out = values_walk es owner (reference_walk r (add n.line (note.Names n.name (role.Sent (is_there r))) out))
parts_walk (layer.Retrieve n ns) owner out = names_walk ns (add n.line (note.Names n.name role.Answer) out)
parts_walk (layer.Return n es) owner out = values_walk es owner (add n.line (note.Names n.name role.Answer) out)
parts_walk (layer.Transfer n r) owner out = reference_walk r (add n.line (note.Names n.name role.Transferred) out)
parts_walk (layer.Seize n file l) owner out = add l.line (note.Goes l.name) (add file.line (note.Holds file.name) (name_walk n out))
parts_walk (layer.Free n file) owner out = add file.line (note.Holds file.name) (name_walk n out)
parts_walk layer.Exit owner out = out

parts_are : (l : StmtKind-F StmtKind Stmt When) (owner : ℕ) (out : List Event) → kind_own (opened l) owner out ≡ parts_walk l owner out
parts_are (layer.Assign n e) owner out = refl
parts_are (layer.SetField n p e) owner out = refl
parts_are (layer.Goto l) owner out = refl
parts_are (layer.IfGoto c l) owner out = refl
parts_are (layer.If c first None) owner out = refl
parts_are (layer.If c first (Some ss)) owner out = refl
parts_are (layer.Case e whens other) owner out = refl
parts_are (layer.On n from upto body) owner out = refl
parts_are (layer.ForFirst n file field r e l) owner out = refl
parts_are (layer.Send n r es fresh) owner out = refl
parts_are (layer.Retrieve n ns) owner out = refl
parts_are (layer.Return n es) owner out = refl
parts_are (layer.Transfer n r) owner out = refl
parts_are (layer.Seize n file l) owner out = refl
parts_are (layer.Free n file) owner out = refl
parts_are layer.Exit owner out = refl

pub kind_is : (k : StmtKind) (l : StmtKind-F StmtKind Stmt When) (owner : ℕ) (out new : List Event) → out-StmtKind k ≡ l
    → new ≡ parts_walk l owner out → new ≡ (kind_walk k).walk owner out
kind_is k l owner out new is h = h ∙ sym (ap (λ w. w.walk owner out) (kind_walk-out k) ∙ ap (λ x. kind_own (opened x) owner out) is ∙ parts_are l owner out)
