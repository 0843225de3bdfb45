-- Expressions and conditions declare nothing.
use Rattle.std.proofs.Common.{map, sym, subst}
use Rattle.plex_ast.specs.declared.expr.Added.{Added, Added-F, fold-roll-Added, map-Added}
use Rattle.plex_ast.specs.declared.expr.Multiplied.{Multiplied, Multiplied-F, fold-roll-Multiplied}
use Rattle.plex_ast.specs.declared.expr.Multiplied.{map-Multiplied}
use Rattle.plex_ast.specs.declared.expr.FactorKind.{FactorKind, FactorKind-F, fold-roll-FactorKind}
use Rattle.plex_ast.specs.declared.expr.FactorKind.{map-FactorKind}
use Rattle.plex_ast.specs.declared.expr.Expr.{Expr, Expr-F, fold-roll-Expr, map-Expr, ind-Expr}
use Rattle.plex_ast.specs.declared.expr.Factor.{Factor, Factor-F, fold-roll-Factor, map-Factor}
use Rattle.plex_ast.specs.declared.expr.Term.{Term, Term-F, fold-roll-Term, map-Term}
use Rattle.plex_ast.specs.declared.expr.Added.TheOpen as factors
use Rattle.plex_ast.specs.declared.expr.Cond.{Cond}
use Rattle.plex_ast.specs.declared.expr.Conj.{Conj}
use Rattle.plex_ast.specs.declared.expr.Relation.{Relation}
use Rattle.text_events.specs.Note as note
use Rattle.text_events.specs.declared.role.Need.TheVariants as need
use Rattle.text_events.specs.Walk.{OwnWalk, add, each_walk, expr_walk, term_walk, factor_walk}
use Rattle.text_events.specs.Walk.{factor_kind_walk, added_walk, multiplied_walk, added_walk_at}
use Rattle.text_events.specs.Walk.{factor_walk_at, multiplied_walk_at, expr_walk_at, one_factor}
use Rattle.text_events.specs.Walk.{term_walk_at, relation_walk, conj_walk, cond_walk}
use Rattle.text_soundness.proofs.MeaningsSaid.{adds_one, QuietOwn, quiet_then, each_quiet}
use Rattle.text_soundness.proofs.MeaningsSaid.{all_each_quiet}

abbrev AddedQuiet : Added → Type 0
AddedQuiet a = QuietOwn (added_walk a)

abbrev KindQuiet : FactorKind → Type 0
KindQuiet k = QuietOwn (factor_kind_walk k)

abbrev MultipliedQuiet : Multiplied → Type 0
MultipliedQuiet m = QuietOwn (multiplied_walk m)

abbrev ExprQuiet : Expr → Type 0
ExprQuiet e = QuietOwn (expr_walk e)

abbrev FactorQuiet : Factor → Type 0
FactorQuiet f = QuietOwn (factor_walk f)

abbrev TermQuiet : Term → Type 0
TermQuiet t = QuietOwn (term_walk t)

abbrev AddedLayer : factors.Added-F Added FactorKind Multiplied Expr Factor Term → Type 0
AddedLayer l = QuietOwn (added_walk_at (map-Added Added FactorKind Multiplied Expr Factor Term OwnWalk OwnWalk OwnWalk
    OwnWalk OwnWalk OwnWalk added_walk factor_kind_walk multiplied_walk expr_walk factor_walk term_walk l))

abbrev KindLayer : factors.FactorKind-F Added FactorKind Multiplied Expr Factor Term → Type 0
KindLayer l = QuietOwn (factor_walk_at (map-FactorKind Added FactorKind Multiplied Expr Factor Term OwnWalk OwnWalk
    OwnWalk OwnWalk OwnWalk OwnWalk added_walk factor_kind_walk multiplied_walk expr_walk factor_walk term_walk l))

abbrev MultipliedLayer : factors.Multiplied-F Added FactorKind Multiplied Expr Factor Term → Type 0
MultipliedLayer l = QuietOwn (multiplied_walk_at
    (map-Multiplied Added FactorKind Multiplied Expr Factor Term OwnWalk OwnWalk OwnWalk OwnWalk OwnWalk OwnWalk
    added_walk factor_kind_walk multiplied_walk expr_walk factor_walk term_walk l))

abbrev ExprLayer : factors.Expr-F Added FactorKind Multiplied Expr Factor Term → Type 0
ExprLayer l = QuietOwn (expr_walk_at (map-Expr Added FactorKind Multiplied Expr Factor Term OwnWalk OwnWalk OwnWalk
    OwnWalk OwnWalk OwnWalk added_walk factor_kind_walk multiplied_walk expr_walk factor_walk term_walk l))

abbrev FactorLayer : factors.Factor-F Added FactorKind Multiplied Expr Factor Term → Type 0
FactorLayer l = QuietOwn (one_factor (map-Factor Added FactorKind Multiplied Expr Factor Term OwnWalk OwnWalk OwnWalk
    OwnWalk OwnWalk OwnWalk added_walk factor_kind_walk multiplied_walk expr_walk factor_walk term_walk l))

abbrev TermLayer : factors.Term-F Added FactorKind Multiplied Expr Factor Term → Type 0
TermLayer l = QuietOwn (term_walk_at (map-Term Added FactorKind Multiplied Expr Factor Term OwnWalk OwnWalk OwnWalk
    OwnWalk OwnWalk OwnWalk added_walk factor_kind_walk multiplied_walk expr_walk factor_walk term_walk l))

abbrev A : Type 0
A = (a : Added) × AddedQuiet a

abbrev K : Type 0
K = (k : FactorKind) × KindQuiet k

abbrev M : Type 0
M = (m : Multiplied) × MultipliedQuiet m

abbrev E : Type 0
E = (e : Expr) × ExprQuiet e

abbrev F : Type 0
F = (f : Factor) × FactorQuiet f

abbrev T : Type 0
T = (t : Term) × TermQuiet t

added_layer : (y : factors.Added-F A K M E F T)
    → AddedLayer (map-Added A K M E F T Added FactorKind Multiplied Expr Factor Term (λ p. p.0) (λ p. p.0) (λ p. p.0)
    (λ p. p.0) (λ p. p.0) (λ p. p.0) y)
added_layer (factors.Plus t) = t.1
added_layer (factors.Minus t) = t.1

multiplied_layer : (y : factors.Multiplied-F A K M E F T)
    → MultipliedLayer (map-Multiplied A K M E F T Added FactorKind Multiplied Expr Factor Term (λ p. p.0) (λ p. p.0)
    (λ p. p.0) (λ p. p.0) (λ p. p.0) (λ p. p.0) y)
multiplied_layer (factors.Times f) = f.1
multiplied_layer (factors.Over f) = f.1
multiplied_layer (factors.Mod f) = f.1

kind_layer : (y : factors.FactorKind-F A K M E F T)
    → KindLayer (map-FactorKind A K M E F T Added FactorKind Multiplied Expr Factor Term (λ p. p.0) (λ p. p.0)
    (λ p. p.0) (λ p. p.0) (λ p. p.0) (λ p. p.0) y)
kind_layer (factors.Number n) owner = adds_one n.line (note.Counts owner)
kind_layer (factors.Name n) owner = adds_one n.line (note.Reads n.name need.Value owner)
kind_layer (factors.Field n p) owner = quiet_then (add n.line (note.Reads n.name need.Field owner))
    (add p.line (note.Uses p.name need.Temporary)) (adds_one n.line (note.Reads n.name need.Field owner))
    (adds_one p.line (note.Uses p.name need.Temporary))
kind_layer (factors.Reference m) owner = adds_one m.line (note.Refers m.name owner)
kind_layer (factors.Bracket e) owner = e.1 owner

expr_layer : (y : factors.Expr-F A K M E F T) → ExprLayer
    (map-Expr A K M E F T Added FactorKind Multiplied Expr Factor Term (λ p. p.0) (λ p. p.0) (λ p. p.0) (λ p. p.0)
    (λ p. p.0) (λ p. p.0) y)
expr_layer y owner = quiet_then (term_walk y.first.0 owner)
    (each_walk (map added_walk (map (λ (p : A). p.0) y.rest)) owner) (y.first.1 owner)
    (each_quiet added_walk y.rest owner)

term_layer : (y : factors.Term-F A K M E F T) → TermLayer
    (map-Term A K M E F T Added FactorKind Multiplied Expr Factor Term (λ p. p.0) (λ p. p.0) (λ p. p.0) (λ p. p.0)
    (λ p. p.0) (λ p. p.0) y)
term_layer y owner = quiet_then (factor_walk y.first.0 owner)
    (each_walk (map multiplied_walk (map (λ (p : M). p.0) y.rest)) owner) (y.first.1 owner)
    (each_quiet multiplied_walk y.rest owner)

factor_layer : (y : factors.Factor-F A K M E F T)
    → FactorLayer (map-Factor A K M E F T Added FactorKind Multiplied Expr Factor Term (λ p. p.0) (λ p. p.0) (λ p. p.0)
    (λ p. p.0) (λ p. p.0) (λ p. p.0) y)
factor_layer y = y.kind.1

pub expr_quiet : (e : Expr) → QuietOwn (expr_walk e)
unfolding expr_walk term_walk factor_walk factor_kind_walk added_walk multiplied_walk
expr_quiet = ind-Expr AddedQuiet KindQuiet MultipliedQuiet ExprQuiet FactorQuiet TermQuiet
    (λ x y is. subst QuietOwn (sym (fold-roll-Added OwnWalk OwnWalk OwnWalk OwnWalk OwnWalk OwnWalk added_walk_at
    factor_walk_at multiplied_walk_at expr_walk_at one_factor term_walk_at x))
    (subst AddedLayer is (added_layer y)))
    (λ x y is. subst QuietOwn (sym (fold-roll-FactorKind OwnWalk OwnWalk OwnWalk OwnWalk OwnWalk OwnWalk added_walk_at
    factor_walk_at multiplied_walk_at expr_walk_at one_factor term_walk_at x)) (subst KindLayer is (kind_layer y)))
    (λ x y is. subst QuietOwn (sym (fold-roll-Multiplied OwnWalk OwnWalk OwnWalk OwnWalk OwnWalk OwnWalk added_walk_at
    factor_walk_at multiplied_walk_at expr_walk_at one_factor term_walk_at x))
    (subst MultipliedLayer is (multiplied_layer y)))
    (λ x y is. subst QuietOwn (sym (fold-roll-Expr OwnWalk OwnWalk OwnWalk OwnWalk OwnWalk OwnWalk added_walk_at
    factor_walk_at multiplied_walk_at expr_walk_at one_factor term_walk_at x)) (subst ExprLayer is (expr_layer y)))
    (λ x y is. subst QuietOwn (sym (fold-roll-Factor OwnWalk OwnWalk OwnWalk OwnWalk OwnWalk OwnWalk added_walk_at
    factor_walk_at multiplied_walk_at expr_walk_at one_factor term_walk_at x))
    (subst FactorLayer is (factor_layer y)))
    (λ x y is. subst QuietOwn (sym (fold-roll-Term OwnWalk OwnWalk OwnWalk OwnWalk OwnWalk OwnWalk added_walk_at
    factor_walk_at multiplied_walk_at expr_walk_at one_factor term_walk_at x)) (subst TermLayer is (term_layer y)))

relation_quiet : (r : Relation) → QuietOwn (relation_walk r)
relation_quiet r owner = quiet_then (expr_walk r.left owner) (expr_walk r.right owner) (expr_quiet r.left owner) (expr_quiet r.right owner)

conj_quiet : (c : Conj) → QuietOwn (conj_walk c)
conj_quiet c owner = quiet_then (relation_walk c.first owner) (each_walk (map relation_walk c.rest) owner)
    (relation_quiet c.first owner) (all_each_quiet relation_walk relation_quiet c.rest owner)

pub cond_quiet : (c : Cond) → QuietOwn (cond_walk c)
cond_quiet c owner = quiet_then (conj_walk c.first owner) (each_walk (map conj_walk c.rest) owner)
    (conj_quiet c.first owner) (all_each_quiet conj_walk conj_quiet c.rest owner)
