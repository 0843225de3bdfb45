-- The points of statements, told by their outermost layer.
use Rattle.std.proofs.Common.{◌≡◌, ℕ, ◌+◌, ◌<◌, ◌≤◌, List, [], ◌∷◌, ◌++◌, length, map, drop, get_or}
use Rattle.std.proofs.Common.{refl, sym, ◌∙◌, ap}
use Rattle.std.specs.List.{flat_map}
use Rattle.std.proofs.Math.ListN.{drop_of_length-le}
use Rattle.std.proofs.lemmas.List.{append_assoc, append-nil, map-append}
use Rattle.plex_num.proofs.Lists.{opens}
use Rattle.exchange_model.specs.declared.block.Block.{Block}
use Rattle.exchange_model.specs.declared.entry.PointInfo.{PointInfo}
use Rattle.exchange_model.specs.declared.expr.Cond.{Cond}
use Rattle.exchange_model.specs.declared.expr.Expr.{Expr}
use Rattle.exchange_model.specs.declared.stmt.Stmt.{Stmt}
use Rattle.exchange_model.specs.declared.stmt.When.{When, out-When}
use Rattle.exchange_model.specs.declared.stmt.StmtKind.{StmtKind, StmtKind-F, out-StmtKind}
use Rattle.exchange_model.specs.declared.stmt.StmtKind.TheOpen as layer
use Rattle.exchange_model.specs.declared.stmt.StmtKind.TheVariants as kind
use Rattle.exchange_model.specs.Inside.{joined, spots}
use Rattle.exchange_model.specs.Kept.{points_from}
use Rattle.exchange_model.specs.PartCounts.{stmt_spots, when_spots, parts_spots}
use Rattle.exchange_model.proofs.Counted.{inner_spots-out}
use Rattle.front_end.specs.Points.{point_of, stmt_points, kind_points, when_points, body_points}
use Rattle.exchange_model.proofs.Layers.{same_kind}

-- lists that are joined first, or of which each is mapped first
joined_is : {X A C : Type 0} (g : A → C) (f : X → List A) (xs : List X) → map g (joined (map f xs)) ≡ flat_map (λ x. map g (f x)) xs
joined_is g f [] = refl
joined_is g f (x ∷ xs) = map-append g (f x) (joined (map f xs)) ∙ ap (λ l. map g (f x) ++ l) (joined_is g f xs)

body_is : (b : ℕ) (stmts : List Stmt) → map (point_of b) (spots stmts) ≡ body_points b stmts
body_is b stmts = joined_is (point_of b) stmt_spots stmts

whens_are : (b : ℕ) (whens : List When) → map (point_of b) (joined (map when_spots whens)) ≡ flat_map (when_points b) whens
whens_are b whens = joined_is (point_of b) when_spots whens

-- what a statement of this layer has in it
abbrev pub parts_points : ℕ → StmtKind-F StmtKind Stmt When → List PointInfo
parts_points b (layer.If c ys ns) = body_points b ys ++ body_points b ns
parts_points b (layer.Case e ws os) = flat_map (when_points b) ws ++ body_points b os
parts_points b (layer.On t e f body) = body_points b body
parts_points b _ = []

parts_are : (b : ℕ) (l : StmtKind-F StmtKind Stmt When) → map (point_of b) (parts_spots l) ≡ parts_points b l
parts_are b (layer.If c ys ns) = map-append (point_of b) (spots ys) (spots ns)
    ∙ ap (λ l. l ++ map (point_of b) (spots ns)) (body_is b ys) ∙ ap (λ l. body_points b ys ++ l) (body_is b ns)
parts_are b (layer.Case e ws os) = map-append (point_of b) (joined (map when_spots ws)) (spots os)
    ∙ ap (λ l. l ++ map (point_of b) (spots os)) (whens_are b ws)
    ∙ ap (λ l. flat_map (when_points b) ws ++ l) (body_is b os)
parts_are b (layer.On t e f body) = body_is b body
parts_are b _ = refl

pub kind_added : (b : ℕ) (k : StmtKind) (l : StmtKind-F StmtKind Stmt When) (old new : List PointInfo)
    → out-StmtKind k ≡ l → new ≡ old ++ parts_points b l → new ≡ old ++ kind_points b k
kind_added b k l old new is h = h ∙ ap (λ m. old ++ m)
    (ap (parts_points b) (sym is) ∙ sym (ap (map (point_of b)) (inner_spots-out k) ∙ parts_are b (out-StmtKind k)))

pub two_added : (old mid new xs ys : List PointInfo) → mid ≡ old ++ xs → new ≡ mid ++ ys → new ≡ old ++ (xs ++ ys)
two_added old mid new xs ys a e = e ∙ ap (λ l. l ++ ys) a ∙ append_assoc old xs ys

pub stmt_added : (b : ℕ) (s : Stmt) (old mid new : List PointInfo)
    → mid ≡ old ++ record { block = b; line = s.line } ∷ [] → new ≡ mid ++ kind_points b s.kind
    → new ≡ old ++ stmt_points b s
stmt_added b s old mid new a e = two_added old mid new (record { block = b; line = s.line } ∷ []) (kind_points b s.kind) a e

pub when_added : (b : ℕ) (w : When) (old new : List PointInfo) → new ≡ old ++ body_points b (out-When w).body → new ≡ old ++ when_points b w
when_added b w old new h = h ∙ ap (λ l. old ++ l) (sym (body_is b (out-When w).body))

-- a statement with no statements in it
pub none_added : (b : ℕ) (k : StmtKind) (old : List PointInfo) →
    ((c : Cond) (ys ns : List Stmt) → k ≡ kind.If c ys ns → ⊥) →
    ((e : Expr) (ws : List When) (os : List Stmt) → k ≡ kind.Case e ws os → ⊥) →
    ((t : ℕ) (e f : Expr) (body : List Stmt) → k ≡ kind.On t e f body → ⊥) → old ≡ old ++ kind_points b k
none_added b k old no_if no_case no_on = kind_added b k (out-StmtKind k) old old refl
    (sym (append-nil old) ∙ ap (λ l. old ++ l) (sym (alone (out-StmtKind k) refl)))
  where
    alone : (l : StmtKind-F StmtKind Stmt When) → out-StmtKind k ≡ l → parts_points b l ≡ []
    alone (layer.If c ys ns) is = absurd (no_if c ys ns (same_kind k (kind.If c ys ns) _ is (kind.outs-If c ys ns)))
    alone (layer.Case e ws os) is = absurd (no_case e ws os (same_kind k (kind.Case e ws os) _ is (kind.outs-Case e ws os)))
    alone (layer.On t e f body) is = absurd (no_on t e f body (same_kind k (kind.On t e f body) _ is (kind.outs-On t e f body)))
    alone _ is = refl

-- the points so far, and those of the blocks that are left, are all
pub record Pointed (blocks : List Block) (i : ℕ) (list : List PointInfo) : Type 0 where
  pub all : list ++ points_from i (drop i blocks) ≡ points_from 0 blocks

pub points_begin : (blocks : List Block) (list : List PointInfo) → list ≡ [] → Pointed blocks 0 list
points_begin blocks list none = record { all = ap (λ l. l ++ points_from 0 blocks) none }

pub points_step : (blocks : List Block) (i : ℕ) (k : Block) (list new : List PointInfo) → i < length blocks
    → k ≡ get_or blocks i k → new ≡ list ++ body_points i k.body → Pointed blocks i list → Pointed blocks (i + 1) new
unfolding points_from
points_step blocks i k list new inside is h g = record {
  all = ap (λ l. l ++ points_from (i + 1) (drop (i + 1) blocks)) h ∙ append_assoc list (body_points i k.body) (points_from (i + 1) (drop (i + 1) blocks))
      ∙ ap (λ l. list ++ (l ++ points_from (i + 1) (drop (i + 1) blocks))) (sym (body_is i k.body))
      ∙ ap (λ l. list ++ points_from i l) (sym (opens blocks i k inside is)) ∙ g.all;
}

pub points_end : (blocks : List Block) (i : ℕ) (list : List PointInfo) → length blocks ≤ i → Pointed blocks i list → list ≡ points_from 0 blocks
unfolding points_from
points_end blocks i list past g = sym (append-nil list) ∙ ap (λ l. list ++ points_from i l) (sym (drop_of_length-le blocks past)) ∙ g.all
