-- An exchange and its code, and what is known of a statement where it stands.
use Rattle.std.proofs.Common.{◌≡◌, ℕ, suc, ◌+◌, ◌≤◌, List, [], ◌∷◌, map, Some, arith}
use Rattle.std.specs.Prelude.{slice_get}
use Rattle.std.specs.List.{AllByRecursion}
use Rattle.machine_code.specs.declared.op.Op.{Op}
use Rattle.exchange_model.specs.declared.exchange.Exchange.{Exchange}
use Rattle.exchange_model.specs.declared.block.Block.{Block}
use Rattle.exchange_model.specs.declared.expr.Expr.{Expr}
use Rattle.exchange_model.specs.declared.expr.Cond.{Cond}
use Rattle.exchange_model.specs.declared.stmt.Stmt.{Stmt}
use Rattle.exchange_model.specs.declared.stmt.When.{When, out-When}
use Rattle.exchange_model.specs.declared.stmt.StmtKind.{StmtKind, StmtKind-F, out-StmtKind}
use Rattle.exchange_model.specs.declared.stmt.StmtKind.TheOpen.{If, Case, On}
use Rattle.exchange_model.specs.Inside.{most}
use Rattle.exchange_model.specs.PartCounts.{when_depth}
use Rattle.exchange_model.proofs.Counted.{kind_depth-out}
use Rattle.exchange_model.specs.PartFits.{StmtsFit}
use Rattle.exchange_model.proofs.Layers.{stmt_fits-out, stmt_fits-parts}
use Rattle.exchange_model.specs.Kept.{scope_of}
use Rattle.stmt_code.specs.StmtCode.{Places, codes, stmt_code}
use Rattle.stmt_code.specs.Whole.{Table, places_of}
use Rattle.stmt_code.specs.Within.{ListIn, LayerIn, ChoicesIn}
use Rattle.expr_code.specs.Sites.{IsLimited}

-- an exchange, the code, and the addresses that the code was made with
pub record Setting : Type 0 where
  pub exchange : Exchange
  pub code : List Op
  pub table : Table

abbrev pub places : Setting → ℕ → Places
places g b = places_of g.exchange g.table b

-- the code of statements of a block
abbrev pub list_code : Setting → ℕ → List Stmt → ℕ → ℕ → List Op
list_code g b ss d a = codes (map stmt_code ss) (places g b) d a

-- the first statement, and the others
pub first_in : {x : Exchange} {b d : ℕ} (s : Stmt) (ss : List Stmt) → ListIn x b d (s ∷ ss) → LayerIn x b d (out-StmtKind s.kind)
first_in {x = x} {b = b} {d = d} s ss h = record {
  block = h.block;
  there = h.there;
  limited = h.limited;
  fits = stmt_fits-out (scope_of x b h.block) s.kind h.fits.0;
  parts = stmt_fits-parts (scope_of x b h.block) s.kind h.fits.0;
  shallow = omega (arith, h.shallow, kind_depth-out s.kind);
}

pub others_in : {x : Exchange} {b d : ℕ} (s : Stmt) (ss : List Stmt) → ListIn x b d (s ∷ ss) → ListIn x b d ss
others_in s ss h = record { block = h.block; there = h.there; limited = h.limited; fits = h.fits.1; shallow = omega (arith, h.shallow) }

-- no more than twelve loops are open
pub few_loops : {x : Exchange} {b d : ℕ} {l : StmtKind-F StmtKind Stmt When} → LayerIn x b d l → d ≤ 12
few_loops h = omega (arith, h.shallow)

-- the lists in a statement
pub yes_in : {x : Exchange} {b d : ℕ} {c : Cond} {ss rs : List Stmt} → LayerIn x b d (If c ss rs) → ListIn x b d ss
yes_in h = record { block = h.block; there = h.there; limited = h.limited; fits = h.parts.0; shallow = omega (arith, h.shallow) }

pub no_in : {x : Exchange} {b d : ℕ} {c : Cond} {ss rs : List Stmt} → LayerIn x b d (If c ss rs) → ListIn x b d rs
no_in h = record { block = h.block; there = h.there; limited = h.limited; fits = h.parts.1; shallow = omega (arith, h.shallow) }

pub body_in : {x : Exchange} {b d t : ℕ} {from upto : Expr} {ss : List Stmt} → LayerIn x b d (On t from upto ss) → ListIn x b (suc d) ss
body_in h = record { block = h.block; there = h.there; limited = h.limited; fits = h.parts; shallow = omega (arith, h.shallow) }

pub otherwise_in : {x : Exchange} {b d : ℕ} {e : Expr} {whens : List When} {ss : List Stmt} → LayerIn x b d (Case e whens ss) → ListIn x b d ss
otherwise_in h = record { block = h.block; there = h.there; limited = h.limited; fits = h.parts.1; shallow = omega (arith, h.shallow) }

choices_shallow : (x : Exchange) (b d : ℕ) (k : Block) (whens : List When) → slice_get x.blocks b ≡ Some k
    → IsLimited (scope_of x b k) → AllByRecursion (λ w. StmtsFit (scope_of x b k) (out-When w).body) whens
    → most (map when_depth whens) + d ≤ 12 → ChoicesIn x b d whens
choices_shallow x b d k [] there few fits le = tt
choices_shallow x b d k (w ∷ ws) there few fits le = (
  record { block = k; there = there; limited = few; fits = fits.0; shallow = omega (arith, le) },
  choices_shallow x b
      d k ws there few fits.1 (omega (arith, le)),
)

pub choices_in : {x : Exchange} {b d : ℕ} {e : Expr} {whens : List When} {ss : List Stmt} → LayerIn x b d (Case e whens ss) → ChoicesIn x b d whens
choices_in {x = x} {b = b} {d = d} {whens = whens} h = choices_shallow x b d h.block whens h.there h.limited h.parts.0 (omega (arith, h.shallow))
