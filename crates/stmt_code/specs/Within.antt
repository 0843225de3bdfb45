-- Statements of a block, and one statement of it, where they stand.
use Rattle.std.specs.Prelude.{◌≡◌, ℕ, ◌+◌, ◌≤◌, List, slice_get, Some}
use Rattle.std.specs.List.{AllByRecursion}
use Rattle.plex_limits.specs.declared.limits.TheConstants.{MOST_NESTED}
use Rattle.exchange_model.specs.declared.exchange.Exchange.{Exchange}
use Rattle.exchange_model.specs.declared.block.Block.{Block}
use Rattle.exchange_model.specs.declared.stmt.Stmt.{Stmt}
use Rattle.exchange_model.specs.declared.stmt.When.{When, out-When}
use Rattle.exchange_model.specs.declared.stmt.StmtKind.{StmtKind, StmtKind-F}
use Rattle.exchange_model.specs.Inside.{text_depth}
use Rattle.exchange_model.specs.PartCounts.{parts_depth}
use Rattle.exchange_model.specs.Fits.{LayerFits}
use Rattle.exchange_model.specs.PartFits.{StmtsFit, PartsFit}
use Rattle.exchange_model.specs.Kept.{scope_of}
use Rattle.expr_code.specs.Sites.{IsLimited}

-- statements of a block, with d loops around them
pub record ListIn (x : Exchange) (b d : ℕ) (ss : List Stmt) : Type 0 where
  pub block : Block
  pub there : slice_get x.blocks b ≡ Some block
  pub limited : IsLimited (scope_of x b block)
  pub fits : StmtsFit (scope_of x b block) ss
  pub shallow : text_depth ss + d ≤ MOST_NESTED

-- one statement of a block, with d loops around it
pub record LayerIn (x : Exchange) (b d : ℕ) (l : StmtKind-F StmtKind Stmt When) : Type 0 where
  pub block : Block
  pub there : slice_get x.blocks b ≡ Some block
  pub limited : IsLimited (scope_of x b block)
  pub fits : LayerFits (scope_of x b block) l
  pub parts : PartsFit (scope_of x b block) l
  pub shallow : parts_depth l + d ≤ MOST_NESTED

-- choices of a block, with d loops around them
abbrev pub ChoicesIn : Exchange → ℕ → ℕ → List When → Type 0
ChoicesIn x b d whens = AllByRecursion (λ (w : When). ListIn x b d (out-When w).body) whens
