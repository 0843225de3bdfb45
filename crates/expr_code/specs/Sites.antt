-- What code needs of the place where it stands, and whose expressions it may be.
--
-- A layout tells where the words of a block and of the files stand, and not which exchange it was
-- made of. So code is said for each site that the layout can be of.
use Rattle.std.specs.Prelude.{◌≡◌, ℕ, ◌+◌, ◌^◌, ◌<◌, ◌≤◌, List, ◌++◌, length, map, slice_get, Some}
use Rattle.machine_code.specs.declared.op.Op.{Op}
use Rattle.exchange_model.specs.declared.expr.Expr.{Expr}
use Rattle.exchange_model.specs.declared.expr.Term.{Term}
use Rattle.exchange_model.specs.declared.expr.Factor.{Factor}
use Rattle.exchange_model.specs.declared.expr.Cond.{Cond}
use Rattle.exchange_model.specs.declared.expr.Relation.{Relation}
use Rattle.plex_limits.specs.declared.limits.TheConstants.{MOST_BLOCKS, MOST_BRACKETS}
use Rattle.plex_limits.specs.declared.limits.TheConstants.{MOST_TEMPORARIES}
use Rattle.std.specs.List.{AllByRecursion}
use Rattle.exchange_model.specs.Cells.{Placed, placed_files, record_cells}
use Rattle.exchange_model.specs.Inside.{bracket_depth, relation_exprs, cond_exprs}
use Rattle.exchange_model.specs.Fits.{Scope, ExprFits, ExprsFit}
use Rattle.exchange_model.specs.PartFits.{TermFits, FactorOwnFits}
use Rattle.store_layout.specs.declared.row.BlockRow.{BlockRow}
use Rattle.store_layout.specs.declared.row.FileRow.{FileRow}
use Rattle.store_layout.specs.Laid.{IsLayout, file_row}
use Rattle.store_layout.specs.Rows.{Rows}
use Rattle.expr_code.specs.Code.{Site}

-- the cells of a file's first record, and how many records it has, are numbers of 32 bits
pub record IsPlacedFile (p : Placed) : Type 0 where
  pub cells : p.first + record_cells p.file < 2 ^ 32
  pub size : p.file.size < 2 ^ 32

-- the block keeps the limit of temporaries, and its exchange that of blocks
pub record IsLimited (scope : Scope) : Type 0 where
  pub temporaries : length scope.block.temporaries ≤ MOST_TEMPORARIES
  pub blocks : length scope.blocks ≤ MOST_BLOCKS

-- the site is that of the block: its words are numbers of 32 bits, and so are the numbers of files
pub record IsSite (scope : Scope) (site : Site) : Type 0 where
  pub files : site.files ≡ scope.files
  pub variables : site.first + length scope.block.variables < 2 ^ 32
  pub limited : IsLimited scope
  pub few : length site.files ≤ 2 ^ 32
  pub each : (i : ℕ) (p : Placed) → slice_get site.files i ≡ Some p → IsPlacedFile p

-- the site is that of the block in the layout
pub record IsSiteOf (l : Rows) (block : ℕ) (site : Site) : Type 0 where
  pub row : BlockRow
  pub there : slice_get l.blocks block ≡ Some row
  pub first : site.first ≡ row.first
  pub files : map file_row site.files ≡ l.files

-- the new list begins with the old one
pub record Begins (old new : List Op) : Type 0 where
  pub rest : List Op
  pub is : new ≡ old ++ rest

-- the list grows by the code for the site of the block
pub record GrowsByCode (l : Rows) (block : ℕ) (old new : List Op) (code : Site → List Op) : Type
    0 where
  pub begins : Begins old new
  pub is : (site : Site) → IsSiteOf l block site → new ≡ old ++ code site

-- the list grows by the code for a file with this row
pub record GrowsByRow (row : FileRow) (old new : List Op) (code : Placed → List Op) : Type 0 where
  pub begins : Begins old new
  pub is : (p : Placed) → file_row p ≡ row → new ≡ old ++ code p

-- the scope is that of the block of this number in an exchange with the layout, in which each file
-- has a record
pub record IsScopeOf (l : Rows) (block : ℕ) (scope : Scope) : Type 0 where
  pub layout : IsLayout scope.blocks l
  pub there : slice_get scope.blocks block ≡ Some scope.block
  pub files : scope.files ≡ placed_files scope.blocks
  pub filled : (n : ℕ) (p : Placed) → slice_get scope.files n ≡ Some p → 1 ≤ p.file.size

-- an expression of the block in the layout's exchange
pub record IsExprOfBlock (l : Rows) (block : ℕ) (e : Expr) : Type 0 where
  pub scope : Scope
  pub is_scope : IsScopeOf l block scope
  pub fits : ExprFits scope e

-- a term, and a factor, of that block
pub record IsTermOf (l : Rows) (block : ℕ) (t : Term) : Type 0 where
  pub scope : Scope
  pub is_scope : IsScopeOf l block scope
  pub fits : TermFits scope t

pub record IsFactorOf (l : Rows) (block : ℕ) (f : Factor) : Type 0 where
  pub scope : Scope
  pub is_scope : IsScopeOf l block scope
  pub fits : FactorOwnFits scope f

-- a condition of the block
pub record IsCondOf (l : Rows) (block : ℕ) (c : Cond) : Type 0 where
  pub scope : Scope
  pub is_scope : IsScopeOf l block scope
  pub fits : ExprsFit scope (cond_exprs c)

-- an expression that both sides of a relation may be
pub record IsSide (scope : Scope) (e : Expr) : Type 0 where
  pub fits : ExprFits scope e
  pub shallow : bracket_depth e ≤ MOST_BRACKETS

-- a relation, and a list of relations, of that block
pub record IsRelationOf (l : Rows) (block : ℕ) (r : Relation) : Type 0 where
  pub scope : Scope
  pub is_scope : IsScopeOf l block scope
  pub left : IsSide scope r.left
  pub right : IsSide scope r.right

pub record AreRelationsOf (l : Rows) (block : ℕ) (rs : List Relation) : Type 0 where
  pub scope : Scope
  pub is_scope : IsScopeOf l block scope
  pub sides : AllByRecursion (IsSide scope) (relation_exprs rs)
