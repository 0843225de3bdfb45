-- A typed block in its exchange, and what it keeps of itself.
use Rattle.std.specs.Prelude.{◌≡◌, ℕ, ◌+◌, ◌≤◌, List, length, Some, None, nat_eq, slice_get}
use Rattle.std.specs.Str.{bytes_eq}
use Rattle.std.specs.List.{AllByRecursion, IsDistinct}
use Rattle.plex_limits.specs.declared.limits.TheConstants.{MOST_TEMPORARIES, MOST_NESTED}
use Rattle.exchange_model.specs.declared.signal.SignalKind.{SignalKind}
use Rattle.exchange_model.specs.declared.block.Block.{Block}
use Rattle.exchange_model.specs.declared.block.File.{File}
use Rattle.exchange_model.specs.Fits.{Scope, ArePaired}
use Rattle.exchange_model.specs.Inside.{text_depth}
use Rattle.exchange_model.specs.Kept.{VariableFits, FileFits, CanBeSent, IsText, IsLabelAt}
use Rattle.exchange_model.specs.Kept.{block_names}
use Rattle.exchange_model.specs.Everywhere.{AllIn}
use Rattle.text_soundness.specs.Shares.{NamesStand, PartsStand}

-- a file of the block stands in the exchange, from the number of the block's first file on
pub record IsFileOf (s : Scope) (file : ℕ) (f : File) : Type 0 where
  pub first : ℕ
  pub there : slice_get s.files file ≡ Some (record { block = s.number; file = f; first = first })

-- a block in its exchange
pub record IsPlaced (s : Scope) (first_file : ℕ) : Type 0 where
  pub files : (i : ℕ) (f : File) → slice_get s.block.files i ≡ Some f
      → IsFileOf s (first_file + i) f

-- its declarations and its survey
pub record IsDeclared (signals : List SignalKind) (k : Block) : Type 0 where
  pub names : IsDistinct bytes_eq (block_names k)
  pub variables : AllByRecursion VariableFits k.variables
  pub temporaries : length k.temporaries ≤ MOST_TEMPORARIES
  pub files : AllByRecursion FileFits k.files
  pub sends : AllByRecursion (λ signal. CanBeSent (slice_get signals signal)) k.sends
  pub sends_once : IsDistinct nat_eq k.sends

-- how its statements stand
pub record IsBuilt (s : Scope) : Type 0 where
  pub text : IsText s.block.body
  pub parts : AllIn (PartsStand s) s.block.body
  pub paired : ArePaired s.signals None s.block.body
  pub shallow : text_depth s.block.body ≤ MOST_NESTED
  pub labels : AllByRecursion (IsLabelAt s.block.body) s.block.labels

-- what its names stand for
abbrev pub IsNamed : Scope → Type 0
IsNamed s = AllIn (NamesStand s) s.block.body
