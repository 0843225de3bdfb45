-- What it means that another exchange can take the place of one: each entry and each FORLOPP FILE
-- has its counterpart there. Names alone tell what stands for what, whatever its number is.
use Rattle.std.specs.Prelude.{◌≡◌, ◌≤◌, ◌<◌, ◌⊎◌, ℕ, true, List, Some, slice_get}
use Rattle.exchange_model.specs.declared.block.Block.{Block}
use Rattle.exchange_model.specs.declared.block.File.{File}
use Rattle.exchange_model.specs.declared.entry.Entry.{Entry}
use Rattle.exchange_model.specs.declared.exchange.Exchange.{Exchange}
use Rattle.exchange_model.specs.declared.signal.SignalKind.{SignalKind}
use Rattle.exchange_model.specs.Kept.{signal_count, signal_name}
use Rattle.exchange_model.specs.Names.{signal_level}
use Rattle.block_change.specs.declared.misfit.Misfit.{Misfit}
use Rattle.block_change.specs.declared.misfit.Misfit.TheVariants.{Entry as EntryMisfit}
use Rattle.block_change.specs.declared.misfit.Misfit.TheVariants.{File as FileMisfit}

-- two signals have one name, one level and one number of values
pub record AreAlike (k l : SignalKind) : Type 0 where
  pub name : signal_name l ≡ signal_name k
  pub level : signal_level (Some l) ≡ signal_level (Some k)
  pub count : signal_count l ≡ signal_count k

-- y has an entry of a signal like that of the entry r of x, in the block of the same name
pub record HasEntry (x y : Exchange) (r : Entry) : Type 0 where
  pub signal : SignalKind
  pub signal_there : slice_get x.signals r.signal ≡ Some signal
  pub block : Block
  pub block_there : slice_get x.blocks r.block ≡ Some block
  pub number : ℕ
  pub entry : Entry
  pub there : slice_get y.entries number ≡ Some entry
  pub like : SignalKind
  pub like_there : slice_get y.signals entry.signal ≡ Some like
  pub home : Block
  pub home_there : slice_get y.blocks entry.block ≡ Some home
  pub alike : AreAlike signal like
  pub one_name : home.name ≡ block.name

-- y has a FORLOPP FILE of the name and at least the size of this one, in the block of this name
pub record HasFile (y : Exchange) (block : List ℕ) (f : File) : Type 0 where
  pub number : ℕ
  pub home : Block
  pub home_there : slice_get y.blocks number ≡ Some home
  pub one_name : home.name ≡ block
  pub place : ℕ
  pub file : File
  pub there : slice_get home.files place ≡ Some file
  pub own_name : file.name ≡ f.name
  pub kind : file.forlopp ≡ true
  pub size : f.size ≤ file.size

abbrev pub HasEntries : (x y : Exchange) → Type 0
HasEntries x y = (e : ℕ) (r : Entry) → slice_get x.entries e ≡ Some r → HasEntry x y r

-- each entry and each FORLOPP FILE of x has its counterpart in y
pub record Fits (x y : Exchange) : Type 0 where
  pub entries : HasEntries x y
  pub files : (b j : ℕ) (k : Block) (f : File)
      → slice_get x.blocks b ≡ Some k → slice_get k.files j ≡ Some f → f.forlopp ≡ true
      → HasFile y k.name f

-- this entry of x has no counterpart in y, and each one before it has
pub record IsFirstEntry (x y : Exchange) (e : ℕ) : Type 0 where
  pub entry : Entry
  pub there : slice_get x.entries e ≡ Some entry
  pub lacked : HasEntry x y entry → ⊥
  pub before : (i : ℕ) (r : Entry) → i < e → slice_get x.entries i ≡ Some r → HasEntry x y r

-- each entry of x has its counterpart in y, this FORLOPP FILE has none, and each one before it has,
-- in an earlier block or in its own
pub record IsFirstFile (x y : Exchange) (number : ℕ) : Type 0 where
  pub entries : HasEntries x y
  pub block : ℕ
  pub owner : Block
  pub owner_there : slice_get x.blocks block ≡ Some owner
  pub place : ℕ
  pub file : File
  pub there : slice_get owner.files place ≡ Some file
  pub number_is : file.number ≡ number
  pub kind : file.forlopp ≡ true
  pub lacked : HasFile y owner.name file → ⊥
  pub before : (b j : ℕ) (k : Block) (f : File)
      → (b < block) ⊎ ((b ≡ block) × (j < place))
      → slice_get x.blocks b ≡ Some k → slice_get k.files j ≡ Some f → f.forlopp ≡ true
      → HasFile y k.name f

-- this is the first thing of x that has no counterpart in y
abbrev pub IsFirstMisfit : (x y : Exchange) → Misfit → Type 0
IsFirstMisfit x y (EntryMisfit e) = IsFirstEntry x y e
IsFirstMisfit x y (FileMisfit f) = IsFirstFile x y f
