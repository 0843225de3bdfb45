-- Whether another exchange fits: it has each entry of this one, with its level and number of
-- values, and each FORLOPP FILE, with at least its size.
use Rattle.std.specs.Prelude.{ℕ, nat_eq, nat_le, Bool, false, not, ◌&&◌, List, [], ◌∷◌, Option}
use Rattle.std.specs.Prelude.{Some, None, position, slice_get}
use Rattle.std.specs.List.{find}
use Rattle.std.specs.Option.{option_and_then, option_map_or, option_or}
use Rattle.plex_num.specs.declared.level.Level.{Level}
use Rattle.plex_num.specs.declared.level.Level.TheVariants.{A, B, C, D}
use Rattle.exchange_model.specs.declared.block.Block.{Block}
use Rattle.exchange_model.specs.declared.block.File.{File}
use Rattle.exchange_model.specs.declared.entry.Entry.{Entry}
use Rattle.exchange_model.specs.declared.exchange.Exchange.{Exchange}
use Rattle.exchange_model.specs.declared.signal.SignalKind.{SignalKind}
use Rattle.exchange_model.specs.Kept.{signal_count}
use Rattle.exchange_model.specs.Names.{signal_level}
use Rattle.block_change.specs.declared.misfit.Misfit.{Misfit}
use Rattle.block_change.specs.declared.misfit.Misfit.TheVariants.{Entry as EntryMisfit}
use Rattle.block_change.specs.declared.misfit.Misfit.TheVariants.{File as FileMisfit}
use Rattle.block_change.specs.Same.{file_named, same_entry}

-- levels by number
abbrev pub rank : Level → ℕ
rank A = 0
rank B = 1
rank C = 2
rank D = 3

-- two signals have one level and one number of values
abbrev pub agree : Option SignalKind → Option SignalKind → Bool
agree k l = nat_eq (rank (signal_level k)) (rank (signal_level l))
    && nat_eq (option_map_or signal_count k 0) (option_map_or signal_count l 0)

-- the signal of the entry of this number
abbrev pub entry_signal : Exchange → ℕ → Option SignalKind
entry_signal y e = option_and_then (λ (r : Entry). slice_get y.signals r.signal)
    (slice_get y.entries e)

-- y has the entry of the same names, with one level and one number of values
abbrev pub has_entry : (x y : Exchange) → Entry → Bool
has_entry x y r = option_map_or (λ e. agree (slice_get x.signals r.signal) (entry_signal y e))
    (same_entry x y r) false

-- this is a FORLOPP FILE of at least the other's size
abbrev pub takes : Option File → File → Bool
takes None f = false
takes (Some g) f = g.forlopp && nat_le f.size g.size

-- a FORLOPP FILE of a block that y has not
abbrev pub lacks : Exchange → List ℕ → File → Bool
lacks y block f = f.forlopp && not (takes (file_named y.blocks block f.name) f)

-- the first of a block
abbrev pub lacking : Exchange → Block → Option File
lacking y k = find (lacks y k.name) k.files

-- the first of these blocks
unfoldable pub first_lacking : Exchange → List Block → Option File
first_lacking y [] = None
first_lacking y (k ∷ rest) = option_or (lacking y k) (first_lacking y rest)

-- the first that does not fit: an entry, or else a file
abbrev pub first_misfit : Option ℕ → Option File → Option Misfit
first_misfit (Some e) file = Some (EntryMisfit e)
first_misfit None (Some f) = Some (FileMisfit f.number)
first_misfit None None = None

-- the first thing of x for which y has none; nothing exactly where y fits
abbrev pub misfit : (x y : Exchange) → Option Misfit
misfit x y = first_misfit (position (λ r. not (has_entry x y r)) x.entries)
    (first_lacking y x.blocks)
