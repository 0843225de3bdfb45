-- How texts name what has a number in an exchange, and the level at which the jobs of an entry
-- wait. What an exchange does not have is named by no bytes, so that no name asks anything of a
-- number.
use Rattle.std.specs.Prelude.{ℕ, List, [], ◌++◌, codes, map, Option, Some, slice_get}
use Rattle.std.specs.Option.{option_map_or}
use Rattle.plex_num.specs.declared.level.Level.{Level}
use Rattle.plex_num.specs.declared.level.Level.TheVariants.{B}
use Rattle.exchange_model.specs.declared.block.Block.{Block}
use Rattle.exchange_model.specs.declared.entry.Entry.{Entry}
use Rattle.exchange_model.specs.declared.exchange.Exchange.{Exchange}
use Rattle.exchange_model.specs.declared.signal.SignalKind.{SignalKind}
use Rattle.exchange_model.specs.declared.signal.SignalKind.TheVariants.{Buffered}
use Rattle.exchange_model.specs.Kept.{signal_name}
use Rattle.exchange_model.specs.Parts.{Parts}

-- all names, in the order of the numbers
abbrev pub names_of_signals : List SignalKind → List (List ℕ)
names_of_signals signals = map signal_name signals

abbrev pub names_of_blocks : List Block → List (List ℕ)
names_of_blocks blocks = map (λ (k : Block). k.name) blocks

-- the name of the signal of this number
abbrev pub name_of_signal : List SignalKind → ℕ → List ℕ
name_of_signal signals n = option_map_or signal_name (slice_get signals n) []

-- the name of the block of this number
abbrev pub name_of_block : List Block → ℕ → List ℕ
name_of_block blocks n = option_map_or (λ (b : Block). b.name) (slice_get blocks n) []

-- `SIGNAL BLOCK` of an entry
abbrev pub entry_words : Exchange → Entry → List ℕ
entry_words x e = name_of_signal x.signals e.signal ++ codes " " ++ name_of_block x.blocks e.block

-- the same of the entry of this number
abbrev pub name_of_entry : Exchange → ℕ → List ℕ
name_of_entry x n = option_map_or (entry_words x) (slice_get x.entries n) []

-- the level of a signal, and of an entry's
abbrev pub signal_level : Option SignalKind → Level
signal_level (Some (Buffered name level count)) = level
signal_level _ = B

abbrev pub level_of : Parts → ℕ → Level
level_of x entry = option_map_or (λ (e : Entry). signal_level (slice_get x.signals e.signal))
    (slice_get x.entries entry) B
