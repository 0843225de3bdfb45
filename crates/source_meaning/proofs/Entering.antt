-- The ENTER of a signal in a block, as an index of the block finds it.
use Rattle.std.proofs.Common.{◌≡◌, ℕ, Bool, true, false, List, [], ◌∷◌, Some, None, slice_get}
use Rattle.std.proofs.Common.{nat_eq, ◌||◌, Option, is_some, unwrap_or, refl, if◌then◌else◌}
use Rattle.std.specs.List.{find, list_any}
use Rattle.std.specs.Option.{option_map, option_map_or}
use Rattle.exchange_model.specs.declared.exchange.Exchange.{Exchange}
use Rattle.exchange_model.specs.declared.block.Block.{Block}
use Rattle.exchange_model.specs.declared.block.Enter.{Enter as Row}
use Rattle.exchange_model.specs.Index.{place_in, rows_of, enter_of}
use Rattle.source_meaning.specs.Config.{row_place, enter_place, is_receiver}

abbrev of_signal : ℕ → Row → Bool
of_signal signal r = nat_eq r.signal signal

pub row_place_is : (rows : List Row) (signal : ℕ) → unwrap_or (place_in rows signal) 0 ≡ row_place rows signal
row_place_is [] signal = refl
row_place_is (r ∷ rows) signal = by_test (of_signal signal r) (row_place_is rows signal)
  where
    by_test : (t : Bool) → unwrap_or (place_in rows signal) 0 ≡ row_place rows signal
        → unwrap_or (option_map (λ (r : Row). r.place) (if t then Some r else find (of_signal signal) rows)) 0
        ≡ (if t then r.place else row_place rows signal)
    by_test true h = refl
    by_test false h = h

in_block : (o : Option Block) (signal : ℕ) → unwrap_or (place_in (rows_of o) signal) 0 ≡ option_map_or (λ (k : Block). row_place k.enters signal) o 0
in_block None signal = refl
in_block (Some k) signal = row_place_is k.enters signal

pub enter_found : (x : Exchange) (b signal : ℕ) → unwrap_or (enter_of x.blocks b signal) 0 ≡ enter_place x b signal
enter_found x b signal = in_block (slice_get x.blocks b) signal

some_row : (rows : List Row) (signal : ℕ) → is_some (place_in rows signal) ≡ list_any (of_signal signal) rows
some_row [] signal = refl
some_row (r ∷ rows) signal = by_test (of_signal signal r) (some_row rows signal)
  where
    by_test : (t : Bool) → is_some (place_in rows signal) ≡ list_any (of_signal signal) rows
        → is_some (option_map (λ (r : Row). r.place) (if t then Some r else find (of_signal signal) rows))
        ≡ (t || list_any (of_signal signal) rows)
    by_test true h = refl
    by_test false h = h

received_in : (o : Option Block) (signal : ℕ) → is_some (place_in (rows_of o) signal) ≡ option_map_or (is_receiver signal) o false
received_in None signal = refl
received_in (Some k) signal = some_row k.enters signal

pub receives_is : (x : Exchange) (b signal : ℕ) → is_some (enter_of x.blocks b signal) ≡ option_map_or (is_receiver signal) (slice_get x.blocks b) false
receives_is x b signal = received_in (slice_get x.blocks b) signal
