-- Signals by their names.
use Rattle.std.proofs.Common.{◌≡◌, ℕ, ◌≤◌, List, position, length, slice_get, Option, Some, None}
use Rattle.std.proofs.Common.{refl, ap, subst, arith}
use Rattle.std.specs.List.{AllByRecursion}
use Rattle.std.proofs.lemmas.List.{length-map}
use Rattle.std.specs.Str.{bytes_eq}
use Rattle.plex_limits.specs.declared.limits.TheConstants.{MOST_VALUES}
use Rattle.plex_num.proofs.Lists.{all_at}
use Rattle.exchange_model.specs.declared.block.Block.{Block}
use Rattle.exchange_model.specs.declared.exchange.Exchange.{Exchange}
use Rattle.exchange_model.specs.declared.signal.SignalKind.{SignalKind}
use Rattle.exchange_model.specs.declared.signal.SignalKind.TheVariants.{Answer, Buffered, Combined}
use Rattle.exchange_model.specs.declared.signal.SignalKind.TheVariants.{Direct, Outside}
use Rattle.exchange_model.specs.Kept.{IsExchange, signal_count, signal_name}
use Rattle.signal_file.specs.declared.directory.Signal.{Signal}
use Rattle.signal_file.specs.Form.{with}
use Rattle.signal_file.specs.Rules.{IsDirectory, if_buffered}
use Rattle.exchange_model.specs.Names.{names_of_blocks, names_of_signals}

few_values : (xs : List SignalKind) (number : ℕ) (found : Option SignalKind) (signal : Signal)
    → AllByRecursion (λ s. signal_count s ≤ MOST_VALUES) xs → slice_get xs number ≡ found
    → if_buffered number found ≡ Some signal → signal.count ≤ MOST_VALUES
few_values xs number None signal few at is = cc
few_values xs number (Some (Buffered name level count)) signal few at is =
    subst (λ (n : ℕ). n ≤ MOST_VALUES) (ap (λ (o : Option Signal). count_in o) is)
    (all_at (λ s. signal_count s ≤ MOST_VALUES) xs number (Buffered name level count) few at)
  where
    count_in : Option Signal → ℕ
    count_in None = 0
    count_in (Some s) = s.count
few_values xs number (Some (Direct name count)) signal few at is = cc
few_values xs number (Some (Combined name count answer)) signal few at is = cc
few_values xs number (Some (Answer name count combined)) signal few at is = cc
few_values xs number (Some (Outside name count)) signal few at is = cc

few_of : (xs : List SignalKind) (place : Option ℕ) (signal : Signal)
    → AllByRecursion (λ s. signal_count s ≤ MOST_VALUES) xs
    → with place (λ number. if_buffered number (slice_get xs number)) ≡ Some signal → signal.count ≤ MOST_VALUES
few_of xs None signal few is = cc
few_of xs (Some number) signal few is = few_values xs number (slice_get xs number) signal few refl is

pub directory : (x : Exchange) (signal_list block_list : List (List ℕ)) → IsExchange x
    → signal_list ≡ names_of_signals x.signals → block_list ≡ names_of_blocks x.blocks
    → IsDirectory x (record { signals = signal_list; blocks = block_list })
directory x signal_list block_list kept signals blocks = record {
  signals = signals;
  blocks = blocks;
  few = λ name signal is. few_of x.signals (position (bytes_eq name) (names_of_signals x.signals)) signal kept.signals.values is;
  few_signals = omega (arith, ap length signals, length-map x.signals signal_name, kept.signals.few);
  few_blocks = omega (arith, ap length blocks, length-map x.blocks (λ (k : Block). k.name), kept.blocks.few);
}
