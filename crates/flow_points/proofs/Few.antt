-- How many values a signal has, and how many temporaries a block: no more than an exchange may
-- have.
use Rattle.std.proofs.Common.{◌≡◌, ℕ, ◌≤◌, length, Option, None, Some, slice_get, refl, arith}
use Rattle.std.specs.Option.{option_map_or}
use Rattle.plex_limits.specs.declared.limits.TheConstants.{MOST_VALUES, MOST_TEMPORARIES}
use Rattle.plex_num.proofs.Lists.{all_at}
use Rattle.exchange_model.specs.declared.exchange.Exchange.{Exchange}
use Rattle.exchange_model.specs.declared.block.Block.{Block}
use Rattle.exchange_model.specs.declared.signal.SignalKind.{SignalKind}
use Rattle.exchange_model.specs.Kept.{IsExchange, signal_count}
use Rattle.source_meaning.specs.Changes.{value_count}
use Rattle.flow_points.specs.Slots.{temp_count}

module _ (x : Exchange) (kept : IsExchange x) where
  pub count_few : (signal : ℕ) → value_count x signal ≤ MOST_VALUES
  count_few signal = by (slice_get x.signals signal) refl
    where
      by : (o : Option SignalKind) → slice_get x.signals signal ≡ o → option_map_or signal_count o 0 ≤ MOST_VALUES
      by None there = omega arith
      by (Some s) there = all_at (λ k. signal_count k ≤ MOST_VALUES) x.signals signal s kept.signals.values there

  pub temps_few : (b : ℕ) → temp_count x b ≤ MOST_TEMPORARIES
  temps_few b = by (slice_get x.blocks b) refl
    where
      by : (o : Option Block) → slice_get x.blocks b ≡ o → option_map_or (λ (k : Block). length k.temporaries) o 0 ≤ MOST_TEMPORARIES
      by None there = omega arith
      by (Some k) there = (kept.blocks.each b k there).temporaries
