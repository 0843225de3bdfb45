-- What look-ups of labels and bodies find.
use Rattle.std.proofs.Common.{◌≡◌, ℕ, ◌≤◌, [], length, Some, slice_get, sym, ◌∙◌}
use Rattle.std.specs.Option.{option_map_or}
use Rattle.plex_num.proofs.Lists.{found_at, found_past}
use Rattle.exchange_model.specs.declared.exchange.Exchange.{Exchange}
use Rattle.exchange_model.specs.declared.block.Block.{Block}
use Rattle.exchange_model.specs.declared.block.Label.{Label}
use Rattle.source_meaning.specs.Config.{body_of, label_of}

abbrev label_in : ℕ → Block → ℕ
label_in l k = option_map_or (λ (e : Label). e.place) (slice_get k.labels l) 0

pub found_none : (x : Exchange) (b l : ℕ) → length x.blocks ≤ b → 0 ≡ label_of x b l
found_none x b l past = sym (found_past x.blocks b 0 (label_in l) past)

pub label_none : (x : Exchange) (b l : ℕ) (k : Block) → slice_get x.blocks b ≡ Some k → length k.labels ≤ l → 0 ≡ label_of x b l
label_none x b l k there past = sym (found_at x.blocks b k 0 (label_in l) there ∙ found_past k.labels l 0 (λ (e : Label). e.place) past)

pub label_some : (x : Exchange) (b l : ℕ) (k : Block) (e : Label) → slice_get x.blocks b ≡ Some k → slice_get k.labels l ≡ Some e → e.place ≡ label_of x b l
label_some x b l k e there is = sym (found_at x.blocks b k 0 (label_in l) there ∙ found_at k.labels l e 0 (λ (e : Label). e.place) is)

pub body_past : (x : Exchange) (b : ℕ) → length x.blocks ≤ b → body_of x b ≡ []
body_past x b past = found_past x.blocks b [] (λ (k : Block). k.body) past

pub body_is : (x : Exchange) (b : ℕ) (k : Block) → slice_get x.blocks b ≡ Some k → body_of x b ≡ k.body
body_is x b k there = found_at x.blocks b k [] (λ (k : Block). k.body) there
