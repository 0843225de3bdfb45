use Rattle.std.proofs.Common.{[]}
use Rattle.exchange_model.specs.Opening.{block_opening}
use Rattle.store_layout.proofs.Opened.{Filled}
use Rattle.store_layout.proofs.store.opening.Given as goal

abbrev pub invariant-loop-block : goal.invariant-loop-block
invariant-loop-block l = Filled block_opening [] l.store l.exchange.blocks l.block-index
