use Rattle.std.proofs.Common.{◌++◌}
use Rattle.exchange_model.specs.Opening.{file_opening, inits}
use Rattle.store_layout.proofs.Opened.{Filled}
use Rattle.store_layout.proofs.store.open_block.Given as goal

abbrev pub invariant-loop-file : goal.invariant-loop-file
invariant-loop-file l = Filled file_opening (l.fn.store ++ inits l.block.variables) l.store l.block.files l.file-index
