use Rattle.std.proofs.Common.{◌≡◌, ◌++◌, flat_map, take}
use Rattle.exchange_model.specs.Cells.{placed_files}
use Rattle.run_books.specs.Stores.{held_stores}
use Rattle.run_books.proofs.stores.list_records.Given as goal

abbrev pub invariant-loop-held : goal.invariant-loop-held
invariant-loop-held l = l.stores ≡ l.fn.stores ++ flat_map (held_stores (placed_files l.exchange.blocks)) (take l.held-index l.records)
