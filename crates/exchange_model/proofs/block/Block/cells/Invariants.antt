use Rattle.std.proofs.Common.{◌≡◌, ◌+◌, length, take, sum_by}
use Rattle.exchange_model.specs.Cells.{file_cells}
use Rattle.exchange_model.proofs.block.Block.cells.Given as goal

abbrev pub invariant-loop-file : goal.invariant-loop-file
invariant-loop-file l = l.cells ≡ length l.self.variables + sum_by file_cells (take l.file-index l.file-items)
