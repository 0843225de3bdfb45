use Rattle.std.proofs.Common.{◌≡◌, ◌++◌, map, take}
use Rattle.std.specs.List.{flat_map}
use Rattle.listing.specs.Listing.{op_line}
use Rattle.listing.proofs.print.add_ops.Given as goal
use Rattle.text_lines.specs.Lines.{ended}

abbrev pub invariant-loop-op : goal.invariant-loop-op
invariant-loop-op l = l.text ≡ l.fn.text ++ flat_map ended (map op_line (take l.op-index l.ops))
