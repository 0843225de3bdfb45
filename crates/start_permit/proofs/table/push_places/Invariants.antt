use Rattle.std.proofs.Common.{◌≡◌, ◌++◌, map}
use Rattle.std.specs.List.{range_with_len}
use Rattle.start_permit.specs.Listed.{place_at}
use Rattle.start_permit.proofs.table.push_places.Given as goal

abbrev pub invariant-loop-field : goal.invariant-loop-field
invariant-loop-field l = l.places ≡ l.fn.places ++ map (place_at l.file) (range_with_len 0 l.field)
