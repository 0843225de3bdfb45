use Rattle.std.proofs.Common.{◌≡◌, map, take}
use Rattle.block_change.specs.Carried.{number_for}
use Rattle.block_change.proofs.books.numbers_of.Given as goal

abbrev pub invariant-loop-entry : goal.invariant-loop-entry
invariant-loop-entry l = l.numbers ≡ map (number_for l.old l.new.exchange.now) (take l.entry-index l.entries)
