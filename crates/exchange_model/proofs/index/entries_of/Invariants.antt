use Rattle.std.proofs.Common.{take}
use Rattle.exchange_model.specs.Index.{IsOfEntries}
use Rattle.exchange_model.proofs.index.entries_of.Given as goal

abbrev pub invariant-loop-number : goal.invariant-loop-number
invariant-loop-number l = IsOfEntries l.made (take l.number l.entries)
