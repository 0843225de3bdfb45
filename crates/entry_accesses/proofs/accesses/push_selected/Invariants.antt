use Rattle.entry_accesses.proofs.Selecting.{SelectedGo}
use Rattle.entry_accesses.proofs.accesses.push_selected.Given as goal

abbrev pub invariant-loop-selector : goal.invariant-loop-selector
invariant-loop-selector l = SelectedGo l.write l.number l.selectors l.selector-index l.fn.accesses l.accesses
