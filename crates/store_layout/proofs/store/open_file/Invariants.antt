use Rattle.store_layout.proofs.Opened.{Repeated}
use Rattle.store_layout.proofs.store.open_file.Given as goal

abbrev pub invariant-loop-record : goal.invariant-loop-record
invariant-loop-record l = Repeated l.fn.store l.store l.file l._record
