use Rattle.std.proofs.Common.{◌≡◌, ◌++◌, drop, map}
use Rattle.entry_faults.specs.Exprs.{expr_seen}
use Rattle.entry_faults.specs.Fields.{pointers_in}
use Rattle.entry_faults.proofs.statement.push_all_fields.Given as goal

abbrev pub invariant-loop-one : goal.invariant-loop-one
invariant-loop-one l = l.pointers ++ pointers_in (map expr_seen (drop l.one-index l.exprs)) ≡ l.fn.pointers ++ pointers_in (map expr_seen l.exprs)
