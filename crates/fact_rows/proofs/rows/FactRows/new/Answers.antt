use Rattle.std.proofs.Common.{refl}
use Rattle.fact_rows.specs.Known.{slots_of}
use Rattle.fact_rows.proofs.Holding.{new_ok, begun_kept}
use Rattle.fact_rows.proofs.rows.FactRows.new.Goals as goal

pub invariant_of-result : goal.invariant_of-result
invariant_of-result c = begun_kept _ c.in_ok-new.field-0 c.new-2.result.items c.in_ok-new.ensures c.new-2.ensures.items

pub returns : goal.returns
returns c = new_ok (slots_of c.args.table.now) c.args.table.now.rows c.as_slice.result.now c.in_ok-new.field-0 refl c.as_slice.ensures c.in_ok-new.ensures
