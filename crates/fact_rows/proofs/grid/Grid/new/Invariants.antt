use Rattle.fact_rows.proofs.Laying.{IsLaying}
use Rattle.fact_rows.proofs.grid.Grid.new.Given as goal

abbrev pub invariant-loop-row : goal.invariant-loop-row
invariant-loop-row l = IsLaying l.rows l.row-index l.slots l.starts l.size
