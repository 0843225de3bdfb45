use Rattle.flow_table.proofs.Wayfaring.{MostSoFar}
use Rattle.flow_table.proofs.ways.most_values.Given as goal

abbrev pub invariant-loop-row : goal.invariant-loop-row
invariant-loop-row l = MostSoFar l.exchange l.rows l.row-index l.most
