use Rattle.std.proofs.Common.{◌≡◌, map, take}
use Rattle.flow_table.specs.PointLists.{answer_by, retrieved_by}
use Rattle.answer_table.proofs.answers.awaited_at.Given as goal

abbrev pub invariant-loop-at : goal.invariant-loop-at
invariant-loop-at l = l.awaited ≡ map (answer_by retrieved_by) (take l.at-index l.places)
