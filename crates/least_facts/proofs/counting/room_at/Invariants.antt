use Rattle.std.proofs.Common.{take}
use Rattle.least_facts.specs.Looks.{HasFacts}
use Rattle.least_facts.proofs.Telling.{KnowsAmong}
use Rattle.least_facts.proofs.counting.room_at.Given as goal

abbrev pub invariant-loop-point : goal.invariant-loop-point
invariant-loop-point l = HasFacts (KnowsAmong l.rows (take l.point-index l.points)) l.room
