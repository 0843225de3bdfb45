use Rattle.std.proofs.Common.{take}
use Rattle.certificate.specs.Entries.{AddsLines, KnowsAmong}
use Rattle.certificate.proofs.certified_text.add_points.Given as goal

abbrev pub invariant-loop-point : goal.invariant-loop-point
invariant-loop-point l = AddsLines (KnowsAmong l.known (take l.point-index l.points)) l.fn.text l.text
