use Rattle.source_meaning.specs.Traces.{trace_of}
use Rattle.parallel_dispatch.specs.Bare.{bare}
use Rattle.parallel_dispatch.proofs.moves.issue.Given as goal

abbrev pub ghosts-lend_as : goal.ghosts-lend_as
ghosts-lend_as g a = record { start = a.start.now; permit = bare (trace_of g.B.Naming.exchange a.start.now a.root.now.1.values) }
