use Rattle.std.proofs.Common.{sym, ◌∙◌}
use Rattle.pair_tests.proofs.Holding.{with_writes}
use Rattle.pair_tests.proofs.passing.hold_with.Goals as goal

pub returns-then-passes_reads : goal.returns-then-passes_reads
returns-then-passes_reads c =
    with_writes c.args.a.now c.args.b.now c.args.one c.args.others.now c.near.result.now c.hold_among-writes.result
    (sym c.passes_reads.ensures ∙ c.if-passes_reads.true) c.near.ensures c.hold_among-writes.ensures
