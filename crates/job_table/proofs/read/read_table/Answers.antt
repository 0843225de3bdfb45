use Rattle.std.proofs.Common.{length}
use Rattle.job_table.proofs.Tabled.{read_more}
use Rattle.job_table.proofs.read.read_table.Goals as goal

pub loop-line-preserved : goal.loop-line-preserved
loop-line-preserved c =
    read_more c.args.known.now.exchange.now (length c.args.lines.now) c.args.text.now c.loop-line.rest.now
    c.in-Some.line.now c.in-Some.after.now c.loop-line.before c.with-before.result c.loop-line.list
    c.push_some.new.list c.in-Ok.period c.loop-line.invariant c.in-Some.ensures.cases c.in-Some.ensures.shorter
    c.in-Ok.ensures c.with-before.ensures c.in_ok-push_some-in-Ok.ensures
