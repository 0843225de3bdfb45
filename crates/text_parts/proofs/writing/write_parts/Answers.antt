use Rattle.std.proofs.Common.{◌∙◌, arith}
use Rattle.std.specs.List.{concat}
use Rattle.plex_io.specs.Written.{WroteLess}
use Rattle.plex_io.proofs.Untold.{err_holds}
use Rattle.text_parts.proofs.Written.{parts_end, parts_fail, parts_more}
use Rattle.text_parts.proofs.writing.write_parts.Goals as goal

pub returns-in_err-write_all-clause-err : goal.returns-in_err-write_all-clause-err
returns-in_err-write_all-clause-err g c =
    err_holds c.from_residual.result (WroteLess (g.K.Sink.written c.args.sink.now) (g.K.Sink.written c.write_all.new.sink) (concat c.args.parts.now))
    (parts_fail c.args.parts.now (g.K.Sink.written c.args.sink.now) (g.K.Sink.written c.loop-i.sink)
    (g.K.Sink.written c.write_all.new.sink) c.loop-i.i c.at.result.now
    (let lt = c.loop-i-test.true in let n = c.len-i-end.ensures in omega (arith, lt, n)) c.at.ensures c.loop-i.invariant.wrote c.in_err-write_all.ensures.err)

pub loop-i-preserved : goal.loop-i-preserved
loop-i-preserved g c = record {
  wrote = parts_more c.args.parts.now (g.K.Sink.written c.args.sink.now) (g.K.Sink.written c.loop-i.sink)
      (g.K.Sink.written c.write_all.new.sink) c.loop-i.i c.at.result.now
      (let lt = c.loop-i-test.true in let n = c.len-i-end.ensures in omega (arith, lt, n)) c.at.ensures c.loop-i.invariant.wrote c.in_ok-write_all.ensures.ok;
  size = c.write_all.ensures.size ∙ c.loop-i.invariant.size;
  later = omega (arith, c.write_all.ensures.later, c.loop-i.invariant.later);
}

pub returns-clause-ok : goal.returns-clause-ok
returns-clause-ok g c =
    parts_end c.args.parts.now (g.K.Sink.written c.args.sink.now) (g.K.Sink.written c.loop-i.sink) c.loop-i.i
    c.len-i-end.result c.len-i-end.ensures c.loop-i-test.false c.loop-i.invariant.wrote
