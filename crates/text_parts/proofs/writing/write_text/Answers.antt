use Rattle.std.proofs.Common.{◌++◌, ap, ◌∙◌}
use Rattle.std.specs.List.{concat}
use Rattle.plex_io.specs.Written.{appended, WroteLess}
use Rattle.plex_io.proofs.Untold.{err_holds}
use Rattle.text_parts.proofs.Written.{appended_twice, front_fails, rest_fails}
use Rattle.text_parts.proofs.writing.write_text.Goals as goal

pub returns-in_err-write_parts-clause-err : goal.returns-in_err-write_parts-clause-err
returns-in_err-write_parts-clause-err g c =
    err_holds c.from_residual.result (WroteLess (g.K.Sink.written c.args.sink.now) (g.K.Sink.written c.write_parts.new.sink) c.args.text.now)
    (front_fails (g.K.Sink.written c.args.sink.now) (g.K.Sink.written c.write_parts.new.sink)
    (concat c.text.inside.parts) c.text.inside.last c.args.text.now c.text.view_is c.in_err-write_parts.ensures.err)

pub returns-in_err-write_all-clause-err : goal.returns-in_err-write_all-clause-err
returns-in_err-write_all-clause-err g c =
    err_holds c.from_residual-in_err-write_all.result (WroteLess (g.K.Sink.written c.args.sink.now) (g.K.Sink.written c.write_all.new.sink) c.args.text.now)
    (rest_fails (g.K.Sink.written c.args.sink.now) (g.K.Sink.written c.write_parts.new.sink)
    (g.K.Sink.written c.write_all.new.sink) (concat c.text.inside.parts) c.as_slice.result.now c.args.text.now
    c.in_ok-write_parts.ensures.ok (ap (λ t. concat c.text.inside.parts ++ t) c.as_slice.ensures ∙ c.text.view_is) c.in_err-write_all.ensures.err)

pub returns-clause-ok : goal.returns-clause-ok
returns-clause-ok g c =
    appended_twice (g.K.Sink.written c.args.sink.now) (g.K.Sink.written c.write_parts.new.sink)
    (g.K.Sink.written c.write_all.new.sink) (concat c.text.inside.parts) c.as_slice.result.now
    c.in_ok-write_parts.ensures.ok c.in_ok-write_all.ensures.ok
    ∙ ap (appended (g.K.Sink.written c.args.sink.now))
    (ap (λ t. concat c.text.inside.parts ++ t) c.as_slice.ensures ∙ c.text.view_is)
