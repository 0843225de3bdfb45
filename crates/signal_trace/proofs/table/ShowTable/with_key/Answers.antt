use Rattle.std.proofs.Common.{◌∙◌, ap}
use Rattle.std.specs.List.{list_any}
use Rattle.signal_trace.specs.Table.{has_key, reaches}
use Rattle.signal_trace.proofs.Tabling.{key_told}
use Rattle.signal_trace.proofs.table.ShowTable.with_key.Goals as goal

pub returns : goal.returns
returns c =
    let t = c.self.inside in
    c.some_reaches.ensures
    ∙ ap (list_any (reaches c.args.key c.args.number)) c.as_slice.ensures
    ∙ key_told t.shows.now t.rows t.lasts c.args.key c.args.number c.self.invariant c.ranges.number.fits
    ∙ ap (list_any (has_key c.args.key c.args.number)) c.self.view_is
