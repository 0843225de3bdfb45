use Rattle.std.proofs.Common.{◌<◌, ◌^◌, IfOk, sym, subst, ◌∙◌}
use Rattle.job_table.specs.Merged.{line_count}
use Rattle.known_exchange.proofs.Tables.{merged_are_read}
use Rattle.known_exchange.proofs.merging.merged_of_file.Goals as goal

pub returns-in_ok-all-in-Ok-clause-read : goal.returns-in_ok-all-in-Ok-clause-read
returns-in_ok-all-in-Ok-clause-read c =
    let few = subst (λ r. IfOk r (λ ps. line_count c.args.lines.now ps < 2 ^ 32)) c.in-Ok.is c.in_ok-periods.ensures.few in
    merged_are_read c.args.known.now.exchange c.args.lines.now c.in_ok-all-in-Ok.all c.as_slice.result.now
    c.in-Ok.periods c.requires.of_text (sym c.in-Ok.is ∙ c.in_ok-periods.ensures.told) few c.in_ok-all-in-Ok.ensures
