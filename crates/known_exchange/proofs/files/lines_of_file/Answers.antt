use Rattle.std.proofs.Common.{rules, sym, ◌∙◌}
use Rattle.std.proofs.lemmas.Grind.{common_steps}
use Rattle.known_exchange.proofs.Tables.{lines_are_read}
use Rattle.known_exchange.proofs.files.lines_of_file.Goals as goal

pub returns-in-Ok-clause-read : goal.returns-in-Ok-clause-read
returns-in-Ok-clause-read c = lines_are_read c.args.known.now.exchange c.as_slice.result.now c.in-Ok.lines
    (search (rules, common_steps)) (sym c.in-Ok.is ∙ c.in_ok-lines.ensures)
