use Rattle.std.proofs.Common.{◌∙◌}
use Rattle.std.specs.Cmp.Lexicographic.{same_text}
use Rattle.listing.proofs.Named.{entry_strange, parts_closed}
use Rattle.listing.proofs.read_line.named.Goals as goal

pub returns-then-not-at_entries : goal.returns-then-not-at_entries
returns-then-not-at_entries c =
    let name = c.args.name.now in
    parts_closed c.args.entries c.args.at_entries name c.args.operands.now c.if-not-at_entries.true
    (same_text name c.as_slice.result.now c.if-eq.ensures ∙ c.as_slice.ensures)

pub returns-in-Err : goal.returns-in-Err
returns-in-Err c =
    let name = c.args.name.now in
    entry_strange c.args.entries c.args.at_entries name c.args.operands.now c.in-Err.fault c.if-not-at_entries.false
    (same_text name c.as_slice.result.now c.if-eq.ensures ∙ c.as_slice.ensures) c.in-Err.ensures
