use Rattle.std.proofs.Common.{sym, subst}
use Rattle.listing.specs.Parts.{AreParts}
use Rattle.listing.proofs.Forms.{line_read, line_strange, parts_of}
use Rattle.listing.proofs.read_line.statement.Goals as goal

pub returns-in_default : goal.returns-in_default
returns-in_default c =
    let words = c.name_and_words.ensures in
    line_strange c.args.entries c.args.at_entries c.args.line.now c.name_and_words.result.0.now
    c.name_and_words.result.1.now c.requires.few c.requires.other words.apart words.starts words.joined
    c.in_default.ensures

pub returns : goal.returns
returns c =
    let line = c.args.line.now in
    let name = c.name_and_words.result.0.now in
    let tail = c.name_and_words.result.1.now in
    let words = c.name_and_words.ensures in
    let os = c.as_slice.result.now in
    let parts : AreParts line name os = subst (AreParts line name) (sym c.as_slice.ensures.value)
    (parts_of line name tail c.in-Some.operands.items words.apart words.joined c.in-Some.ensures) in
    line_read c.args.entries c.args.at_entries line name os c.named.result c.requires.few c.requires.other parts c.named.ensures
