use Rattle.run_books.proofs.Parted.{parts_of_valid}
use Rattle.run_books.proofs.laws.valid_states_have_books.Goals as goal

pub returns : goal.returns
returns c words valid =
    let needs = c.requires in
    parts_of_valid c.args.exchange.now c.args.parts.now words c.kept.ensures c.chain.ensures.sound needs.limit
    needs.ended needs.restarts needs.lines needs.next_line needs.given needs.numbers valid
