use Rattle.additions_text.proofs.Parting.{entry_told, list_there}
use Rattle.additions_text.proofs.parts.entry_text.Goals as goal

pub list_at-list-requires : goal.list_at-list-requires
list_at-list-requires c = list_there c.args.known.now.exchange.now c.args.asked c.args.known.now.summaries.now
    c.args.known.now.lists.now c.args.number c.requires.lists c.requires.within

pub returns : goal.returns
returns c =
    entry_told c.args.known.now.exchange.now c.args.known.now.names.now c.args.number c.list_at-list.result.now c.adds_lines.result c.requires.names
    (c.requires.lists.is c.args.number c.list_at-list.result.now c.list_at-list.ensures c.requires.asked) c.adds_lines.ensures
