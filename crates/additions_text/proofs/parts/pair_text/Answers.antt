use Rattle.additions_text.proofs.Parting.{list_there, pair_told}
use Rattle.additions_text.proofs.parts.pair_text.Goals as goal

pub list_at-first_adds-requires : goal.list_at-first_adds-requires
list_at-first_adds-requires c = list_there c.args.known.now.exchange.now c.args.asked c.args.known.now.summaries.now
    c.args.known.now.lists.now c.args.pair.first c.requires.lists c.requires.within.0

pub list_at-later_adds-requires : goal.list_at-later_adds-requires
list_at-later_adds-requires c = list_there c.args.known.now.exchange.now c.args.asked c.args.known.now.summaries.now
    c.args.known.now.lists.now c.args.pair.later c.requires.lists c.requires.within.1

pub adding_of-requires-clause-first : goal.adding_of-requires-clause-first
adding_of-requires-clause-first c = (c.requires.lists.is c.args.pair.first c.list_at-first_adds.result.now
    c.list_at-first_adds.ensures c.requires.asked.0).rising

pub adding_of-requires-clause-later : goal.adding_of-requires-clause-later
adding_of-requires-clause-later c = (c.requires.lists.is c.args.pair.later c.list_at-later_adds.result.now
    c.list_at-later_adds.ensures c.requires.asked.1).rising

pub returns : goal.returns
returns c =
    pair_told c.args.known.now.exchange.now c.args.known.now.names.now c.args.known.now.summaries.now c.args.pair
    c.at-first.result.now c.at-later.result.now c.list_at-first_adds.result.now c.list_at-later_adds.result.now
    c.in_ok-told.told c.adding_text.result
    c.requires.names c.at-first.ensures c.at-later.ensures
    (c.requires.lists.is c.args.pair.first c.list_at-first_adds.result.now c.list_at-first_adds.ensures c.requires.asked.0)
    (c.requires.lists.is c.args.pair.later c.list_at-later_adds.result.now c.list_at-later_adds.ensures c.requires.asked.1)
    c.in_ok-told.ensures c.adding_text.ensures
