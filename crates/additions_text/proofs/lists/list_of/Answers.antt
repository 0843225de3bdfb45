use Rattle.additions_text.proofs.Listing.{asked_list, not_asked}
use Rattle.additions_text.proofs.lists.list_of.Goals as goal

pub returns-then-is_asked-clause-list : goal.returns-then-is_asked-clause-list
returns-then-is_asked-clause-list c = asked_list c.args.means.now.exchange.now c.args.asked c.args.number c.added_at.result c.added_at.ensures.list

pub returns-clause-list : goal.returns-clause-list
returns-clause-list c = not_asked c.args.means.now.exchange.now c.args.asked c.args.number c.is_asked.result
    c.nothing.result c.is_asked.ensures c.if-is_asked.false
