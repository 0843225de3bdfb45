use Rattle.least_facts.specs.Giving.{IsOwnLeast}
use Rattle.least_facts.proofs.Growing.{found_always}
use Rattle.additions_text.proofs.Listing.{added_of_least, summary_by_known}
use Rattle.additions_text.proofs.lists.added_at.Goals as goal

pub added_of-requires-clause-summary : goal.added_of-requires-clause-summary
added_of-requires-clause-summary c =
    summary_by_known c.args.means.now.exchange.now c.args.number c.known-facts.result.now c.args.means.now.summaries.now
    c.at-summary.result.now c.requires.of.summaries_are c.at-summary.ensures
    (c.known-facts.ensures c.args.means.now.exchange.now c.args.number
    (found_always (IsOwnLeast c.args.means.now.exchange.now c.args.number) _ c.in_ok-learn.ensures.learned))

pub returns-clause-list : goal.returns-clause-list
returns-clause-list c =
    added_of_least c.args.means.now.exchange.now c.args.number c.known-facts.result.now c.in_ok-list.list
    (c.known-facts.ensures c.args.means.now.exchange.now c.args.number
    (found_always (IsOwnLeast c.args.means.now.exchange.now c.args.number) _ c.in_ok-learn.ensures.learned))
    c.in_ok-list.ensures
