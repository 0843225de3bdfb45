use Rattle.least_facts.specs.Giving.{IsOwnLeast}
use Rattle.least_facts.proofs.Growing.{found_always}
use Rattle.certificate.proofs.Pointing.{entry_added}
use Rattle.certificate.proofs.certified_text.add_entry.Goals as goal

pub returns-clause-added : goal.returns-clause-added
returns-clause-added c = entry_added c.args.exchange.now c.args.entry c.known.result.now c.args.text.now
    c.add_known.new.text (c.known.ensures c.args.exchange.now c.args.entry
    (found_always (IsOwnLeast c.args.exchange.now c.args.entry) c.in_ok-learn.field-0 c.in_ok-learn.ensures.learned))
    c.in_ok-add_known.ensures
