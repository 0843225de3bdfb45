use Rattle.interleave_core.proofs.Changing.{may_go, may_store}
use Rattle.interleave_core.proofs.window.RunningCore.retire_oldest.Goals as goal

pub retire-requires-clause-forlopp : goal.retire-requires-clause-forlopp
retire-requires-clause-forlopp c = (may_go c.args.exchange.now c.args.self.now c.index-oldest.result.now c.requires.may
    c.requires.some c.index-oldest.ensures).1.forlopp

pub retire-requires-clause-words : goal.retire-requires-clause-words
retire-requires-clause-words c =
    let may = (may_go c.args.exchange.now c.args.self.now c.index-oldest.result.now c.requires.may c.requires.some c.index-oldest.ensures).1 in
    may_store c.args.exchange.now c.index-oldest.result.now c.done-done.result.now c.args.self.now.books.state
    c.args.self.now.words may c.done-done.ensures.sends c.done-done.ensures.chain c.done-done.ensures.outcome
