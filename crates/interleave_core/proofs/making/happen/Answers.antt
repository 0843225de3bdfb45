use Rattle.std.proofs.Common.{◌≡◌, true, ◌∙◌, rules}
use Rattle.std.proofs.lemmas.Grind.{common_steps}
use Rattle.interleave_core.proofs.Changing.{can_make}
use Rattle.interleave_core.proofs.Picking.{next_with}
use Rattle.interleave_core.proofs.making.happen.Goals as goal

pub enabled-requires-clause-pick : goal.enabled-requires-clause-pick
enabled-requires-clause-pick c = λ start is. (c.requires.safe.pick start (next_with c.args.core.now.books.state c.args.core.now.words ∙ is)).summary

pub make-requires-clause-may : goal.make-requires-clause-may
make-requires-clause-may c =
    let was : c.enabled.result ≡ true = search (rules, common_steps) in
    can_make c.args.exchange.now c.args.code.now c.args.checked.now c.args.workers c.args.core.now c.args.event c.requires.safe (c.enabled.ensures.0 was)

pub returns : goal.returns
returns c =
    let was : c.enabled.result ≡ true = search (rules, common_steps) in
    let can = c.enabled.ensures.0 was in
    record { can = can; becomes = c.in_ok-make.ensures c.args.checked.now c.args.workers can }
