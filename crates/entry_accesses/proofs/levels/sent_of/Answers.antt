use Rattle.std.proofs.Common.{[], refl}
use Rattle.flow_table.specs.Texts.{seen}
use Rattle.flow_table.specs.declared.place.PlaceAt.{PlaceAt}
use Rattle.entry_accesses.specs.Levels.{HasLevel}
use Rattle.entry_accesses.proofs.Adding.{go_new, go_more, go_end}
use Rattle.entry_accesses.proofs.Placing.{sent_exact}
use Rattle.entry_accesses.proofs.levels.sent_of.Goals as goal

pub loop-at-init : goal.loop-at-init
loop-at-init g c =
    go_new (λ (at : PlaceAt). HasLevel c.args.exchange.now (g.K.KnownFacts.knows c.args.known.now) c.args.entry
    (seen at)) c.args.places.now c.new-sent.result c.new-sent.ensures

pub loop-at-preserved : goal.loop-at-preserved
loop-at-preserved g c =
    go_more (λ (at : PlaceAt). HasLevel c.args.exchange.now (g.K.KnownFacts.knows c.args.known.now) c.args.entry
    (seen at)) c.args.places.now c.loop-at.at-index c.at-item.result [] c.loop-at.sent c.push_sent.new.sent
    c.loop-at-test.true c.at-item.is c.in_ok-push_sent.ensures c.loop-at.invariant

pub returns : goal.returns
returns g c =
    let P = g.K.KnownFacts.knows c.args.known.now in
    sent_exact c.args.exchange.now P c.args.entry c.args.places.now [] c.loop-at.sent c.requires refl
    (go_end (λ (at : PlaceAt). HasLevel c.args.exchange.now P c.args.entry (seen at)) c.args.places.now
    c.loop-at.at-index [] c.loop-at.sent c.loop-at-test.false c.loop-at.invariant)
