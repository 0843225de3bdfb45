use Rattle.std.proofs.Common.{◌↔◌, [], refl, sym, subst, ◌∙◌}
use Rattle.std.specs.List.{Contains}
use Rattle.std.specs.List.Sorted.{IsStrictlySortedBy}
use Rattle.flow_table.specs.Texts.{seen}
use Rattle.flow_table.specs.declared.place.PlaceAt.{PlaceAt}
use Rattle.flow_table.proofs.Rowing.{seen_at}
use Rattle.entry_summary.specs.Accesses.{IsAccess}
use Rattle.entry_summary.specs.Orders.{access_order}
use Rattle.entry_accesses.specs.Adding.{HasAccess}
use Rattle.entry_accesses.proofs.Adding.{go_new, go_more, go_end}
use Rattle.entry_accesses.proofs.Placing.{found_exact}
use Rattle.entry_accesses.proofs.accesses.accesses_within.Goals as goal

pub loop-at-init : goal.loop-at-init
loop-at-init g c =
    go_new (λ (at : PlaceAt). HasAccess c.args.exchange.now (g.K.KnownFacts.knows c.args.known.now) c.args.entry
    (seen at)) c.args.places.now c.new-accesses.result c.new-accesses.ensures

pub gather-requires-clause-place : goal.gather-requires-clause-place
gather-requires-clause-place g c = c.requires.places.each c.loop-at.at-index (seen c.at-item.result)
    (seen_at c.args.places.now c.loop-at.at-index c.at-item.result c.loop-at-test.true c.at-item.is)

pub loop-at-preserved : goal.loop-at-preserved
loop-at-preserved g c =
    go_more (λ (at : PlaceAt). HasAccess c.args.exchange.now (g.K.KnownFacts.knows c.args.known.now) c.args.entry
    (seen at)) c.args.places.now c.loop-at.at-index c.at-item.result [] c.loop-at.found.accesses
    c.in_ok-found.found.accesses c.loop-at-test.true c.at-item.is c.in_ok-found.ensures c.loop-at.invariant

pub returns : goal.returns
returns g c =
    let x = c.args.exchange.now in
    let P = g.K.KnownFacts.knows c.args.known.now in
    let e = c.args.entry in
    let each = found_exact x P e c.args.places.now c.requires.places [] c.loop-at.found.accesses c.in_ok-all.all refl
    (go_end (λ (at : PlaceAt). HasAccess x P e (seen at)) c.args.places.now c.loop-at.at-index []
    c.loop-at.found.accesses c.loop-at-test.false c.loop-at.invariant) c.in_ok-all.ensures.whole in
    record {
      exact = λ a. subst (λ l. Contains l a ↔ IsAccess x P e a) (sym (c.in_ok-copy.ensures ∙ c.as_slice.ensures)) (each a);
      rising = subst (IsStrictlySortedBy access_order) (sym (c.in_ok-copy.ensures ∙ c.as_slice.ensures)) c.in_ok-all.ensures.rising;
    }
