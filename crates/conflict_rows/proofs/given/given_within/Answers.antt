use Rattle.std.proofs.Common.{[], ◌+◌, true, false, refl, sym, subst}
use Rattle.fact_rows.specs.Known.{Knows}
use Rattle.entry_accesses.specs.Adding.{Adds}
use Rattle.entry_accesses.proofs.Adding.{adds_alike}
use Rattle.conflict_rows.proofs.Alone.{alone}
use Rattle.conflict_rows.proofs.Bounded.{past_or_not, some_given}
use Rattle.conflict_rows.proofs.Rowing.{ByPlace, all_given}
use Rattle.conflict_rows.proofs.Loops.{GivenBelow, items_begin, items_more, items_end}
use Rattle.conflict_rows.proofs.given.given_within.Goals as goal

pub loop-place-init : goal.loop-place-init
loop-place-init c =
    let G = ByPlace c.args.of.now.exchange.now (Knows c.args.of.now.known.now) c.args.of.now.entry c.args.summary.now in
    subst (λ rows. Adds [] rows (GivenBelow G c.args.places.now 0)) (sym c.new-rows.ensures) (items_begin G c.args.places.now [])

pub push_place-requires-clause-alone : goal.push_place-requires-clause-alone
push_place-requires-clause-alone c =
    alone c.args.of.now.exchange.now c.args.of.now.known.now c.args.of.now.entry c.args.places.now c.requires.places
    c.loop-place.place c.place_at-at.result c.place_at-at.ensures

pub loop-place-preserved : goal.loop-place-preserved
loop-place-preserved c =
    let G = ByPlace c.args.of.now.exchange.now (Knows c.args.of.now.known.now) c.args.of.now.entry c.args.summary.now in
    adds_alike [] c.push_place.new.rows c.few_or_in_order-rows.result
    (GivenBelow G c.args.places.now (c.loop-place.place + 1)) c.few_or_in_order-rows.ensures.same
    (items_more G c.args.places.now c.loop-place.place c.place_at-at.result [] c.loop-place.rows c.push_place.new.rows
    c.place_at-at.ensures c.in_ok-push_place.ensures c.loop-place.invariant)

pub returns-then-is_past : goal.returns-then-is_past
returns-then-is_past c =
    let G = ByPlace c.args.of.now.exchange.now (Knows c.args.of.now.known.now) c.args.of.now.entry c.args.summary.now in
    let past = past_or_not c.args.most c.few_or_in_order-rows.result c.len.result c.is_past.result true c.is_past.ensures c.len.ensures c.if-is_past.true in (
      some_given c.args.of.now.exchange.now (Knows c.args.of.now.known.now) c.args.of.now.entry c.args.summary.now
          c.args.places.now (c.loop-place.place + 1) c.push_place.new.rows c.few_or_in_order-rows.result
          (items_more G c.args.places.now c.loop-place.place c.place_at-at.result [] c.loop-place.rows c.push_place.new.rows
          c.place_at-at.ensures c.in_ok-push_place.ensures c.loop-place.invariant)
          c.few_or_in_order-rows.ensures.same (c.few_or_in_order-rows.ensures.rising past),
      past,
    )

pub returns-then-is_past-2 : goal.returns-then-is_past-2
returns-then-is_past-2 c = (
  some_given c.args.of.now.exchange.now (Knows c.args.of.now.known.now) c.args.of.now.entry c.args.summary.now
      c.args.places.now c.loop-place.place c.loop-place.rows c.in_order-sorted.result c.loop-place.invariant
      c.in_order-sorted.ensures.same c.in_order-sorted.ensures.rising,
  past_or_not c.args.most c.in_order-sorted.result c.len-2.result c.is_past-2.result true c.is_past-2.ensures c.len-2.ensures c.if-is_past-2.true,
)

pub returns : goal.returns
returns c =
    let G = ByPlace c.args.of.now.exchange.now (Knows c.args.of.now.known.now) c.args.of.now.entry c.args.summary.now in (
      all_given c.args.of.now.exchange.now (Knows c.args.of.now.known.now) c.args.of.now.entry c.args.summary.now
          c.args.places.now [] c.loop-place.rows c.in_order-sorted.result c.requires.places refl
          (items_end G c.args.places.now c.loop-place.place [] c.loop-place.rows c.loop-place-test.false c.loop-place.invariant)
          c.in_order-sorted.ensures.same c.in_order-sorted.ensures.rising,
      past_or_not c.args.most c.in_order-sorted.result c.len-2.result c.is_past-2.result false c.is_past-2.ensures c.len-2.ensures c.if-is_past-2.false,
    )
