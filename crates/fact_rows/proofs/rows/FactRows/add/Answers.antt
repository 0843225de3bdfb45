use Rattle.std.proofs.Common.{◌<◌, ◌∙◌, subst, sym}
use Rattle.std.specs.Option.{IsSome}
use Rattle.fact_rows.specs.Touched.{IsKept}
use Rattle.fact_rows.proofs.Laying.{holds_slot, slot_room}
use Rattle.fact_rows.proofs.Holding.{has_place, rows_added, rows_kept, touch_kept}
use Rattle.fact_rows.proofs.rows.FactRows.add.Goals as goal

pub unwrap-spot-requires : goal.unwrap-spot-requires
unwrap-spot-requires c = subst IsSome (sym c.spot_of.ensures)
    (has_place c.args.self.now c.self.inside.entry c.self.inside.grid c.args.fact c.self.view_is c.requires.place)

pub touch-requires : goal.touch-requires
touch-requires c = holds_slot c.self.inside.grid.slots c.args.fact.point c.args.fact.slot c.spot_of.result
    c.unwrap-spot.result c.spot_of.ensures c.unwrap-spot.ensures

pub set-requires-clause-there : goal.set-requires-clause-there
set-requires-clause-there c = holds_slot c.self.inside.grid.slots c.args.fact.point c.args.fact.slot c.spot_of.result
    c.unwrap-spot.result c.spot_of.ensures c.unwrap-spot.ensures

pub set-requires-clause-number : goal.set-requires-clause-number
set-requires-clause-number c = subst (λ n. c.number_in.result < n)
    (slot_room c.self.inside.grid.slots c.args.fact.point c.args.fact.slot c.unwrap-spot.result
    (sym c.spot_of.ensures ∙ c.unwrap-spot.ensures)) c.number_in.ensures.within

pub invariant_of-self-in_err-added : goal.invariant_of-self-in_err-added
invariant_of-self-in_err-added c =
    subst (λ m. IsKept m c.touch.new.touched.items) (sym c.in_err-added.ensures.err)
    (touch_kept c.self.inside.grid c.self.inside.touched.items c.touch.new.touched.items c.unwrap-spot.result _ c.self.invariant c.in_ok-touch.ensures.ok)

pub invariant_of-self-2 : goal.invariant_of-self-2
invariant_of-self-2 c =
    rows_kept c.self.inside.grid c.set.new.self c.args.fact.point c.args.fact.slot c.number_in.result
    c.in_ok-added.added c.self.inside.touched.items c.touch.new.touched.items c.unwrap-spot.result
    (sym c.spot_of.ensures ∙ c.unwrap-spot.ensures) c.self.invariant c.number_in.ensures.within c.in_ok-added.ensures.ok c.in_ok-touch.ensures.ok

pub returns-clause-adds : goal.returns-clause-adds
returns-clause-adds c =
    (rows_added c.args.self.now c.self.inside.entry c.self.inside.grid c.set.new.self c.args.fact c.number_in.result
    c.in_ok-added.added c.self.inside.touched.items
    c.self.view_is c.requires.entry c.requires.place c.self.invariant c.number_in.ensures.number
    c.number_in.ensures.within c.unwrap-spot.result (sym c.spot_of.ensures ∙ c.unwrap-spot.ensures)
    c.in_ok-added.ensures.ok).adds

pub returns-clause-added : goal.returns-clause-added
returns-clause-added c =
    (rows_added c.args.self.now c.self.inside.entry c.self.inside.grid c.set.new.self c.args.fact c.number_in.result
    c.in_ok-added.added c.self.inside.touched.items
    c.self.view_is c.requires.entry c.requires.place c.self.invariant c.number_in.ensures.number
    c.number_in.ensures.within c.unwrap-spot.result (sym c.spot_of.ensures ∙ c.unwrap-spot.ensures)
    c.in_ok-added.ensures.ok).fresh

pub returns-clause-counted : goal.returns-clause-counted
returns-clause-counted c =
    (rows_added c.args.self.now c.self.inside.entry c.self.inside.grid c.set.new.self c.args.fact c.number_in.result
    c.in_ok-added.added c.self.inside.touched.items
    c.self.view_is c.requires.entry c.requires.place c.self.invariant c.number_in.ensures.number
    c.number_in.ensures.within c.unwrap-spot.result (sym c.spot_of.ensures ∙ c.unwrap-spot.ensures)
    c.in_ok-added.ensures.ok).one
