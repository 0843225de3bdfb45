use Rattle.std.proofs.Common.{◌∙◌, subst, sym}
use Rattle.std.specs.Option.{IsSome}
use Rattle.fact_rows.specs.Touched.{IsKept}
use Rattle.fact_rows.proofs.Laying.{held_at, holds_slot, no_numbers}
use Rattle.fact_rows.proofs.Holding.{touch_kept}
use Rattle.fact_rows.proofs.Merging.{alike_room, merged_kept, none_joins, rows_joined, spot_there}
use Rattle.fact_rows.proofs.rows.FactRows.join.Goals as goal

pub unwrap-target-requires : goal.unwrap-target-requires
unwrap-target-requires c = subst IsSome (sym c.spot_of-2.ensures)
    (spot_there c.args.self.now c.self.inside.entry c.self.inside.grid c.args.to.point c.args.to.slot c.self.view_is
    c.requires.to)

pub is_blank-requires : goal.is_blank-requires
is_blank-requires c = holds_slot c.self.inside.grid.slots c.args.from.point c.args.from.slot c.spot_of.result c.in-Some.source c.spot_of.ensures c.in-Some.is

pub touch-requires : goal.touch-requires
touch-requires c = holds_slot c.self.inside.grid.slots c.args.to.point c.args.to.slot c.spot_of-2.result
    c.unwrap-target.result c.spot_of-2.ensures c.unwrap-target.ensures

pub join-requires-clause-from : goal.join-requires-clause-from
join-requires-clause-from c = holds_slot c.self.inside.grid.slots c.args.from.point c.args.from.slot c.spot_of.result
    c.in-Some.source c.spot_of.ensures c.in-Some.is

pub join-requires-clause-to : goal.join-requires-clause-to
join-requires-clause-to c = holds_slot c.self.inside.grid.slots c.args.to.point c.args.to.slot c.spot_of-2.result
    c.unwrap-target.result c.spot_of-2.ensures c.unwrap-target.ensures

pub join-requires-clause-alike : goal.join-requires-clause-alike
join-requires-clause-alike c =
    alike_room c.self.inside.grid c.args.from c.args.to c.in-Some.source c.unwrap-target.result
    (record {
      from_is = sym c.spot_of.ensures ∙ c.in-Some.is;
      to_is = sym c.spot_of-2.ensures ∙ c.unwrap-target.ensures;
    }) c.requires.alike

pub invariant_of-self-in_err-grown : goal.invariant_of-self-in_err-grown
invariant_of-self-in_err-grown c =
    subst (λ m. IsKept m c.touch.new.touched.items) (sym c.in_err-grown.ensures.err)
    (touch_kept c.self.inside.grid c.self.inside.touched.items c.touch.new.touched.items c.unwrap-target.result _ c.self.invariant c.in_ok-touch.ensures.ok)

pub invariant_of-self-2 : goal.invariant_of-self-2
invariant_of-self-2 c =
    merged_kept c.self.inside.grid c.join.new.self c.args.from c.args.to c.in_ok-grown.grown c.self.inside.touched.items
    c.touch.new.touched.items c.in-Some.source c.unwrap-target.result
    (record {
      from_is = sym c.spot_of.ensures ∙ c.in-Some.is;
      to_is = sym c.spot_of-2.ensures ∙ c.unwrap-target.ensures;
    }) c.self.invariant c.in_ok-grown.ensures.ok
    c.in_ok-touch.ensures.ok

pub returns-in_default-clause-joins : goal.returns-in_default-clause-joins
returns-in_default-clause-joins c = none_joins c.args.self.now c.self.inside.entry c.self.inside.grid c.args.from
    c.args.to c.self.view_is (sym (no_numbers c.self.inside.grid c.args.from.point c.args.from.slot
    (sym c.spot_of.ensures ∙ c.in_default.is)))

pub returns-clause-joins : goal.returns-clause-joins
returns-clause-joins c =
    (rows_joined c.args.self.now c.self.inside.entry c.self.inside.grid c.join.new.self c.args.from c.args.to
    c.in_ok-grown.grown c.self.inside.touched.items c.self.view_is c.requires.alike c.self.invariant
    c.in-Some.source c.unwrap-target.result (record
    { from_is = sym c.spot_of.ensures ∙ c.in-Some.is; to_is = sym c.spot_of-2.ensures ∙ c.unwrap-target.ensures })
    c.in_ok-grown.ensures.ok).joins

pub returns-clause-counted : goal.returns-clause-counted
returns-clause-counted c =
    (rows_joined c.args.self.now c.self.inside.entry c.self.inside.grid c.join.new.self c.args.from c.args.to
    c.in_ok-grown.grown c.self.inside.touched.items c.self.view_is c.requires.alike c.self.invariant
    c.in-Some.source c.unwrap-target.result (record
    { from_is = sym c.spot_of.ensures ∙ c.in-Some.is; to_is = sym c.spot_of-2.ensures ∙ c.unwrap-target.ensures })
    c.in_ok-grown.ensures.ok).fewer

pub returns-then-is_blank-clause-joins : goal.returns-then-is_blank-clause-joins
returns-then-is_blank-clause-joins c = none_joins c.args.self.now c.self.inside.entry c.self.inside.grid c.args.from
    c.args.to c.self.view_is (sym (held_at c.self.inside.grid c.args.from.point c.args.from.slot c.spot_of.result
    c.in-Some.source c.spot_of.ensures c.in-Some.is) ∙ c.is_blank.ensures.0 c.if-is_blank.true)
