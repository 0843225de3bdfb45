use Rattle.std.proofs.Common.{◌<◌, ap, subst}
use Rattle.fact_rows.specs.Spread.{row_of}
use Rattle.fact_rows.specs.Values.{room_at}
use Rattle.fact_rows.proofs.Laying.{await_few, await_held, await_refused, await_set, grid_awaits}
use Rattle.fact_rows.proofs.Laying.{grid_planes, plane_few, plane_held, plane_refused, plane_set}
use Rattle.fact_rows.proofs.grid.Grid.set.Goals as goal

pub set-requires-clause-sound : goal.set-requires-clause-sound
set-requires-clause-sound c = c.self.invariant.planes_sound

pub set-requires-clause-place : goal.set-requires-clause-place
set-requires-clause-place c = plane_held c.args.self.now c.self.inside.slots c.self.inside.starts.items
    c.self.inside.planes c.self.inside.awaits c.args.spot c.in-Plane.i c.self.view_is c.self.invariant c.requires.there
    c.in-Plane.is

pub set-requires-in-Awaited-clause-sound : goal.set-requires-in-Awaited-clause-sound
set-requires-in-Awaited-clause-sound c = c.self.invariant.awaits_sound

pub set-requires-in-Awaited-clause-place : goal.set-requires-in-Awaited-clause-place
set-requires-in-Awaited-clause-place c = await_held c.args.self.now c.self.inside.slots c.self.inside.starts.items
    c.self.inside.planes c.self.inside.awaits c.args.spot c.in-Awaited.i c.self.view_is c.self.invariant
    c.requires.there c.in-Awaited.is

pub set-requires-clause-number : goal.set-requires-clause-number
set-requires-clause-number c = plane_few c.self.inside.slots c.self.inside.starts.items c.self.inside.planes
    c.self.inside.awaits c.args.number c.self.invariant
    (subst (λ b. c.args.number < b) (ap room_at c.in-Plane.is) c.requires.number)

pub set-requires-in-Awaited-clause-number : goal.set-requires-in-Awaited-clause-number
set-requires-in-Awaited-clause-number c = await_few c.self.inside.slots c.self.inside.starts.items c.self.inside.planes
    c.self.inside.awaits c.args.number c.self.invariant
    (subst (λ b. c.args.number < b) (ap room_at c.in-Awaited.is) c.requires.number)

pub invariant_of-self : goal.invariant_of-self
invariant_of-self c = grid_planes c.self.inside.slots c.self.inside.starts.items c.self.inside.planes
    c.self.inside.awaits c.set.new.self c.self.invariant c.set.ensures.keeps

pub invariant_of-self-in-Awaited : goal.invariant_of-self-in-Awaited
invariant_of-self-in-Awaited c = grid_awaits c.self.inside.slots c.self.inside.starts.items c.self.inside.planes
    c.self.inside.awaits c.set-in-Awaited.new.self c.self.invariant c.set-in-Awaited.ensures.keeps

pub returns-in-Plane-clause-ok : goal.returns-in-Plane-clause-ok
returns-in-Plane-clause-ok c = plane_set c.args.self.now c.self.inside.slots (row_of c.self.inside.planes)
    (row_of c.self.inside.awaits) (row_of c.set.new.self) c.args.spot c.in-Plane.i c.args.number c.self.view_is
    c.set.result c.in-Plane.is c.set.ensures.ok

pub returns-in-Awaited-clause-ok : goal.returns-in-Awaited-clause-ok
returns-in-Awaited-clause-ok c = await_set c.args.self.now c.self.inside.slots (row_of c.self.inside.planes)
    (row_of c.self.inside.awaits) (row_of c.set-in-Awaited.new.self) c.args.spot c.in-Awaited.i c.args.number
    c.self.view_is c.set-in-Awaited.result c.in-Awaited.is c.set-in-Awaited.ensures.ok

pub returns-in-Plane-clause-err : goal.returns-in-Plane-clause-err
returns-in-Plane-clause-err c = plane_refused c.args.self.now c.self.inside.slots (row_of c.self.inside.planes)
    (row_of c.self.inside.awaits) (row_of c.set.new.self) c.self.view_is c.set.result c.set.ensures.err

pub returns-in-Awaited-clause-err : goal.returns-in-Awaited-clause-err
returns-in-Awaited-clause-err c = await_refused c.args.self.now c.self.inside.slots (row_of c.self.inside.planes)
    (row_of c.self.inside.awaits) (row_of c.set-in-Awaited.new.self) c.self.view_is c.set-in-Awaited.result
    c.set-in-Awaited.ensures.err
