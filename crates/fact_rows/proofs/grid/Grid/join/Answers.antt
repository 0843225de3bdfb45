use Rattle.std.proofs.Common.{sym}
use Rattle.fact_rows.specs.Spread.{row_of}
use Rattle.fact_rows.proofs.Laying.{await_held, await_joined, await_refused, grid_awaits}
use Rattle.fact_rows.proofs.Laying.{grid_planes, kinds_apart, plane_held, plane_joined}
use Rattle.fact_rows.proofs.Laying.{plane_refused}
use Rattle.fact_rows.proofs.grid.Grid.join.Goals as goal

pub join-requires-clause-from : goal.join-requires-clause-from
join-requires-clause-from c = plane_held c.args.self.now c.self.inside.slots c.self.inside.starts.items
    c.self.inside.planes c.self.inside.awaits c.args.from c.in-Plane.i c.self.view_is c.self.invariant c.requires.from
    c.in-Plane.is

pub join-requires-clause-to : goal.join-requires-clause-to
join-requires-clause-to c = plane_held c.args.self.now c.self.inside.slots c.self.inside.starts.items
    c.self.inside.planes c.self.inside.awaits c.args.to c.in-Plane-to.j c.self.view_is c.self.invariant c.requires.to
    c.in-Plane-to.is

pub join-requires-in-Awaited-to-2-clause-from : goal.join-requires-in-Awaited-to-2-clause-from
join-requires-in-Awaited-to-2-clause-from c = await_held c.args.self.now c.self.inside.slots c.self.inside.starts.items
    c.self.inside.planes c.self.inside.awaits c.args.from c.in-Awaited.i c.self.view_is c.self.invariant c.requires.from
    c.in-Awaited.is

pub join-requires-in-Awaited-to-2-clause-to : goal.join-requires-in-Awaited-to-2-clause-to
join-requires-in-Awaited-to-2-clause-to c = await_held c.args.self.now c.self.inside.slots c.self.inside.starts.items
    c.self.inside.planes c.self.inside.awaits c.args.to c.in-Awaited-to-2.j c.self.view_is c.self.invariant
    c.requires.to c.in-Awaited-to-2.is

pub returns-in-Awaited-to-clause-ok : goal.returns-in-Awaited-to-clause-ok
returns-in-Awaited-to-clause-ok c = kinds_apart c.args.from c.args.to c.in-Plane.i c.in-Awaited-to.field-0 c.in-Plane.is c.in-Awaited-to.is c.requires.alike

pub returns-in-Plane-to-2-clause-ok : goal.returns-in-Plane-to-2-clause-ok
returns-in-Plane-to-2-clause-ok c = kinds_apart c.args.to c.args.from c.in-Plane-to-2.field-0 c.in-Awaited.i
    c.in-Plane-to-2.is c.in-Awaited.is (sym c.requires.alike)

pub invariant_of-self : goal.invariant_of-self
invariant_of-self c = grid_planes c.self.inside.slots c.self.inside.starts.items c.self.inside.planes
    c.self.inside.awaits c.join.new.self c.self.invariant c.join.ensures.keeps

pub invariant_of-self-in-Awaited-to-2 : goal.invariant_of-self-in-Awaited-to-2
invariant_of-self-in-Awaited-to-2 c = grid_awaits c.self.inside.slots c.self.inside.starts.items c.self.inside.planes
    c.self.inside.awaits c.join-in-Awaited-to-2.new.self c.self.invariant c.join-in-Awaited-to-2.ensures.keeps

pub returns-in-Plane-to-clause-ok : goal.returns-in-Plane-to-clause-ok
returns-in-Plane-to-clause-ok c = plane_joined c.args.self.now c.self.inside.slots (row_of c.self.inside.planes)
    (row_of c.self.inside.awaits) (row_of c.join.new.self) c.args.from c.args.to c.in-Plane.i c.in-Plane-to.j
    c.self.view_is c.join.result c.in-Plane.is c.in-Plane-to.is c.join.ensures.ok

pub returns-in-Awaited-to-2-clause-ok : goal.returns-in-Awaited-to-2-clause-ok
returns-in-Awaited-to-2-clause-ok c = await_joined c.args.self.now c.self.inside.slots (row_of c.self.inside.planes)
    (row_of c.self.inside.awaits) (row_of c.join-in-Awaited-to-2.new.self) c.args.from c.args.to c.in-Awaited.i
    c.in-Awaited-to-2.j c.self.view_is c.join-in-Awaited-to-2.result c.in-Awaited.is c.in-Awaited-to-2.is
    c.join-in-Awaited-to-2.ensures.ok

pub returns-in-Plane-to-clause-err : goal.returns-in-Plane-to-clause-err
returns-in-Plane-to-clause-err c = plane_refused c.args.self.now c.self.inside.slots (row_of c.self.inside.planes)
    (row_of c.self.inside.awaits) (row_of c.join.new.self) c.self.view_is c.join.result c.join.ensures.err

pub returns-in-Awaited-to-2-clause-err : goal.returns-in-Awaited-to-2-clause-err
returns-in-Awaited-to-2-clause-err c = await_refused c.args.self.now c.self.inside.slots (row_of c.self.inside.planes)
    (row_of c.self.inside.awaits) (row_of c.join-in-Awaited-to-2.new.self) c.self.view_is c.join-in-Awaited-to-2.result
    c.join-in-Awaited-to-2.ensures.err
