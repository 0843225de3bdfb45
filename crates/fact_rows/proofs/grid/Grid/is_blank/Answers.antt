use Rattle.std.proofs.Common.{◌≡◌, ◌↔◌, [], subst}
use Rattle.std.specs.Prelude.{IsTrue}
use Rattle.fact_rows.specs.Spread.{row_of}
use Rattle.fact_rows.proofs.Laying.{await_at, await_held, plane_at, plane_held}
use Rattle.fact_rows.proofs.grid.Grid.is_blank.Goals as goal

pub is_blank-requires-clause-sound : goal.is_blank-requires-clause-sound
is_blank-requires-clause-sound c = c.self.invariant.planes_sound

pub is_blank-requires-clause-place : goal.is_blank-requires-clause-place
is_blank-requires-clause-place c = plane_held c.args.self.now c.self.inside.slots c.self.inside.starts.items
    c.self.inside.planes c.self.inside.awaits c.args.spot c.in-Plane.i c.self.view_is c.self.invariant c.requires
    c.in-Plane.is

pub is_blank-requires-in-Awaited-clause-sound : goal.is_blank-requires-in-Awaited-clause-sound
is_blank-requires-in-Awaited-clause-sound c = c.self.invariant.awaits_sound

pub is_blank-requires-in-Awaited-clause-place : goal.is_blank-requires-in-Awaited-clause-place
is_blank-requires-in-Awaited-clause-place c = await_held c.args.self.now c.self.inside.slots c.self.inside.starts.items
    c.self.inside.planes c.self.inside.awaits c.args.spot c.in-Awaited.i c.self.view_is c.self.invariant c.requires
    c.in-Awaited.is

pub returns-in-Plane : goal.returns-in-Plane
returns-in-Plane c = subst (λ l. IsTrue c.is_blank.result ↔ (l ≡ []))
    (plane_at c.args.self.now c.self.inside.slots (row_of c.self.inside.planes) (row_of c.self.inside.awaits)
    c.args.spot c.in-Plane.i c.self.view_is c.in-Plane.is) c.is_blank.ensures

pub returns-in-Awaited : goal.returns-in-Awaited
returns-in-Awaited c = subst (λ l. IsTrue c.is_blank-in-Awaited.result ↔ (l ≡ []))
    (await_at c.args.self.now c.self.inside.slots (row_of c.self.inside.planes) (row_of c.self.inside.awaits)
    c.args.spot c.in-Awaited.i c.self.view_is c.in-Awaited.is) c.is_blank-in-Awaited.ensures
