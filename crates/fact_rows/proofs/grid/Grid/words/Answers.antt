use Rattle.std.proofs.Common.{◌≡◌, Some, refl, sym, ◌∙◌}
use Rattle.fact_rows.specs.declared.place.Spot.TheVariants.{Plane, Awaited}
use Rattle.fact_rows.specs.Places.{numbers_at, spot_of}
use Rattle.fact_rows.specs.Spread.{row_of}
use Rattle.fact_rows.proofs.Laying.{await_numbers, await_place, no_numbers, plane_numbers}
use Rattle.fact_rows.proofs.Laying.{plane_place}
use Rattle.fact_rows.proofs.Pushing.{set_words}
use Rattle.fact_rows.proofs.grid.Grid.words.Goals as goal

pub words-requires-clause-sound : goal.words-requires-clause-sound
words-requires-clause-sound c = c.self.invariant.planes_sound

pub words-requires-clause-place : goal.words-requires-clause-place
words-requires-clause-place c =
    let spot : spot_of c.args.self.now.slots c.args.point c.args.slot ≡ Some (Plane c.in-Some-Plane.i) =
    cc (c.spot_of.ensures, c.in-Some-Plane.is, c.in-Some-Plane.field-0-is) in
    plane_place c.args.self.now c.self.inside.slots c.self.inside.starts.items c.self.inside.planes c.self.inside.awaits
    c.args.point c.args.slot c.in-Some-Plane.i c.self.view_is c.self.invariant spot

pub words-requires-in-Some-Awaited-clause-sound : goal.words-requires-in-Some-Awaited-clause-sound
words-requires-in-Some-Awaited-clause-sound c = c.self.invariant.awaits_sound

pub words-requires-in-Some-Awaited-clause-place : goal.words-requires-in-Some-Awaited-clause-place
words-requires-in-Some-Awaited-clause-place c =
    let spot : spot_of c.args.self.now.slots c.args.point c.args.slot ≡ Some (Awaited c.in-Some-Awaited.i) =
    cc (c.spot_of.ensures, c.in-Some-Awaited.is, c.in-Some-Awaited.field-0-is) in
    await_place c.args.self.now c.self.inside.slots c.self.inside.starts.items c.self.inside.planes c.self.inside.awaits
    c.args.point c.args.slot c.in-Some-Awaited.i c.self.view_is c.self.invariant spot

pub returns-in-Some-Plane : goal.returns-in-Some-Plane
returns-in-Some-Plane c =
    let spot : spot_of c.args.self.now.slots c.args.point c.args.slot ≡ Some (Plane c.in-Some-Plane.i) =
    cc (c.spot_of.ensures, c.in-Some-Plane.is, c.in-Some-Plane.field-0-is) in
    set_words c.self.inside.planes c.in-Some-Plane.i (numbers_at c.args.self.now c.args.point c.args.slot) c.words.result c.self.invariant.planes_sound
    (plane_numbers c.args.self.now c.self.inside.slots (row_of c.self.inside.planes) (row_of c.self.inside.awaits)
    c.args.point c.args.slot c.self.view_is (row_of c.self.inside.planes) c.in-Some-Plane.i refl spot)
    c.words.ensures

pub returns-in-Some-Awaited : goal.returns-in-Some-Awaited
returns-in-Some-Awaited c =
    let spot : spot_of c.args.self.now.slots c.args.point c.args.slot ≡ Some (Awaited c.in-Some-Awaited.i) =
    cc (c.spot_of.ensures, c.in-Some-Awaited.is, c.in-Some-Awaited.field-0-is) in
    set_words c.self.inside.awaits c.in-Some-Awaited.i (numbers_at c.args.self.now c.args.point c.args.slot)
    c.words-in-Some-Awaited.result c.self.invariant.awaits_sound
    (await_numbers c.args.self.now c.self.inside.slots (row_of c.self.inside.planes) (row_of c.self.inside.awaits)
    c.args.point c.args.slot c.self.view_is (row_of c.self.inside.awaits) c.in-Some-Awaited.i refl spot)
    c.words-in-Some-Awaited.ensures

pub returns-in-None : goal.returns-in-None
returns-in-None c = no_numbers c.args.self.now c.args.point c.args.slot (sym c.spot_of.ensures ∙ c.in-None.is)
