use Rattle.std.proofs.Common.{◌≡◌, ◌<◌, ◌^◌, length, get_or, Some, None, slice_get, subst, arith}
use Rattle.std.proofs.lemmas.Grind.{common_steps}
use Rattle.std.proofs.lemmas.Option.{slice_get_past}
use Rattle.fact_rows.specs.Places.{Marks, spot_of}
use Rattle.fact_rows.proofs.Laying.{spot_none, spot_some, start_is, start_small}
use Rattle.fact_rows.proofs.grid.Grid.spot_of.Goals as goal

pub spot_in-requires : goal.spot_in-requires
spot_in-requires c =
    let there : slice_get c.self.inside.slots c.args.point ≡ Some c.in-Some.counts.now = c.in-Some.ensures in
    let read : c.index.result.now ≡ get_or c.self.inside.starts.items c.args.point c.index.result.now = c.index.ensures in
    let small : c.len.result < 2 ^ 64 = grind (arith, common_steps) in
    let few : length c.self.inside.planes.set_numbers < 2 ^ 64 = omega (arith, c.len.ensures, small) in
    let from = start_is c.self.inside.slots c.self.inside.starts.items (length c.self.inside.planes.set_numbers)
    (length c.self.inside.awaits.set_numbers) c.args.point c.index.result.now c.in-Some.counts.now
    c.self.invariant.laid there read in
    start_small c.self.inside.slots c.self.inside.starts.items (length c.self.inside.planes.set_numbers)
    (length c.self.inside.awaits.set_numbers) c.args.point c.index.result.now c.in-Some.counts.now
    c.self.invariant.laid few there from

pub returns-in-Some : goal.returns-in-Some
returns-in-Some c =
    let there : slice_get c.self.inside.slots c.args.point ≡ Some c.in-Some.counts.now = c.in-Some.ensures in
    let read : c.index.result.now ≡ get_or c.self.inside.starts.items c.args.point c.index.result.now = c.index.ensures in
    let from = start_is c.self.inside.slots c.self.inside.starts.items (length c.self.inside.planes.set_numbers)
    (length c.self.inside.awaits.set_numbers) c.args.point c.index.result.now c.in-Some.counts.now
    c.self.invariant.laid there read in
    subst (λ (m : Marks). c.spot_in.result ≡ spot_of m.slots c.args.point c.args.slot) c.self.view_is
    (spot_some c.self.inside.slots c.args.point c.args.slot c.in-Some.counts.now c.index.result.now c.spot_in.result there from c.spot_in.ensures)

pub returns-in-None : goal.returns-in-None
returns-in-None c =
    let none : slice_get c.self.inside.slots c.args.point ≡ None = slice_get_past c.self.inside.slots c.args.point c.in-None.ensures in
    subst (λ (m : Marks). None ≡ spot_of m.slots c.args.point c.args.slot) c.self.view_is (spot_none c.self.inside.slots c.args.point c.args.slot none)
