use Rattle.fact_rows.specs.Spread.{row_of}
use Rattle.fact_rows.proofs.Laying.{cleared_blank, grid_planes, grid_awaits}
use Rattle.fact_rows.proofs.grid.Grid.clear.Goals as goal

pub clear-requires : goal.clear-requires
clear-requires c = c.self.invariant.planes_sound

pub clear-requires-2 : goal.clear-requires-2
clear-requires-2 c = c.self.invariant.awaits_sound

pub invariant_of-self : goal.invariant_of-self
invariant_of-self c =
    grid_awaits c.self.inside.slots c.self.inside.starts.items c.clear.new.self c.self.inside.awaits c.clear-2.new.self
    (grid_planes c.self.inside.slots c.self.inside.starts.items c.self.inside.planes c.self.inside.awaits
    c.clear.new.self c.self.invariant c.clear.ensures.keeps)
    c.clear-2.ensures.keeps

pub returns : goal.returns
returns c = cleared_blank c.args.self.now c.self.inside.slots (row_of c.self.inside.planes)
    (row_of c.self.inside.awaits) (row_of c.clear.new.self) (row_of c.clear-2.new.self) c.self.view_is
    c.clear.ensures.none c.clear-2.ensures.none
