use Rattle.std.proofs.Common.{◌++◌, ◌∙◌, ap}
use Rattle.fact_rows.specs.Touched.{facts_of, keys_of}
use Rattle.fact_rows.proofs.Keying.{points_more, points_end}
use Rattle.fact_rows.proofs.rows.listed.Goals as goal

pub loop-point-init : goal.loop-point-init
loop-point-init c = ap (λ l. l ++ facts_of c.args.entry c.args.grid.now (keys_of c.args.grid.now.slots c.args.points.now)) c.new-facts.ensures.items

pub loop-point-preserved : goal.loop-point-preserved
loop-point-preserved c = points_more c.args.entry c.args.grid.now c.args.points.now c.loop-point.point-index _
    c.loop-point.facts.items c.push_point.new.facts.items _ c.loop-point-test.true c.in_ok-push_point.ensures
    c.loop-point.invariant

pub returns : goal.returns
returns c = c.from_vec.ensures ∙ points_end c.args.entry c.args.grid.now c.args.points.now c.loop-point.point-index
    c.loop-point.facts.items _ c.loop-point-test.false c.loop-point.invariant
