use Rattle.std.proofs.Common.{◌≡◌, ◌++◌, rules}
use Rattle.std.proofs.lemmas.Grind.{common_steps}
use Rattle.exchange_model.specs.Cells.{block_cells}
use Rattle.exchange_model.specs.Kept.{entries_in}
use Rattle.front_end.specs.Points.{body_points}
use Rattle.front_end.proofs.CollectedSteps.{all_step}
use Rattle.front_end.proofs.collected.collect.Goals as goal

pub loop-number-preserved : goal.loop-number-preserved
loop-number-preserved c =
    let k = c.index-blocks-number.result in
    let entered : c.add_entries.new.out ≡ c.loop-number.entries ++ entries_in c.args.signals.now c.loop-number.number k.body = search (rules, common_steps) in
    let pointed : c.add_points.new.out ≡ c.loop-number.points ++ body_points c.loop-number.number k.body = search (rules, common_steps) in
    let size : c.cells-cells.result ≡ block_cells k = search (rules, common_steps) in
    all_step c.args.signals.now c.args.blocks.now c.loop-number.number k _ _ _ _ _ _ c.loop-number-test.true
    c.index-blocks-number.is entered pointed size c.loop-number.invariant
