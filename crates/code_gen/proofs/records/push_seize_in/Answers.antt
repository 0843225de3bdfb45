use Rattle.std.proofs.Common.{rules}
use Rattle.code_gen.proofs.RecordSteps.{seize_steps}
use Rattle.code_gen.proofs.records.push_seize_in.Goals as goal

pub returns : goal.returns
returns c =
    let made = seize_steps c.args.place.now.file.now c.args.mark c.args.file c.args.temp c.args.label c.args.start
    c.in_ok-head.head c.in_ok-free.free c.record_cells-cells.result c.args.ops.now c.push_all.new.ops
    c.in_ok-head.ensures c.in_ok-free.ensures c.record_cells-cells.ensures in
    search (rules, made)
