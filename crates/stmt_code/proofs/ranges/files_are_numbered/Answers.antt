use Rattle.std.proofs.Common.{◌^◌}
use Rattle.stmt_code.proofs.Numbered.{few_files}
use Rattle.stmt_code.proofs.ranges.files_are_numbered.Goals as goal

pub returns : goal.returns
returns c = few_files c.args.exchange.now (2 ^ 32) c.kept.ensures c.blocks_are_numbered.ensures
