use Rattle.merge_program.proofs.Done.{merged_run}
use Rattle.merge_program.proofs.laws.merged_files_run.Goals as goal

pub returns : goal.returns
returns c = merged_run
