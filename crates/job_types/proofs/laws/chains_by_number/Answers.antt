use Rattle.job_types.proofs.ChainMaps.{by_number}
use Rattle.job_types.proofs.laws.chains_by_number.Goals as goal

pub returns : goal.returns
returns c = by_number
