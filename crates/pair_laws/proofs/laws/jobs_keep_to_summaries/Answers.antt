use Rattle.pair_laws.proofs.Keeping.{keeps_to}
use Rattle.pair_laws.proofs.laws.jobs_keep_to_summaries.Goals as goal

pub returns : goal.returns
returns c = λ x facts s m start kept closed valid fits told. keeps_to x facts kept closed s valid m start fits told
