use Rattle.fact_rows.proofs.Fitting.{table_fits}
use Rattle.fact_rows.proofs.laws.slots_have_places.Goals as goal

pub returns : goal.returns
returns c = table_fits
