use Rattle.name_tables.proofs.Differ.{keyword_names_differ}
use Rattle.name_tables.proofs.tables.keywords.Goals as goal

pub returns-clause-differ : goal.returns-clause-differ
returns-clause-differ c = keyword_names_differ
