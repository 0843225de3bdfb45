use Rattle.name_tables.proofs.Differ.{operation_names_differ}
use Rattle.name_tables.proofs.tables.operations.Goals as goal

pub returns-clause-differ : goal.returns-clause-differ
returns-clause-differ c = operation_names_differ
