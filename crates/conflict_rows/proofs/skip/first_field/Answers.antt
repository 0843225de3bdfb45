use Rattle.conflict_rows.proofs.Passing.{before_fields}
use Rattle.conflict_rows.proofs.skip.first_field.Goals as goal

pub returns : goal.returns
returns c = before_fields c.args.accesses.now c.first_of_field.result c.passed.result c.first_of_field.ensures c.passed.ensures
