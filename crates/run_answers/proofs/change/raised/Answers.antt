use Rattle.run_answers.proofs.Carrying.{raised_parts}
use Rattle.run_answers.proofs.change.raised.Goals as goal

pub from_parts-books-requires : goal.from_parts-books-requires
from_parts-books-requires c = raised_parts c.args.parts c.from.result c.args.jobs c.from.ensures c.requires.parts c.requires.few c.requires.most
