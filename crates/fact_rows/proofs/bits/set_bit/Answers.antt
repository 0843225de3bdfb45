use Rattle.fact_rows.proofs.Numbering.{set_numbers, set_added, set_counted, set_long}
use Rattle.fact_rows.proofs.bits.set_bit.Goals as goal

pub returns-clause-numbers : goal.returns-clause-numbers
returns-clause-numbers c = set_numbers c.args.words.now c.args.i c.requires

pub returns-clause-added : goal.returns-clause-added
returns-clause-added c = set_added c.args.words.now c.args.i c.requires

pub returns-clause-counted : goal.returns-clause-counted
returns-clause-counted c = set_counted c.args.words.now c.args.i c.requires

pub returns-clause-long : goal.returns-clause-long
returns-clause-long c = set_long c.args.words.now c.args.i c.requires
