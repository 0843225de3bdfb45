use Rattle.addition_pairs.proofs.Sparing.{is_in_by}
use Rattle.addition_pairs.proofs.shared.is_in.Goals as goal

pub returns : goal.returns
returns c = is_in_by c.args.numbers.now c.args.number c.is_among.result c.is_among.ensures
