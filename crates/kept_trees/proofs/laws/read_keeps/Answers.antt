use Rattle.std.proofs.Common.{true}
use Rattle.kept_trees.proofs.Texts.{read_keeps}
use Rattle.kept_trees.proofs.laws.read_keeps.Goals as goal

pub returns : goal.returns
returns c = read_keeps true
