use Rattle.core_tests.proofs.Making.{trees_are_kept}
use Rattle.core_tests.proofs.given.tree_of.Goals as goal

pub returns-in-Ok-clause-kept : goal.returns-in-Ok-clause-kept
returns-in-Ok-clause-kept c = trees_are_kept c.args.text.now _ c.tree_of_tokens.result c.in-Ok.ensures.tokens c.tree_of_tokens.ensures
