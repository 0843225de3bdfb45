use Rattle.answer_meaning.proofs.Accepted.{all_spelled}
use Rattle.known_exchange.proofs.reading.tree_of.Goals as goal

pub returns-in-Ok-clause-spelled : goal.returns-in-Ok-clause-spelled
returns-in-Ok-clause-spelled c = all_spelled c.args.text.now c.in-Ok.tokens c.tree_of_tokens.result
    c.in-Ok.ensures.tokens c.in-Ok.ensures.few c.requires c.tree_of_tokens.ensures.spelled
