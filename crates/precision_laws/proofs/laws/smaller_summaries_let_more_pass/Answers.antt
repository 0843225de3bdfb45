use Rattle.precision_laws.proofs.Pairing.{conflict_more, passes_less, test_more}
use Rattle.precision_laws.proofs.laws.smaller_summaries_let_more_pass.Goals as goal

pub returns-clause-conflicts : goal.returns-clause-conflicts
returns-clause-conflicts c = λ first later great_first great_later d f l h. conflict_more first later great_first great_later f l d h

pub returns-clause-tests : goal.returns-clause-tests
returns-clause-tests c = λ first later great_first great_later t f l h. test_more first later great_first great_later f l t h

pub returns-clause-jobs : goal.returns-clause-jobs
returns-clause-jobs c = λ first later great_first great_later a b f l p. passes_less first later great_first great_later f l a b p
