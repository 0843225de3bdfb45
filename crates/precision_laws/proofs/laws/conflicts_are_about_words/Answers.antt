use Rattle.pair_tests.specs.declared.pair.Conflict.TheVariants as conflict
use Rattle.precision_laws.proofs.Wording.{about, all_stand, failed, record_of}
use Rattle.precision_laws.proofs.laws.conflicts_are_about_words.Goals as goal

pub returns-clause-variable : goal.returns-clause-variable
returns-clause-variable c = λ x e f first later number kept one other h. about x first later
    (all_stand x kept e first one) (all_stand x kept f later other) kept (conflict.Variable number) h

pub returns-clause-field : goal.returns-clause-field
returns-clause-field c = λ x e f first later number u v kept one other h. about x first later
    (all_stand x kept e first one) (all_stand x kept f later other) kept (conflict.Field number u v) h

pub returns-clause-record : goal.returns-clause-record
returns-clause-record c = λ first later number u v a b h. record_of first later a b (conflict.Field number u v) h

pub returns-clause-test : goal.returns-clause-test
returns-clause-test c = λ x e f first later a b t r kept one other h fails tells. failed x first later
    (all_stand x kept e first one) (all_stand x kept f later other) kept a b t r h fails tells
