use Rattle.pair_tests.specs.declared.pair.Conflict.TheVariants as conflict
use Rattle.precision_laws.proofs.Wording.{about, all_stand}
use Rattle.precision_laws.proofs.laws.seizures_are_about_marks.Goals as goal

pub returns : goal.returns
returns c = λ x e f first later file kept one other h. about x first later (all_stand x kept e first one)
    (all_stand x kept f later other) kept (conflict.Seizing file) h
