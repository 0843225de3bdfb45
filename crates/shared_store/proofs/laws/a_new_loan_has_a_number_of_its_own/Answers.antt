use Rattle.std.proofs.Common.{arith}
use Rattle.shared_store.proofs.Loaned.{fresh_above}
use Rattle.shared_store.proofs.laws.a_new_loan_has_a_number_of_its_own.Goals as goal

pub returns : goal.returns
returns c = λ ls l h e. let lo = fresh_above ls l h in omega (arith, lo, e)
