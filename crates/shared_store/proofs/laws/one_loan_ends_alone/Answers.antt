use Rattle.shared_store.proofs.Loaned.{kept_out, kept_in}
use Rattle.shared_store.proofs.laws.one_loan_ends_alone.Goals as goal

pub returns : goal.returns
returns c = λ n ls l. (kept_out n ls l, λ h. kept_in n ls l h.0 h.1)
