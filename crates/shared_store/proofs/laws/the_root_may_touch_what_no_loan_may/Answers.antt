use Rattle.shared_store.proofs.Loaned.{lent_out_none, lent_out_all, seen_by_none, seen_by_all}
use Rattle.shared_store.proofs.laws.the_root_may_touch_what_no_loan_may.Goals as goal

pub returns-clause-read : goal.returns-clause-read
returns-clause-read c = λ ls w. (λ e l h. lent_out_none ls l w h e, λ h. lent_out_all ls w h)

pub returns-clause-store : goal.returns-clause-store
returns-clause-store c = λ ls w. (λ e l h. seen_by_none ls l w h e, λ h. seen_by_all ls w h)
