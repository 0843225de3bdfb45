-- The result of a run while its jobs are short.
use Rattle.std.specs.Prelude.{ℕ}
use Rattle.exchange_model.specs.declared.exchange.Exchange.{Exchange}
use Rattle.source_meaning.specs.State.{State}
use Rattle.checked.specs.Kept.{IsChecked}
use Rattle.exchange_run.specs.Comes.{IsOnTheWay}
use Rattle.exchange_run.specs.Runs.{IsEndOf}
use Rattle.run_certificates.specs.declared.own.Grown.{Grown}
use Rattle.run_certificates.specs.declared.own.Grown.TheVariants.{Over, Long}

-- a run from this state is over; or it is in an intermediate state, and the summaries kept are
-- those of a certificate of the exchange
abbrev pub HasGrown : Exchange → State → ℕ → Grown → Type 0
HasGrown x first limit (Over end) = IsEndOf x first limit end
HasGrown x first limit (Long run checked) = IsOnTheWay x first limit run × IsChecked x checked
