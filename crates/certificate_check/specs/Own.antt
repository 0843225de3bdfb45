-- What is kept of the certificate of an exchange itself.
use Rattle.std.specs.Prelude.{ℕ, Some}
use Rattle.exchange_model.specs.declared.exchange.Exchange.{Exchange}
use Rattle.certificate_meaning.specs.Summaries.{AreSummaries}
use Rattle.access_summary.specs.declared.looks.Excess.{Excess}
use Rattle.access_summary.specs.Looks.{IsPast}
use Rattle.certificate_check.specs.declared.own.Own.{Own}
use Rattle.certificate_check.specs.declared.own.Own.TheVariants.{Kept, Many}
use Rattle.checked.specs.Kept.{IsChecked, KeptSummaries}

-- the summaries are by the least facts, and so they are of the exchange
pub record AreOwn (x : Exchange) (k : KeptSummaries) : Type 0 where
  pub checked : IsChecked x k
  pub least : AreSummaries x k.summaries

-- they are kept, or more looks were made than so many, and there are least facts for them
abbrev pub IsOwn : Exchange → ℕ → Own → Type 0
IsOwn x looks (Kept k) = AreOwn x k
IsOwn x looks (Many excess) = IsPast x (Some looks) excess

-- more looks were made than so many, and there are least facts for them
pub record IsGivenUp (x : Exchange) (looks : ℕ) : Type 0 where
  pub excess : Excess
  pub past : IsPast x (Some looks) excess
