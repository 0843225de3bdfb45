-- The kept summaries of an exchange are sound for its jobs.
use Rattle.exchange_model.specs.declared.exchange.Exchange.{Exchange}
use Rattle.exchange_model.specs.Kept.{IsExchange}
use Rattle.checked.specs.Kept.{IsChecked, KeptSummaries}
use Rattle.pair_laws.proofs.Joining.{make_way}
use Rattle.pair_laws.proofs.Keeping.{keeps_to}
use Rattle.parallel_dispatch.specs.Told.{AreTrue}

pub they_are_true : (x : Exchange) (k : KeptSummaries) → IsExchange x → IsChecked x k → AreTrue x k
they_are_true x k kept checked = record {
  keeps = λ s m start valid fits told. keeps_to x checked.facts kept checked.closed s valid m start fits (checked.by_facts.is start.job.entry m told);
  ways = λ m n a b one other is passes. make_way x checked.facts m n a b kept checked.closed
      (checked.by_facts.is a.job.entry m one) (checked.by_facts.is b.job.entry n other) is passes;
}
