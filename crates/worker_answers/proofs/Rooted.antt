-- A store with a run's memory words, none of them lent. The dispatcher may start jobs on it, and
-- its result is that of the single run.
use Rattle.std.proofs.Common.{◌≡◌, ℕ, ◌<◌, ◌≤◌, Bool, List, sym, ap, ◌∙◌, subst}
use Rattle.plex_limits.specs.declared.limits.TheConstants.{MOST_JOBS}
use Rattle.machine_code.specs.Coded.{Code}
use Rattle.store_layout.specs.Laid.{IsLayout}
use Rattle.machine_meaning.specs.Faithful.{Faithful}
use Rattle.lone_job.specs.declared.context.RunContext.{RunContext}
use Rattle.lone_job.specs.Contexts.{IsContext}
use Rattle.exchange_model.specs.declared.exchange.Exchange.{Exchange}
use Rattle.source_meaning.specs.State.{State}
use Rattle.source_meaning.specs.Valid.{IsValid}
use Rattle.run_books.specs.Accounts.{Account, with_words}
use Rattle.shared_store.specs.Loans.{unlent}
use Rattle.shared_store.specs.Seats.{RootView, StoreId}
use Rattle.checked.specs.Kept.{IsChecked, KeptSummaries}
use Rattle.exchange_run.specs.declared.turns.Ended.{Ended}
use Rattle.exchange_run.specs.declared.turns.Standing.{Standing}
use Rattle.exchange_run.specs.Comes.{IsOnTheWay}
use Rattle.exchange_run.specs.Runs.{IsEndOf, MayGoOn, state_of}
use Rattle.exchange_run.proofs.Resting.{way_more, way_over}
use Rattle.parallel_dispatch.specs.declared.dispatcher.Dispatched.{Dispatched}
use Rattle.parallel_dispatch.specs.declared.dispatcher.Dispatched.TheVariants.{Over, Rests}
use Rattle.parallel_dispatch.specs.declared.dispatcher.Ended.{Ended as End}
use Rattle.parallel_dispatch.specs.declared.dispatcher.Rested.{Rested}
use Rattle.parallel_dispatch.specs.Ends.{IsRunEnd, IsRunRest, IsRunTo, MayStart}

-- the store's values are the words that it was made from
values_are : (root : RootView) (store : StoreId) (words : List ℕ) → root ≡ (store, unlent words) → root.1.values ≡ words
values_are root store words is = ap (λ (r : RootView). r.1.values) is

-- nothing is lent
pub root_unlent : (root : RootView) (store : StoreId) (words : List ℕ) → root ≡ (store, unlent words) → root ≡ (store, unlent root.1.values)
root_unlent root store words is = is ∙ ap (λ v. (store, unlent v)) (sym (values_are root store words is))

pub root_valid : (x : Exchange) (s : State) (root : RootView) (store : StoreId) (words : List ℕ)
    → root ≡ (store, unlent words) → IsValid x (with_words s words) → IsValid x (with_words s root.1.values)
root_valid x s root store words is valid = subst (λ v. IsValid x (with_words s v)) (sym (values_are root store words is)) valid

pub root_starts : (x : Exchange) (b : Account) (root : RootView) (store : StoreId) (words : List ℕ)
    → root ≡ (store, unlent words) → MayGoOn x (record { books = b; words = words }) → b.limit ≤ MOST_JOBS
    → (may_rest : Bool) → MayStart x store (record { books = b; root = root; may_rest = may_rest })
root_starts x b root store words is may limit may_rest = record {
  nobody = may.nobody;
  limit = limit;
  root = root_unlent root store words is;
  valid = root_valid x b.state root store words is may.valid;
}

-- the result of the dispatcher that starts from these values
pub root_comes : (x : Exchange) (code : Code) (k : KeptSummaries) (workers : ℕ) (b : Account) (root : RootView)
    (store : StoreId) (words : List ℕ) (come : Dispatched) → root ≡ (store, unlent words)
    → IsRunTo x code k workers (with_words b.state root.1.values) b.limit come
    → IsRunTo x code k workers (with_words b.state words) b.limit come
root_comes x code k workers b root store words come is to = subst
    (λ v. IsRunTo x code k workers (with_words b.state v) b.limit come) (values_are root store words is) to

pub ruleset root_rules = (root_starts, root_comes)

module _ (x : Exchange) (code : Code) (k : KeptSummaries) (workers : ℕ) (first : State) (limit : ℕ) (come : Dispatched)
    (to : IsRunTo x code k workers first limit come) where
  -- the end that the dispatcher reaches is that of the single run
  pub end_comes : (end : End) → come ≡ Over end → IsEndOf x first limit (record { books = end.books; words = end.words; ending = end.ending })
  end_comes end is =
      let over : IsRunEnd x code k workers first limit end = subst (IsRunTo x code k workers first limit) is to in
      record { runs = record { state = over.ends.state; ends = over.ends.ends }; nobody = over.nobody }

  -- a run that the dispatcher hands back is in an intermediate state of the single run
  pub rest_comes : (run : Rested) → come ≡ Rests run → IsOnTheWay x first limit run.there
  rest_comes run is =
      let rest : IsRunRest x code k workers first limit run = subst (IsRunTo x code k workers first limit) is to in
      rest.way

-- the dispatcher continues a run from an intermediate state

pub way_ended : (x : Exchange) (code : Code) (k : KeptSummaries) (workers : ℕ) (first : State) (limit : ℕ)
    (run : Standing) (come : Dispatched) → IsOnTheWay x first limit run
    → IsRunTo x code k workers (state_of run) run.books.limit come → (end : End) → come ≡ Over end
    → (result : Ended) → result ≡ record { books = end.books; words = end.words; ending = end.ending } → IsEndOf x first limit result
way_ended x code k workers first limit run come way to end is result result_is =
    subst (IsEndOf x first limit) (sym result_is) (way_over way (end_comes x code k workers (state_of run) run.books.limit come to end is))

pub way_rested : (x : Exchange) (code : Code) (k : KeptSummaries) (workers : ℕ) (first : State) (limit : ℕ)
    (run : Standing) (come : Dispatched) → IsOnTheWay x first limit run
    → IsRunTo x code k workers (state_of run) run.books.limit come → (rested : Rested) → come ≡ Rests rested
    → IsOnTheWay x first limit rested.there
way_rested x code k workers first limit run come way to rested is = way_more way (rest_comes x code k workers (state_of run) run.books.limit come to rested is)

-- the context of a run, from its parts
pub is_context : (c : RunContext) → IsLayout c.exchange.now.blocks c.layout.now → Faithful c.exchange.now c.code.now
    → IsChecked c.exchange.now c.checked.now → 0 < c.workers → IsContext c
is_context c laid faithful checked some = record { laid = laid; faithful = faithful; checked = checked; some = some }
