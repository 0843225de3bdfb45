-- A run while its jobs are short: it ends, or its jobs become long.
use Rattle.std.proofs.Common.{◌≡◌, ℕ, ◌≤◌, sym, subst}
use Rattle.plex_limits.specs.declared.limits.TheConstants.{MOST_JOBS}
use Rattle.exchange_model.specs.declared.exchange.Exchange.{Exchange}
use Rattle.source_meaning.specs.State.{State}
use Rattle.checked.specs.Kept.{IsChecked, KeptSummaries}
use Rattle.exchange_run.specs.declared.turns.Come.{Come}
use Rattle.exchange_run.specs.declared.turns.Come.TheVariants.{Among, Over}
use Rattle.exchange_run.specs.declared.turns.Ended.{Ended}
use Rattle.exchange_run.specs.declared.turns.Standing.{Standing}
use Rattle.exchange_run.specs.Comes.{HasCome, IsOnTheWay}
use Rattle.exchange_run.specs.Runs.{IsEndOf, MayGoOn, state_of}
use Rattle.exchange_run.proofs.Resting.{way_more, way_over}
use Rattle.run_certificates.specs.declared.own.Grown.{Grown}
use Rattle.run_certificates.specs.declared.own.Grown.TheVariants as grown
use Rattle.run_certificates.specs.Growth.{HasGrown}

-- a run continues from an intermediate state: it ends, or pauses again

pub come_over : {x : Exchange} {first : State} {limit : ℕ} {run : Standing} {come : Come} {end : Ended}
    → IsOnTheWay x first limit run → HasCome x (state_of run) run.books.limit come → come ≡ Over end
    → IsEndOf x first limit end
come_over {x = x} {run = run} way has is = way_over way (subst (HasCome x (state_of run) run.books.limit) is has)

pub come_among : {x : Exchange} {first : State} {limit : ℕ} {run next : Standing} {come : Come}
    → IsOnTheWay x first limit run → HasCome x (state_of run) run.books.limit come → come ≡ Among next
    → IsOnTheWay x first limit next
come_among {x = x} {run = run} way has is = way_more way (subst (HasCome x (state_of run) run.books.limit) is has)

-- the result

pub grown_over : (x : Exchange) (first : State) (limit : ℕ) (g : Grown) (end : Ended) → HasGrown x first limit g
    → g ≡ grown.Over end → IsEndOf x first limit end
grown_over x first limit g end has is = subst (HasGrown x first limit) is has

grown_long : (x : Exchange) (first : State) (limit : ℕ) (g : Grown) (run : Standing) (k : KeptSummaries)
    → HasGrown x first limit g → g ≡ grown.Long run k → IsOnTheWay x first limit run × IsChecked x k
grown_long x first limit g run k has is = subst (HasGrown x first limit) is has

pub grown_may : (x : Exchange) (first : State) (limit : ℕ) (g : Grown) (run : Standing) (k : KeptSummaries)
    → HasGrown x first limit g → g ≡ grown.Long run k → MayGoOn x run
grown_may x first limit g run k has is = (grown_long x first limit g run k has is).0.may

pub grown_few : (x : Exchange) (first : State) (limit : ℕ) (g : Grown) (run : Standing) (k : KeptSummaries)
    → HasGrown x first limit g → g ≡ grown.Long run k → limit ≤ MOST_JOBS → run.books.limit ≤ MOST_JOBS
grown_few x first limit g run k has is few = subst (λ n. n ≤ MOST_JOBS) (sym (grown_long x first limit g run k has is).0.limited) few

pub grown_checked : (x : Exchange) (first : State) (limit : ℕ) (g : Grown) (run : Standing) (k : KeptSummaries)
    → HasGrown x first limit g → g ≡ grown.Long run k → IsChecked x k
grown_checked x first limit g run k has is = (grown_long x first limit g run k has is).1

pub grown_ends : (x : Exchange) (first : State) (limit : ℕ) (g : Grown) (run : Standing) (k : KeptSummaries)
    (end : Ended) → HasGrown x first limit g → g ≡ grown.Long run k → IsEndOf x (state_of run) run.books.limit end
    → IsEndOf x first limit end
grown_ends x first limit g run k end has is ends = way_over (grown_long x first limit g run k has is).0 ends

pub ruleset grown_rules = (grown_over, grown_may, grown_few, grown_checked)
