use Rattle.run_books.specs.Accounts.{with_words}
use Rattle.progress_laws.specs.Counts.{jobs_of_run}
use Rattle.progress_laws.proofs.Counting.{one_total}
use Rattle.progress_laws.proofs.Ending.{few_jobs}
use Rattle.progress_laws.proofs.Reaching.{bound, counted}
use Rattle.progress_laws.proofs.laws.events_are_bounded.Goals as goal

pub returns-clause-some : goal.returns-clause-some
returns-clause-some c = counted

pub returns-clause-one : goal.returns-clause-one
returns-clause-one c = λ k b words n m made other. one_total k.exchange k.code b.limit (with_words b.state words)
    (jobs_of_run k.exchange b words) n m made other

pub returns-clause-limited : goal.returns-clause-limited
returns-clause-limited c = λ x b words. few_jobs x (with_words b.state words) b.limit

pub returns-clause-bound : goal.returns-clause-bound
returns-clause-bound c = λ k b words events core instructions reached made. bound k b words events core reached instructions made
