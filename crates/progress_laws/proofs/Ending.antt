-- Where the single run ends: it is over there, and not before.
use Rattle.std.proofs.Common.{◌≡◌, ◌⊎◌, inl, inr, ⊎_elim, ℕ, zero, suc, ◌+◌, ◌<◌, ◌≤◌, Option, Some}
use Rattle.std.proofs.Common.{None, refl, sym, ap, ◌∙◌, arith}
use Rattle.std.proofs.lemmas.Bool.{cases_lt}
use Rattle.std.proofs.lemmas.Option.{none-some}
use Rattle.exchange_model.specs.declared.exchange.Exchange.{Exchange}
use Rattle.source_meaning.specs.SingleRun.{Ending, after, end_state, ending_at, jobs_at_end}
use Rattle.source_meaning.specs.State.{State}
use Rattle.exchange_run.proofs.Ending.{before_end, ends_at}
use Rattle.exchange_run.proofs.Turning.{at_most}
use Rattle.progress_laws.proofs.Counting.{below_next}

module _ (x : Exchange) (first : State) (limit : ℕ) where
  -- it is not over before so many jobs
  abbrev pub AllGo : ℕ → Type 0
  AllGo n = (m : ℕ) → m < n → ending_at limit (after x first m) ≡ None

  -- it is over after so many, and not before
  pub record FirstOver : Type 0 where
    pub count : ℕ
    pub ending : Ending
    pub goes : AllGo count
    pub over : ending_at limit (after x first count) ≡ Some ending

  over_or_goes : (n : ℕ) → FirstOver ⊎ AllGo n
  over_or_goes zero = inr (λ m lt. absurd (omega (arith, lt)))
  over_or_goes (suc n) = ⊎_elim (λ f. inl f) (λ goes. by (ending_at limit (after x first n)) refl goes) (over_or_goes n)
    where
      by : (o : Option Ending) → ending_at limit (after x first n) ≡ o → AllGo n → FirstOver ⊎ AllGo (suc n)
      by (Some e) is goes = inl (record { count = n; ending = e; goes = goes; over = is })
      by None is goes = inr (below_next (λ m. ending_at limit (after x first m) ≡ None) n goes is)

  first_over : FirstOver
  first_over = ⊎_elim (λ f. f) (λ goes. absurd (let le = at_most x first limit (limit + 1) goes in omega (arith, le))) (over_or_goes (limit + 1))

  -- it is over at its end
  over_at_end : (e : Ending) × (ending_at limit (end_state x limit first) ≡ Some e)
  over_at_end =
      let f = first_over in
      let last = ends_at x first limit f.count f.ending (at_most x first limit f.count f.goes) f.goes f.over in
      (f.ending, ap (λ n. ending_at limit (after x first n)) last ∙ f.over)

  -- which comes within the limit
  pub few_jobs : jobs_at_end x limit first ≤ limit
  few_jobs = at_most x first limit (jobs_at_end x limit first) (λ m lt. before_end x first limit m lt)

  -- and no later
  pub no_more : (n : ℕ) → AllGo n → n ≤ jobs_at_end x limit first
  no_more n goes =
      let end = jobs_at_end x limit first in
      let over = over_at_end in
      ⊎_elim (λ lt. absurd (none-some over.0 (sym (goes end lt) ∙ over.1))) (λ le. le) (cases_lt end n)
