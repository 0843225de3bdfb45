-- What a change carries over, and the run that continues with it.
use Rattle.std.proofs.Common.{◌≡◌, ℕ, ◌≤◌, List, sym, ap, ◌∙◌, subst, arith}
use Rattle.plex_limits.specs.declared.limits.TheConstants.{MOST_JOBS}
use Rattle.exchange_model.specs.declared.exchange.Exchange.{Exchange}
use Rattle.source_meaning.specs.State.{State}
use Rattle.source_meaning.specs.Valid.{IsValid}
use Rattle.run_books.specs.declared.parts.BookParts.{BookParts}
use Rattle.run_books.specs.Accounts.{Account, with_words}
use Rattle.run_books.specs.Parts.{AreParts, account_of}
use Rattle.exchange_run.specs.declared.turns.Standing.{Standing}
use Rattle.exchange_run.specs.Runs.{state_of}
use Rattle.block_change.specs.Carried.{AreStanding, IsCarried, state_with}
use Rattle.run_answers.specs.Runs.{CarriesOn}

-- a higher limit is at least the number of ended jobs
pub raised_parts : (p : BookParts) (n jobs : ℕ) → n ≡ jobs → AreParts p → p.ended ≤ jobs → jobs ≤ MOST_JOBS → AreParts (record p { limit = n })
raised_parts p n jobs same are few most = record {
  next_line = are.next_line;
  within = are.within;
  numbers = are.numbers;
  kept = record {
    few = subst (λ k. k ≤ MOST_JOBS) (sym same) most;
    within = omega (arith, few, same);
    restarts = are.kept.restarts;
    some = are.kept.some;
    next = are.kept.next;
    lines = are.kept.lines;
    below = are.kept.below;
    chains = are.kept.chains;
  };
}

pub raised_books : (p : BookParts) (n jobs : ℕ) (b : Account) → n ≡ jobs → b ≡ account_of (record p { limit = n }) → b ≡ account_of (record p { limit = jobs })
raised_books p n jobs b same is = is ∙ ap (λ k. account_of (record p { limit = k })) same

-- the run that continues with what was carried over
raised_state : (p : BookParts) (jobs : ℕ) (words : List ℕ) (run : Standing)
    → run.books ≡ account_of (record p { limit = jobs }) → run.words ≡ words → state_of run ≡ state_with p words
raised_state p jobs words run is same = λ i. with_words (is i).state (same i)

pub carries_on : (x y : Exchange) (before : State) (p : BookParts) (words : List ℕ) (jobs : ℕ) (run : Standing)
    → IsCarried x y before (state_with p words) → AreStanding y p words
    → run.books ≡ account_of (record p { limit = jobs }) → run.words ≡ words → CarriesOn x y before jobs run
carries_on x y before p words jobs run carried stands is same =
    let state = raised_state p jobs words run is same in
    record {
      carried = subst (IsCarried x y before) (sym state) carried;
      limited = ap (λ (a : Account). a.limit) is;
      may = record { nobody = ap (λ (a : Account). a.running) is; valid = subst (IsValid y) (sym state) stands.valid };
    }

-- its limit is that of the run
pub carries_few : (x y : Exchange) (before : State) (jobs : ℕ) (run : Standing) → CarriesOn x y before jobs run → jobs ≤ MOST_JOBS → run.books.limit ≤ MOST_JOBS
carries_few x y before jobs run c most = subst (λ k. k ≤ MOST_JOBS) (sym c.limited) most

-- as many jobs have ended as before the change
pub carried_few : (x y : Exchange) (p q : BookParts) (words carried : List ℕ) (jobs : ℕ)
    → IsCarried x y (state_with p words) (state_with q carried) → p.ended ≤ jobs → q.ended ≤ jobs
carried_few x y p q words carried jobs is few = (let same : q.ended ≡ p.ended = ap (λ (t : State). t.ended) is.books in omega (arith, same, few))
