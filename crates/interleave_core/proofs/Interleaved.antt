-- Events from books and words of a valid state: each can be made, and they lead to what follows the
-- single run.
use Rattle.std.proofs.Common.{◌≡◌, ℕ, List, MatchResult, Result, Ok, Err, refl}
use Rattle.machine_code.specs.Coded.{Code}
use Rattle.exchange_model.specs.declared.exchange.Exchange.{Exchange}
use Rattle.exchange_model.specs.Kept.{IsExchange}
use Rattle.source_meaning.specs.Arrivals.{arrivals}
use Rattle.source_meaning.specs.State.{State}
use Rattle.source_meaning.specs.Valid.{IsValid}
use Rattle.run_books.specs.Accounts.{Account, with_words}
use Rattle.machine_meaning.specs.Faithful.{Faithful}
use Rattle.checked.specs.Kept.{IsChecked, KeptSummaries}
use Rattle.interleave_core.specs.declared.event.CoreEvent.{CoreEvent}
use Rattle.interleave_core.specs.declared.event.CoreFault.{CoreFault}
use Rattle.interleave_core.specs.declared.window.CoreState.{CoreState}
use Rattle.interleave_core.specs.Allowed.{MayFollow}
use Rattle.interleave_core.specs.Cores.{opened_core}
use Rattle.interleave_core.specs.Follows.{Interleaves}
use Rattle.interleave_core.specs.Runs.{IsFault, LeadsTo, setting}
use Rattle.interleave_core.specs.Safe.{StaysSafe}
use Rattle.interleave_core.proofs.Certified.{pairs_give}
use Rattle.interleave_core.proofs.Following.{Beside, follows_first, follows_runs}
use Rattle.interleave_core.proofs.Following.{follows_single_run}
use Rattle.interleave_core.proofs.Safety.{follows_stays_safe}

module _ (x : Exchange) (code : Code) (facts : KeptSummaries) (workers : ℕ) (b : Account) (words : List ℕ)
    (kept : IsExchange x) (faithful : Faithful x code) (checked : IsChecked x facts)
    (valid : IsValid x (with_words b.state words))
    (quiet : arrivals x (with_words b.state words) ≡ with_words b.state words) where
  abbrev first : State
  first = with_words b.state words

  begins : Beside x code (MayFollow facts) first (opened_core b words)
  begins = follows_first x kept code faithful facts (pairs_give x facts kept checked) first (opened_core b words) valid quiet refl refl refl

  pub stays_safe : StaysSafe (setting x code facts workers) (opened_core b words)
  stays_safe =
      follows_stays_safe x kept code faithful facts (pairs_give x facts kept checked) checked.by_facts.each_entry first workers (opened_core b words) begins

  led : (events : List CoreEvent) (s : CoreState) → LeadsTo (setting x code facts workers) b words events s
      → Interleaves (setting x code facts workers) b words events s
  led events s leads =
      let pairs = pairs_give x facts kept checked in
      record {
        leads = leads;
        follows = follows_single_run x kept code faithful facts pairs first leads.core
            (follows_runs x kept code faithful facts pairs first workers events (opened_core b words) leads.core begins leads.runs);
      }

  pub interleaves : (events : List CoreEvent) (r : Result CoreState CoreFault)
      → MatchResult r (LeadsTo (setting x code facts workers) b words events)
      (IsFault (setting x code facts workers) b words events)
      → MatchResult r (Interleaves (setting x code facts workers) b words events)
      (IsFault (setting x code facts workers) b words events)
  interleaves events (Ok s) h = led events s h
  interleaves events (Err e) h = h
