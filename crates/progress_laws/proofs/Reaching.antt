-- What holds of each core to which events lead.
use Rattle.std.proofs.Common.{◌≡◌, ◌⊎◌, ⊎_elim, ℕ, ◌+◌, ◌≤◌, List, length, refl, subst, arith}
use Rattle.source_meaning.specs.State.{State}
use Rattle.run_books.specs.Accounts.{Account, with_words}
use Rattle.exchange_run.proofs.Ending.{before_end}
use Rattle.interleave_core.specs.declared.event.CoreEvent.{CoreEvent}
use Rattle.interleave_core.specs.Allowed.{MayFollow}
use Rattle.interleave_core.specs.Cores.{Core, opened_core}
use Rattle.interleave_core.specs.Runs.{Runs, Setting}
use Rattle.interleave_core.specs.Safe.{StaysSafe}
use Rattle.interleave_core.proofs.Certified.{pairs_give}
use Rattle.interleave_core.proofs.Interleaved.{stays_safe}
use Rattle.interleave_core.proofs.Joining.{PairsGive}
use Rattle.progress_laws.specs.Counts.{HasInstructions, RunMakes, events_of, jobs_of_run}
use Rattle.progress_laws.specs.Going.{ComesToEnd, HasEvent, IsOver, IsReached, IsSingleEnd}
use Rattle.progress_laws.specs.Going.{MayBegin, NoEvent}
use Rattle.progress_laws.proofs.Counting.{some_total}
use Rattle.progress_laws.proofs.Going.{at_end, bounded, comes, event_or_over, exactly}
use Rattle.progress_laws.proofs.Pacing.{Paced, paced_first, paced_runs}

module _ (k : Setting) (b : Account) (words : List ℕ) where
  abbrev first : State
  first = with_words b.state words

  module _ (m : MayBegin k b words) where
    pairs : PairsGive k.exchange (MayFollow k.kept)
    pairs = pairs_give k.exchange k.kept m.exchange m.checked

    pub counted : HasInstructions k.exchange k.code b words
    counted =
        let t = some_total k.exchange k.code b.limit first m.exchange m.faithful m.valid
        (jobs_of_run k.exchange b words) (λ n lt. before_end k.exchange first b.limit n lt) in
        record { instructions = t.total; made = t.made }

    pub safe : StaysSafe k (opened_core b words)
    safe = stays_safe k.exchange k.code k.kept k.workers b words m.exchange m.faithful m.checked m.valid m.quiet

    abbrev After : ℕ → Core → Type 0
    After n c = Paced k.exchange m.exchange k.code m.faithful k.kept pairs first b.limit n c

    after_all : (events : List CoreEvent) (c : Core) → Runs k events (opened_core b words) c → After (length events) c
    after_all events c runs =
        let begins = paced_first k.exchange m.exchange k.code m.faithful k.kept pairs first b.limit (opened_core b words) m.valid m.quiet refl refl refl refl in
        let same : 0 + length events ≡ length events = omega arith in
        subst (λ n. After n c) same (paced_runs k.exchange m.exchange k.code m.faithful k.kept pairs first b.limit
        k.workers events 0 (opened_core b words) c begins runs)

  module _ (events : List CoreEvent) (c : Core) (r : IsReached k b words events c) where
    abbrev m : MayBegin k b words
    m = r.begins

    after : After m (length events) c
    after = after_all m events c r.runs

    pub goes_on : HasEvent k c ⊎ IsOver c
    goes_on = event_or_over k.exchange m.exchange k.code m.faithful k.kept (pairs m) first b.limit k.workers m.worker (length events) c after

    pub bound : (instructions : ℕ) → RunMakes k.exchange k.code b words instructions → length events ≤ events_of (jobs_of_run k.exchange b words) instructions
    bound instructions make = bounded k.exchange m.exchange k.code m.faithful k.kept (pairs m) first b.limit k.workers
        m.worker instructions make (length events) c after

    over : NoEvent k c → IsOver c
    over none = ⊎_elim (λ h. absurd (none h.event h.can)) (λ o. o) goes_on

    pub ends : NoEvent k c → IsSingleEnd k.exchange first b.limit c
    ends none = let l = counted m in at_end k.exchange m.exchange k.code m.faithful k.kept (pairs m) first b.limit
        k.workers m.worker l.instructions l.made (length events) c after (over none)

    pub exact : (instructions : ℕ) → RunMakes k.exchange k.code b words instructions → NoEvent k c
        → length events ≡ events_of (jobs_of_run k.exchange b words) instructions
    exact instructions make none = exactly k.exchange m.exchange k.code m.faithful k.kept (pairs m) first b.limit
        k.workers m.worker instructions make (length events) c after (over none)

    pub leads : ComesToEnd k first b.limit c
    leads =
        let l = counted m in
        let most = events_of (jobs_of_run k.exchange b words) l.instructions in
        comes k.exchange m.exchange k.code m.faithful k.kept (pairs m) first b.limit k.workers m.worker l.instructions
        l.made most (length events) c after (omega arith)
