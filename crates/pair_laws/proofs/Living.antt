-- The start of the later job fits still where the first has retired.
use Rattle.std.proofs.Common.{◌≡◌, ◌≢◌, ℕ, zero, suc, ◌+◌, ◌<◌, true, false, List, [], ◌∷◌, refl}
use Rattle.std.proofs.Common.{sym, ◌∙◌, subst, arith}
use Rattle.job_types.specs.declared.job.JobStart.{JobStart}
use Rattle.job_types.specs.declared.outbox.Sent.{Sent}
use Rattle.job_types.specs.declared.outbox.SendTo.{SendTo}
use Rattle.job_types.specs.declared.outbox.SendTo.TheVariants.{Queue, Outside}
use Rattle.job_types.specs.declared.outcome.JobDone.{JobDone}
use Rattle.job_types.specs.declared.outcome.Outcome.{Outcome}
use Rattle.job_types.specs.declared.outcome.Outcome.TheVariants.{Ended, Faulted}
use Rattle.job_types.specs.Forlopps.{Dead, is_dead}
use Rattle.exchange_model.specs.declared.exchange.Exchange.{Exchange}
use Rattle.job_types.proofs.Died.{alive_still}
use Rattle.source_meaning.specs.Retirement.{all_delivered, delivered, delivered_to, keeps_chain}
use Rattle.source_meaning.specs.Retirement.{retires, with_outcome}
use Rattle.source_meaning.specs.State.{State, chain_in}
use Rattle.source_meaning.specs.Valid.{IsFitting, IsLive, MayBe}
use Rattle.entry_summary.specs.declared.summary.Summary.{Summary}
use Rattle.pair_laws.specs.Pairs.{IsDoneBy, IsFaulted, LeavesChains}
use Rattle.pair_laws.proofs.Beside.{AreBeside, some_forlopp}
use Rattle.pair_laws.proofs.Retiring.{chains_left}

-- a number that is live, where sends take effect

sent_live : (to : SendTo) (forlopp : ℕ) (values : List ℕ) (t : State) (n : ℕ) → IsLive t n → IsLive (delivered_to to forlopp values t) n
sent_live (Outside signal) forlopp values t n live = record { drawn = live.drawn; before = live.before; alive = live.alive }
sent_live (Queue entry level true) forlopp values t n live = record
    { drawn = live.drawn; before = (let before = live.before in omega (arith, before)); alive = live.alive }
sent_live (Queue entry level false) forlopp values t n live = record { drawn = live.drawn; before = live.before; alive = live.alive }

delivered_live : (forlopp : ℕ) (sends : List Sent) (t : State) (n : ℕ) → IsLive t n → IsLive (all_delivered forlopp sends t) n
delivered_live forlopp [] t n live = live
delivered_live forlopp (m ∷ rest) t n live = delivered_live forlopp rest (delivered forlopp m t) n (sent_live m.to forlopp m.values t n live)

module _ (x : Exchange) (s : State) (first later : Summary) (a b : JobStart) (done : JobDone)
    (h : AreBeside x s first later a b) (d : IsDoneBy x first a s.chains done) where
  -- the forlopp of the later job, if it has one, is not the first one's
  other_number : b.job.forlopp ≢ 0 → b.job.forlopp ≢ a.job.forlopp
  other_number some same = some (same ∙ h.passes.forlopps (sym same))

  live_by : (f : ℕ) (o : Outcome) (t : State) (n : ℕ) → f ≡ a.job.forlopp → done.outcome ≡ o → n ≢ a.job.forlopp
      → IsLive t n → IsLive (with_outcome x f o (keeps_chain f done.chain t)) n
  live_by zero Ended t n is how other live = live
  live_by zero (Faulted f point) t n is how other live = absurd (some_forlopp x s first later a b h (d.fault (subst IsFaulted (sym how) tt)) (sym is))
  live_by (suc k) Ended t n is how other live = record { drawn = live.drawn; before = live.before; alive = live.alive }
  live_by (suc k) (Faulted f point) t n is how other live = record {
    drawn = live.drawn;
    before = live.before;
    alive = alive_still t.dead (suc k) n (λ same. other (same ∙ is)) live.alive;
  }

  retired_live : (t : State) (n : ℕ) → n ≢ a.job.forlopp → IsLive t n → IsLive (retires x a done t) n
  retired_live t n other live =
      let counted : State = record t { ended = t.ended + 1 } in
      let still : IsLive counted n = record { drawn = live.drawn; before = live.before; alive = live.alive } in
      live_by a.job.forlopp done.outcome (all_delivered a.job.forlopp done.sends counted) n refl refl other
      (delivered_live a.job.forlopp done.sends counted n still)

  may_still : (t : State) (n : ℕ) → t.dead ≡ s.dead → t.next ≡ s.next → (n ≢ 0 → n ≢ a.job.forlopp) → MayBe s n → MayBe (retires x a done t) n
  may_still t zero dead next other may = tt
  may_still t (suc n) dead next other may =
      retired_live t (suc n) (other (λ none. (let e : suc n ≡ 0 = none in omega (arith, e))))
      (record {
        drawn = may.drawn;
        before = subst (λ k. suc n < k) (sym next) may.before;
        alive = subst (λ (e : Dead). is_dead e (suc n) ≡ false) (sym dead) may.alive;
      })

  chain_still : (t : State) (n : ℕ) → LeavesChains first a s.chains (retires x a done t).chains
      → (n ≢ 0 → n ≢ a.job.forlopp) → chain_in s n ≡ chain_in (retires x a done t) n
  chain_still t zero leaves other = refl
  chain_still t (suc n) leaves other = sym (leaves.others (suc n) (other (λ none. (let e : suc n ≡ 0 = none in omega (arith, e)))))

  pub start_fits : (t : State) → t.chains ≡ s.chains → t.dead ≡ s.dead → t.next ≡ s.next → IsFitting x (retires x a done t) b
  start_fits t chains dead next = record {
    job = h.later_fits.job;
    forlopp = may_still t b.job.forlopp dead next other_number h.later_fits.forlopp;
    chain = h.later_fits.chain ∙ chain_still t b.job.forlopp (chains_left x s first later a b done h d t chains) other_number;
  }
