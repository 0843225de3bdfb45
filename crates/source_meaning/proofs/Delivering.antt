-- The sends of a job that retires keep all of a state but its chains and marks.
use Rattle.std.proofs.Common.{◌≡◌, ⊎_elim, ℕ, suc, ◌+◌, ◌<◌, true, false, List, [], ◌∷◌, ◌++◌}
use Rattle.std.proofs.Common.{length, refl, ◌∙◌, subst, arith}
use Rattle.std.specs.List.{AllByRecursion}
use Rattle.std.proofs.lemmas.Bool.{cases_Bool}
use Rattle.job_types.specs.declared.job.Job.{Job}
use Rattle.job_types.specs.declared.outbox.Sent.{Sent}
use Rattle.job_types.specs.declared.outbox.SendTo.{SendTo}
use Rattle.job_types.specs.declared.outbox.SendTo.TheVariants.{Queue, Outside}
use Rattle.job_types.specs.Forlopps.{is_dead}
use Rattle.job_types.specs.Waiting.{joins}
use Rattle.exchange_model.specs.declared.exchange.Exchange.{Exchange}
use Rattle.source_meaning.specs.Ranges.{SentFits}
use Rattle.source_meaning.specs.Retirement.{delivered_to, delivered, all_delivered}
use Rattle.source_meaning.specs.State.{State, Arrived, Out}
use Rattle.source_meaning.specs.Valid.{IsJob, IsLive, MayBe, EventFits}
use Rattle.plex_num.proofs.Lists.{all_append, all_weaker}
use Rattle.source_meaning.proofs.States.{IsLater, may_later, may_of, Orderly, lists_of, lists_later}
use Rattle.source_meaning.proofs.States.{lists_join, waiting_of}

-- a later state with the same words and chains
pub record IsDelivered (s t : State) : Type 0 where
  pub later : IsLater s t
  pub store : t.store ≡ s.store
  pub chains : t.chains ≡ s.chains

-- what is sent changes no chain

pub delivered_chains : (to : SendTo) (forlopp : ℕ) (values : List ℕ) (s : State) → (delivered_to to forlopp values s).chains ≡ s.chains
delivered_chains (Outside signal) forlopp values s = refl
delivered_chains (Queue entry level true) forlopp values s = refl
delivered_chains (Queue entry level false) forlopp values s = refl

pub all_delivered_chains : (forlopp : ℕ) (sends : List Sent) (s : State) → (all_delivered forlopp sends s).chains ≡ s.chains
all_delivered_chains forlopp [] s = refl
all_delivered_chains forlopp (m ∷ rest) s = all_delivered_chains forlopp rest (delivered forlopp m s) ∙ delivered_chains m.to forlopp m.values s

-- the next number is no dead one
pub next_alive : (x : Exchange) (s : State) (room : ℕ) → Orderly x s room → is_dead s.dead s.next ≡ false
next_alive x s room o = ⊎_elim (λ dead. let past = o.dead s.next dead in absurd (let below = past.1 in omega arith))
    (λ alive. alive) (cases_Bool (is_dead s.dead s.next))

module _ (x : Exchange) (forlopp : ℕ) where
  send_orderly : (to : SendTo) (values : List ℕ) (s : State) (room : ℕ) → Orderly x s (room + 1) → SentFits x to values
      → MayBe s forlopp → Orderly x (delivered_to to forlopp values s) room
      × IsDelivered s (delivered_to to forlopp values s)
  send_orderly (Outside signal) values s room o fits may =
      let t : State = record s { events = s.events ++ Out s.ended signal values forlopp ∷ [] } in
      let later : IsLater s t = record { next = omega arith; dead = λ n alive. alive } in (
        record {
          waiting = waiting_of x t (lists_later x s t s.waiting later (lists_of x s o.waiting));
          some = o.some;
          dead = o.dead;
          few = (let few = o.few in omega arith);
          arrived = o.arrived;
          lines = o.lines;
          events = all_append (EventFits x) s.events (Out s.ended signal values forlopp ∷ []) o.events (fits.0, tt);
        },
        record { later = later; store = refl; chains = refl },
      )
  send_orderly (Queue entry level true) values s room o fits may =
      let j : Job = record { entry = entry; level = level; values = values; forlopp = s.next } in
      let t : State = record s { next = s.next + 1; waiting = joins j s.waiting } in
      let later : IsLater s t = record { next = omega arith; dead = λ n alive. alive } in
      let job : IsJob x j = record { entry = fits.entry; level = fits.level; values = fits.values; words = fits.words } in
      let live : IsLive t s.next = record { drawn = o.some; before = omega arith; alive = next_alive x s (room + 1) o } in (
        record {
          waiting = waiting_of x t (lists_join x t j s.waiting job (may_of t s.next live) (lists_later x s t s.waiting later (lists_of x s o.waiting)));
          some = omega arith;
          dead = λ n dead. let past = o.dead n dead in (past.0, (let below = past.1 in omega arith));
          few = (let few = o.few in omega arith);
          arrived = all_weaker (λ (a : Arrived). a.forlopp < s.next) (λ (a : Arrived). a.forlopp < s.next + 1) s.arrived (λ a below. omega arith) o.arrived;
          lines = o.lines;
          events = o.events;
        },
        record { later = later; store = refl; chains = refl },
      )
  send_orderly (Queue entry level false) values s room o fits may =
      let j : Job = record { entry = entry; level = level; values = values; forlopp = forlopp } in
      let t : State = record s { waiting = joins j s.waiting } in
      let later : IsLater s t = record { next = omega arith; dead = λ n alive. alive } in
      let job : IsJob x j = record { entry = fits.entry; level = fits.level; values = fits.values; words = fits.words } in (
        record {
          waiting = waiting_of x t (lists_join x t j s.waiting job (may_later later forlopp may) (lists_later x s t s.waiting later (lists_of x s o.waiting)));
          some = o.some;
          dead = o.dead;
          few = (let few = o.few in omega arith);
          arrived = o.arrived;
          lines = o.lines;
          events = o.events;
        },
        record { later = later; store = refl; chains = refl },
      )

  pub sends_orderly : (sends : List Sent) (s : State) → Orderly x s (length sends)
      → AllByRecursion (λ (m : Sent). SentFits x m.to m.values) sends → MayBe s forlopp
      → Orderly x (all_delivered forlopp sends s) 0 × IsDelivered s (all_delivered forlopp sends s)
  sends_orderly [] s o fits may = (o, record { later = record { next = omega arith; dead = λ n alive. alive }; store = refl; chains = refl })
  sends_orderly (m ∷ rest) s o fits may =
      let t = delivered forlopp m s in
      let more : suc (length rest) ≡ length rest + 1 = omega arith in
      let here = send_orderly m.to m.values s (length rest) (subst (Orderly x s) more o) fits.0 may in
      let after = sends_orderly rest t here.0 fits.1 (may_later here.1.later forlopp may) in (
        after.0,
        record {
          later = record {
            next = (let a = here.1.later.next in let b = after.1.later.next in omega arith);
            dead = λ n alive. after.1.later.dead n (here.1.later.dead n alive);
          };
          store = after.1.store ∙ here.1.store;
          chains = after.1.chains ∙ here.1.chains;
        },
      )
