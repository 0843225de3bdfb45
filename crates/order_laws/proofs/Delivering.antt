-- The sends of a job: a later job that they go behind keeps its turn, and they change nothing but
-- who waits, the numbers that were drawn and the events.
use Rattle.std.proofs.Common.{◌≡◌, ℕ, ◌+◌, true, false, List, [], ◌∷◌, Some, refl, ap, ◌∙◌}
use Rattle.std.specs.List.{AllByRecursion}
use Rattle.job_types.specs.declared.job.Job.{Job}
use Rattle.job_types.specs.declared.outbox.Sent.{Sent}
use Rattle.job_types.specs.declared.outbox.SendTo.{SendTo}
use Rattle.job_types.specs.declared.outbox.SendTo.TheVariants.{Queue, Outside}
use Rattle.job_types.specs.Waiting.{pick}
use Rattle.source_meaning.specs.Retirement.{all_delivered, delivered, delivered_to}
use Rattle.source_meaning.specs.State.{State}
use Rattle.order_laws.specs.Ends.{GoesBehind}
use Rattle.order_laws.specs.Picks.{AllInPlace, PickStays}
use Rattle.order_laws.proofs.Lists.{join_stays}
use Rattle.order_laws.proofs.Placing.{placed_join}

-- what sends leave as it is
pub record SendsKeep (s t : State) : Type 0 where
  pub chains : t.chains ≡ s.chains
  pub ended : t.ended ≡ s.ended
  pub restarts : t.restarts ≡ s.restarts
  pub lines : t.lines ≡ s.lines
  pub arrived : t.arrived ≡ s.arrived
  pub placed : AllInPlace s.waiting → AllInPlace t.waiting

send_keeps : (to : SendTo) (forlopp : ℕ) (values : List ℕ) (s : State) → SendsKeep s (delivered_to to forlopp values s)
send_keeps (Outside signal) forlopp values s = record { chains = refl; ended = refl; restarts = refl; lines = refl; arrived = refl; placed = λ h. h }
send_keeps (Queue entry level true) forlopp values s = record {
  chains = refl;
  ended = refl;
  restarts = refl;
  lines = refl;
  arrived = refl;
  placed = λ h. placed_join (record { entry = entry; level = level; values = values; forlopp = s.next }) s.waiting h;
}
send_keeps (Queue entry level false) forlopp values s = record {
  chains = refl;
  ended = refl;
  restarts = refl;
  lines = refl;
  arrived = refl;
  placed = λ h. placed_join (record { entry = entry; level = level; values = values; forlopp = forlopp }) s.waiting h;
}

pub sends_keep : (forlopp : ℕ) (sends : List Sent) (s : State) → SendsKeep s (all_delivered forlopp sends s)
sends_keep forlopp [] s = record { chains = refl; ended = refl; restarts = refl; lines = refl; arrived = refl; placed = λ h. h }
sends_keep forlopp (m ∷ rest) s =
    let one = send_keeps m.to forlopp m.values s in
    let more = sends_keep forlopp rest (delivered forlopp m s) in
    record {
      chains = more.chains ∙ one.chains;
      ended = more.ended ∙ one.ended;
      restarts = more.restarts ∙ one.restarts;
      lines = more.lines ∙ one.lines;
      arrived = more.arrived ∙ one.arrived;
      placed = λ h. more.placed (one.placed h);
    }

send_stays : (j : Job) (to : SendTo) (forlopp : ℕ) (values : List ℕ) (s : State) → AllInPlace s.waiting
    → pick s.waiting ≡ Some j → GoesBehind j.level to → PickStays j (delivered_to to forlopp values) s
send_stays j (Outside signal) forlopp values s h e behind = record { picked = e; same = refl }
send_stays j (Queue entry level true) forlopp values s h e behind =
    let k : Job = record { entry = entry; level = level; values = values; forlopp = s.next } in
    let one = join_stays j k s.waiting h e behind in
    record { picked = one.picked; same = ap (λ w. record s { next = s.next + 1; waiting = w }) one.same }
send_stays j (Queue entry level false) forlopp values s h e behind =
    let k : Job = record { entry = entry; level = level; values = values; forlopp = forlopp } in
    let one = join_stays j k s.waiting h e behind in
    record { picked = one.picked; same = ap (λ w. record s { waiting = w }) one.same }

pub sends_stay : (j : Job) (forlopp : ℕ) (sends : List Sent) (s : State) → AllInPlace s.waiting
    → pick s.waiting ≡ Some j → AllByRecursion (λ (m : Sent). GoesBehind j.level m.to) sends
    → PickStays j (all_delivered forlopp sends) s
sends_stay j forlopp [] s h e behind = record { picked = e; same = refl }
sends_stay j forlopp (m ∷ rest) s h e behind =
    let one = send_stays j m.to forlopp m.values s h e behind.0 in
    let kept = send_keeps m.to forlopp m.values s in
    let more = sends_stay j forlopp rest (delivered forlopp m s) (kept.placed h) one.picked behind.1 in
    record { picked = more.picked; same = more.same ∙ ap (all_delivered forlopp rest) one.same }
