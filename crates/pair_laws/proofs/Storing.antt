-- What the retirement of the first job stores.
use Rattle.std.proofs.Common.{◌≡◌, ℕ, zero, suc, ◌+◌, true, false, List, [], ◌∷◌, ◌++◌, Option}
use Rattle.std.proofs.Common.{Some, None, slice_get, refl, sym, ap, ◌∙◌, subst, append_assoc}
use Rattle.std.proofs.Common.{append-nil}
use Rattle.std.specs.Option.{option_map_or}
use Rattle.job_types.specs.declared.chain.Held.{Held}
use Rattle.job_types.specs.declared.job.JobStart.{JobStart}
use Rattle.job_types.specs.declared.outbox.Sent.{Sent}
use Rattle.job_types.specs.declared.outbox.SendTo.{SendTo}
use Rattle.job_types.specs.declared.outbox.SendTo.TheVariants.{Queue, Outside}
use Rattle.job_types.specs.declared.outcome.JobDone.{JobDone}
use Rattle.job_types.specs.declared.outcome.Outcome.{Outcome}
use Rattle.job_types.specs.declared.outcome.Outcome.TheVariants.{Ended, Faulted}
use Rattle.job_types.specs.declared.touch.Touch.{Touch}
use Rattle.job_types.specs.declared.touch.Touch.TheVariants.{Store}
use Rattle.job_types.specs.Own.{World, untouched, writes}
use Rattle.job_types.specs.Touches.{NoStore, stored}
use Rattle.job_types.proofs.Touched.{stored-append}
use Rattle.job_types.proofs.ChainMaps.{chain_same}
use Rattle.exchange_model.specs.declared.block.Variable.{Variable}
use Rattle.exchange_model.specs.declared.exchange.Exchange.{Exchange}
use Rattle.exchange_model.specs.Cells.{Placed, field_cell, mark_cell}
use Rattle.source_meaning.specs.Changes.{opens_fields, opens_record}
use Rattle.source_meaning.specs.Config.{files_of}
use Rattle.source_meaning.specs.Retirement.{all_delivered, all_opened, delivered, delivered_to}
use Rattle.source_meaning.specs.Retirement.{keeps_chain, opened, release_world, retires}
use Rattle.source_meaning.specs.Retirement.{with_outcome}
use Rattle.source_meaning.specs.State.{State}
use Rattle.entry_summary.specs.declared.summary.Summary.{Summary}
use Rattle.start_permit.specs.Granted.{MayRead}
use Rattle.pair_laws.specs.Orders.{ended_touches, release_touches, retirement_touches}
use Rattle.pair_laws.specs.Pairs.{IsDoneBy, IsFaulted}
use Rattle.pair_laws.proofs.Beside.{AreBeside, some_forlopp}
use Rattle.pair_laws.proofs.Releasing.{release_apart}

-- stores that are made, whatever the words are

abbrev made : List Touch → World → World
made ts w = record { store = stored w.store ts; trace = w.trace ++ ts }

record Makes (f : World → World) : Type 0 where
  touches : List Touch
  is : (w : World) → f w ≡ made touches w

makes_none : Makes (λ w. w)
makes_none = record { touches = []; is = λ w. ap (λ l. record { store = w.store; trace = l }) (sym (append-nil w.trace)) }

makes_one : (cell v : ℕ) → Makes (writes cell v)
makes_one cell v = record { touches = Store cell v ∷ []; is = λ w. refl }

makes_then : (f g : World → World) → Makes f → Makes g → Makes (λ w. g (f w))
makes_then f g p q = record {
  touches = p.touches ++ q.touches;
  is = λ w.
      ap g (p.is w) ∙ q.is (made p.touches w)
      ∙ ap (λ s. record { store = s; trace = (w.trace ++ p.touches) ++ q.touches }) (sym (stored-append p.touches q.touches w.store))
      ∙ ap (λ l. record { store = stored w.store (p.touches ++ q.touches); trace = l }) (append_assoc w.trace p.touches q.touches);
}

makes_fields : (p : Placed) (number field : ℕ) (fields : List Variable) → Makes (opens_fields p number field fields)
makes_fields p number field [] = makes_none
makes_fields p number field (v ∷ rest) = makes_then (writes (field_cell p number field) v.init)
    (opens_fields p number (field + 1) rest) (makes_one (field_cell p number field) v.init)
    (makes_fields p number (field + 1) rest)

makes_record : (p : Placed) (number : ℕ) → Makes (opens_record p number)
makes_record p number = makes_then (opens_fields p number 0 p.file.fields) (writes (mark_cell p number) 0)
    (makes_fields p number 0 p.file.fields) (makes_one (mark_cell p number) 0)

makes_opened : (number : ℕ) (o : Option Placed) → Makes (λ w. option_map_or (λ (p : Placed). opens_record p number w) o w)
makes_opened number None = makes_none
makes_opened number (Some p) = makes_record p number

makes_all : (files : List Placed) (held : List Held) → Makes (all_opened files held)
makes_all files [] = makes_none
makes_all files (r ∷ rest) = makes_then (opened files r) (all_opened files rest) (makes_opened r.number (slice_get files r.file)) (makes_all files rest)

-- a release

pub release_traced : (x : Exchange) (held : List Held) (store : List ℕ) → (release_world x held (untouched store)).trace ≡ release_touches x held
release_traced x held store =
    let m = makes_all (files_of x) held in
    ap (λ (w : World). w.trace) (m.is (untouched store)) ∙ sym (ap (λ (w : World). w.trace) (m.is (untouched [])))

pub release_stored : (x : Exchange) (held : List Held) (store : List ℕ) → (release_world x held (untouched store)).store ≡ stored store (release_touches x held)
release_stored x held store =
    let m = makes_all (files_of x) held in
    ap (λ (w : World). w.store) (m.is (untouched store)) ∙ ap (stored store) (sym (ap (λ (w : World). w.trace) (m.is (untouched []))))

-- sends and chains leave the words as they are

sent_store : (to : SendTo) (forlopp : ℕ) (values : List ℕ) (t : State) → (delivered_to to forlopp values t).store ≡ t.store
sent_store (Outside signal) forlopp values t = refl
sent_store (Queue entry level true) forlopp values t = refl
sent_store (Queue entry level false) forlopp values t = refl

delivered_store : (forlopp : ℕ) (sends : List Sent) (t : State) → (all_delivered forlopp sends t).store ≡ t.store
delivered_store forlopp [] t = refl
delivered_store forlopp (m ∷ rest) t = delivered_store forlopp rest (delivered forlopp m t) ∙ sent_store m.to forlopp m.values t

kept_store : (forlopp : ℕ) (chain : List Held) (t : State) → (keeps_chain forlopp chain t).store ≡ t.store
kept_store zero chain t = refl
kept_store (suc n) chain t = refl

module _ (x : Exchange) (s : State) (first later : Summary) (a b : JobStart) (done : JobDone)
    (h : AreBeside x s first later a b) (d : IsDoneBy x first a s.chains done) where
  stored_by : (f : ℕ) (o : Outcome) (t : State) → f ≡ a.job.forlopp → done.outcome ≡ o
      → (with_outcome x f o (keeps_chain f done.chain t)).store ≡ stored t.store (ended_touches x o done.chain)
  stored_by f Ended t is how = kept_store f done.chain t
  stored_by zero (Faulted f point) t is how = absurd (some_forlopp x s first later a b h (d.fault (subst IsFaulted (sym how) tt)) (sym is))
  stored_by (suc k) (Faulted f point) t is how =
      ap (λ chain. (release_world x chain (untouched t.store)).store) (chain_same t.chains (suc k) done.chain) ∙ release_stored x done.chain t.store

  pub retired_store : (t : State) → (retires x a done t).store ≡ stored t.store (retirement_touches x done)
  retired_store t =
      let counted : State = record t { ended = t.ended + 1 } in
      let sent : State = all_delivered a.job.forlopp done.sends counted in
      stored_by a.job.forlopp done.outcome sent refl refl ∙ ap (λ l. stored l (retirement_touches x done)) (delivered_store a.job.forlopp done.sends counted)

  apart_by : (o : Outcome) (w : ℕ) → done.outcome ≡ o → MayRead x later b s.chains w → NoStore w (ended_touches x o done.chain)
  apart_by Ended w how reads = tt
  apart_by (Faulted f point) w how reads = release_apart x s first later a b h (d.fault (subst IsFaulted (sym how) tt)) done.chain [] w d.records d.held reads

  pub retirement_apart : (w : ℕ) → MayRead x later b s.chains w → NoStore w (retirement_touches x done)
  retirement_apart w reads = apart_by done.outcome w refl reads
