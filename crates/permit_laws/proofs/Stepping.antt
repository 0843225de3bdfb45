-- Each effect, each step and each job stays within the summary of its entry.
use Rattle.std.proofs.Common.{◌≡◌, ⊎_elim, ℕ, zero, suc, ◌+◌, true, List, [], ◌∷◌, length, None}
use Rattle.std.proofs.Common.{sym, subst}
use Rattle.std.specs.Prelude.{slice_index}
use Rattle.plex_num.proofs.Lists.{all_append}
use Rattle.job_types.specs.declared.job.JobStart.{JobStart}
use Rattle.job_types.specs.declared.outbox.Sent.{Sent}
use Rattle.job_types.specs.declared.touch.Touch.TheVariants.{Store}
use Rattle.job_types.specs.Forlopps.{ChainMap}
use Rattle.job_types.specs.Own.{budget}
use Rattle.exchange_model.specs.declared.exchange.Exchange.{Exchange}
use Rattle.exchange_model.specs.declared.stmt.StmtKind.TheOpen as stmt
use Rattle.exchange_model.specs.Cells.{field_cell, mark_cell}
use Rattle.exchange_model.specs.Kept.{IsExchange}
use Rattle.source_meaning.specs.Config.{Item, Caller, Config, base_of, next_counted}
use Rattle.source_meaning.specs.Changes.{ends}
use Rattle.source_meaning.specs.Deeds.{Deed, deed_of, deed_point}
use Rattle.source_meaning.specs.Effects.{Effect, Looks, PutsVariable, PutsField, Seizes, Frees}
use Rattle.source_meaning.specs.Effects.{Goes, Posts, Leave, Faults, Effects, Done, Then, Last}
use Rattle.source_meaning.specs.Effects.{Step, NothingLeft, CountFull, Counts, with_counted}
use Rattle.source_meaning.specs.Job.{begins, after_steps, job}
use Rattle.source_meaning.specs.Ranges.{IsInRange}
use Rattle.source_meaning.specs.Rests.{AreRests, DeedStands}
use Rattle.source_meaning.specs.State.{State}
use Rattle.source_meaning.specs.Step.{step}
use Rattle.source_meaning.specs.Valid.{IsFitting, IsValid}
use Rattle.source_meaning.proofs.Fitting.{deed_fits_in}
use Rattle.source_meaning.proofs.Holding.{uses_own}
use Rattle.source_meaning.proofs.Keeping.{effect_block}
use Rattle.source_meaning.proofs.Marks.{HasMark, variable_put, field_put}
use Rattle.source_meaning.proofs.Ranged.{in_range_kept, steps_in_range}
use Rattle.source_meaning.proofs.Ranging.{TurnsAfter}
use Rattle.source_meaning.proofs.Rests.{DeedRest, steps_rest}
use Rattle.source_meaning.proofs.Stepping.{every_step}
use Rattle.source_meaning.proofs.Touching.{pointer_within, pointer_own, field_of, forlopp_of}
use Rattle.flow_points.specs.declared.fact.Value.TheVariants.{Const}
use Rattle.flow_points.specs.Facts.{Facts, IsClosed}
use Rattle.entry_summary.specs.declared.summary.Access.TheVariants.{Seizes as SeizesOf}
use Rattle.entry_summary.specs.declared.summary.Access.TheVariants.{Frees as FreesOf}
use Rattle.entry_summary.specs.declared.summary.Summary.{Summary}
use Rattle.entry_summary.specs.Accesses as access
use Rattle.entry_summary.specs.Summaries.{IsSummary}
use Rattle.fact_laws.specs.Covers.{KnownNext}
use Rattle.fact_laws.proofs.Covering.{last_step, steps_known}
use Rattle.permit_laws.specs.Permitted.{IsPermitted, ArePermitted, IsToLevel, AreToLevels}
use Rattle.permit_laws.proofs.Holding.{HoldsOwn, holds_first, holds_on, holds_seized, holds_freed}
use Rattle.permit_laws.proofs.Sending.{posting_level}
use Rattle.permit_laws.proofs.Telling.{temp_within, told_access}
use Rattle.permit_laws.proofs.Touching.{KnowsTemps, variable_touch, field_touch, looks_permitted}
use Rattle.permit_laws.proofs.Touching.{mark_touch, freed_permitted}

module _ (x : Exchange) (kept : IsExchange x) (P : Facts) (m : Summary) (start : JobStart) (chains : ChainMap) (summary : IsSummary x P start.job.entry m) where
  -- the touches so far, what the job holds, and what it has sent
  abbrev pub Stays : Config → Type 0
  Stays c = ArePermitted x m start chains c.world.trace × HoldsOwn x m start chains c.own.chain c.world.store × AreToLevels m c.own.sends

  abbrev KnowsAt : ℕ → ℕ → List ℕ → Type 0
  KnowsAt b p temps = KnowsTemps x P start.job.entry start.job.values b p temps

  effect_stays : (deed : Deed) (rest : List Item) (c d : Config) → DeedStands x c.block deed rest
      → KnowsAt c.block (deed_point deed) c.temps → length c.world.store ≡ x.cells → Stays c → Effect x deed rest c d
      → Stays d
  unfolding base_of
  effect_stays deed rest c d at known whole h (Looks e loads each) = (
    all_append (IsPermitted x m start chains)
        c.world.trace loads h.0 (looks_permitted x kept P m start chains summary c deed rest loads at known h.1 each),
    h.1,
    h.2,
  )
  effect_stays deed rest c d at known whole h (PutsVariable e p variable expr v is value fits) =
      let l = stmt.SetVariable variable expr in
      let here = subst (λ (a : Deed). DeedStands x c.block a rest) is at in
      let know = subst (λ (a : Deed). KnowsAt c.block (deed_point a) c.temps) is known in
      let g = deed_fits_in x kept c.block p l rest here in
      let touch = variable_touch x kept P m start chains summary true c.block p variable l rest g.block here
      know.reached g.there g.fits.names (access.writes variable expr) in (
        all_append (IsPermitted x m start chains) c.world.trace (Store (base_of x c.block + variable) v ∷ []) h.0 (touch, tt),
        holds_on x kept m start chains c.own.chain c.world.store d.world.store
            (λ file number q mark. variable_put x kept c.world.store c.block variable v g.block g.there g.fits.names
            whole file number q mark) h.1,
        h.2,
      )
  effect_stays deed rest c d at known whole h (PutsField e p file field pointer expr v placed is may value fits) =
      let l = stmt.SetField file field pointer expr in
      let here = subst (λ (a : Deed). DeedStands x c.block a rest) is at in
      let know = subst (λ (a : Deed). KnowsAt c.block (deed_point a) c.temps) is known in
      let g = deed_fits_in x kept c.block p l rest here in
      let number = slice_index c.temps pointer in
      let within = field_of x kept c.block g.block file field placed g.fits.names.0 may.there in
      let touch = field_touch x kept P m start chains summary true c p file field pointer l rest placed here know h.1
      (temp_within x c.block pointer g.block g.there g.fits.names.1) within may
      (λ w plain fact. access.writes_field file field pointer expr w plain fact) (λ forlopp. access.writes_own file field pointer expr forlopp) in (
        all_append (IsPermitted x m start chains) c.world.trace (Store (field_cell placed number field) v ∷ []) h.0 (touch, tt),
        holds_on x kept m start chains c.own.chain c.world.store d.world.store
            (λ other n q mark. field_put x kept c.world.store file number field v placed
            (record { there = may.there; within = pointer_within c.own.chain file placed number may.sound }) within
            whole other n q mark) h.1,
        h.2,
      )
  effect_stays deed rest c d at known whole h (Seizes e p temp file label number placed is record_of some room none) =
      let l = stmt.Seize temp file label in
      let here = subst (λ (a : Deed). DeedStands x c.block a rest) is at in
      let know = subst (λ (a : Deed). KnowsAt c.block (deed_point a) c.temps) is known in
      let g = deed_fits_in x kept c.block p l rest here in
      let has : HasMark x file number placed = record {
        at = record { there = record_of.there; within = record_of.within };
        kind = forlopp_of x kept c.block g.block file true placed g.fits.names.1 record_of.there;
      } in
      let told = told_access x P start.job.entry m summary c.block p l rest here know.reached (SeizesOf file) (access.seizes temp file label) in
      let touch = mark_touch x kept P m start chains summary c p temp file label number rest placed here know.reached h.1 has none in (
        all_append (IsPermitted x m start chains) c.world.trace (Store (mark_cell placed number) 1 ∷ []) h.0 (touch, tt),
        holds_seized x kept m start chains c.own.chain file number placed has c.world.store whole told none h.1,
        h.2,
      )
  effect_stays deed rest c d at known whole h (Frees e p temp file placed is may) =
      let l = stmt.Free temp file in
      let here = subst (λ (a : Deed). DeedStands x c.block a rest) is at in
      let know = subst (λ (a : Deed). KnowsAt c.block (deed_point a) c.temps) is known in
      let g = deed_fits_in x kept c.block p l rest here in
      let number = slice_index c.temps temp in
      let kind = forlopp_of x kept c.block g.block file true placed g.fits.names.1 may.there in
      let has : HasMark x file number placed = record {
        at = record { there = may.there; within = pointer_within c.own.chain file placed number may.sound };
        kind = kind;
      } in
      let mine = uses_own c.own.chain file placed number kind (pointer_own c.own.chain file placed number may.sound) in
      let told = told_access x P start.job.entry m summary c.block p l rest here know.reached (FreesOf file) (access.frees temp file) in (
        freed_permitted x kept P m start chains summary c p temp file number rest placed here know.reached h.1 has mine
            h.0,
        holds_freed x kept m start chains c.own.chain file number placed has c.world whole told mine h.1,
        h.2,
      )
  effect_stays deed rest c d at known whole h (Goes e todo temps on) = h
  effect_stays deed rest c d at known whole h (Posts e to vs is room) =
      let level = posting_level x P start.job.entry m summary c deed rest to vs at known.reached is in
      (h.0, h.1, all_append (λ (s : Sent). IsToLevel m s.to) c.own.sends (record { to = to; values = vs } ∷ []) h.2 (level, tt))

  leave_stays : (deed : Deed) (rest : List Item) (c d : Config) → Stays c → Leave x deed rest c d → Stays d
  leave_stays deed rest c d h (Faults e f why) = h
  leave_stays deed rest c d h _ = h

  ends_stays : (ks : List Caller) (c : Config) → Stays c → Stays (ends ks c)
  ends_stays [] c h = h
  ends_stays (k ∷ ks) c h = h

  -- the rest of the text, and all numbers in range
  abbrev pub Ranges : Config → Type 0
  Ranges c = AreRests x c × IsInRange x c

  abbrev Fits : ℕ → Deed → List Item → Type 0
  Fits b deed rest = DeedRest x b deed rest × TurnsAfter deed rest

  effects_stay : (deed : Deed) (rest : List Item) (temps : List ℕ) (c d : Config) → Fits c.block deed rest
      → KnowsAt c.block (deed_point deed) temps → Ranges c → Stays c → Effects x deed rest temps c d → Stays d
  effects_stay deed rest temps c d at known r h (Done e) = h
  effects_stay deed rest temps c d at known r h (Then a b e same effect more) =
      let block = sym (effect_block c b effect) in
      let know = subst (KnowsAt c.block (deed_point deed)) (sym same) known in
      effects_stay deed rest temps b d (subst (λ n. Fits n deed rest) block at) (subst (λ n. KnowsAt n (deed_point deed) temps) block known)
      ((in_range_kept x kept).effect deed rest c b at r effect) (effect_stays deed rest c b at.0.0 know r.1.store.whole h effect) more
  effects_stay deed rest temps c d at known r h (Last a b same leave) = leave_stays deed rest c d h leave

  pub step_stays : (c d : Config) → Ranges c → c.over ≡ None
      → ((i : Item) (rest : List Item) → next_counted c.todo ≡ i ∷ rest
      → KnownNext x P start.job.entry start.job.values c i) → Stays c → Step x c d → Stays d
  step_stays c d r going known h (NothingLeft none) = ends_stays c.callers c h
  step_stays c d r going known h (CountFull i rest is full) = h
  step_stays c d r going known h (Counts i rest e is room effects) =
      let at = (in_range_kept x kept).context c i rest r going is in
      let a = known i rest is in
      let know : KnowsAt c.block (deed_point (deed_of i)) c.temps = record { reached = (Const (length c.callers), a.depth); temp = a.temp } in
      effects_stay (deed_of i) rest c.temps (with_counted i c) d at know ((in_range_kept x kept).counting (deed_of i) rest c at r) h effects

module _ (x : Exchange) (kept : IsExchange x) (P : Facts) (closed : IsClosed x P) (m : Summary) (s : State)
    (valid : IsValid x s) (start : JobStart) (fits : IsFitting x s start)
    (summary : IsSummary x P start.job.entry m) where
  abbrev pub StaysSo : Config → Type 0
  StaysSo c = Stays x kept P m start s.chains summary c

  first_stays : StaysSo (after_steps 0 x (begins x start s.store))
  unfolding after_steps
  first_stays = (tt, holds_first x m start s valid.marks, tt)

  pub steps_stay : (n : ℕ) → StaysSo (after_steps n x (begins x start s.store))
  steps_stay zero = first_stays
  steps_stay (suc n) =
      let c = after_steps n x (begins x start s.store) in
      let ranges : AreRests x c × IsInRange x c = (steps_rest x start s.store n, steps_in_range x kept n start s.store fits.job valid.store) in
      ⊎_elim (λ same. subst StaysSo (sym same) (steps_stay n))
      (λ made. subst StaysSo (sym made.1) (step_stays x kept P m start s.chains summary c (step x c) ranges made.0
      (steps_known x kept P closed start s.store fits.job valid.store n made.0) (steps_stay n) (every_step x c)))
      (last_step n x (begins x start s.store))

  pub job_stays : StaysSo (job x start s.store)
  unfolding job
  job_stays = steps_stay (budget + 1)
