-- What a job leaves that keeps to its summary. The marks tell: one that the job's chain has at its
-- end and had not at its start was stored to, and so was one that it had at its start and has no
-- more; and the job may store to a mark only by a SEIZE of a record that is free, or by a FREE of
-- one that it may hold.
use Rattle.std.proofs.Common.{◌≡◌, ◌≢◌, ◌⊎◌, inl, inr, ⊎_elim, ℕ, true, false, List, [], ◌∷◌, sym}
use Rattle.std.proofs.Common.{ap, ◌∙◌, subst, arith}
use Rattle.std.specs.Prelude.{slice_index}
use Rattle.std.specs.List.{AllByRecursion, Contains}
use Rattle.std.proofs.lemmas.Bool.{cases_eq, both_ways, cases_Bool}
use Rattle.job_types.specs.declared.job.JobStart.{JobStart}
use Rattle.job_types.specs.declared.touch.Touch.{Touch}
use Rattle.job_types.specs.declared.touch.Touch.TheVariants.{Load, Store}
use Rattle.job_types.specs.Chain.{holds}
use Rattle.job_types.specs.Forlopps.{ChainMap, chain_at}
use Rattle.job_types.specs.Touches.{NoStore}
use Rattle.exchange_model.specs.declared.entry.Cell.{Cell}
use Rattle.exchange_model.specs.declared.entry.Cell.TheVariants as cell
use Rattle.exchange_model.specs.declared.exchange.Exchange.{Exchange}
use Rattle.exchange_model.specs.Cells.{IsCell, mark_cell}
use Rattle.exchange_model.specs.Kept.{IsExchange}
use Rattle.exchange_model.proofs.Numbers.{mark_is_cell, cell_number-mark, cell_number-once}
use Rattle.source_meaning.specs.Config.{Config, files_of}
use Rattle.source_meaning.specs.Job.{job}
use Rattle.source_meaning.specs.State.{State}
use Rattle.source_meaning.specs.Traces.{trace_of}
use Rattle.source_meaning.specs.Valid.{IsFitting, IsLive, IsRecord, IsValid}
use Rattle.source_meaning.proofs.Agreeing.{job_keeps}
use Rattle.source_meaning.proofs.Chains.{holds_all}
use Rattle.source_meaning.proofs.Freeing.{put_chain, put_same, put_other}
use Rattle.source_meaning.proofs.Holding.{HoldsOn}
use Rattle.source_meaning.proofs.Retiring.{job_ends_so}
use Rattle.flow_points.specs.declared.fact.Fact.{Fact}
use Rattle.entry_summary.specs.declared.summary.Access.TheVariants.{Frees}
use Rattle.entry_summary.specs.declared.summary.Summary.{Summary}
use Rattle.entry_summary.specs.Summaries.{IsSummary}
use Rattle.start_permit.specs.Granted.{IsFree, MayHold, MayWrite}
use Rattle.order_laws.specs.Windows.{done_by}
use Rattle.pair_laws.specs.Orders.{KeepsTo}
use Rattle.pair_laws.specs.Pairs.{IsDoneBy}
use Rattle.permit_laws.specs.Permitted.{ArePermitted, MayHoldAll}
use Rattle.pair_laws.proofs.Naming.{access_fits}
use Rattle.pair_laws.proofs.Cells.{AllFit, CellLet, written}
use Rattle.pair_laws.proofs.Beside.{held_at_start, held_not_free}
use Rattle.pair_laws.proofs.Staying.{chain_of}

-- permitted touches do not store to a word, or it may be written
stored_or_not : (x : Exchange) (m : Summary) (start : JobStart) (chains : ChainMap) (ts : List Touch) (w : ℕ)
    → ArePermitted x m start chains ts → NoStore w ts ⊎ MayWrite x m start chains w
stored_or_not x m start chains [] w all = inl tt
stored_or_not x m start chains (Load u v ∷ ts) w all = stored_or_not x m start chains ts w all.1
stored_or_not x m start chains (Store u v ∷ ts) w all =
    elim (cases_eq w u) [
      | inl same ↦ inr (subst (MayWrite x m start chains) (sym same) all.0)
      | inr other ↦ ⊎_elim (λ none. inl (other, none)) (λ writes. inr writes) (stored_or_not x m start chains ts w all.1)
    ]

module _ (x : Exchange) (facts : List Fact) (s : State) (m : Summary) (start : JobStart) (kept : IsExchange x)
    (valid : IsValid x s) (fits : IsFitting x s start) where
  abbrev f : ℕ
  f = start.job.forlopp

  abbrev end : Config
  end = job x start s.store

  -- chains and marks as the job ends

  ended_so : HoldsOn x (IsLive s) (chain_at s.chains) f end
  ended_so = (job_ends_so x kept s valid start fits).holds

  end_records : AllByRecursion (IsRecord x) end.own.chain
  end_records = subst (AllByRecursion (IsRecord x)) (put_same (chain_at s.chains) f end.own.chain) (ended_so.books.records f)

  in_end : (file number : ℕ) → holds end.own.chain file number ≡ true → holds (put_chain (chain_at s.chains) f end.own.chain f) file number ≡ true
  in_end file number h = subst (λ chain. holds chain file number ≡ true) (sym (put_same (chain_at s.chains) f end.own.chain)) h

  -- a record that stands in the chain of another forlopp does so at the end
  in_other : (n file number : ℕ) → n ≢ f → holds (chain_at s.chains n) file number ≡ true
      → holds (put_chain (chain_at s.chains) f end.own.chain n) file number ≡ true
  in_other n file number other h = subst (λ chain. holds chain file number ≡ true) (sym (put_other (chain_at s.chains) f end.own.chain n other)) h

  in_start : (file number : ℕ) → holds (chain_at s.chains f) file number ≡ true → holds start.chain file number ≡ true
  in_start file number h = subst (λ chain. holds chain file number ≡ true) (sym fits.chain) (chain_of x s f file number valid h)

  -- one that the job holds at its end and did not hold at its start was free
  was_free : (file number : ℕ) → holds end.own.chain file number ≡ true → holds start.chain file number ≡ false → IsFree s.chains file number
  was_free file number h none n =
      ⊎_elim
      (λ there. elim (cases_eq n f) [
        | inl same ↦ absurd (both_ways (holds start.chain file number) none
            (in_start file number (subst (λ k. holds (chain_at s.chains k) file number ≡ true) same there)))
        | inr other ↦ absurd (other (ended_so.books.apart n f file number (in_other n file number other there) (in_end file number h)))
      ])
      (λ out. out) (cases_Bool (holds (chain_at s.chains n) file number))

  -- and one that it held at its start and does not hold at its end is free then
  is_free : (file number : ℕ) → holds start.chain file number ≡ true → holds end.own.chain file number ≡ false → (n : ℕ)
      → holds (put_chain (chain_at s.chains) f end.own.chain n) file number ≡ false
  is_free file number h none n =
      elim (cases_eq n f) [
        | inl same ↦ ap (λ k. holds (put_chain (chain_at s.chains) f end.own.chain k) file number) same
            ∙ ap (λ chain. holds chain file number) (put_same (chain_at s.chains) f end.own.chain) ∙ none
        | inr other ↦
            ap (λ chain. holds chain file number) (put_other (chain_at s.chains) f end.own.chain n other)
            ∙ ⊎_elim
            (λ there. absurd (other (valid.chains.apart n f (record { file = file; number = number }) there (held_at_start x s start file number fits h).1)))
            (λ out. out) (cases_Bool (holds (chain_at s.chains n) file number))
      ]

  module _ (told : IsSummary x (Contains facts) start.job.entry m) (keeps : KeepsTo x s m start) where
    all_fit : AllFit x m
    all_fit one there = access_fits x kept (Contains facts) start.job.entry one ((told.accesses one).0 there)

    -- a mark that has changed may be written, and why
    mark_let : (file number : ℕ) (r : IsRecord x (record { file = file; number = number }))
        → (slice_index end.world.store (mark_cell r.placed number) ≡ slice_index s.store (mark_cell r.placed number)
        → ⊥)
        → CellLet x m.accesses start s.chains true (cell.Mark file number)
    unfolding files_of
    mark_let file number r changed =
        let w : ℕ = mark_cell r.placed number in
        let c : Cell = cell.Mark file number in
        let there : IsCell x.blocks c = mark_is_cell x.blocks file number r.placed r.here.there r.here.within r.kind in
        let writes : MayWrite x m start s.chains w =
        ⊎_elim (λ none. absurd (changed (job_keeps x start s.store w none))) (λ may. may)
        (stored_or_not x m start s.chains (trace_of x start s.store) w keeps.touches) in
        let q = written x m start s.chains w all_fit writes in
        let at : q.at ≡ c = cell_number-once x.blocks q.at c q.there there (q.is ∙ sym (cell_number-mark x.blocks file number r.placed r.here.there)) in
        subst (CellLet x m.accesses start s.chains true) at q.lets

    taken : (file number : ℕ) → IsFree s.chains file number
        → CellLet x m.accesses start s.chains true (cell.Mark file number)
        → MayHold m.accesses start.chain s.chains file number
    taken file number free (inl q) = inr (q.there, free)
    taken file number free (inr q) = q.held

    given : (file number : ℕ) → holds start.chain file number ≡ true
        → CellLet x m.accesses start s.chains true (cell.Mark file number) → Contains m.accesses (Frees file)
    given file number h (inl q) = absurd (held_not_free x s start file number fits h q.marks)
    given file number h (inr q) = q.there

    end_held : MayHoldAll m start s.chains end.own.chain
    end_held file number h =
        ⊎_elim (λ had. inl had)
        (λ none.
        let r : IsRecord x (record { file = file; number = number }) = holds_all (IsRecord x) end.own.chain file number end_records h in
        let free = was_free file number h none in
        let before : slice_index s.store (mark_cell r.placed number) ≡ 0 = valid.marks.free file number r.placed r.here r.kind free in
        let after : slice_index end.world.store (mark_cell r.placed number) ≡ 1 =
        ended_so.books.held f file number r.placed r.here.there (in_end file number h) in
        taken file number free (mark_let file number r (λ same. (let e : 1 ≡ 0 = sym after ∙ same ∙ before in omega (arith, e)))))
        (cases_Bool (holds start.chain file number))

    end_let_go : (file number : ℕ) → holds start.chain file number ≡ true → holds end.own.chain file number ≡ false → Contains m.accesses (Frees file)
    end_let_go file number h none =
        let had = (held_at_start x s start file number fits h).1 in
        let r : IsRecord x (record { file = file; number = number }) = holds_all (IsRecord x) (chain_at s.chains f) file number (valid.chains.records f) had in
        let before : slice_index s.store (mark_cell r.placed number)
        ≡ 1 = valid.marks.held f (record { file = file; number = number }) r.placed r.here.there had in
        let after : slice_index end.world.store (mark_cell r.placed number) ≡ 0 =
        ended_so.books.free file number r.placed r.here r.kind (is_free file number h none) in
        given file number h (mark_let file number r (λ same. (let e : 0 ≡ 1 = sym after ∙ same ∙ before in omega (arith, e))))

    pub job_leaves : IsDoneBy x m start s.chains (done_by (job x start s.store))
    job_leaves = record { records = end_records; held = end_held; let_go = end_let_go; fault = keeps.fault }
