-- How many instructions jobs make: there is one number, and more jobs make no fewer.
use Rattle.std.proofs.Common.{◌≡◌, ⊎_elim, ℕ, zero, suc, ◌+◌, ◌<◌, ◌≤◌, List, None, refl, sym, ap}
use Rattle.std.proofs.Common.{◌∙◌, subst, arith}
use Rattle.std.proofs.Math.Nat.{eq-or-lt_of_le}
use Rattle.std.proofs.lemmas.Bool.{cases_order}
use Rattle.std.proofs.lemmas.Option.{get_or_from_slice_get, same_Some}
use Rattle.std.specs.Prelude.{IsSome}
use Rattle.plex_num.proofs.Options.{none_is_none}
use Rattle.job_types.specs.declared.job.JobStart.{JobStart}
use Rattle.machine_code.specs.Coded.{Code}
use Rattle.machine_code.specs.declared.op.Op.TheVariants.{End}
use Rattle.exchange_model.specs.declared.exchange.Exchange.{Exchange}
use Rattle.exchange_model.specs.Kept.{IsExchange}
use Rattle.source_meaning.specs.SingleRun.{after, ending_at}
use Rattle.source_meaning.specs.State.{State}
use Rattle.source_meaning.specs.Valid.{IsValid}
use Rattle.source_meaning.proofs.Retiring.{after_valid, start_fits}
use Rattle.machine_meaning.specs.Faithful.{Ends, Faithful, begun, started}
use Rattle.machine_meaning.specs.Machine.{Goes, Machine, by_op, here, machine_step}
use Rattle.run_laws.specs.Alone.{alone, goes_on}
use Rattle.exchange_run.proofs.Turning.{some_start}
use Rattle.interleave_core.specs.Follows.{own_run}
use Rattle.interleave_core.proofs.Instructing.{alone_more, makes_more}
use Rattle.progress_laws.specs.Counts.{EndsAfter, JobsMake, NextMakes}

-- what is so of all numbers below one, and of that one, is so of all below the next
pub below_next : (P : ℕ → Type 0) (n : ℕ) → ((m : ℕ) → m < n → P m) → P n → (m : ℕ) → m < suc n → P m
below_next P n all last m lt = ⊎_elim (λ same. subst P (sym same) last) (λ less. all m less) (eq-or-lt_of_le {n = m} {m = n} (omega (arith, lt)))

-- ## One job

one_count : (code : Code) (start : JobStart) (words : List ℕ) (n m : ℕ) → EndsAfter code start words n → EndsAfter code start words m → n ≡ m
one_count code start words n m a b =
    ⊎_elim (λ same. same)
    (λ h. ⊎_elim
    (λ lt. absurd (none_is_none (own_run code start n words).run.over (b.runs n lt) a.over))
    (λ lt. absurd (none_is_none (own_run code start m words).run.over (a.runs m lt) b.over)) h)
    (cases_order n m)

-- a job that is not over has not made all of them, and one that is over has
pub not_all : (code : Code) (start : JobStart) (words : List ℕ) (made count : ℕ) → EndsAfter code start words count
    → made ≤ count → (own_run code start made words).run.over ≡ None → made < count
not_all code start words made count e le runs = ⊎_elim
    (λ same. absurd (none_is_none (own_run code start count words).run.over (subst (λ n. (own_run code start n words).run.over ≡ None) same runs) e.over))
    (λ less. less)
    (eq-or-lt_of_le {n = made} {m = count} le)

pub all_of_them : (code : Code) (start : JobStart) (words : List ℕ) (made count : ℕ) → EndsAfter code start words count
    → made ≤ count → IsSome (own_run code start made words).run.over → made ≡ count
all_of_them code start words made count e le over = ⊎_elim
    (λ same. same)
    (λ less. absurd (none_is_none (own_run code start made words).run.over (e.runs made less) over))
    (eq-or-lt_of_le {n = made} {m = count} le)

-- the job makes some number of them
pub record HasCount (code : Code) (start : JobStart) (words : List ℕ) : Type 0 where
  pub count : ℕ
  pub ends : EndsAfter code start words count

count_from : (code : Code) (start : JobStart) (words : List ℕ) (n : ℕ) (m end : Machine)
    → own_run code start n words ≡ m → ((k : ℕ) → k < n → (own_run code start k words).run.over ≡ None)
    → IsSome end.run.over → Goes code.ops m end → HasCount code start words
count_from code start words n m end is none over here = record {
  count = n;
  ends = record { over = subst (λ (q : Machine). IsSome q.run.over) (sym is) over; runs = none };
}
count_from code start words n m end is none over (by_op op runs at allowed more) =
    let next : own_run code start (suc n) words ≡ machine_step op m =
    alone_more n code.ops (started code start) words
    ∙ ap (λ (q : Machine). goes_on code.ops q) is
    ∙ makes_more code.ops m runs
    ∙ ap (λ o. machine_step o m) (get_or_from_slice_get code.ops m.run.pc op End at) in
    let before : (k : ℕ) → k < suc n → (own_run code start k words).run.over ≡ None =
    below_next (λ k. (own_run code start k words).run.over ≡ None) n none (ap (λ (q : Machine). q.run.over) is ∙ runs) in
    count_from code start words (suc n) (machine_step op m) end next before over more

pub some_count : (code : Code) (start : JobStart) (words : List ℕ) (end : Machine)
    → Ends code.ops (begun (started code start) words) end → HasCount code start words
unfolding alone
some_count code start words end ends =
    count_from code start words 0 (begun (started code start) words) end refl (λ k lt. absurd (omega (arith, lt))) ends.over ends.goes

-- ## The jobs of the single run

module _ (x : Exchange) (code : Code) (limit : ℕ) (first : State) where
  abbrev Make : ℕ → ℕ → Type 0
  Make n total = JobsMake x code limit first n total

  same_next : (s : State) (n m : ℕ) → NextMakes code limit s n → NextMakes code limit s m → n ≡ m
  same_next s n m a b =
      let same : a.start ≡ b.start = same_Some a.start b.start (sym a.next ∙ b.next) in
      one_count code b.start s.store n m (subst (λ start. EndsAfter code start s.store n) same a.ends) b.ends

  pub one_total : (n t u : ℕ) → Make n t → Make n u → t ≡ u
  one_total zero t u a b = a ∙ sym b
  one_total (suc n) t u a b =
      let before = one_total n a.before b.before a.made b.made in
      let count = same_next (after x first n) a.count b.count a.next b.next in
      let one = a.sum in
      let other = b.sum in
      omega (arith, before, count, one, other)

  -- it was not over before any of them
  pub all_go : (n total : ℕ) → Make n total → (m : ℕ) → m < n → ending_at limit (after x first m) ≡ None
  all_go zero total h m lt = absurd (omega (arith, lt))
  all_go (suc n) total h m lt = below_next (λ k. ending_at limit (after x first k) ≡ None) n (all_go n h.before h.made) h.next.goes_on m lt

  pub no_fewer : (n m t u : ℕ) → m ≤ n → Make m t → Make n u → t ≤ u
  no_fewer zero m t u le a b =
      let none : m ≡ 0 = omega (arith, le) in
      let same = one_total 0 t u (subst (λ k. Make k t) none a) b in
      omega (arith, same)
  no_fewer (suc n) m t u le a b = ⊎_elim
      (λ same. (let eq = one_total (suc n) t u (subst (λ k. Make k t) same a) b in omega (arith, eq)))
      (λ lt. (let less = no_fewer n m t b.before (omega (arith, lt)) a b.made in let sum = b.sum in omega (arith, less, sum)))
      (eq-or-lt_of_le {n = m} {m = suc n} le)

  -- they make some number, as long as the run is not over
  record MakesSome (s : State) : Type 0 where
    pub count : ℕ
    pub next : NextMakes code limit s count

  pub record HasTotal (n : ℕ) : Type 0 where
    pub total : ℕ
    pub made : Make n total

  module _ (kept : IsExchange x) (faithful : Faithful x code) (valid : IsValid x first) where
    makes_some : (s : State) → IsValid x s → ending_at limit s ≡ None → MakesSome s
    makes_some s v goes =
        let some = some_start s limit goes in
        let runs = faithful.runs s some.0 v (start_fits x s some.0 v some.1) in
        let found = some_count code some.0 s.store runs.end runs.ends in
        record { count = found.count; next = record { goes_on = goes; start = some.0; next = some.1; ends = found.ends } }

    pub some_total : (n : ℕ) → ((m : ℕ) → m < n → ending_at limit (after x first m) ≡ None) → HasTotal n
    some_total zero goes = record { total = 0; made = refl }
    some_total (suc n) goes =
        let before = some_total n (λ m lt. goes m (omega (arith, lt))) in
        let more = makes_some (after x first n) (after_valid x kept first n valid) (goes n (omega arith)) in
        record {
          total = before.total + more.count;
          made = record { before = before.total; made = before.made; count = more.count; next = more.next; sum = refl };
        }
