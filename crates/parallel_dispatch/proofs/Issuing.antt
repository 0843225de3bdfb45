-- One more job in flight.
use Rattle.std.proofs.Common.{◌≡◌, inl, inr, ℕ, ◌+◌, ◌<◌, Bool, true, false, List, [], ◌∷◌, ◌++◌}
use Rattle.std.proofs.Common.{length, Some, None, refl, sym, ap, ◌∙◌, subst, arith, if◌then◌else◌}
use Rattle.std.proofs.lemmas.Bool.{ltb-true}
use Rattle.std.proofs.lemmas.List.{length-map, map-append}
use Rattle.std.specs.Prelude.{nat_lt, slice_index}
use Rattle.std.specs.List.{AllByRecursion}
use Rattle.plex_num.proofs.Lists.{all_append, all_right}
use Rattle.job_types.specs.declared.job.JobStart.{JobStart}
use Rattle.machine_code.specs.declared.permit.Permit.{Permit}
use Rattle.machine_code.specs.Permits.{may_read, may_write}
use Rattle.exchange_model.specs.declared.exchange.Exchange.{Exchange}
use Rattle.exchange_model.specs.Kept.{IsExchange}
use Rattle.source_meaning.specs.SingleRun.{begun, next_start}
use Rattle.source_meaning.specs.State.{State}
use Rattle.source_meaning.specs.Traces.{trace_of}
use Rattle.source_meaning.specs.Valid.{IsFitting, IsJob, IsValid}
use Rattle.source_meaning.proofs.Retiring.{start_fits}
use Rattle.entry_summary.specs.declared.summary.Summary.{Summary}
use Rattle.start_permit.specs.Granted.{MayRead, MayWrite}
use Rattle.checked.specs.Kept.{IsChecked, KeptSummaries}
use Rattle.order_laws.specs.Books.{AreAhead}
use Rattle.order_laws.specs.Keeps.{NoLineBefore}
use Rattle.order_laws.specs.Windows.{MakesWay, jobs_of}
use Rattle.order_laws.proofs.Following.{ahead_issue}
use Rattle.order_laws.proofs.Moving.{window_fits}
use Rattle.order_laws.proofs.Starting.{next_over}
use Rattle.permit_laws.specs.Permitted.{ArePermitted}
use Rattle.run_books.specs.Accounts.{Account, after_start, upcoming, with_words}
use Rattle.shared_store.specs.declared.view.Lent.{Lent}
use Rattle.shared_store.specs.declared.view.Top.{Top}
use Rattle.shared_store.specs.Loans.{FitsBeside, Has, lender, lent}
use Rattle.job_runner.specs.Runs.{IsForJob, KeepsPermit}
use Rattle.interleave_core.proofs.Joining.{begun_all_valid}
use Rattle.parallel_dispatch.specs.Bare.{bare}
use Rattle.parallel_dispatch.specs.Flying.{AllPass, AreWithin, Fly, IsLent, starts_of}
use Rattle.parallel_dispatch.specs.Told.{AreTrue, IsSummaryOf, PassBy}
use Rattle.parallel_dispatch.proofs.Bare.{bare_reads, bare_writes, keeps_bare}
use Rattle.parallel_dispatch.proofs.Lending.{has_last, has_left, of_loan, of_start}
use Rattle.parallel_dispatch.proofs.Told.{apart_from}

-- ## The next job

pub upcoming_parts : (b : Account) (start : JobStart) → Some start ≡ upcoming b → (b.state.ended + b.running < b.limit) × (next_start b.state ≡ Some start)
upcoming_parts b start is = by (nat_lt (b.state.ended + b.running) b.limit) refl is
  where
    by : (t : Bool) → nat_lt (b.state.ended + b.running) b.limit ≡ t
        → Some start ≡ (if t then next_start b.state else None)
        → (b.state.ended + b.running < b.limit) × (next_start b.state ≡ Some start)
    by true lt e = (ltb-true (b.state.ended + b.running) b.limit lt, sym e)
    by false lt e = cc

-- ## Lists

pub starts_more : (loans : List Lent) (l : Lent) → starts_of (loans ++ l ∷ []) ≡ starts_of loans ++ l.start ∷ []
starts_more loans l = map-append (λ (o : Lent). o.start) loans (l ∷ [])

pass_more : (k : KeptSummaries) (starts : List JobStart) (start : JobStart) → AllPass k starts
    → AllByRecursion (λ (older : JobStart). PassBy k older start) starts → AllPass k (starts ++ start ∷ [])
pass_more k [] start all new = (tt, tt)
pass_more k (a ∷ rest) start all new = (all_append (PassBy k a) rest (start ∷ []) all.0 (new.0, tt), pass_more k rest start all.1 new.1)

long_more : (loans : List Lent) (l : Lent) → length (loans ++ l ∷ []) ≡ length loans + 1
long_more [] l = refl
long_more (o ∷ rest) l = (let e = long_more rest l in omega (arith, e))

within_more : (limit ended : ℕ) (loans : List Lent) (l : Lent) → ended + length loans < limit → AreWithin limit ended (loans ++ l ∷ [])
within_more limit ended [] l lt = omega (arith, lt)
within_more limit ended (o ∷ rest) l lt = (let e = long_more rest l in omega (arith, lt, e))

-- ## The job borrows its words

module _ (x : Exchange) (k : KeptSummaries) (kept : IsExchange x) (checked : IsChecked x k) (true_of : AreTrue x k) where
  ways_of : (s : State) (n : Summary) (start : JobStart) (loans : List Lent) → IsSummaryOf k start n → IsJob x start.job
      → AllByRecursion (IsLent x k s) loans → AllByRecursion (λ (older : JobStart). PassBy k older start)
      (starts_of loans)
      → AllByRecursion (λ (older : JobStart). MakesWay x older start) (starts_of loans)
  ways_of s n start [] told is lent pass = tt
  ways_of s n start (l ∷ rest) told is lent pass = (
    true_of.ways lent.0.summary n l.start start lent.0.told told is (pass.0.passes lent.0.summary n lent.0.told told),
    ways_of s n start rest told is lent.1 pass.1,
  )

  module _ (s : State) (books : Account) (top : Top) (loans : List Lent) (fly : Fly x k s books top loans)
      (start : JobStart) (is : Some start ≡ upcoming books) where
    abbrev starts : List JobStart
    starts = starts_of loans

    parts : (books.state.ended + books.running < books.limit) × (next_start books.state ≡ Some start)
    parts = upcoming_parts books start is

    next : next_start (with_words books.state s.store) ≡ Some start
    next = next_over books.state s.store ∙ parts.1

    -- the job is one of an entry of the exchange
    pub is_job : IsJob x start.job
    is_job = (start_fits x (with_words books.state s.store) start
        (subst (IsValid x) (sym fly.ahead.same) (begun_all_valid x (jobs_of starts) s fly.valid)) next).job

    -- the books and the state have the same count of ended jobs
    same_ended : books.state.ended ≡ s.ended
    same_ended = ap (λ (t : State). t.ended) fly.ahead.same

    module _ (n : Summary) (told : IsSummaryOf k start n)
        (line : NoLineBefore (books.state.ended + length loans + 1) books.state.lines)
        (pass : AllByRecursion (λ (older : JobStart). PassBy k older start) (starts_of loans)) where
      grown : AreAhead x s (starts ++ start ∷ []) (begun (with_words books.state s.store))
      grown = ahead_issue x s starts (with_words books.state s.store) start fly.ahead next (ways_of s n start loans told is_job fly.lent pass)
          (subst (λ m. NoLineBefore (books.state.ended + m + 1) books.state.lines) (sym (length-map loans (λ (l : Lent). l.start))) line)

      all_fit : AllByRecursion (IsFitting x s) (starts ++ start ∷ [])
      all_fit = window_fits x s (starts ++ start ∷ []) fly.valid grown.window

      fits : IsFitting x s start
      fits = (all_right (IsFitting x s) starts (start ∷ []) all_fit).0

      older_fits : (l : Lent) → Has loans l → IsFitting x s l.start
      older_fits l has = of_start (IsFitting x s) loans l (window_fits x s starts fly.valid fly.ahead.window) has

      module _ (p : Permit) (p_is : p ≡ bare (trace_of x start top.values)) where
        permitted : ArePermitted x n start s.chains (trace_of x start s.store)
        permitted = (true_of.keeps s n start fly.valid fits told).touches

        here : p ≡ bare (trace_of x start s.store)
        here = p_is ∙ ap (λ ws. bare (trace_of x start ws)) fly.values

        reads_here : (w : ℕ) → may_read p w ≡ true → MayRead x n start s.chains w
        reads_here = subst (λ (q : Permit). (w : ℕ) → may_read q w ≡ true → MayRead x n start s.chains w) (sym here)
            (bare_reads x n start s.chains (trace_of x start s.store) permitted)

        writes_here : (w : ℕ) → may_write p w ≡ true → MayWrite x n start s.chains w
        writes_here = subst (λ (q : Permit). (w : ℕ) → may_write q w ≡ true → MayWrite x n start s.chains w) (sym here)
            (bare_writes x n start s.chains (trace_of x start s.store) permitted)

        -- the permit conflicts with no loan
        pub fits_beside : FitsBeside top.loans p
        fits_beside l has =
            let has_here = fly.listed l has in
            apart_from x k kept checked s fly.valid l n start p (of_loan (IsLent x k s) loans l fly.lent has_here) (older_fits l has_here) fits told
            (of_start (λ (older : JobStart). PassBy k older start) loans l pass has_here) reads_here writes_here

        -- the loan fits the job
        pub for_job : IsForJob x (lent top start p)
        for_job = record {
          state = s;
          valid = fly.valid;
          fitting = fits;
          store_is = sym fly.values;
          keeps = subst (λ (q : Permit). KeepsPermit q (trace_of x start top.values)) (sym p_is) (keeps_bare (trace_of x start top.values));
        }

        new_lent : IsLent x k s (lent top start p)
        new_lent = record {
          summary = n;
          told = told;
          same = record { long = ap length fly.values; same = λ w at. ap (λ ws. slice_index ws w) fly.values };
          reads = reads_here;
          writes = writes_here;
        }

        listed_more : (l : Lent) → Has (lent top start p ∷ top.loans) l → Has (loans ++ lent top start p ∷ []) l
        listed_more l (inl same) = has_last loans l (lent top start p) same
        listed_more l (inr has) = has_left loans l (lent top start p) (fly.listed l has)

        pub fly_more : Fly x k s (after_start (Some start) books) (lender start p top) (loans ++ lent top start p ∷ [])
        fly_more =
            let few = parts.0 in
            let count = fly.running in
            let ended = same_ended in
            let more = starts_more loans (lent top start p) in
            record {
              valid = fly.valid;
              values = fly.values;
              ahead = subst (λ js. AreAhead x s js (begun (with_words books.state s.store))) (sym more) grown;
              running = (let long = long_more loans (lent top start p) in omega (arith, count, long));
              within = within_more books.limit s.ended loans (lent top start p) (omega (arith, few, count, ended));
              lent = all_append (IsLent x k s) loans (lent top start p ∷ []) fly.lent (new_lent, tt);
              pass = subst (AllPass k) (sym more) (pass_more k starts start fly.pass pass);
              listed = listed_more;
            }
