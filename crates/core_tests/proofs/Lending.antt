-- A job that may touch all words runs on them.
use Rattle.std.proofs.Common.{◌≡◌, ℕ, ◌+◌, ◌*◌, ◌<◌, Bool, true, false, ◌||◌, List, [], ◌∷◌, Some}
use Rattle.std.proofs.Common.{None, refl, sym, ap, ◌∙◌, subst, arith, if◌then◌else◌}
use Rattle.std.specs.Prelude.{nat_lt}
use Rattle.std.specs.List.{list_any}
use Rattle.std.proofs.lemmas.Option.{none-some}
use Rattle.std.proofs.lemmas.Bool.{or_right}
use Rattle.plex_num.proofs.Lists.{all_weaker}
use Rattle.exchange_model.specs.declared.exchange.Exchange.{Exchange}
use Rattle.exchange_model.specs.Kept.{IsExchange}
use Rattle.exchange_model.specs.Opening.{opening_store}
use Rattle.job_types.specs.declared.job.JobStart.{JobStart}
use Rattle.job_types.specs.declared.touch.Touch.{Touch}
use Rattle.job_types.specs.declared.touch.Touch.TheVariants.{Load, Store}
use Rattle.machine_code.specs.Coded.{Code}
use Rattle.machine_code.specs.declared.permit.Permit.{Permit}
use Rattle.machine_code.specs.declared.permit.Span.{Span}
use Rattle.machine_code.specs.Permits.{may_read, may_write, spans}
use Rattle.machine_code.proofs.Spanned.{spans_in}
use Rattle.source_meaning.specs.SingleRun.{next_start}
use Rattle.source_meaning.specs.Traces.{touched_word, trace_of}
use Rattle.source_meaning.specs.Valid.{IsValid}
use Rattle.source_meaning.proofs.Retiring.{start_fits}
use Rattle.source_meaning.proofs.Touching.{touches_inside}
use Rattle.run_books.specs.Accounts.{Account, upcoming, with_words}
use Rattle.machine_meaning.specs.Faithful.{MayMake, started}
use Rattle.machine_meaning.specs.Private.{Private}
use Rattle.exchange_run.specs.Runs.{MayRun}
use Rattle.shared_store.specs.Loans.{FitsBeside, borrower, unlent}
use Rattle.shared_store.specs.Seats.{JobView, RootView, StoreId}
use Rattle.job_runner.specs.Runs.{IsReady}

-- ## The root of words without loans

pub root_home : (store : StoreId) (root : RootView) (words : List ℕ) → root ≡ (store, unlent words) → root.0 ≡ store
root_home store root words is = ap (λ (r : RootView). r.0) is

pub root_free : (store : StoreId) (root : RootView) (words : List ℕ) (p : Permit) → root ≡ (store, unlent words) → FitsBeside root.1.loans p
root_free store root words p is = subst (λ (r : RootView). FitsBeside r.1.loans p) (sym is) (λ l has. absurd has)

-- ## A permit of all words

all_let : (p : Permit) (n : ℕ) → p.writes ≡ record { first = 0; count = n; stride = 1 } ∷ [] → (w : ℕ) → w < n → may_write p w ≡ true
all_let p n is w lt =
    let whole : Span = record { first = 0; count = n; stride = 1 } in
    let at : 0 + w * 1 ≡ w = omega arith in
    ap (list_any (λ s. spans s w)) is ∙ ap (λ b. b || false) (subst (λ k. spans whole k ≡ true) at (spans_in whole w lt))

-- ## The next job

-- the start of the next job may run on the stored words
pub first_may_run : (x : Exchange) (b : Account) (words : List ℕ) (start : JobStart) → Some start ≡ upcoming b
    → words ≡ opening_store x.blocks → IsValid x (with_words b.state (opening_store x.blocks)) → MayRun x start words
first_may_run x b words start is words_are valid = record {
  state = with_words b.state (opening_store x.blocks);
  valid = valid;
  fitting = start_fits x (with_words b.state (opening_store x.blocks)) start valid (next (nat_lt (b.state.ended + b.running) b.limit) is);
  store_is = sym words_are;
}
  where
    next : (t : Bool) → Some start ≡ (if t then next_start b.state else None) → next_start b.state ≡ Some start
    next true same = sym same
    next false same = absurd (none-some start (sym same))

-- the job is ready to run on a loan of all words
pub ready_on_all : (x : Exchange) (code : Code) (store : StoreId) (root : RootView) (words : List ℕ) (start : JobStart)
    (p : Permit) (seat : JobView) (run : Private) (n : ℕ) → n ≡ x.cells → IsExchange x → MayRun x start words
    → p.writes ≡ record { first = 0; count = n; stride = 1 } ∷ []
    → root ≡ (store, unlent words) → seat ≡ (root.0, borrower start p root.1) → run ≡ started code start → IsReady x code store seat run
ready_on_all x code store root words start p seat run n count kept may all root_is seat_is run_is =
    subst (λ (z : JobView). IsReady x code store z run) (sym (seat_is ∙ ap (λ (r : RootView). (r.0, borrower start p r.1)) root_is)) (record {
      home = refl;
      untouched = refl;
      run_is = run_is;
      loan = record {
        state = may.state;
        valid = may.valid;
        fitting = may.fitting;
        store_is = may.store_is;
        keeps = all_weaker (λ (t : Touch). touched_word t < x.cells) (MayMake (may_read p) (may_write p))
            (trace_of x start words) may_make (touches_inside x kept start words);
      };
    })
  where
    may_make : (t : Touch) → touched_word t < x.cells → MayMake (may_read p) (may_write p) t
    may_make (Load w v) lt = or_right (list_any (λ s. spans s w) p.reads) (may_write p w) (all_let p n all w (subst (λ k. w < k) (sym count) lt))
    may_make (Store w v) lt = all_let p n all w (subst (λ k. w < k) (sym count) lt)
