-- A job that is ready is one that the machine can run, and what the machine leaves is what comes
-- back.
use Rattle.std.proofs.Common.{◌≡◌, ℕ, ◌≤◌, List, [], ◌∷◌, length, Option, Some, None, refl, sym, ap}
use Rattle.std.proofs.Common.{◌∙◌, subst, arith}
use Rattle.std.specs.List.{AllByRecursion}
use Rattle.std.proofs.lemmas.Bool.{and_from}
use Rattle.job_types.specs.declared.job.JobStart.{JobStart}
use Rattle.job_types.specs.declared.touch.Touch.{Touch}
use Rattle.job_types.specs.declared.touch.Touch.TheVariants.{Load, Store}
use Rattle.job_types.specs.Own.{World}
use Rattle.job_types.specs.Touches.{stored}
use Rattle.machine_code.specs.Coded.{Code}
use Rattle.machine_code.specs.Listed.{is_word_of}
use Rattle.machine_code.specs.Permits.{may_read, may_write}
use Rattle.exchange_model.specs.declared.exchange.Exchange.{Exchange}
use Rattle.exchange_model.specs.Kept.{IsExchange}
use Rattle.machine_code.proofs.Listed.{word_of}
use Rattle.source_meaning.specs.Job.{job}
use Rattle.source_meaning.specs.Traces.{AreOfCells, trace_of}
use Rattle.source_meaning.proofs.Touching.{touches_inside}
use Rattle.machine_meaning.specs.Faithful.{Begins, ComesToEnd, ComesToMeaning, MayMake, started}
use Rattle.machine_meaning.specs.Private.{Private}
use Rattle.shared_store.specs.declared.view.Lent.{Lent}
use Rattle.shared_store.specs.Loans.{current}
use Rattle.shared_store.specs.Seats.{JobView, StoreId}
use Rattle.job_runner.specs.Seen.{readable, writable}
use Rattle.job_runner.specs.Runs.{HasRun, IsReady, KeepsPermit}

-- touches of cells that the permit lets are touches that the seat may make
may_make : (x : Exchange) (loan : Lent) (ts : List Touch) → length loan.base ≡ x.cells → x.cells ≤ 1000000 → AreOfCells x ts
    → KeepsPermit loan.permit ts → AllByRecursion (MayMake (readable loan) (writable loan)) ts
may_make x loan [] whole few cells keeps = tt
may_make x loan (Load w v ∷ ts) whole few cells
    keeps = (
      and_from (is_word_of loan.base w) (may_read loan.permit w) (word_of loan.base x.cells w whole few cells.0)
          keeps.0,
      may_make x loan ts whole few cells.1 keeps.1,
    )
may_make x loan (Store w v ∷ ts) whole few cells
    keeps = (
      and_from (is_word_of loan.base w) (may_write loan.permit w) (word_of loan.base x.cells w whole few cells.0)
          keeps.0,
      may_make x loan ts whole few cells.1 keeps.1,
    )

-- a seat that has touched nothing sees the base values
base_seen : (seat : JobView) → seat.1.touches ≡ [] → current seat.1 ≡ seat.1.lent.base
base_seen seat none = ap (λ (ts : List Touch). stored seat.1.lent.base ts) none

-- where the run begins: at the loan's start
pub begins : (x : Exchange) (code : Code) (store : StoreId) (seat : JobView) (run : Private) → IsExchange x → IsReady x code store seat run
    → (b : Begins x code run (current seat.1) (readable seat.1.lent) (writable seat.1.lent)) × (b.start ≡ seat.1.lent.start)
begins x code store seat run kept ready =
    let loan = seat.1.lent in
    let seen = base_seen seat ready.untouched in
    let few = kept.limited.cells in
    let whole : length loan.base ≡ x.cells = ap length (sym ready.loan.store_is) ∙ ready.loan.valid.store.whole in
    let may : AllByRecursion (MayMake (readable loan) (writable loan)) (job x loan.start loan.base).world.trace =
    may_make x loan (job x loan.start loan.base).world.trace whole (omega (arith, few)) (touches_inside x kept loan.start loan.base) ready.loan.keeps in (
      record {
        state = ready.loan.state;
        start = loan.start;
        valid = ready.loan.valid;
        fitting = ready.loan.fitting;
        store_is = ready.loan.store_is ∙ sym seen;
        run_is = ready.run_is;
        touches = subst (λ (vs : List ℕ). AllByRecursion (MayMake (readable loan) (writable loan)) (job x loan.start vs).world.trace) (sym seen) may;
      },
      refl,
    )

-- the touches that are told
abbrev told_list : Option (List Touch) → List Touch
told_list None = []
told_list (Some ts) = ts

same_world : (v w : World) → v.store ≡ w.store → v.trace ≡ w.trace → v ≡ w
same_world v w s t = λ i. record { store = s i; trace = t i }

-- what comes back, over a seat that began with the base values
comes_back : (x : Exchange) (code : Code) (store : StoreId) (loan : Lent) (seat : JobView) (run : Private)
    → ComesToEnd code.ops (started code loan.start) loan.base (Some []) run (current seat.1) (Some seat.1.touches)
    → ComesToMeaning (job x loan.start loan.base) (Some []) run (current seat.1) (Some seat.1.touches)
    → seat.0 ≡ store → seat.1.lent ≡ loan → HasRun x code store loan seat run
comes_back x code store loan seat run e m home same = record {
  end = e.end;
  ends = e.ends;
  run_is = e.run_is;
  means = record {
    sends = ap (λ (p : Private). p.own.sends) (sym e.run_is) ∙ m.sends;
    chain = ap (λ (p : Private). p.own.chain) (sym e.run_is) ∙ m.chain;
    over = ap (λ (p : Private). p.over) (sym e.run_is) ∙ m.over;
    world = same_world e.end.world (job x loan.start loan.base).world (sym e.store_is ∙ m.store_is) (sym (ap told_list e.told_is) ∙ touches);
  };
  seat_is = λ i. (home i, record { lent = same i; touches = touches i });
}
  where
    touches : seat.1.touches ≡ trace_of x loan.start loan.base
    touches = ap told_list m.told_is

-- what comes back of a job that was ready
pub has_run : (x : Exchange) (code : Code) (store : StoreId) (seat seat' : JobView) (run run' : Private) → IsExchange x → IsReady x code store seat run
    → ComesToEnd code.ops run (current seat.1) (Some seat.1.touches) run' (current seat'.1) (Some seat'.1.touches)
    → ((b : Begins x code run (current seat.1) (readable seat.1.lent) (writable seat.1.lent))
    → ComesToMeaning (job x b.start (current seat.1)) (Some seat.1.touches) run' (current seat'.1)
    (Some seat'.1.touches))
    → (seat.0 ≡ seat'.0) × (seat.1.lent ≡ seat'.1.lent) → HasRun x code store seat.1.lent seat' run'
has_run x code store seat seat' run run' kept ready e meaning like =
    let b = begins x code store seat run kept ready in
    let seen = base_seen seat ready.untouched in
    comes_back x code store seat.1.lent seat' run'
    (subst (λ (z : Private × (List ℕ × List Touch)). ComesToEnd code.ops z.0 z.1.0 (Some z.1.1) run' (current seat'.1)
    (Some seat'.1.touches)) (λ i. (ready.run_is i, (seen i, ready.untouched i))) e)
    (subst (λ (z : JobStart × (List ℕ × List Touch)). ComesToMeaning (job x z.0 z.1.0) (Some z.1.1) run'
    (current seat'.1) (Some seat'.1.touches)) (λ i. (b.1 i, (seen i, ready.untouched i))) (meaning b.0))
    (sym like.0 ∙ ready.home)
    (sym like.1)
