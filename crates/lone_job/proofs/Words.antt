-- The memory words of a root, and a run on them.
use Rattle.std.proofs.Common.{◌≡◌, ℕ, ◌≤◌, Bool, true, false, List, [], ◌∷◌, length, Option, Some}
use Rattle.std.proofs.Common.{refl, sym, ap, ◌∙◌, subst, arith}
use Rattle.std.specs.Prelude.{◌&&◌, not}
use Rattle.std.specs.List.{AllByRecursion}
use Rattle.std.proofs.lemmas.Bool.{false_from_ne_true}
use Rattle.std.proofs.lemmas.Option.{same_Some}
use Rattle.job_types.specs.declared.job.JobStart.{JobStart}
use Rattle.job_types.specs.declared.outcome.JobDone.{JobDone}
use Rattle.job_types.specs.declared.touch.Touch.{Touch}
use Rattle.job_types.specs.declared.touch.Touch.TheVariants.{Load, Store}
use Rattle.job_types.specs.Touches.{NoStore}
use Rattle.machine_code.specs.Coded.{Code}
use Rattle.machine_code.specs.Listed.{is_word_of}
use Rattle.machine_code.specs.Permits.{may_read}
use Rattle.machine_code.proofs.Listed.{word_of}
use Rattle.exchange_model.specs.declared.exchange.Exchange.{Exchange}
use Rattle.exchange_model.specs.Kept.{IsExchange}
use Rattle.source_meaning.specs.Job.{job}
use Rattle.source_meaning.specs.Traces.{AreOfCells}
use Rattle.source_meaning.proofs.Touching.{touches_inside}
use Rattle.machine_meaning.specs.Faithful.{Begins, ComesToEnd, ComesToMeaning, MayMake, started}
use Rattle.machine_meaning.specs.Private.{Private}
use Rattle.run_books.specs.Stores.{MayStore}
use Rattle.run_engines.specs.Machines.{Leaves}
use Rattle.exchange_run.specs.Runs.{MayRun}
use Rattle.run_engines.proofs.Starting.{leaves}
use Rattle.shared_store.specs.declared.view.Lent.{Lent}
use Rattle.shared_store.specs.declared.view.Top.{Top}
use Rattle.shared_store.specs.Loans.{Has, lent_out, seen_by}
use Rattle.shared_store.proofs.Loaned.{seen_by_all}
use Rattle.job_runner.specs.Seen.{free_to_read, free_to_write}
use Rattle.lone_job.specs.Turns.{HasRunAlone}

-- ## Stores while words are lent

pub and_not : (a b : Bool) → a ≡ true → b ≡ false → (a && not b) ≡ true
and_not a b e f = ap (λ t. t && not b) e ∙ ap (λ t. not t) f

-- stores that are allowed, none of them to a word of a loan's permit, are allowed while words are
-- lent
pub free_stores : (t : Top) (ts : List Touch) → MayStore (is_word_of t.values) ts
    → ((l : Lent) → Has t.loans l → (w : ℕ) → may_read l.permit w ≡ true → NoStore w ts) → MayStore (free_to_write t) ts
free_stores t [] may aside = tt
free_stores t (Load u v ∷ ts) may aside = free_stores t ts may aside
free_stores t (Store u v ∷ ts) may aside = (
  and_not (is_word_of t.values u) (seen_by t.loans u) may.0
      (seen_by_all t.loans u (λ l has. false_from_ne_true (may_read l.permit u)
      (λ reads. (aside l has u reads).0 refl))),
  free_stores t ts may.1 (λ l has w reads. (aside l has w reads).1),
)

-- ## A job runs on the words of a root without loans

may_make : (x : Exchange) (top : Top) (ts : List Touch) → top.loans ≡ [] → length top.values ≡ x.cells
    → x.cells ≤ 1000000 → AreOfCells x ts → AllByRecursion (MayMake (free_to_read top) (free_to_write top)) ts
may_make x top [] bare whole few all = tt
may_make x top (Load w v ∷ ts) bare whole few all = (
  and_not (is_word_of top.values w) (lent_out top.loans w)
      (word_of top.values x.cells w whole few all.0) (ap (λ ls. lent_out ls w) bare),
  may_make x top ts bare whole few
      all.1,
)
may_make x top (Store w v ∷ ts) bare whole few
    all = (
      and_not (is_word_of top.values w) (seen_by top.loans w) (word_of top.values x.cells w whole few all.0)
          (ap (λ ls. seen_by ls w) bare),
      may_make x top ts bare whole few all.1,
    )

module _ (x : Exchange) (code : Code) (kept : IsExchange x) (start : JobStart) (top : Top) (bare : top.loans ≡ []) (may : MayRun x start top.values) where
  here : (b : Begins x code (started code start) top.values (free_to_read top) (free_to_write top)) × (b.start ≡ start)
  here =
      let few = kept.limited.cells in
      let whole : length top.values ≡ x.cells = ap length (sym may.store_is) ∙ may.valid.store.whole in (
        record {
          state = may.state;
          start = start;
          valid = may.valid;
          fitting = may.fitting;
          store_is = may.store_is;
          run_is = refl;
          touches = may_make x top (job x start top.values).world.trace bare whole (omega (arith, few)) (touches_inside x kept start top.values);
        },
        refl,
      )

  -- where the run starts
  pub begins_alone : (run : Private) (mid : Top) → mid ≡ top → run ≡ started code start
      → (b : Begins x code run mid.values (free_to_read mid) (free_to_write mid)) × (b.start ≡ start)
  begins_alone run mid mid_is run_is =
      subst (λ (z : Private × Top). (b : Begins x code z.0 z.1.values (free_to_read z.1) (free_to_write z.1))
      × (b.start ≡ start)) (λ i. (sym run_is i, sym mid_is i)) here

  -- where the run ends
  pub has_run_alone : (run left : Private) (mid now : Top) (told now_told : Option (List Touch)) → mid ≡ top
      → run ≡ started code start → ComesToEnd code.ops run mid.values told left now.values now_told
      → ((b : Begins x code run mid.values (free_to_read mid) (free_to_write mid))
      → ComesToMeaning (job x b.start mid.values) told left now.values now_told) → now.loans ≡ mid.loans
      → HasRunAlone x code start top.values left now
  has_run_alone run left mid now told now_told mid_is run_is e meaning loans =
      let b = begins_alone run mid mid_is run_is in
      let end = subst (λ (z : Private × Top). ComesToEnd code.ops z.0 z.1.values told left now.values now_told) (λ i. (run_is i, mid_is i)) e in
      let means = subst (λ (z : JobStart × Top). ComesToMeaning (job x z.0 z.1.values) told left now.values now_told) (λ i. (b.1 i, mid_is i)) (meaning b.0) in
      let bare_now : now.loans ≡ [] = loans ∙ ap (λ (t : Top). t.loans) mid_is ∙ bare in
      record {
        leaves = leaves x start start top.values told now_told left now.values refl means;
        root_is = λ i. record { values = means.store_is i; loans = bare_now i };
        comes = record { end = end.end; ends = end.ends; run_is = end.run_is; words_are = end.store_is };
      }

-- the end of the run is what the job leaves
pub done_alone : (run : Private) (done left : JobDone) → Leaves run left → done.sends ≡ run.own.sends
    → done.chain ≡ run.own.chain → Some done.outcome ≡ run.over → done ≡ left
done_alone run done left l sends chain outcome =
    let how = same_Some done.outcome left.outcome (outcome ∙ l.over) in
    λ i. record { sends = (sends ∙ l.sends) i; chain = (chain ∙ l.chain) i; outcome = how i }
