-- A start that may run on the stored words is one that the register machine can begin with.
use Rattle.std.proofs.Common.{◌≡◌, ℕ, ◌<◌, ◌≤◌, List, [], ◌∷◌, length, Option, Some, refl, sym, ap}
use Rattle.std.proofs.Common.{◌∙◌, subst, arith}
use Rattle.std.specs.List.{AllByRecursion}
use Rattle.job_types.specs.declared.job.JobStart.{JobStart}
use Rattle.job_types.specs.declared.outcome.Outcome.{Outcome}
use Rattle.job_types.specs.declared.touch.Touch.{Touch}
use Rattle.job_types.specs.declared.touch.Touch.TheVariants.{Load, Store}
use Rattle.job_types.specs.Own.{outcome_of}
use Rattle.machine_code.specs.Coded.{Code}
use Rattle.machine_code.specs.Listed.{is_word_of}
use Rattle.exchange_model.specs.declared.exchange.Exchange.{Exchange}
use Rattle.exchange_model.specs.Kept.{IsExchange}
use Rattle.machine_code.proofs.Listed.{word_of}
use Rattle.source_meaning.specs.Job.{job}
use Rattle.source_meaning.proofs.Budget.{job_over}
use Rattle.source_meaning.proofs.Touching.{touches_inside}
use Rattle.source_meaning.specs.Traces.{AreOfCells}
use Rattle.machine_meaning.specs.Private.{Private}
use Rattle.machine_meaning.specs.Faithful.{Begins, ComesToMeaning, Faithful, MayMake, started}
use Rattle.run_engines.specs.Machines.{Leaves}
use Rattle.exchange_run.specs.Runs.{MayRun, left_by}

pub entry_within : (x : Exchange) (code : Code) (start : JobStart) (words : List ℕ) → Faithful x code
    → MayRun x start words → start.job.entry < length code.entries
entry_within x code start words f m = let e = f.entries in let w = m.fitting.job.entry in omega (arith, e, w)

may_make : (x : Exchange) (words : List ℕ) (ts : List Touch) → length words ≡ x.cells → x.cells ≤ 1000000
    → AreOfCells x ts → AllByRecursion (MayMake (is_word_of words) (is_word_of words)) ts
may_make x words [] whole few all = tt
may_make x words (Load cell value ∷ ts) whole few all = (word_of words x.cells cell whole few all.0, may_make x words ts whole few all.1)
may_make x words (Store cell value ∷ ts) whole few all = (word_of words x.cells cell whole few all.0, may_make x words ts whole few all.1)

-- where the run begins
pub begins : (x : Exchange) (code : Code) (start : JobStart) (words : List ℕ) (run : Private) → IsExchange x
    → MayRun x start words → run ≡ started code start → Begins x code run words (is_word_of words) (is_word_of words)
begins x code start words run kept m is =
    let few = kept.limited.cells in
    let whole : length words ≡ x.cells = ap length (sym m.store_is) ∙ m.valid.store.whole in
    record {
      state = m.state;
      start = start;
      valid = m.valid;
      fitting = m.fitting;
      store_is = m.store_is;
      run_is = is;
      touches = may_make x words (job x start words).world.trace whole (omega (arith, few)) (touches_inside x kept start words);
    }

pub begins_there : (x : Exchange) (code : Code) (start : JobStart) (words : List ℕ) (run : Private)
    (kept : IsExchange x) (m : MayRun x start words) (is : run ≡ started code start)
    → (begins x code start words run kept m is).start ≡ start
unfolding begins
begins_there x code start words run kept m is = refl

-- what the run leaves is what the job leaves
pub leaves : (x : Exchange) (start begun_with : JobStart) (words : List ℕ) (told now_told : Option (List Touch))
    (run : Private) (now : List ℕ) → begun_with ≡ start → ComesToMeaning (job x begun_with words) told run now now_told
    → Leaves run (left_by x start words)
leaves x start begun_with words told now_told run now same c = subst (λ s. Leaves run (left_by x s words)) same here
  where
    over : (o : Outcome) × ((job x begun_with words).over ≡ Some o)
    over = job_over x begun_with words

    outcome_told : Some (outcome_of (job x begun_with words).over) ≡ (job x begun_with words).over
    outcome_told = ap (λ o. Some (outcome_of o)) over.1 ∙ sym over.1

    here : Leaves run (left_by x begun_with words)
    here = record { sends = c.sends; chain = c.chain; over = c.over ∙ sym outcome_told }
