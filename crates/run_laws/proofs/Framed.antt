-- A run over other words that answer its trace is the same run.
use Rattle.std.proofs.Common.{◌≡◌, ℕ, zero, suc, List, [], ◌∷◌, ◌++◌, Option, Some, None, refl, sym}
use Rattle.std.proofs.Common.{ap, ◌∙◌, subst}
use Rattle.std.specs.Prelude.{slice_index}
use Rattle.job_types.specs.declared.outcome.Outcome.{Outcome}
use Rattle.job_types.specs.declared.touch.Touch.{Touch}
use Rattle.job_types.specs.declared.touch.Touch.TheVariants.{Load, Store}
use Rattle.job_types.specs.Own.{World}
use Rattle.job_types.specs.Touches.{stored}
use Rattle.job_types.proofs.Touched.{stored-append}
use Rattle.machine_code.specs.declared.op.Op.{Op}
use Rattle.source_meaning.specs.Traces.{Answers}
use Rattle.source_meaning.proofs.Framed.{answers_split}
use Rattle.machine_meaning.specs.Private.{Private}
use Rattle.machine_meaning.specs.Machine.{Apart, Loads, Machine, Reach, Stores, act, loaded}
use Rattle.machine_meaning.specs.Machine.{machine_step, op_at, reach, touched}
use Rattle.run_laws.specs.Alone.{alone, goes_on, makes_unless, on_words}
use Rattle.run_laws.proofs.Told.{is_touch, touch_of}

-- the world after these stores
abbrev over : List ℕ → List Touch → World
over words t = record { store = stored words t; trace = t }

-- an instruction reaches alike over words that answer its touch: it is given the same value, and
-- leaves the same trace
pub record IsAlike (words : List ℕ) (w : World) (r : Reach) : Type 0 where
  pub given : loaded r (stored words w.trace) ≡ loaded r w.store
  pub world : touched r (over words w.trace) ≡ over words (touched r w).trace

reaches_alike : (words : List ℕ) (w : World) (r : Reach) → Answers (stored words w.trace) (touch_of r w.store) → IsAlike words w r
reaches_alike words w Apart told = record { given = refl; world = refl }
reaches_alike words w (Loads word) told = record {
  given = told.0;
  world = ap (λ v. record { store = stored words w.trace; trace = w.trace ++ Load word v ∷ [] }) told.0
      ∙ ap (λ s. record { store = s; trace = w.trace ++ Load word (slice_index w.store word) ∷ [] })
      (sym (stored-append w.trace (Load word (slice_index w.store word) ∷ []) words));
}
reaches_alike words w (Stores word value) told = record {
  given = refl;
  world = ap (λ s. record { store = s; trace = w.trace ++ Store word value ∷ [] }) (sym (stored-append w.trace (Store word value ∷ []) words));
}

-- one instruction over other words
pub step_framed : (words : List ℕ) (op : Op) (m : Machine) → Answers words (machine_step op m).world.trace
    → machine_step op (on_words words m) ≡ on_words words (machine_step op m)
step_framed words op m told =
    let r = reach op m.run in
    let t = is_touch m.world r in
    let a = reaches_alike words m.world r (answers_split m.world.trace (touch_of r m.world.store) words (subst (Answers words) t.trace told)).1 in
    ap (λ v. record { run = act op v m.run; world = touched r (over words m.world.trace) }) a.given
    ∙ ap (λ (w : World). record { run = act op (loaded r m.world.store) m.run; world = w }) a.world

framed_on : (words : List ℕ) (code : List Op) (m : Machine) → Answers words (goes_on code m).world.trace
    → goes_on code (on_words words m) ≡ on_words words (goes_on code m)
framed_on words code m told = by m.run.over told
  where
    by : (o : Option Outcome) → Answers words (makes_unless o code m).world.trace
        → makes_unless o code (on_words words m) ≡ on_words words (makes_unless o code m)
    by (Some o) told = refl
    by None told = step_framed words (op_at code m.run.pc) m told

-- what a run has touched so far is answered where all that it has touched with one instruction more
-- is
answered_before : (words : List ℕ) (code : List Op) (m : Machine) → Answers words (goes_on code m).world.trace → Answers words m.world.trace
answered_before words code m told = by m.run.over told
  where
    by : (o : Option Outcome) → Answers words (makes_unless o code m).world.trace → Answers words m.world.trace
    by (Some o) told = told
    by None told =
        let r = reach (op_at code m.run.pc) m.run in
        (answers_split m.world.trace (touch_of r m.world.store) words (subst (Answers words) (is_touch m.world r).trace told)).0

pub run_framed : (n : ℕ) (code : List Op) (p : Private) (store words : List ℕ)
    → Answers words (alone n code p store).world.trace → alone n code p words ≡ on_words words (alone n code p store)
unfolding alone
run_framed zero code p store words told = refl
run_framed (suc n) code p store words told =
    let m = alone n code p store in
    ap (goes_on code) (run_framed n code p store words (answered_before words code m told)) ∙ framed_on words code m told
