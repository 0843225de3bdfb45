-- The trace of a run tells its words.
use Rattle.std.proofs.Common.{◌≡◌, ℕ, zero, suc, List, [], ◌∷◌, ◌++◌, Option, Some, None, refl, sym}
use Rattle.std.proofs.Common.{ap, ◌∙◌, subst}
use Rattle.std.proofs.lemmas.List.{append-nil}
use Rattle.std.specs.Prelude.{slice_index}
use Rattle.job_types.specs.declared.outcome.Outcome.{Outcome}
use Rattle.job_types.specs.declared.touch.Touch.{Touch}
use Rattle.job_types.specs.declared.touch.Touch.TheVariants.{Load, Store}
use Rattle.job_types.specs.Own.{World}
use Rattle.job_types.specs.Touches.{stored}
use Rattle.job_types.proofs.Touched.{stored-append}
use Rattle.machine_code.specs.declared.op.Op.{Op}
use Rattle.source_meaning.specs.Traces.{Answers}
use Rattle.source_meaning.proofs.Growing.{answers_append}
use Rattle.machine_meaning.specs.Private.{Private}
use Rattle.machine_meaning.specs.Machine.{Apart, Loads, Machine, Reach, Stores, op_at, reach}
use Rattle.machine_meaning.specs.Machine.{touched}
use Rattle.run_laws.specs.Alone.{IsTold, alone, goes_on, makes_unless}

-- the touch of an instruction that reaches so, over these words
abbrev pub touch_of : Reach → List ℕ → List Touch
touch_of Apart store = []
touch_of (Loads word) store = Load word (slice_index store word) ∷ []
touch_of (Stores word value) store = Store word value ∷ []

-- it joins the trace, its store is made, and its load found what stood there
pub record IsTouch (w : World) (r : Reach) : Type 0 where
  pub trace : (touched r w).trace ≡ w.trace ++ touch_of r w.store
  pub store : (touched r w).store ≡ stored w.store (touch_of r w.store)
  pub told : Answers w.store (touch_of r w.store)

pub is_touch : (w : World) (r : Reach) → IsTouch w r
is_touch w Apart = record { trace = sym (append-nil w.trace); store = refl; told = tt }
is_touch w (Loads word) = record { trace = refl; store = refl; told = (refl, tt) }
is_touch w (Stores word value) = record { trace = refl; store = refl; told = tt }

told_more : (store : List ℕ) (m : Machine) (r : Reach) (p : Private) → IsTold store m → IsTold store (record { run = p; world = touched r m.world })
told_more store m r p told =
    let t = is_touch m.world r in
    let ts = touch_of r m.world.store in
    record {
      words = t.store ∙ ap (λ s. stored s ts) told.words ∙ sym (stored-append m.world.trace ts store) ∙ ap (stored store) (sym t.trace);
      loads = subst (Answers store) (sym t.trace) (answers_append m.world.trace ts store told.loads (subst (λ s. Answers s ts) told.words t.told));
    }

pub told_on : (store : List ℕ) (code : List Op) (m : Machine) → IsTold store m → IsTold store (goes_on code m)
told_on store code m told = by m.run.over
  where
    by : (o : Option Outcome) → IsTold store (makes_unless o code m)
    by None = told_more store m (reach (op_at code m.run.pc) m.run) _ told
    by (Some o) = told

pub run_told : (n : ℕ) (code : List Op) (p : Private) (store : List ℕ) → IsTold store (alone n code p store)
unfolding alone
run_told zero code p store = record { words = refl; loads = tt }
run_told (suc n) code p store = told_on store code (alone n code p store) (run_told n code p store)
