-- An instruction on common words, where its word has the value that the job's own run has left
-- there.
use Rattle.std.proofs.Common.{◌≡◌, inl, ℕ, suc, Bool, true, List, ◌++◌, None, refl, ap, ◌∙◌}
use Rattle.std.specs.Prelude.{slice_index}
use Rattle.std.specs.List.{AllByRecursion}
use Rattle.job_types.specs.declared.touch.Touch.{Touch}
use Rattle.job_types.specs.Touches.{stored}
use Rattle.machine_code.specs.declared.op.Op.{Op}
use Rattle.source_meaning.specs.Traces.{IsTouched, touched_word}
use Rattle.machine_meaning.specs.Private.{Private}
use Rattle.machine_meaning.specs.Machine.{Apart, Loads, Machine, MayTouch, Reach, Stores, act}
use Rattle.machine_meaning.specs.Machine.{loaded, op_at, reach, stepped, untouched}
use Rattle.run_laws.specs.Alone.{alone, goes_on, makes, makes_unless}
use Rattle.run_laws.proofs.Told.{is_touch, touch_of}

-- the touch of the next instruction
abbrev pub next_touch : List Op → Machine → List Touch
next_touch code m = touch_of (reach (op_at code m.run.pc) m.run) m.world.store

loads_same : (r : Reach) (words store : List ℕ)
    → ((w : ℕ) → IsTouched (touch_of r store) w → slice_index words w ≡ slice_index store w)
    → loaded r words ≡ loaded r store
loads_same Apart words store same = refl
loads_same (Loads word) words store same = same word (inl refl)
loads_same (Stores word value) words store same = refl

stores_same : (r : Reach) (words one other : List ℕ) → stored words (touch_of r one) ≡ stored words (touch_of r other)
stores_same Apart words one other = refl
stores_same (Loads word) words one other = refl
stores_same (Stores word value) words one other = refl

-- one instruction more of the own run
pub alone_more : (n : ℕ) (code : List Op) (p : Private) (store : List ℕ) → alone (suc n) code p store ≡ goes_on code (alone n code p store)
unfolding alone
alone_more n code p store = refl

pub makes_more : (code : List Op) (m : Machine) → m.run.over ≡ None → goes_on code m ≡ makes code m
makes_more code m runs = ap (λ o. makes_unless o code m) runs

pub trace_more : (code : List Op) (m : Machine) → (makes code m).world.trace ≡ m.world.trace ++ next_touch code m
trace_more code m = (is_touch m.world (reach (op_at code m.run.pc) m.run)).trace

-- the instruction does what it does alone
pub step_run : (code : List Op) (m : Machine) (words : List ℕ)
    → ((w : ℕ) → IsTouched (next_touch code m) w → slice_index words w ≡ slice_index m.world.store w)
    → (stepped code m.run words).run ≡ (makes code m).run
step_run code m words same = ap (λ v. act (op_at code m.run.pc) v m.run) (loads_same (reach (op_at code m.run.pc) m.run) words m.world.store same)

-- and stores what it stores alone
pub step_words : (code : List Op) (m : Machine) (words : List ℕ) → (stepped code m.run words).world.store ≡ stored words (next_touch code m)
step_words code m words =
    let r = reach (op_at code m.run.pc) m.run in
    (is_touch (untouched words) r).store ∙ stores_same r words words m.world.store

-- an instruction may be made whose touches may be made
pub may_touch : (may : ℕ → Bool) (r : Reach) (store : List ℕ)
    → AllByRecursion (λ (t : Touch). may (touched_word t) ≡ true) (touch_of r store) → MayTouch may may r
may_touch may Apart store all = tt
may_touch may (Loads word) store all = all.0
may_touch may (Stores word value) store all = all.0
