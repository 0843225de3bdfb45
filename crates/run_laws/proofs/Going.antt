-- A run that comes to an end is on its way there after any number of instructions, and comes to the
-- same end over other words that answer its trace.
use Rattle.std.proofs.Common.{◌≡◌, ℕ, zero, suc, List, [], ◌++◌, Option, Some, None, refl, sym, ap}
use Rattle.std.proofs.Common.{◌∙◌, subst, append_assoc}
use Rattle.std.proofs.lemmas.List.{append-nil}
use Rattle.std.proofs.lemmas.Option.{get_or_from_slice_get, slice_get_within}
use Rattle.std.specs.Prelude.{IsSome, slice_get}
use Rattle.plex_num.proofs.Options.{none_is_none}
use Rattle.job_types.specs.declared.outcome.Outcome.{Outcome}
use Rattle.machine_code.specs.declared.op.Op.{Op}
use Rattle.machine_code.specs.declared.op.Op.TheVariants.{End}
use Rattle.source_meaning.specs.Traces.{Answers}
use Rattle.source_meaning.proofs.Framed.{answers_split}
use Rattle.machine_meaning.specs.Private.{Private}
use Rattle.machine_meaning.specs.Machine.{Allowed, Goes, Machine, by_op, here, machine_step, reach}
use Rattle.machine_meaning.specs.Faithful.{Ends, begun}
use Rattle.run_laws.specs.Alone.{CanGoOn, TraceGrows, alone, goes_on, makes, makes_unless, on_words}
use Rattle.run_laws.proofs.Framed.{step_framed}
use Rattle.run_laws.proofs.Told.{is_touch, touch_of}

pub trace_grows : (code : List Op) (m n : Machine) → Goes code m n → TraceGrows m n
trace_grows code m n here = record { touches = []; is = sym (append-nil m.world.trace) }
trace_grows code m n (by_op op runs at allowed more) =
    let g = trace_grows code (machine_step op m) n more in
    let r = reach op m.run in
    let ts = touch_of r m.world.store in
    record { touches = ts ++ g.touches; is = g.is ∙ ap (λ t. t ++ g.touches) (is_touch m.world r).trace ∙ append_assoc m.world.trace ts g.touches }

-- a run that is over is at the end
at_end : (code : List Op) (m end : Machine) → IsSome m.run.over → Goes code m end → m ≡ end
at_end code m end over here = refl
at_end code m end over (by_op op runs at allowed more) = absurd (none_is_none m.run.over runs over)

-- one that is not makes its next instruction first
pub record StepsTo (code : List Op) (m end : Machine) : Type 0 where
  pub op : Op
  pub at : slice_get code m.run.pc ≡ Some op
  pub allowed : Allowed op m.run
  pub more : Goes code (machine_step op m) end

steps_first : (code : List Op) (m end : Machine) → IsSome end.run.over → m.run.over ≡ None → Goes code m end → StepsTo code m end
steps_first code m end over runs here = absurd (none_is_none m.run.over runs over)
steps_first code m end over runs (by_op op going at allowed more) = record { op = op; at = at; allowed = allowed; more = more }

makes_more : (code : List Op) (m end : Machine) → (s : StepsTo code m end) → Goes code (makes code m) end
makes_more code m end s = subst (λ op. Goes code (machine_step op m) end) (sym (get_or_from_slice_get code m.run.pc s.op End s.at)) s.more

pub can_go_on : (code : List Op) (m end : Machine) → IsSome end.run.over → m.run.over ≡ None → Goes code m end → CanGoOn code m end
can_go_on code m end over runs goes =
    let s = steps_first code m end over runs goes in
    record {
      within = slice_get_within code m.run.pc s.op s.at;
      allowed = subst (λ op. Allowed op m.run) (sym (get_or_from_slice_get code m.run.pc s.op End s.at)) s.allowed;
      grows = trace_grows code (makes code m) end (makes_more code m end s);
    }

-- one instruction more is still on the way
still_goes : (code : List Op) (m end : Machine) → IsSome end.run.over → Goes code m end → Goes code (goes_on code m) end
still_goes code m end over goes = by m.run.over refl
  where
    by : (o : Option Outcome) → m.run.over ≡ o → Goes code (makes_unless o code m) end
    by (Some v) is = goes
    by None is = makes_more code m end (steps_first code m end over is goes)

pub on_the_way : (n : ℕ) (code : List Op) (p : Private) (store : List ℕ) (end : Machine) → Ends code (begun p store) end → Goes code (alone n code p store) end
unfolding alone
on_the_way zero code p store end ends = ends.goes
on_the_way (suc n) code p store end ends = still_goes code (alone n code p store) end ends.over (on_the_way n code p store end ends)

pub run_front : (n : ℕ) (code : List Op) (p : Private) (store : List ℕ) (end : Machine) → Ends code (begun p store) end → TraceGrows (alone n code p store) end
run_front n code p store end ends = trace_grows code (alone n code p store) end (on_the_way n code p store end ends)

pub run_next : (n : ℕ) (code : List Op) (p : Private) (store : List ℕ) (end : Machine) → Ends code (begun p store) end
    → (alone n code p store).run.over ≡ None → CanGoOn code (alone n code p store) end
run_next n code p store end ends runs = can_go_on code (alone n code p store) end ends.over runs (on_the_way n code p store end ends)

pub run_over : (n : ℕ) (code : List Op) (p : Private) (store : List ℕ) (end : Machine) → Ends code (begun p store) end
    → IsSome (alone n code p store).run.over → alone n code p store ≡ end
run_over n code p store end ends over = at_end code (alone n code p store) end over (on_the_way n code p store end ends)

-- ## Over other words

goes_framed : (words : List ℕ) (code : List Op) (m end : Machine) → Goes code m end → Answers words end.world.trace
    → Goes code (on_words words m) (on_words words end)
goes_framed words code m n here told = here
goes_framed words code m end (by_op op runs at allowed more) told =
    let grown = trace_grows code (machine_step op m) end more in
    let front = (answers_split (machine_step op m).world.trace grown.touches words (subst (Answers words) grown.is told)).0 in
    by_op op runs at allowed (subst (λ k. Goes code k (on_words words end)) (sym (step_framed words op m front))
    (goes_framed words code (machine_step op m) end more told))

pub end_framed : (code : List Op) (p : Private) (store words : List ℕ) (end : Machine) → Ends code (begun p store) end
    → Answers words end.world.trace → Ends code (begun p words) (on_words words end)
end_framed code p store words end ends told = record { goes = goes_framed words code (begun p store) end ends.goes told; over = ends.over }
