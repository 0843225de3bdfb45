-- How a core follows the single run: who stands in its window, what their runs have done, and what
-- the words are.
use Rattle.std.specs.Prelude.{◌≡◌, ℕ, ◌+◌, List, [], ◌∷◌, ◌++◌, Some, slice_index}
use Rattle.std.specs.List.{AllByRecursion}
use Rattle.job_types.specs.declared.job.JobStart.{JobStart}
use Rattle.job_types.specs.declared.touch.Touch.{Touch}
use Rattle.job_types.specs.Touches.{NoStore, stored}
use Rattle.machine_code.specs.Coded.{Code}
use Rattle.exchange_model.specs.declared.exchange.Exchange.{Exchange}
use Rattle.source_meaning.specs.SingleRun.{after, next_start}
use Rattle.source_meaning.specs.State.{State}
use Rattle.source_meaning.specs.Traces.{IsTouched, LeavesAlone}
use Rattle.machine_meaning.specs.Faithful.{started}
use Rattle.machine_meaning.specs.Machine.{Machine}
use Rattle.run_laws.specs.Alone.{alone}
use Rattle.run_books.specs.Accounts.{Account, with_words}
use Rattle.interleave_core.specs.declared.event.CoreEvent.{CoreEvent}
use Rattle.interleave_core.specs.declared.window.CoreState.{CoreState}
use Rattle.interleave_core.specs.declared.window.WindowJob.{WindowJob}
use Rattle.interleave_core.specs.Cores.{Core}
use Rattle.interleave_core.specs.Runs.{LeadsTo, Setting}

-- neither list stores to a word that the other one touches
pub record AreApart (first later : List Touch) : Type 0 where
  pub first_alone : LeavesAlone first later
  pub later_alone : LeavesAlone later first

-- each list and each one after it
abbrev pub AllApart : List (List Touch) → Type 0
AllApart [] = Unit {0}
AllApart (ts ∷ rest) = AllByRecursion (AreApart ts) rest × AllApart rest

-- the touches of all lists, one list after the other
abbrev pub one_after_other : List (List Touch) → List Touch
one_after_other [] = []
one_after_other (ts ∷ rest) = ts ++ one_after_other rest

-- a job of this start, alone on these words, after so many instructions
abbrev pub own_run : Code → JobStart → ℕ → List ℕ → Machine
own_run code start made words = alone made code.ops (started code start) words

-- the single run begins this job in this state; the job stands where it stands alone, begun on the
-- words of the state, after as many instructions as it has made; alone it has made these touches;
-- and each word that it touched has the value that it has alone
pub record IsPick (code : Code) (s : State) (words : List ℕ) (job : WindowJob)
    (touches : List Touch) : Type 0 where
  pub next : next_start s ≡ Some job.start
  pub made : ℕ
  pub run : job.run ≡ (own_run code job.start made s.store).run
  pub trace : touches ≡ (own_run code job.start made s.store).world.trace
  pub left : (w : ℕ) → IsTouched touches w
      → slice_index words w ≡ slice_index (own_run code job.start made s.store).world.store w

-- these are the jobs that the single run begins one after the other when n jobs have ended, with
-- the touches of each
abbrev pub AllPicks : Exchange → Code → State → List ℕ → ℕ → List WindowJob → List (List Touch)
    → Type 0
AllPicks x code first words n [] [] = Unit {0}
AllPicks x code first words n [] (ts ∷ tss) = ⊥
AllPicks x code first words n (job ∷ jobs) [] = ⊥
AllPicks x code first words n (job ∷ jobs) (ts ∷ tss) =
    IsPick code (after x first n) words job ts × AllPicks x code first words (n + 1) jobs tss

-- the single run from this first state, after as many jobs as have retired, has the events of the
-- core, and begins the jobs of its window next. No word to which one of these has stored is touched
-- by another one. The words are those of the single run with all stores of these jobs, so that one
-- to which none has stored is as there. Where no job is left in the window, all is as there.
pub record FollowsSingleRun (x : Exchange) (code : Code) (first : State) (c : Core) : Type 0 where
  pub touches : List (List Touch)
  pub picks : AllPicks x code first c.state.store c.retired c.window touches
  pub apart : AllApart touches
  pub words : c.state.store ≡ stored (after x first c.retired).store (one_after_other touches)
  pub others : (w : ℕ) → NoStore w (one_after_other touches)
      → slice_index c.state.store w ≡ slice_index (after x first c.retired).store w
  pub events : c.state.events ≡ (after x first c.retired).events
  pub empty : c.window ≡ [] → c.state ≡ after x first c.retired

-- the events lead from these books and words to what stands here, which follows the single run from
-- their state
pub record Interleaves (k : Setting) (b : Account) (words : List ℕ) (events : List CoreEvent)
    (s : CoreState) : Type 0 where
  pub leads : LeadsTo k b words events s
  pub follows : FollowsSingleRun k.exchange k.code (with_words b.state words) leads.core
