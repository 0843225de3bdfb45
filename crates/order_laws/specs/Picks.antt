-- Jobs that are picked one after the other, while no older job retires.
use Rattle.std.specs.Prelude.{◌≡◌, List, [], ◌∷◌, Some}
use Rattle.std.specs.List.{AllByRecursion}
use Rattle.plex_num.specs.declared.level.Level.{Level}
use Rattle.plex_num.specs.declared.level.Level.TheVariants.{A, B, C, D}
use Rattle.job_types.specs.declared.job.Job.{Job}
use Rattle.job_types.specs.Waiting.{Waiting, after_pick, pick}
use Rattle.source_meaning.specs.SingleRun.{begun}
use Rattle.source_meaning.specs.State.{State}

abbrev pub IsAt : Level → Job → Type 0
IsAt level j = j.level ≡ level

-- each job that waits stands in the list of its level
pub record AllInPlace (w : Waiting) : Type 0 where
  pub a : AllByRecursion (IsAt A) w.a
  pub b : AllByRecursion (IsAt B) w.b
  pub c : AllByRecursion (IsAt C) w.c
  pub d : AllByRecursion (IsAt D) w.d

-- these jobs are picked one after the other
abbrev pub Picks : Waiting → List Job → Type 0
Picks w [] = Unit {0}
Picks w (j ∷ js) = (pick w ≡ Some j) × Picks (after_pick w) js

-- what is left when as many jobs as these have been picked
abbrev pub after_picks : List Job → Waiting → Waiting
after_picks [] w = w
after_picks (j ∷ js) w = after_picks js (after_pick w)

-- as many jobs as these have begun
abbrev pub all_begun : List Job → State → State
all_begun js s = record s { waiting = after_picks js s.waiting }

-- the job is next after this change too, and its beginning changes places with the change
pub record PickStays (j : Job) (change : State → State) (s : State) : Type 0 where
  pub picked : pick (change s).waiting ≡ Some j
  pub same : begun (change s) ≡ change (begun s)

-- the same of several jobs, one after the other
pub record PicksStay (js : List Job) (change : State → State) (s : State) : Type 0 where
  pub picked : Picks (change s).waiting js
  pub same : all_begun js (change s) ≡ change (all_begun js s)
