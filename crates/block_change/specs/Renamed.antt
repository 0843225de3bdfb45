-- Jobs and lines whose entries have other numbers, which stand in a list.
use Rattle.std.specs.Prelude.{◌≡◌, ℕ, List, map, slice_index}
use Rattle.std.specs.List.{AllByRecursion}
use Rattle.plex_num.specs.declared.level.Level.{Level}
use Rattle.plex_num.specs.declared.level.Level.TheVariants.{A, B, C, D}
use Rattle.job_types.specs.declared.job.Job.{Job}
use Rattle.job_types.specs.Waiting.{Waiting}
use Rattle.signal_file.specs.declared.line.Line.{Line}

abbrev pub job_with : List ℕ → Job → Job
job_with entries j = record j { entry = slice_index entries j.entry }

abbrev pub waiting_with : List ℕ → Waiting → Waiting
waiting_with entries w = record {
  a = map (job_with entries) w.a;
  b = map (job_with entries) w.b;
  c = map (job_with entries) w.c;
  d = map (job_with entries) w.d;
}

abbrev pub line_with : List ℕ → Line → Line
line_with entries l = record l { entry = slice_index entries l.entry }

-- the jobs have this level
abbrev pub AreOf : Level → List Job → Type 0
AreOf level js = AllByRecursion (λ (j : Job). j.level ≡ level) js

-- each job stands in the list of its level
pub record AreAtLevels (w : Waiting) : Type 0 where
  pub a : AreOf A w.a
  pub b : AreOf B w.b
  pub c : AreOf C w.c
  pub d : AreOf D w.d
