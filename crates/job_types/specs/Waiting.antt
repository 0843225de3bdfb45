-- The jobs that wait, in four lists by level; A goes before B, B before C and C before D.
--
-- In each list the job that has waited longest stands first. The pick and what it leaves are told
-- by which lists are empty, case by case.
use Rattle.std.specs.Prelude.{ℕ, ◌+◌, Bool, not, ◌==◌, List, [], ◌∷◌, ◌++◌, length, filter}
use Rattle.std.specs.Prelude.{count_by, Option, Some, None}
use Rattle.plex_num.specs.declared.level.Level.{Level}
use Rattle.plex_num.specs.declared.level.Level.TheVariants.{A, B, C, D}
use Rattle.job_types.specs.declared.job.Job.{Job}

-- the jobs that wait, by level
pub record Waiting : Type 0 where
  pub a : List Job
  pub b : List Job
  pub c : List Job
  pub d : List Job

-- no job waits
abbrev pub nobody : Waiting
nobody = record { a = []; b = []; c = []; d = [] }

-- a job stands last in the list of a level
abbrev pub last_at : Level → Job → Waiting → Waiting
last_at A j w = record w { a = w.a ++ j ∷ [] }
last_at B j w = record w { b = w.b ++ j ∷ [] }
last_at C j w = record w { c = w.c ++ j ∷ [] }
last_at D j w = record w { d = w.d ++ j ∷ [] }

-- a job joins the list of its level
abbrev pub joins : Job → Waiting → Waiting
joins j w = last_at j.level j w

-- the front of the first of four lists that is not empty
abbrev pub first_of : List Job → List Job → List Job → List Job → Option Job
first_of (j ∷ rest) b c d = Some j
first_of [] (j ∷ rest) c d = Some j
first_of [] [] (j ∷ rest) d = Some j
first_of [] [] [] (j ∷ rest) = Some j
first_of [] [] [] [] = None

-- the pick: the job that is next
abbrev pub pick : Waiting → Option Job
pick w = first_of w.a w.b w.c w.d

-- four lists without the front of the first that is not empty
abbrev pub rest_of : List Job → List Job → List Job → List Job → Waiting
rest_of (j ∷ rest) b c d = record { a = rest; b = b; c = c; d = d }
rest_of [] (j ∷ rest) c d = record { a = []; b = rest; c = c; d = d }
rest_of [] [] (j ∷ rest) d = record { a = []; b = []; c = rest; d = d }
rest_of [] [] [] (j ∷ rest) = record { a = []; b = []; c = []; d = rest }
rest_of [] [] [] [] = nobody

-- the lists without the pick
abbrev pub after_pick : Waiting → Waiting
after_pick w = rest_of w.a w.b w.c w.d

-- the job belongs to the forlopp
abbrev pub is_of : ℕ → Job → Bool
is_of forlopp j = j.forlopp == forlopp

-- the jobs of a list that are of another forlopp, in their order
abbrev pub others_in : ℕ → List Job → List Job
others_in forlopp js = filter (λ (j : Job). not (is_of forlopp j)) js

-- the same of the four lists
abbrev pub others : ℕ → Waiting → Waiting
others forlopp w = record {
  a = others_in forlopp w.a;
  b = others_in forlopp w.b;
  c = others_in forlopp w.c;
  d = others_in forlopp w.d;
}

-- how many jobs of a forlopp wait
abbrev pub count_of : ℕ → Waiting → ℕ
count_of forlopp w =
    count_by (is_of forlopp) w.a + count_by (is_of forlopp) w.b
    + count_by (is_of forlopp) w.c + count_by (is_of forlopp) w.d

-- how many jobs wait
abbrev pub waiting_count : Waiting → ℕ
waiting_count w = length w.a + length w.b + length w.c + length w.d
