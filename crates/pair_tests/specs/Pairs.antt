-- Whether jobs of two entries may run at once, the first before the later one in the single run:
-- the conflicts of their summaries, the verdict, and the tests of two jobs.
use Rattle.std.specs.Prelude.{◌≡◌, ◌≢◌, ℕ, ◌<◌, Bool, true, ◌||◌, slice_index}
use Rattle.std.specs.List.{Contains}
use Rattle.plex_num.specs.declared.level.Level.{Level}
use Rattle.job_types.specs.declared.chain.Held.{Held}
use Rattle.job_types.specs.declared.job.JobStart.{JobStart}
use Rattle.flow_points.specs.declared.fact.Value.{Value}
use Rattle.flow_points.specs.declared.fact.Value.TheVariants.{Arg, Const, Any}
use Rattle.entry_summary.specs.declared.summary.Access.TheVariants as access
use Rattle.entry_summary.specs.declared.summary.Summary.{Summary}
use Rattle.pair_tests.specs.declared.pair.Conflict.{Conflict}
use Rattle.pair_tests.specs.declared.pair.Conflict.TheVariants as conflict
use Rattle.pair_tests.specs.declared.pair.Test.{Test}
use Rattle.pair_tests.specs.declared.pair.Test.TheVariants as test
use Rattle.pair_tests.specs.declared.pair.Verdict.{Verdict}
use Rattle.pair_tests.specs.declared.pair.Verdict.TheVariants.{Never, Tests}
use Rattle.entry_summary.specs.Orders.{level_number}
use Rattle.pair_tests.specs.Orders.{Precedes}

-- both access the variable, and one writes it
pub record ShareVariable (first later : Summary) (number : ℕ) : Type 0 where
  pub first_writes : Bool
  pub later_writes : Bool
  pub by_first : Contains first.accesses (access.Variable first_writes number)
  pub by_later : Contains later.accesses (access.Variable later_writes number)
  pub one_writes : (first_writes || later_writes) ≡ true

-- both access the field of a plain file with these selectors, and one writes it
pub record ShareField (first later : Summary) (number : ℕ) (u v : Value) : Type 0 where
  pub first_writes : Bool
  pub later_writes : Bool
  pub by_first : Contains first.accesses (access.Field first_writes number u)
  pub by_later : Contains later.accesses (access.Field later_writes number v)
  pub one_writes : (first_writes || later_writes) ≡ true

-- whatever the two jobs start with, the selectors may name one record
abbrev pub Meet : Value → Value → Type 0
Meet Any v = Unit {0}
Meet u Any = Unit {0}
Meet (Const c) (Const d) = c ≡ d
Meet u v = ⊥

-- one seizes records of the file, and the other one seizes or frees records of it
pub data ShareFile (first later : Summary) (file : ℕ) : Type 0 where
  both_seize : Contains first.accesses (access.Seizes file)
      → Contains later.accesses (access.Seizes file) → ShareFile first later file
  later_frees : Contains first.accesses (access.Seizes file)
      → Contains later.accesses (access.Frees file) → ShareFile first later file
  first_frees : Contains first.accesses (access.Frees file)
      → Contains later.accesses (access.Seizes file) → ShareFile first later file

-- why jobs of the two never run at once
pub data IsConflict (first later : Summary) : Conflict → Type 0 where
  on_variable : (number : ℕ) → ShareVariable first later number
      → IsConflict first later (conflict.Variable number)
  on_field : (number : ℕ) (u v : Value) → ShareField first later number u v → Meet u v
      → IsConflict first later (conflict.Field number u v)
  on_file : (file : ℕ) → ShareFile first later file → IsConflict first later (conflict.Seizing file)
  on_level : (level : Level) → Contains first.levels level
      → level_number level < level_number later.level
      → IsConflict first later (conflict.Above level)

abbrev pub HasNoConflict : Summary → Summary → Type 0
HasNoConflict first later = (c : Conflict) → IsConflict first later c → ⊥

-- a conflict of the two, and none comes before it in order
pub record IsFirstConflict (first later : Summary) (c : Conflict) : Type 0 where
  pub conflict : IsConflict first later c
  pub none_before : (d : Conflict) → IsConflict first later d → Precedes d c → ⊥

-- never, with the first conflict, or where tests hold
abbrev pub IsVerdict : Summary → Summary → Verdict → Type 0
IsVerdict first later (Never c) = IsFirstConflict first later c
IsVerdict first later Tests = HasNoConflict first later

-- what must hold of two jobs
pub data IsTest (first later : Summary) : Test → Type 0 where
  two_values : (number a b : ℕ) → ShareField first later number (Arg a) (Arg b)
      → IsTest first later (test.Differ a b)
  first_value : (number a c : ℕ) → ShareField first later number (Arg a) (Const c)
      → IsTest first later (test.FirstNot a c)
  later_value : (number b c : ℕ) → ShareField first later number (Const c) (Arg b)
      → IsTest first later (test.LaterNot b c)
  in_forlopp : first.fault ≡ true → IsTest first later test.InForlopp
  holds_none : (file : ℕ) → first.fault ≡ true → Contains later.accesses (access.Seizes file)
      → IsTest first later (test.HoldsNo file)

-- the test holds of these two jobs
abbrev pub TestHolds : JobStart → JobStart → Test → Type 0
TestHolds a b (test.Differ k l) = slice_index a.job.values k ≢ slice_index b.job.values l
TestHolds a b (test.FirstNot k c) = slice_index a.job.values k ≢ c
TestHolds a b (test.LaterNot l c) = slice_index b.job.values l ≢ c
TestHolds a b test.InForlopp = a.job.forlopp ≢ 0
TestHolds a b (test.HoldsNo file) = (h : Held) → Contains a.chain h → h.file ≢ file

-- the two jobs may run at once: no conflict, all tests hold, and they are not of one forlopp
pub record Passes (first later : Summary) (a b : JobStart) : Type 0 where
  pub apart : HasNoConflict first later
  pub tests : (t : Test) → IsTest first later t → TestHolds a b t
  pub forlopps : a.job.forlopp ≡ b.job.forlopp → a.job.forlopp ≡ 0
