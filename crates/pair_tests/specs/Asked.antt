-- Which tests two accesses ask for, and what it is for tests to hold.
use Rattle.std.specs.Prelude.{◌≡◌, ◌⊎◌, Bool, true, false, List, Option, Some, None, if◌then◌else◌}
use Rattle.std.specs.List.{Contains}
use Rattle.job_types.specs.declared.job.JobStart.{JobStart}
use Rattle.flow_points.specs.declared.fact.Value.{Value}
use Rattle.flow_points.specs.declared.fact.Value.TheVariants.{Arg, Const, Any}
use Rattle.entry_summary.specs.declared.summary.Access.{Access}
use Rattle.entry_summary.specs.declared.summary.Access.TheVariants as access
use Rattle.pair_tests.specs.declared.pair.Test.{Test}
use Rattle.pair_tests.specs.declared.pair.Test.TheVariants as test
use Rattle.pair_tests.specs.Clashes.{share}
use Rattle.pair_tests.specs.Pairs.{TestHolds}

-- the test by which two selectors name two records
abbrev pub selector_test : Value → Value → Option Test
selector_test (Arg a) (Arg b) = Some (test.Differ a b)
selector_test (Arg a) (Const c) = Some (test.FirstNot a c)
selector_test (Arg a) Any = None
selector_test (Const c) (Arg b) = Some (test.LaterNot b c)
selector_test (Const c) (Const d) = None
selector_test (Const c) Any = None
selector_test Any v = None

-- that of an access of the first and one of the later
abbrev pub asked_of : Access → Access → Option Test
asked_of (access.Field w n u) (access.Field v m z) =
    if share n m w v then selector_test u z else None
asked_of _ _ = None

-- whether an access of the first asks for tests at all
abbrev pub asks : Access → Bool
asks (access.Field w n u) = true
asks _ = false

-- that of an access of the later, where the first may fault
abbrev pub release_test : Access → Option Test
release_test (access.Seizes f) = Some (test.HoldsNo f)
release_test _ = None

-- a test of the access with one of these
pub record AskedWith (one : Access) (others : List Access) (t : Test) : Type 0 where
  pub other : Access
  pub there : Contains others other
  pub asks : asked_of one other ≡ Some t

-- a test of one of these with one of those
pub record Asked (ones others : List Access) (t : Test) : Type 0 where
  pub one : Access
  pub there : Contains ones one
  pub asks : AskedWith one others t

-- that no record is held of a file that one of these seizes
pub record AskedSeizing (others : List Access) (t : Test) : Type 0 where
  pub other : Access
  pub there : Contains others other
  pub asks : release_test other ≡ Some t

-- what is asked where the first may fault, and is released
pub record AskedRelease (fault : Bool) (others : List Access) (t : Test) : Type 0 where
  pub fault_may : fault ≡ true
  pub asks : (t ≡ test.InForlopp) ⊎ AskedSeizing others t

-- a list that has these tests more
pub record AddsTests (P : Test → Type 0) (old new : List Test) : Type 0 where
  pub kept : (t : Test) → Contains old t → Contains new t
  pub added : (t : Test) → P t → Contains new t
  pub each : (t : Test) → Contains new t → Contains old t ⊎ P t

-- each of these tests holds of the two jobs
pub record AllHold (P : Test → Type 0) (a b : JobStart) : Type 0 where
  pub each : (t : Test) → P t → TestHolds a b t
