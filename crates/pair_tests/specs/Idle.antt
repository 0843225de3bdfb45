-- Accesses of the first that need no look: none of the later is near them, or their conflicts come
-- too late.
use Rattle.std.specs.Prelude.{ℕ, ◌<◌, ◌≤◌, nat_lt, Bool, true, false, List, length, get_or, Option}
use Rattle.std.specs.Prelude.{Some, None}
use Rattle.std.specs.List.{Contains}
use Rattle.flow_points.specs.declared.fact.Value.{Value}
use Rattle.flow_points.specs.declared.fact.Value.TheVariants.{Arg}
use Rattle.entry_summary.specs.declared.summary.Access.{Access}
use Rattle.entry_summary.specs.declared.summary.Access.TheVariants.{Variable, Field, Own, Seizes}
use Rattle.entry_summary.specs.declared.summary.Access.TheVariants.{Frees}
use Rattle.pair_tests.specs.declared.pair.Conflict.{Conflict}
use Rattle.pair_tests.specs.declared.pair.Conflict.TheVariants as conflict
use Rattle.pair_tests.specs.declared.pair.Test.{Test}
use Rattle.pair_tests.specs.Asked.{AskedWith}
use Rattle.pair_tests.specs.Clashes.{ClashesWith}
use Rattle.pair_tests.specs.Nearby.{IsNear}
use Rattle.pair_tests.specs.Orders.{Precedes}

-- the first access that there may be behind those of this kind: reads or writes of variables or of
-- fields, or own records; for a file itself
abbrev pub behind : Access → Access
behind (Variable false n) = Variable true 0
behind (Variable true n) = Field false 0 (Arg 0)
behind (Field false n u) = Field true 0 (Arg 0)
behind (Field true n u) = Own false 0
behind (Own w n) = Seizes 0
behind (Seizes f) = Seizes f
behind (Frees f) = Frees f

-- the first access of the kind of this one that is near the other one, if that reads, or writes, as
-- is asked; else the one behind them; for one of own records or of a file itself
abbrev pub next_met : Access → Bool → Option Access → Access
next_met (Variable w n) false (Some (Variable false m)) = Variable w m
next_met (Variable w n) true (Some (Variable true m)) = Variable w m
next_met (Field w n u) false (Some (Field false m z)) = Field w m (Arg 0)
next_met (Field w n u) true (Some (Field true m z)) = Field w m (Arg 0)
next_met (Own w n) v next = Own w n
next_met one v next = behind one

-- the other access is of the kind of this one, and its number is not below
pub data Follows : Access → Access → Type 0 where
  variables : (w : Bool) (n m : ℕ) → n ≤ m → Follows (Variable w n) (Variable w m)
  fields : (w : Bool) (n m : ℕ) (u z : Value) → n ≤ m → Follows (Field w n u) (Field w m z)
  owns : (w v : Bool) (n m : ℕ) → Follows (Own w n) (Own v m)

-- none of these that writes, or that does not, is near the access
abbrev pub IsApart : Bool → List Access → Access → Type 0
IsApart v others one = (b : Access) → Contains others b → IsNear one v b → ⊥

-- an access of the kind of this one, its number not below, that none of these is near which writes,
-- or does not
pub record IsPassed (one : Access) (v : Bool) (others : List Access) (r : Access) : Type 0 where
  pub follows : Follows one r
  pub apart : IsApart v others r

-- an access conflicts with none of these, and asks for no test with one
pub record IsIdle (others : List Access) (one : Access) : Type 0 where
  pub apart : (c : Conflict) → ClashesWith one others c → ⊥
  pub silent : (t : Test) → AskedWith one others t → ⊥

-- each conflict of an access comes after this one
abbrev pub comes_late : Access → Option Conflict → Bool
comes_late (Variable w n) (Some (conflict.Variable m)) = nat_lt m n
comes_late (Field w n u) (Some (conflict.Variable m)) = true
comes_late (Field w n u) (Some (conflict.Field m v z)) = nat_lt m n
comes_late one first = false

-- no conflict comes before the first one that is known
abbrev pub IsNoSooner : Option Conflict → Conflict → Type 0
IsNoSooner None c = ⊥
IsNoSooner (Some first) c = Precedes c first → ⊥

-- a conflict of an access with one of these comes no sooner
abbrev pub IsLate : Option Conflict → List Access → Access → Type 0
IsLate first others one = (c : Conflict) → ClashesWith one others c → IsNoSooner first c

-- so are all from one place to another
pub record AreSo (P : Access → Type 0) (ones : List Access) (from to : ℕ) : Type 0 where
  pub there : to ≤ length ones
  pub up : from ≤ to
  pub each : (k : ℕ) (d : Access) → from ≤ k → k < to → P (get_or ones k d)
