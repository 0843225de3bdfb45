-- Summaries of which one says more than another, and the verdicts that come of them.
use Rattle.std.specs.Prelude.{◌≡◌, ℕ, true, List}
use Rattle.std.specs.List.{Contains}
use Rattle.plex_num.specs.declared.level.Level.{Level}
use Rattle.exchange_model.specs.declared.exchange.Exchange.{Exchange}
use Rattle.flow_points.specs.declared.fact.Fact.{Fact}
use Rattle.flow_points.specs.Facts.{IsLeast}
use Rattle.entry_summary.specs.declared.summary.Access.{Access}
use Rattle.entry_summary.specs.declared.summary.Summary.{Summary}
use Rattle.entry_summary.specs.Summaries.{IsSummary}
use Rattle.pair_tests.specs.declared.pair.Conflict.{Conflict}
use Rattle.pair_tests.specs.declared.pair.Verdict.{Verdict}
use Rattle.pair_tests.specs.declared.pair.Verdict.TheVariants.{Never, Tests}
use Rattle.pair_tests.specs.Orders.{Precedes}

-- what some facts say of the jobs of an entry: those of a list, or the least ones
pub data IsSummaryOf (x : Exchange) (e : ℕ) (s : Summary) : Type 0 where
  by_facts : (facts : List Fact) → IsSummary x (Contains facts) e s → IsSummaryOf x e s
  by_least : IsSummary x (IsLeast x) e s → IsSummaryOf x e s

-- of one level, whose jobs have each access of the other ones, may send to each of their levels,
-- and may fault where these may
pub record SaysNoMore (less more : Summary) : Type 0 where
  pub level : less.level ≡ more.level
  pub accesses : (a : Access) → Contains less.accesses a → Contains more.accesses a
  pub levels : (l : Level) → Contains less.levels l → Contains more.levels l
  pub fault : less.fault ≡ true → more.fault ≡ true

-- never, with a conflict that does not come after this one
abbrev pub IsNeverBy : Conflict → Verdict → Type 0
IsNeverBy c (Never d) = Precedes c d → ⊥
IsNeverBy c Tests = ⊥
