-- What is given to the jobs of one entry: by all flows from a point, and by the start.
use Rattle.std.specs.Prelude.{◌≡◌, ℕ}
use Rattle.exchange_model.specs.declared.exchange.Exchange.{Exchange}
use Rattle.flow_points.specs.declared.fact.Fact.{Fact}
use Rattle.flow_points.specs.Facts.{Facts, PointGives, StartGives}

-- a flow from the point gives the fact, in a job of the entry
pub record GivenAt (x : Exchange) (P : Facts) (e p : ℕ) (f : Fact) : Type 0 where
  pub entry : f.entry ≡ e
  pub gives : PointGives x P p f

-- the start of a job of the entry does
pub record GivenAtStart (x : Exchange) (P : Facts) (e : ℕ) (f : Fact) : Type 0 where
  pub entry : f.entry ≡ e
  pub gives : StartGives x P f
