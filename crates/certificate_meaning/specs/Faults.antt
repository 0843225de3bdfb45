-- What is strange in a list of facts, and what it lacks.
use Rattle.std.specs.Prelude.{◌≡◌, List, ◌∷◌, ◌++◌, All}
use Rattle.std.specs.declared.cmp.Ordering.TheVariants.{Less}
use Rattle.exchange_model.specs.declared.exchange.Exchange.{Exchange}
use Rattle.flow_points.specs.declared.fact.Fact.{Fact}
use Rattle.flow_points.specs.Facts.{Facts}
use Rattle.flow_points.specs.Orders.{fact_order}
use Rattle.checked.specs.Belonging.{IsOfExchange}

-- the first strange fact of a list
pub record IsFirstStrange (x : Exchange) (facts : List Fact) (f : Fact) : Type 0 where
  pub before : List Fact
  pub after : List Fact
  pub so : facts ≡ before ++ f ∷ after
  pub others : All (IsOfExchange x) before
  pub strange : IsOfExchange x f → ⊥

-- of the facts of G that are not known the least
pub record IsLeastIn (P G : Facts) (m : Fact) : Type 0 where
  pub given : G m
  pub missing : P m → ⊥
  pub least : (f : Fact) → G f → (P f → ⊥) → fact_order f m ≡ Less → ⊥
