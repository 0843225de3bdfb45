-- The least fact that is given and not known.
use Rattle.std.specs.Prelude.{◌≡◌, ◌⊎◌, ℕ, ◌<◌, Option, Some, None, cond}
use Rattle.std.specs.Ordering.{is_lt}
use Rattle.exchange_model.specs.declared.exchange.Exchange.{Exchange}
use Rattle.flow_points.specs.declared.fact.Fact.{Fact}
use Rattle.flow_points.specs.Facts.{Facts, StartGives}
use Rattle.flow_points.specs.Orders.{fact_order}
use Rattle.certificate_meaning.specs.Faults.{IsLeastIn}

-- of the facts of G that are not known the least, or none where all are known
abbrev pub LeastIn : Facts → Facts → Option Fact → Type 0
LeastIn P G None = (f : Fact) → G f → P f
LeastIn P G (Some m) = IsLeastIn P G m

-- a fact that is not known, if there is one
abbrev pub Misses : Facts → Option Fact → Type 0
Misses P None = Unit {0}
Misses P (Some m) = P m → ⊥

-- this one, or one of the facts of G
abbrev pub Among : Option Fact → Facts → Facts
Among o G f = (o ≡ Some f) ⊎ G f

-- the least of this one and of the facts of G
pub record IsLowestOf (P G : Facts) (o r : Option Fact) : Type 0 where
  pub least : LeastIn P (Among o G) r

-- all facts of an entry at a point come behind this one
abbrev pub IsBefore : Option Fact → ℕ → ℕ → Type 0
IsBefore None e p = ⊥
IsBefore (Some m) e p = (m.entry < e) ⊎ ((m.entry ≡ e) × (m.point < p))

-- the lower of two
abbrev pub lower : Option Fact → Fact → Fact
lower None f = f
lower (Some m) f = cond (is_lt (fact_order f m)) f m

-- the start of a job at one of the first entries gives the fact
pub record StartsBelow (x : Exchange) (P : Facts) (n : ℕ) (f : Fact) : Type 0 where
  pub below : f.entry < n
  pub gives : StartGives x P f

-- a known fact changes nothing, another one may be lower
abbrev pub IsLowerMissing : Facts → Option Fact → Fact → Option Fact → Type 0
IsLowerMissing P o f r = (P f × (r ≡ o)) ⊎ ((P f → ⊥) × (r ≡ Some (lower o f)))
