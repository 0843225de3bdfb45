-- The lines of the facts of an entry.
use Rattle.std.specs.Prelude.{◌≡◌, ◌↔◌, ℕ, List, ◌++◌, Contains}
use Rattle.std.specs.List.Sorted.{IsStrictlySortedBy}
use Rattle.exchange_model.specs.declared.exchange.Exchange.{Exchange}
use Rattle.flow_points.specs.declared.fact.Fact.{Fact}
use Rattle.flow_points.specs.Facts.{Facts, IsLeast}
use Rattle.flow_points.specs.Orders.{fact_order}
use Rattle.fact_rows.specs.Known.{BitRows, Knows}
use Rattle.certificate_text.specs.Text.{facts_text}

-- the least facts of the entry
abbrev pub LeastOf : Exchange → ℕ → Facts
LeastOf x e f = (f.entry ≡ e) × IsLeast x f

-- what rows know of these points
abbrev pub KnowsAmong : BitRows → List ℕ → Facts
KnowsAmong k points f = Contains points f.point × Knows k f

-- behind a text come the lines of exactly these facts, in their order
pub record AddsLines (G : Facts) (old new : List ℕ) : Type 0 where
  pub facts : List Fact
  pub exact : (f : Fact) → Contains facts f ↔ G f
  pub rising : IsStrictlySortedBy fact_order facts
  pub is : new ≡ old ++ facts_text facts
