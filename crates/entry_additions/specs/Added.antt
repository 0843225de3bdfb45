-- The numbers of the variables and fields that an entry's jobs only add to, in order.
use Rattle.std.specs.Prelude.{ℕ}
use Rattle.std.specs.List.Sorted.{IsStrictlySortedBy}
use Rattle.std.specs.Ordering.{nat_cmp}
use Rattle.exchange_model.specs.declared.exchange.Exchange.{Exchange}
use Rattle.flow_points.specs.Facts.{Facts}
use Rattle.additions_meaning.specs.Additions.{Targets}
use Rattle.additions_meaning.specs.Lists.{AreAdded}
use Rattle.entry_additions.specs.declared.added.Added.{Added}

abbrev pub targets : Added → Targets
targets a = record { variables = a.variables; fields = a.fields }

-- both lists are strictly ascending
pub record AreRising (a : Added) : Type 0 where
  pub variables : IsStrictlySortedBy nat_cmp a.variables
  pub fields : IsStrictlySortedBy nat_cmp a.fields

-- exactly those that the entry's jobs only add to, strictly ascending
pub record AddsExactly (x : Exchange) (P : Facts) (entry : ℕ) (a : Added) : Type 0 where
  pub are : AreAdded x P entry (targets a)
  pub rising : AreRising a
