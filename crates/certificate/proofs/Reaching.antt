-- A least fact is of a slot that is there before its point.
use Rattle.std.proofs.Common.{inl, inr}
use Rattle.exchange_model.specs.declared.exchange.Exchange.{Exchange}
use Rattle.flow_points.specs.declared.fact.Fact.{Fact}
use Rattle.flow_points.specs.Facts.{IsClosed, IsLeast}
use Rattle.flow_points.specs.Slots.{HasSlot}
use Rattle.flow_points.proofs.Least.{least_in}

module _ (x : Exchange) where
  slots_closed : IsClosed x (λ f. HasSlot x f.point f.slot)
  slots_closed f (inl g) = g.slot
  slots_closed f (inr (p, g)) = g.flow.slot

  pub least_slot : (f : Fact) → IsLeast x f → HasSlot x f.point f.slot
  least_slot f least = least_in x (λ f. HasSlot x f.point f.slot) slots_closed f least
