-- Where the statements of an exchange lead, as a list: the ends of all ways from each.
use Rattle.std.proofs.Common.{◌≡◌, ℕ, Some, Contains, sym, ap, subst}
use Rattle.exchange_model.specs.declared.exchange.Exchange.{Exchange}
use Rattle.exchange_model.specs.Fits.{retrieved}
use Rattle.flow_points.specs.declared.flow.Passing.{Passing}
use Rattle.flow_points.specs.Flows.{LeadsTo}
use Rattle.flow_points.specs.Places.{IsPlace, IsRetrieveAt, Place}
use Rattle.flow_table.specs.declared.way.Ends.{Ends}
use Rattle.flow_table.specs.declared.way.Ends.TheVariants as ends
use Rattle.flow_table.specs.declared.way.Way.{Way as TableWay}
use Rattle.flow_table.specs.Ways.{IsWayEnd, WayLeads, ways_of}
use Rattle.flow_table.proofs.Telling.{ways_exact}
use Rattle.finite_facts.proofs.Finite.{Listed, listed_as, listed_in, listed_one, listed_then}
use Rattle.finite_facts.proofs.Finite.{listed_when, same_number, same_option}
use Rattle.finite_facts.proofs.Places.{places}

-- a point and how values go along to it
abbrev pub WayOn : Type 0
WayOn = ℕ × Passing

module _ (x : Exchange) where
  -- the RETRIEVEs of an answer
  retrieves : (answer : ℕ) → Listed (λ q. IsRetrieveAt x q answer)
  retrieves answer =
      listed_as (λ q. (p : Place) × IsPlace x p × ((retrieved p.layer ≡ Some answer) × (q ≡ p.point))) (λ q. IsRetrieveAt x q answer)
      (λ q h. record { place = h.0; stands = record { place = h.1; here = sym h.2.1 }; retrieves = h.2.0 })
      (λ q r. (r.place, r.stands.place, (r.retrieves, sym r.stands.here)))
      (listed_then (IsPlace x) (λ p q. (retrieved p.layer ≡ Some answer) × (q ≡ p.point)) (places x)
      (λ p is. listed_when (retrieved p.layer ≡ Some answer) (λ q. q ≡ p.point) (same_option same_number (retrieved p.layer) answer) (λ r. listed_one p.point)))

  reached : (to : Ends) → Listed (λ q. IsWayEnd x to q)
  reached (ends.Points points) = listed_in points
  reached (ends.Retrieves answer) = retrieves answer

  way_leads : (w : TableWay) → Listed (λ (v : WayOn). WayLeads x w v.0 v.1)
  way_leads w =
      listed_as (λ v. (q : ℕ) × IsWayEnd x w.ends q × (v ≡ (q, w.how))) (λ v. WayLeads x w v.0 v.1)
      (λ v h. record { end = subst (λ q. IsWayEnd x w.ends q) (sym (ap (λ (u : WayOn). u.0) h.2)) h.1; is = ap (λ (u : WayOn). u.1) h.2 })
      (λ v l. (v.0, l.end, λ i. (v.0, l.is i)))
      (listed_then (λ q. IsWayEnd x w.ends q) (λ q v. v ≡ (q, w.how)) (reached w.ends) (λ q e. listed_one (q, w.how)))

  pub leads : (at : Place) → Listed (λ (v : WayOn). LeadsTo x at v.0 v.1)
  leads at =
      listed_as (λ v. (w : TableWay) × Contains (ways_of x at) w × WayLeads x w v.0 v.1) (λ v. LeadsTo x at v.0 v.1)
      (λ v h. ((ways_exact x at).exact v.0 v.1).0 (record { way = h.0; one = h.1; leads = h.2 }))
      (λ v l. let h = ((ways_exact x at).exact v.0 v.1).1 l in (h.way, h.one, h.leads))
      (listed_then (λ w. Contains (ways_of x at) w) (λ w v. WayLeads x w v.0 v.1) (listed_in (ways_of x at)) (λ w one. way_leads w))
