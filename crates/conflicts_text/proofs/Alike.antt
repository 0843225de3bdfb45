-- Rows by the known facts of an entry are those by the least fixed point.
use Rattle.std.proofs.Common.{inl, inr, ℕ, List, refl}
use Rattle.plex_num.specs.declared.level.Level.{Level}
use Rattle.exchange_model.specs.declared.exchange.Exchange.{Exchange}
use Rattle.flow_points.specs.declared.fact.Slot.{Slot}
use Rattle.flow_points.specs.declared.fact.Value.{Value}
use Rattle.flow_points.specs.Facts.{Facts, IsLeast, Known, fact}
use Rattle.fact_rows.specs.Known.{BitRows, Knows}
use Rattle.least_facts.specs.Least.{KnowLeast}
use Rattle.entry_summary.specs.declared.summary.Access.{Access}
use Rattle.entry_summary.specs.declared.summary.Summary.{Summary}
use Rattle.conflicts_meaning.specs.declared.rows.GivenAt.{GivenAt}
use Rattle.conflicts_meaning.specs.Points.{AreGiven, AreSomeGiven, GivesAccess, IsGiven, SendsFrom}
use Rattle.conflict_rows.proofs.Alone.{accesses_by}

module _ (x : Exchange) (P Q : Facts) (e : ℕ) (on : (p : ℕ) (s : Slot) (v : Value) → Known P e p s v → Known Q e p s v) where
  access_on : (a : Access) (p : ℕ) → GivesAccess x P e a p → GivesAccess x Q e a p
  access_on a p g = record {
    at = g.at;
    stands = g.stands;
    reached = (g.reached.0, on p _ g.reached.0 g.reached.1);
    access = accesses_by x P Q e g.at.block p (on p) g.access;
  }

  sends_on : (l : Level) (p : ℕ) → SendsFrom x P e l p → SendsFrom x Q e l p
  sends_on l p g = record { at = g.at; stands = g.stands; reached = (g.reached.0, on p _ g.reached.0 g.reached.1); sends = g.sends }

  pub given_on : (s : Summary) (r : GivenAt) → IsGiven x P e s r → IsGiven x Q e s r
  given_on s r (inl h) = inl (record { access = h.access; there = h.there; gives = access_on h.access r.point h.gives })
  given_on s r (inr h) = inr (record { level = h.level; place = h.place; there = h.there; number = h.number; sends = sends_on h.level r.point h.sends })

pub given_of_least : (x : Exchange) (e : ℕ) (k : BitRows) (s : Summary) (rows : List GivenAt) → KnowLeast x e k
    → AreGiven x (Knows k) e s rows → AreGiven x (IsLeast x) e s rows
given_of_least x e k s rows know given = record {
  exact = λ r. (
    λ c. given_on x (Knows k) (IsLeast x) e (λ p t v f. ((know.exact (fact e p t v)).0 f).1) s r ((given.exact r).0 c),
    λ g. (given.exact r).1 (given_on x (IsLeast x) (Knows k) e (λ p t v f. (know.exact (fact e p t v)).1 (refl, f)) s r g),
  );
  rising = given.rising;
}

pub some_of_least : (x : Exchange) (e : ℕ) (k : BitRows) (s : Summary) (rows : List GivenAt) → KnowLeast x e k
    → AreSomeGiven x (Knows k) e s rows → AreSomeGiven x (IsLeast x) e s rows
some_of_least x e k s rows know given = record {
  each = λ r c. given_on x (Knows k) (IsLeast x) e (λ p t v f. ((know.exact (fact e p t v)).0 f).1) s r (given.each r c);
  rising = given.rising;
}
