-- Whether a job may count too many statements, or send too many signals, is decided.
use Rattle.std.proofs.Common.{◌≡◌, ◌⊎◌, inl, inr, ℕ, ◌<◌, false, nat_eq, List, [], ◌∷◌, length}
use Rattle.std.proofs.Common.{Option, Some, Contains, slice_get, refl, sym, subst, arith}
use Rattle.std.proofs.lemmas.Bool.{ne_eqb}
use Rattle.std.specs.List.{AllByRecursion, IsDistinct}
use Rattle.plex_limits.specs.declared.limits.TheConstants.{MOST_SENT}
use Rattle.plex_num.proofs.Members.{first_is, first_or_later, later_is, none_in}
use Rattle.exchange_model.specs.declared.exchange.Exchange.{Exchange}
use Rattle.exchange_model.specs.declared.signal.SignalKind.{SignalKind}
use Rattle.exchange_model.specs.declared.signal.SignalKind.TheVariants.{Buffered, Outside}
use Rattle.exchange_model.specs.declared.stmt.StmtKind.TheOpen as stmt
use Rattle.source_meaning.specs.Named.{Layer}
use Rattle.flow_points.specs.declared.fact.Fact.{Fact}
use Rattle.flow_points.specs.declared.flow.Passing.{Passing}
use Rattle.flow_points.specs.Facts.{Facts, Reached}
use Rattle.flow_points.specs.Flows.{LeadsTo}
use Rattle.flow_points.specs.Places.{IsPlace, Place}
use Rattle.entry_summary.specs.Faults.{GoesRound, FlowLeads, JoinsOutbox, MayFault, Once, Posts}
use Rattle.entry_summary.specs.Faults.{PostsAt, Then, TooManySends, Walk}
use Rattle.finite_facts.proofs.Closing.{Closed, IsBuilt, closing}
use Rattle.entry_faults.proofs.Sending.{no_more}
use Rattle.analysis_existence.proofs.Faulting.{some_faults}
use Rattle.finite_facts.proofs.Finite.{Decided, Listed, both, certain, decided_as, either}
use Rattle.finite_facts.proofs.Finite.{impossible, is_in, less, listed_as, listed_in, listed_map}
use Rattle.finite_facts.proofs.Finite.{listed_one, listed_or, listed_then, listed_when, no}
use Rattle.finite_facts.proofs.Finite.{same_number, some_case, yes}
use Rattle.finite_facts.proofs.Giving.{is_reached}
use Rattle.finite_facts.proofs.Leading.{WayOn, leads}
use Rattle.finite_facts.proofs.Places.{places}

-- numbers of a list, each once

record EachOnce (xs : List ℕ) : Type 0 where
  items : List ℕ
  once : IsDistinct nat_eq items
  has : (n : ℕ) → Contains xs n → Contains items n
  from : (n : ℕ) → Contains items n → Contains xs n

all_other : (m : ℕ) (ns : List ℕ) → (Contains ns m → ⊥) → AllByRecursion (λ n. nat_eq m n ≡ false) ns
all_other m [] new = tt
all_other m (n ∷ ns) new = (ne_eqb m n (λ is. new (subst (Contains (n ∷ ns)) (sym is) (first_is n ns))), all_other m ns (λ c. new (later_is n m ns c)))

each_once : (xs : List ℕ) → EachOnce xs
unfolding IsDistinct
each_once [] = record { items = []; once = tt; has = λ n c. c; from = λ n c. c }
each_once (x ∷ xs) = by (each_once xs)
  where
    kept : (o : EachOnce xs) → Contains o.items x → (n : ℕ) → (x ≡ n) ⊎ Contains xs n → Contains o.items n
    kept o old n (inl is) = subst (Contains o.items) is old
    kept o old n (inr c) = o.has n c

    added : (o : EachOnce xs) (n : ℕ) → (x ≡ n) ⊎ Contains xs n → Contains (x ∷ o.items) n
    added o n (inl is) = subst (Contains (x ∷ o.items)) is (first_is x o.items)
    added o n (inr c) = later_is x n o.items (o.has n c)

    back : (o : EachOnce xs) (n : ℕ) → (x ≡ n) ⊎ Contains o.items n → Contains (x ∷ xs) n
    back o n (inl is) = subst (Contains (x ∷ xs)) is (first_is x xs)
    back o n (inr c) = later_is x n xs (o.from n c)

    at : (o : EachOnce xs) → Decided (Contains o.items x) → EachOnce (x ∷ xs)
    at o (yes old) = record { items = o.items; once = o.once; has = λ n c. kept o old n (first_or_later x n xs c); from = λ n c. later_is x n xs (o.from n c) }
    at o (no new) = record {
      items = x ∷ o.items;
      once = (all_other x o.items new, o.once);
      has = λ n c. added o n (first_or_later x n xs c);
      from = λ n c. back o n (first_or_later x n o.items c);
    }

    by : EachOnce xs → EachOnce (x ∷ xs)
    by o = at o (is_in same_number o.items x)

module _ (x : Exchange) (known : List Fact) (e : ℕ) where
  abbrev P : Facts
  P = Contains known

  -- sends

  joins : (o : Option SignalKind) → Decided (JoinsOutbox o)
  joins (Some (Buffered name level count)) = certain tt
  joins (Some (Outside name count)) = certain tt
  joins _ = impossible

  posts : (l : Layer) → Decided (Posts x l)
  posts (stmt.Send signal to values fresh) = joins (slice_get x.signals signal)
  posts _ = impossible

  posting : Listed (λ p. PostsAt x P e p)
  posting =
      listed_as (λ p. (at : Place) × IsPlace x at × ((Reached P e at.point × Posts x at.layer) × (p ≡ at.point))) (λ p. PostsAt x P e p)
      (λ p h. subst (PostsAt x P e) (sym h.2.1) (record { at = h.0; stands = record { place = h.1; here = refl }; reached = h.2.0.0; posts = h.2.0.1 }))
      (λ p h. (h.at, h.stands.place, ((subst (Reached P e) (sym h.stands.here) h.reached, h.posts), sym h.stands.here)))
      (listed_then (IsPlace x) (λ at p. (Reached P e at.point × Posts x at.layer) × (p ≡ at.point)) (places x)
      (λ at is. listed_when (Reached P e at.point × Posts x at.layer) (λ p. p ≡ at.point)
      (both (is_reached known e at.point) (posts at.layer)) (λ h. listed_one at.point)))

  too_many : Decided (TooManySends x P e)
  too_many = by (each_once posting.items)
    where
      at : (o : EachOnce posting.items) → Decided (MOST_SENT < length o.items) → Decided (TooManySends x P e)
      at o (yes many) = yes (record { points = o.items; once = o.once; each = λ p c. posting.each p (o.from p c); many = many })
      at o (no few) = no (λ t. few (let within = no_more t.points o.items t.once
          (λ p c. o.has p (posting.all p (t.each p c))) in let many = t.many in omega (arith, within, many)))

      by : EachOnce posting.items → Decided (TooManySends x P e)
      by o = at o (less MOST_SENT (length o.items))

  -- rounds

  abbrev Starts : ℕ → ℕ → Type 0
  Starts q p = FlowLeads x P e p q

  -- a statement leads to a point
  abbrev Leading : ℕ → Place → Type 0
  Leading q at = (how : Passing) × LeadsTo x at q how

  leading : (q : ℕ) (at : Place) → Decided (Leading q at)
  leading q at =
      decided_as (λ h. (h.0.1, subst (λ n. LeadsTo x at n h.0.1) h.2 h.1)) (λ h. ((q, h.0), h.1, refl))
      (some_case (λ (w : WayOn). LeadsTo x at w.0 w.1) (λ w. w.0 ≡ q) (leads x at) (λ w to. same_number w.0 q))

  -- the points from which a flow leads to a point
  starts : (q : ℕ) → Listed (Starts q)
  starts q =
      listed_as (λ p. (at : Place) × IsPlace x at × ((Reached P e at.point × Leading q at) × (p ≡ at.point))) (Starts q)
      (λ p h. subst (Starts q) (sym h.2.1) (record {
        at = h.0;
        stands = record { place = h.1; here = refl };
        reached = h.2.0.0;
        how = h.2.0.1.0;
        leads = h.2.0.1.1;
      }))
      (λ p g. (g.at, g.stands.place, ((subst (Reached P e) (sym g.stands.here) g.reached, (g.how, g.leads)), sym g.stands.here)))
      (listed_then (IsPlace x) (λ at p. (Reached P e at.point × Leading q at) × (p ≡ at.point)) (places x)
      (λ at is. listed_when (Reached P e at.point × Leading q at) (λ p. p ≡ at.point)
      (both (is_reached known e at.point) (leading q at)) (λ h. listed_one at.point)))

  -- the points from which one or more flows do
  abbrev Rule : ℕ → List ℕ → ℕ → Type 0
  Rule q before p = Starts q p ⊎ ((m : ℕ) × Contains before m × Starts m p)

  rules : (q : ℕ) (before : List ℕ) → Listed (Rule q before)
  rules q before = listed_or (Starts q) (λ p. (m : ℕ) × Contains before m × Starts m p) (starts q)
      (listed_then (λ m. Contains before m) Starts (listed_in before) (λ m c. starts m))

  abbrev IsPoint : ℕ → Type 0
  IsPoint p = (at : Place) × IsPlace x at × (p ≡ at.point)

  points : Listed IsPoint
  points = listed_map (IsPlace x) (λ at. at.point) (places x)

  point_of : (q p : ℕ) → Starts q p → IsPoint p
  point_of q p g = (g.at, g.stands.place, sym g.stands.here)

  rule_point : (q : ℕ) (before : List ℕ) (p : ℕ) → Rule q before p → IsPoint p
  rule_point q before p (inl g) = point_of q p g
  rule_point q before p (inr h) = point_of h.0 p h.2

  closure : (q : ℕ) → Closed (Rule q)
  closure q = closing same_number (Rule q) (rules q) points.items (λ before built p r. points.all p (rule_point q before p r))

  walks : (q : ℕ) (ps : List ℕ) → IsBuilt (Rule q) ps → (p : ℕ) → Contains ps p → Walk x P e p q
  walks q [] built p c = absurd (none_in p c)
  walks q (m ∷ ps) built p c = by (first_or_later m p ps c) built.0 (walks q ps built.1)
    where
      here : Rule q ps m → ((n : ℕ) → Contains ps n → Walk x P e n q) → Walk x P e m q
      here (inl g) more = Once g
      here (inr h) more = Then h.2 (more h.0 h.1)

      by : (m ≡ p) ⊎ Contains ps p → Rule q ps m → ((n : ℕ) → Contains ps n → Walk x P e n q) → Walk x P e p q
      by (inl is) r more = subst (λ n. Walk x P e n q) is (here r more)
      by (inr d) r more = more p d

  walked : (q : ℕ) (p : ℕ) → Walk x P e p q → Contains (closure q).items p
  walked q p (Once g) = (closure q).closed p (inl g)
  walked q p (Then {q = m} g w) = (closure q).closed p (inr (m, walked q m w, g))

  is_walk : (p q : ℕ) → Decided (Walk x P e p q)
  is_walk p q = decided_as (walks q (closure q).items (closure q).built p) (walked q p) (is_in same_number (closure q).items p)

  first_point : (p q : ℕ) → Walk x P e p q → IsPoint p
  first_point p q (Once g) = point_of q p g
  first_point p q (Then {q = m} g w) = point_of m p g

  goes_round : Decided (GoesRound x P e)
  goes_round =
      decided_as (λ h. record { point = h.0; walk = h.2 }) (λ r. (r.point, first_point r.point r.point r.walk, r.walk))
      (some_case IsPoint (λ p. Walk x P e p p) points (λ p is. is_walk p p))

  pub may_fault : Decided (MayFault x P e)
  may_fault = either (some_faults x known e) (either too_many goes_round)
