-- The least facts are closed, they stand in whatever is closed, and a flow looks at its point
-- alone.
use Rattle.std.proofs.Common.{inl, inr, ⊎_elim, ℕ, List, [], ◌∷◌, ◌++◌, Contains, sym, subst, arith}
use Rattle.std.proofs.lemmas.List.Elements.{Contains-append_left, Contains-append_right}
use Rattle.plex_num.proofs.Members.{first_or_later, first_is}
use Rattle.exchange_model.specs.declared.exchange.Exchange.{Exchange}
use Rattle.flow_points.specs.declared.fact.Slot.TheVariants.{Depth}
use Rattle.flow_points.specs.declared.fact.Value.{Value}
use Rattle.flow_points.specs.declared.fact.Value.TheVariants.{Const}
use Rattle.flow_points.specs.declared.fact.Fact.{Fact}
use Rattle.flow_points.specs.declared.flow.Source.{Source}
use Rattle.flow_points.specs.declared.flow.Source.TheVariants.{Of, Is, Deeper, Nothing}
use Rattle.flow_points.specs.declared.flow.Passing.{Passing}
use Rattle.flow_points.specs.declared.flow.Passing.TheVariants.{Kept, Sets, Takes, Retrieves}
use Rattle.flow_points.specs.declared.flow.Passing.TheVariants.{Begins, Passes, Calls, Answers}
use Rattle.source_meaning.specs.Changes.{value_count}
use Rattle.flow_points.specs.Places.{Place, StandsAt}
use Rattle.flow_points.specs.Sources.{start_source, source_of}
use Rattle.flow_points.specs.Flows.{LeadsTo}
use Rattle.flow_points.specs.Facts.{Facts, fact, Reached, Guarded, SourceGives, FlowGives}
use Rattle.flow_points.specs.Facts.{PointGives, StartGives, Gives, IsDerivation, IsLeast, IsClosed}
use Rattle.flow_points.specs.Facts.{KnowsAlike, AnswersTo, ReachesAlike}

-- a flow looks at facts at its point

pub source_alike : (P Q : Facts) (e p : ℕ) → KnowsAlike P Q e p → (s : Source) (v : Value) → SourceGives P e p s v → SourceGives Q e p s v
source_alike P Q e p h (Of s) v k = h s v k
source_alike P Q e p h (Is w) v k = k
source_alike P Q e p h Deeper v k = (k.0, k.1, k.2, h Depth (Const k.0) k.3)
source_alike P Q e p h Nothing v k = k

-- an answer is given
abbrev IsAnswer : Passing → Type 0
IsAnswer (Answers values) = Unit {0}
IsAnswer _ = ⊥

guard_alike : (P Q : Facts) (e p q : ℕ) → KnowsAlike P Q e p → (how : Passing)
    → (IsAnswer how → Reached P e q → Reached Q e q) → Guarded P e p q how → Guarded Q e p q how
guard_alike P Q e p q h Kept r k = k
guard_alike P Q e p q h (Sets temp s) r k = k
guard_alike P Q e p q h (Takes temps) r k = k
guard_alike P Q e p q h (Retrieves temps) r k = k
guard_alike P Q e p q h (Begins values) r k = k
guard_alike P Q e p q h (Passes count) r k = k
guard_alike P Q e p q h (Calls values answer) r k = (k.0, k.1, h Depth (Const k.0) k.2)
guard_alike P Q e p q h (Answers values) r k = r tt k

flow_alike : (x : Exchange) (P Q : Facts) (at : Place) (how : Passing) (f : Fact) → KnowsAlike P Q f.entry at.point
    → (IsAnswer how → Reached P f.entry f.point → Reached Q f.entry f.point) → FlowGives x P at how f
    → FlowGives x Q at how f
flow_alike x P Q at how f h r g = record {
  leads = g.leads;
  reached = (g.reached.0, h Depth g.reached.0 g.reached.1);
  guarded = guard_alike P Q f.entry at.point f.point h how r g.guarded;
  slot = g.slot;
  gives = source_alike P Q f.entry at.point h (source_of how f.slot) f.value g.gives;
}

answers_to : (x : Exchange) (p : ℕ) (at : Place) (q : ℕ) (how : Passing) → StandsAt x p at → LeadsTo x at q how → IsAnswer how → AnswersTo x p q
answers_to x p at q (Answers values) stands leads is = record { at = at; stands = stands; values = values; leads = leads }
answers_to x p at q _ stands leads is = absurd is

pub point_alike : (x : Exchange) (P Q : Facts) (p : ℕ) (f : Fact) → KnowsAlike P Q f.entry p
    → ReachesAlike x P Q f.entry p → PointGives x P p f → PointGives x Q p f
point_alike x P Q p f h r g = record {
  at = g.at;
  stands = g.stands;
  how = g.how;
  flow = flow_alike x P Q g.at g.how f (subst (λ n. KnowsAlike P Q f.entry n) (sym g.stands.here) h)
      (λ is. r f.point (answers_to x p g.at f.point g.how g.stands g.flow.leads is)) g.flow;
}

-- what is given by facts is given by more of them

pub start_more : (x : Exchange) (P Q : Facts) (f : Fact) → ((g : Fact) → P g → Q g) → StartGives x P f → StartGives x Q f
start_more x P Q f more g = record {
  entry = g.entry;
  there = g.there;
  lands = g.lands;
  slot = g.slot;
  gives = source_alike P Q f.entry f.point (λ s v. more (fact f.entry f.point s v)) (start_source (value_count x g.entry.signal) f.slot) f.value g.gives;
}

pub point_more : (x : Exchange) (P Q : Facts) (p : ℕ) (f : Fact) → ((g : Fact) → P g → Q g) → PointGives x P p f → PointGives x Q p f
point_more x P Q p f more = point_alike x P Q p f (λ s v. more (fact f.entry p s v)) (λ q is k. (k.0, more (fact f.entry q Depth k.0) k.1))

pub gives_more : (x : Exchange) (P Q : Facts) → ((g : Fact) → P g → Q g) → (f : Fact) → Gives x P f → Gives x Q f
gives_more x P Q more f (inl g) = inl (start_more x P Q f more g)
gives_more x P Q more f (inr g) = inr (g.0, point_more x P Q g.0 f more g.1)

-- what is derived stands in whatever is closed

pub derived_in : (x : Exchange) (P : Facts) → IsClosed x P → (fs : List Fact) → IsDerivation x fs → (f : Fact) → Contains fs f → P f
derived_in x P closed [] d f c = absurd (omega (arith, c.1))
derived_in x P closed (g ∷ fs) d f c =
    ⊎_elim
    (λ is. subst P is (closed g (gives_more x (Contains fs) P (λ h k. derived_in x P closed fs d.1 h k) g d.0)))
    (λ later. derived_in x P closed fs d.1 f later)
    (first_or_later g f fs c)

pub least_in : (x : Exchange) (P : Facts) → IsClosed x P → (f : Fact) → IsLeast x f → P f
least_in x P closed f h = derived_in x P closed (f ∷ h.before) h.derived f (first_is f h.before)

module _ (x : Exchange) where
  -- two derivations, one after the other
  joined : (fs gs : List Fact) → IsDerivation x fs → IsDerivation x gs → IsDerivation x (fs ++ gs)
  joined [] gs h k = k
  joined (f ∷ fs) gs h k = (gives_more x (Contains fs) (Contains (fs ++ gs)) (λ g c. Contains-append_left fs gs g c) f h.0, joined fs gs h.1 k)

  -- a derivation with what is asked of it
  record Has (A : List Fact → Type 0) : Type 0 where
    list : List Fact
    derived : IsDerivation x list
    holds : A list

  least_has : (f : Fact) → IsLeast x f → Has (λ fs. Contains fs f)
  least_has f h = record { list = f ∷ h.before; derived = h.derived; holds = first_is f h.before }

  source_has : (e p : ℕ) (s : Source) (v : Value) → SourceGives (IsLeast x) e p s v → Has (λ fs. SourceGives (Contains fs) e p s v)
  source_has e p (Of s) v h = (let a = least_has (fact e p s v) h in record { list = a.list; derived = a.derived; holds = a.holds })
  source_has e p (Is w) v h = record { list = []; derived = tt; holds = h }
  source_has e p Deeper v h = (let a = least_has (fact e p Depth (Const h.0)) h.3 in record
      { list = a.list; derived = a.derived; holds = (h.0, h.1, h.2, a.holds) })
  source_has e p Nothing v h = absurd h

  guard_has : (e p q : ℕ) (how : Passing) → Guarded (IsLeast x) e p q how → Has (λ fs. Guarded (Contains fs) e p q how)
  guard_has e p q Kept h = record { list = []; derived = tt; holds = tt }
  guard_has e p q (Sets temp s) h = record { list = []; derived = tt; holds = tt }
  guard_has e p q (Takes temps) h = record { list = []; derived = tt; holds = tt }
  guard_has e p q (Retrieves temps) h = record { list = []; derived = tt; holds = tt }
  guard_has e p q (Begins values) h = record { list = []; derived = tt; holds = tt }
  guard_has e p q (Passes count) h = record { list = []; derived = tt; holds = tt }
  guard_has e p q (Calls values answer) h = (let a = least_has (fact e p Depth (Const h.0)) h.2 in record
      { list = a.list; derived = a.derived; holds = (h.0, h.1, a.holds) })
  guard_has e p q (Answers values) h = (let a = least_has (fact e q Depth h.0) h.1 in record { list = a.list; derived = a.derived; holds = (h.0, a.holds) })

  start_closed : (f : Fact) → StartGives x (IsLeast x) f → IsLeast x f
  start_closed f g =
      let a = source_has f.entry f.point (start_source (value_count x g.entry.signal) f.slot) f.value g.gives in
      record {
        before = a.list;
        derived = (inl (record { entry = g.entry; there = g.there; lands = g.lands; slot = g.slot; gives = a.holds }), a.derived);
      }

  point_closed : (p : ℕ) (f : Fact) → PointGives x (IsLeast x) p f → IsLeast x f
  point_closed p f g =
      let w = g.flow in
      let r = least_has (fact f.entry g.at.point Depth w.reached.0) w.reached.1 in
      let n = guard_has f.entry g.at.point f.point g.how w.guarded in
      let s = source_has f.entry g.at.point (source_of g.how f.slot) f.value w.gives in
      let fs : List Fact = r.list ++ (n.list ++ s.list) in
      let in_n : (h : Fact) → Contains n.list h
      → Contains fs h = (λ h c. Contains-append_right r.list (n.list ++ s.list) h
      (Contains-append_left n.list s.list h c)) in
      let in_s : (h : Fact) → Contains s.list h
      → Contains fs h = (λ h c. Contains-append_right r.list (n.list ++ s.list) h
      (Contains-append_right n.list s.list h c)) in
      record {
        before = fs;
        derived = (
          inr (
            p,
            record {
              at = g.at;
              stands = g.stands;
              how = g.how;
              flow = record {
                leads = w.leads;
                reached = (w.reached.0, Contains-append_left r.list (n.list ++ s.list) (fact f.entry g.at.point Depth w.reached.0) r.holds);
                guarded = guard_alike (Contains n.list) (Contains fs) f.entry g.at.point f.point
                    (λ s v. in_n (fact f.entry g.at.point s v)) g.how
                    (λ is k. (k.0, in_n (fact f.entry f.point Depth k.0) k.1)) n.holds;
                slot = w.slot;
                gives = source_alike (Contains s.list) (Contains fs) f.entry g.at.point
                    (λ s v. in_s (fact f.entry g.at.point s v)) (source_of g.how f.slot) f.value s.holds;
              };
            },
          ),
          joined r.list (n.list ++ s.list) r.derived (joined n.list s.list n.derived s.derived),
        );
      }

  -- the least facts are closed
  pub least_closed : IsClosed x (IsLeast x)
  least_closed f (inl g) = start_closed f g
  least_closed f (inr g) = point_closed g.0 f g.1
