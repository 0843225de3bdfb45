-- How the values of an activation go along a flow, and that they are known at its end.
use Rattle.std.proofs.Common.{◌≡◌, ◌≢◌, inr, ℕ, suc, ◌+◌, ◌<◌, ◌≤◌, Bool, true, false, List, []}
use Rattle.std.proofs.Common.{◌∷◌, length, refl, sym, ap, ◌∙◌, subst, arith}
use Rattle.std.proofs.lemmas.Bool.{eqb-true, eqb-false}
use Rattle.std.proofs.lemmas.List.{get_or-set_same, get_or-set_other}
use Rattle.std.proofs.Math.ListN.{length-set}
use Rattle.std.specs.Prelude.{nat_eq, slice_index, slice_set, if◌then◌else◌}
use Rattle.exchange_model.specs.declared.exchange.Exchange.{Exchange}
use Rattle.source_meaning.specs.Config.{Caller, blank}
use Rattle.source_meaning.specs.Changes.{takes}
use Rattle.flow_points.specs.declared.fact.Slot.{Slot}
use Rattle.flow_points.specs.declared.fact.Slot.TheVariants.{Temp, Given, Depth, Awaits}
use Rattle.flow_points.specs.declared.fact.Value.{Value}
use Rattle.flow_points.specs.declared.fact.Value.TheVariants.{Const, Any}
use Rattle.flow_points.specs.declared.flow.Source.{Source}
use Rattle.flow_points.specs.declared.flow.Source.TheVariants.{Of, Is}
use Rattle.flow_points.specs.declared.flow.Passing.{Passing}
use Rattle.flow_points.specs.Places.{Place, IsPlace, StandsAt}
use Rattle.flow_points.specs.Slots.{IsSlotOf, HasSlot, temp_count, given_count}
use Rattle.flow_points.specs.Sources.{kept, sets, named, takes as takes_source, begins, source_of}
use Rattle.flow_points.specs.Flows.{LeadsTo}
use Rattle.flow_points.specs.Facts.{Facts, fact, Known, Reached, Guarded, SourceGives, IsClosed}
use Rattle.fact_laws.specs.Covers.{StandsFor, awaits_of, Activation}
use Rattle.fact_laws.proofs.Lists.{index_blank}

-- some value that comes from the source before the point stands for the number
abbrev pub Gets : Facts → ℕ → List ℕ → ℕ → Source → ℕ → Type 0
Gets P e args p s n = (v : Value) × SourceGives P e p s v × StandsFor args v n

-- the sources give what an activation has, with so many temporaries and entry values
pub record Carried (P : Facts) (e : ℕ) (args : List ℕ) (p : ℕ) (source : Slot → Source) (temp_many given_many : ℕ)
    (temps given : List ℕ) (callers : List Caller) : Type 0 where
  pub temp : (t : ℕ) → t < temp_many → Gets P e args p (source (Temp t)) (slice_index temps t)
  pub gave : (k : ℕ) → k < given_many → Gets P e args p (source (Given k)) (slice_index given k)
  pub depth : SourceGives P e p (source Depth) (Const (length callers))
  pub awaits : SourceGives P e p (source Awaits) (Const (awaits_of callers))

module _ (P : Facts) (e : ℕ) (args : List ℕ) (p : ℕ) where
  gets_any : (n : ℕ) → Gets P e args p (Is Any) n
  gets_any n = (Any, refl, tt)

  -- a temporary that may have got another number
  gets_set : (t temp v : ℕ) (temps : List ℕ) (new old : Source) → t < length temps → Gets P e args p new v → Gets P e args p old (slice_index temps t)
      → Gets P e args p (if nat_eq t temp then new else old) (slice_index (slice_set temps temp v) t)
  gets_set t temp v temps new old lt g h = by (nat_eq t temp) refl
    where
      by : (same : Bool) → nat_eq t temp ≡ same → Gets P e args p (if same then new else old) (slice_index (slice_set temps temp v) t)
      by true is =
          let at : t ≡ temp = eqb-true t temp is in
          let put : slice_index (slice_set temps temp v) t ≡ v = ap (λ n. slice_index (slice_set temps n v) t) (sym at) ∙ get_or-set_same temps t v 0 lt in
          subst (Gets P e args p new) (sym put) g
      by false is =
          let other : t ≢ temp = eqb-false t temp is in
          subst (Gets P e args p old) (sym (get_or-set_other temps temp t v 0 other)) h

  -- one that may have got any number has what it had
  gets_either : (same : Bool) (old : Source) (n : ℕ) → Gets P e args p old n → Gets P e args p (if same then Is Any else old) n
  gets_either true old n h = gets_any n
  gets_either false old n h = h

  gets_named : (ts : List ℕ) (slot : ℕ → Slot) (k t : ℕ) (before : Source) (values temps : List ℕ) → t < length temps
      → ((j : ℕ) → j < length ts → Gets P e args p (Of (slot (k + j))) (slice_index values (k + j))) → Gets P e args p before (slice_index temps t)
      → Gets P e args p (named ts slot k t before) (slice_index (takes k ts values temps) t)
  gets_named [] slot k t before values temps lt each h = h
  gets_named (u ∷ ts) slot k t before values temps lt each h =
      let none : k + 0 ≡ k = omega arith in
      let long = length-set temps u (slice_index values k) in
      let here : Gets P e args p (Of (slot k)) (slice_index values k) = subst
      (λ n. Gets P e args p (Of (slot n)) (slice_index values n)) none (each 0 (omega arith)) in
      gets_named ts slot (k + 1) t (if nat_eq t u then Of (slot k) else before) values (slice_set temps u (slice_index values k)) (omega (arith, lt, long))
      (λ j l. let next : k + suc j ≡ k + 1 + j = omega arith in subst
      (λ n. Gets P e args p (Of (slot n)) (slice_index values n)) next (each (suc j) (omega (arith, l))))
      (gets_set t u (slice_index values k) temps (Of (slot k)) before lt here h)

  module _ {x : Exchange} {b : ℕ} {temps given : List ℕ} {callers : List Caller} (a : Activation x P e args b p temps given callers) where
    pub carried_kept : Carried P e args p kept (temp_count x b) (given_count x b) temps given callers
    carried_kept = record { temp = a.temp; gave = a.gave; depth = a.depth; awaits = a.awaits }

    pub carried_sets : (temp v : ℕ) (new : Source) → temp_count x b ≤ length temps → Gets P e args p new v
        → Carried P e args p (sets temp new) (temp_count x b) (given_count x b) (slice_set temps temp v) given callers
    carried_sets temp v new long g = record {
      temp = λ t l. gets_set t temp v temps new (Of (Temp t)) (omega (arith, l, long)) g (a.temp t l);
      gave = a.gave;
      depth = a.depth;
      awaits = a.awaits;
    }

    -- a temporary that may get any number gets one, or none
    pub carried_any : (temp v : ℕ) → temp_count x b ≤ length temps
        → Carried P e args p (sets temp (Is Any)) (temp_count x b) (given_count x b) (slice_set temps temp v) given
        callers
    carried_any temp v long = carried_sets temp v (Is Any) long (gets_any v)

    pub carried_either : (temp : ℕ) → Carried P e args p (sets temp (Is Any)) (temp_count x b) (given_count x b) temps given callers
    carried_either temp = record {
      temp = λ t l. gets_either (nat_eq t temp) (Of (Temp t)) (slice_index temps t) (a.temp t l);
      gave = a.gave;
      depth = a.depth;
      awaits = a.awaits;
    }

    pub carried_takes : (ts : List ℕ) (slot : ℕ → Slot) (values : List ℕ) → temp_count x b ≤ length temps
        → ((j : ℕ) → j < length ts → Gets P e args p (Of (slot j)) (slice_index values j))
        → Carried P e args p (takes_source ts slot) (temp_count x b) (given_count x b) (takes 0 ts values temps) given callers
    carried_takes ts slot values long each = record {
      temp = λ t l. gets_named ts slot 0 t (Of (Temp t)) values temps (omega (arith, l, long))
          (λ j k. let none : j ≡ 0 + j = omega arith in subst
          (λ n. Gets P e args p (Of (slot n)) (slice_index values n)) none (each j k)) (a.temp t l);
      gave = a.gave;
      depth = a.depth;
      awaits = a.awaits;
    }

  pub carried_begins : (source : ℕ → Source) (depth awaits : Source) (temp_many given_many : ℕ) (given : List ℕ)
      (callers : List Caller) → ((k : ℕ) → k < given_many → Gets P e args p (source k) (slice_index given k))
      → SourceGives P e p depth (Const (length callers)) → SourceGives P e p awaits (Const (awaits_of callers))
      → Carried P e args p (begins source depth awaits) temp_many given_many blank given callers
  carried_begins source depth awaits temp_many given_many given callers each d w = record {
    temp = λ t l. (Const 0, refl, index_blank t);
    gave = each;
    depth = d;
    awaits = w;
  }

-- a statement of the block stands at the point
pub record Target (x : Exchange) (b q : ℕ) : Type 0 where
  pub place : Place
  pub stands : StandsAt x q place
  pub block : place.block ≡ b

module _ (x : Exchange) (P : Facts) (closed : IsClosed x P) (e : ℕ) (args : List ℕ) where
  -- a flow that gives facts
  pub record Flowing (at : Place) (q : ℕ) (how : Passing) : Type 0 where
    pub place : IsPlace x at
    pub leads : LeadsTo x at q how
    pub reached : Reached P e at.point
    pub guarded : Guarded P e at.point q how

  pub flowing_gives : (at : Place) (q : ℕ) (how : Passing) → Flowing at q how → (s : Slot) (v : Value) → HasSlot x q s
      → SourceGives P e at.point (source_of how s) v → Known P e q s v
  flowing_gives at q how f s v slot g =
      closed (fact e q s v) (inr (
        at.point,
        record {
          at = at;
          stands = record { place = f.place; here = refl };
          how = how;
          flow = record { leads = f.leads; reached = f.reached; guarded = f.guarded; slot = slot; gives = g };
        },
      ))

  pub has_slot : (b q : ℕ) (s : Slot) (t : Target x b q) → IsSlotOf x t.place s → HasSlot x q s
  has_slot b q s t is = record { place = t.place; stands = t.stands; slot = is }

  pub temp_slot : (b q : ℕ) (t : ℕ) → Target x b q → t < temp_count x b → HasSlot x q (Temp t)
  temp_slot b q t at lt = has_slot b q (Temp t) at (subst (λ n. t < temp_count x n) (sym at.block) lt)

  pub given_slot : (b q : ℕ) (k : ℕ) → Target x b q → k < given_count x b → HasSlot x q (Given k)
  given_slot b q k at lt = has_slot b q (Given k) at (subst (λ n. k < given_count x n) (sym at.block) lt)

  -- what goes along a flow is known at its end
  pub lands : (at : Place) (q : ℕ) (how : Passing) → Flowing at q how → (b : ℕ) (temps given : List ℕ) (callers : List Caller) → Target x b q
      → Carried P e args at.point (source_of how) (temp_count x b) (given_count x b) temps given callers
      → ((k : ℕ) → given_count x b ≤ k → slice_index given k ≡ 0)
      → Activation x P e args b q temps given callers
  lands at q how f b temps given callers target h past = record {
    temp = λ t l. (let g = h.temp t l in (g.0, flowing_gives at q how f (Temp t) g.0 (temp_slot b q t target l) g.1, g.2));
    gave = λ k l. (let g = h.gave k l in (g.0, flowing_gives at q how f (Given k) g.0 (given_slot b q k target l) g.1, g.2));
    past = past;
    depth = flowing_gives at q how f Depth (Const (length callers)) (has_slot b q Depth target tt) h.depth;
    awaits = flowing_gives at q how f Awaits (Const (awaits_of callers)) (has_slot b q Awaits target tt) h.awaits;
  }
