-- Each least fact is one that the exchange has, so that summaries by the least facts are of the
-- exchange.
--
-- A value that a job starts with comes only from the start: flows carry it on, and give numbers
-- besides.
use Rattle.std.proofs.Common.{◌≡◌, ◌↔◌, inl, inr, ℕ, zero, suc, ◌+◌, ◌<◌, Bool, true, false, nat_lt}
use Rattle.std.proofs.Common.{nat_eq, if◌then◌else◌, List, [], ◌∷◌, map, get_or, Contains, All}
use Rattle.std.proofs.Common.{refl, sym, ◌∙◌, subst}
use Rattle.std.specs.List.{AllByRecursion}
use Rattle.std.proofs.lemmas.Bool.{ltb-true}
use Rattle.std.proofs.lemmas.List.Elements.{Contains-get_or}
use Rattle.std.proofs.lemmas.Option.{slice_get_within}
use Rattle.exchange_model.specs.declared.exchange.Exchange.{Exchange}
use Rattle.exchange_model.specs.declared.expr.Expr.{Expr, out-Expr}
use Rattle.exchange_model.specs.declared.expr.Term.{Term, out-Term}
use Rattle.exchange_model.specs.declared.expr.Joined.{Joined}
use Rattle.exchange_model.specs.declared.expr.Factor.TheOpen as layer
use Rattle.exchange_model.specs.declared.expr.Factor.TheVariants as factor
use Rattle.source_meaning.specs.Changes.{value_count}
use Rattle.source_meaning.specs.Named.{Layer}
use Rattle.source_meaning.specs.Valid.{entry_count}
use Rattle.source_meaning.proofs.Parts.{NodeParts, every_expr}
use Rattle.flow_points.specs.declared.limits.TheConstants.{SMALL_NUMBERS}
use Rattle.flow_points.specs.declared.fact.Fact.{Fact}
use Rattle.flow_points.specs.declared.fact.Slot.{Slot}
use Rattle.flow_points.specs.declared.fact.Slot.TheVariants.{Temp, Given, Answered, Depth, Awaits}
use Rattle.flow_points.specs.declared.fact.Value.{Value}
use Rattle.flow_points.specs.declared.fact.Value.TheVariants.{Arg, Const, Any}
use Rattle.flow_points.specs.declared.flow.Passing.{Passing}
use Rattle.flow_points.specs.declared.flow.Passing.TheVariants.{Kept as Keeps, Sets, Takes}
use Rattle.flow_points.specs.declared.flow.Passing.TheVariants.{Retrieves, Begins, Passes, Calls}
use Rattle.flow_points.specs.declared.flow.Passing.TheVariants.{Answers}
use Rattle.flow_points.specs.declared.flow.Source.{Source}
use Rattle.flow_points.specs.declared.flow.Source.TheVariants.{Of, Is, Deeper, Nothing}
use Rattle.flow_points.specs.Facts.{Facts, IsClosed, IsLeast, SourceGives, fact}
use Rattle.flow_points.specs.Flows.{LeadsTo}
use Rattle.flow_points.specs.Places.{Place}
use Rattle.flow_points.specs.Sources.{at_place, expr_source, lone_source, named, source_of}
use Rattle.flow_points.specs.Sources.{start_source}
use Rattle.flow_points.proofs.Least.{gives_more, least_closed, least_in}
use Rattle.flow_table.specs.declared.way.Way.{Way}
use Rattle.flow_table.specs.Alone.{term_source, joined_source, own_source}
use Rattle.flow_table.specs.Shapes.{Shape, Stays, Assigns, Finds, TakesGiven, TakesAnswer, Starts}
use Rattle.flow_table.specs.Shapes.{Transfers, Asks, GivesAnswer}
use Rattle.flow_table.proofs.Shaping.{led_by}
use Rattle.flow_table.proofs.Sourcing.{expr_source-out, term_source-out, joined_source-out}
use Rattle.flow_table.proofs.Sourcing.{factor_as}
use Rattle.entry_summary.specs.declared.summary.Summary.{Summary}
use Rattle.certificate_meaning.specs.Summaries.{AreSummaries}
use Rattle.checked.specs.Belonging.{IsOfExchange, IsValueOfEntry}
use Rattle.certificate_faults.proofs.Firsts.{count_some}
use Rattle.finite_facts.proofs.Facts.{least_facts}
use Rattle.access_summary.specs.declared.looks.Excess.{Excess}
use Rattle.certificate_check.specs.declared.own.Own.{Own}
use Rattle.certificate_check.specs.declared.own.Own.TheVariants.{Kept, Many}
use Rattle.checked.specs.Kept.{AreSummariesBy, IsChecked, KeptSummaries}
use Rattle.certificate_check.specs.Own.{AreOwn, IsGivenUp, IsOwn}
use Rattle.certificate_check.proofs.Summing.{summaries_alike}

-- sources that give no value of the start but those that a slot has

abbrev IsNumber : Value → Type 0
IsNumber (Arg k) = ⊥
IsNumber (Const c) = Unit {0}
IsNumber Any = Unit {0}

abbrev Carries : Source → Type 0
Carries (Of s) = Unit {0}
Carries (Is v) = IsNumber v
Carries Deeper = Unit {0}
Carries Nothing = Unit {0}

-- expressions

alone_term : (ts : List Term) → AllByRecursion (λ (t : Term). Carries (term_source t)) ts → Carries (lone_source (map term_source ts))
alone_term [] each = tt
alone_term (t ∷ []) each = each.0
alone_term (t ∷ u ∷ ts) each = tt

alone_factor : (js : List Joined) → AllByRecursion (λ (j : Joined). Carries (own_source j.factor)) js → Carries (lone_source (map joined_source js))
alone_factor [] each = tt
alone_factor (j ∷ []) each = subst Carries (sym (joined_source-out j)) each.0
alone_factor (j ∷ k ∷ js) each = tt

small_number : (n : ℕ) (t : Bool) → Carries (if t then Is (Const n) else Is Any)
small_number n true = tt
small_number n false = tt

carrying : NodeParts (λ e. Carries (expr_source e)) (λ t. Carries (term_source t)) (λ f. Carries (own_source f))
carrying = record {
  expr = λ e each. subst Carries (sym (expr_source-out e)) (alone_term (out-Expr e).terms each);
  term = λ t each. subst Carries (sym (term_source-out t)) (alone_factor (out-Term t).factors each);
  number = λ n. subst Carries (factor_as (factor.Number n) (layer.Number n) (factor.outs-Number n)) (small_number n (nat_lt n SMALL_NUMBERS));
  variable = λ v. subst Carries (factor_as (factor.Variable v) (layer.Variable v) (factor.outs-Variable v)) tt;
  temporary = λ t. subst Carries (factor_as (factor.Temporary t) (layer.Temporary t) (factor.outs-Temporary t)) tt;
  field = λ file field pointer. subst Carries (factor_as (factor.Field file field pointer)
      (layer.Field file field pointer) (factor.outs-Field file field pointer)) tt;
  bracket = λ e inside. subst Carries (factor_as (factor.Bracket e) (layer.Bracket e) (factor.outs-Bracket e)) inside;
  reference = λ b. subst Carries (factor_as (factor.Reference b) (layer.Reference b) (factor.outs-Reference b)) tt;
}

expr_carries : (e : Expr) → Carries (expr_source e)
expr_carries e = every_expr carrying e

exprs_carry : (es : List Expr) → AllByRecursion Carries (map expr_source es)
exprs_carry [] = tt
exprs_carry (e ∷ es) = (expr_carries e, exprs_carry es)

-- flows

abbrev AllCarry : Passing → Type 0
AllCarry how = (s : Slot) → Carries (source_of how s)

either : (t : Bool) (a b : Source) → Carries a → Carries b → Carries (if t then a else b)
either true a b h k = h
either false a b h k = k

keeps_carry : AllCarry Keeps
keeps_carry (Temp t) = tt
keeps_carry (Given k) = tt
keeps_carry (Answered k) = tt
keeps_carry Depth = tt
keeps_carry Awaits = tt

sets_carry : (temp : ℕ) (source : Source) → Carries source → AllCarry (Sets temp source)
sets_carry temp source h (Temp t) = either (nat_eq t temp) source (Of (Temp t)) h tt
sets_carry temp source h (Given k) = tt
sets_carry temp source h (Answered k) = tt
sets_carry temp source h Depth = tt
sets_carry temp source h Awaits = tt

named_carries : (names : List ℕ) (slot : ℕ → Slot) (k t : ℕ) (before : Source) → Carries before → Carries (named names slot k t before)
named_carries [] slot k t before h = h
named_carries (name ∷ names) slot k t before h = named_carries names slot (k + 1) t
    (if nat_eq t name then Of (slot k) else before) (either (nat_eq t name) (Of (slot k)) before tt h)

takes_carry : (names : List ℕ) → AllCarry (Takes names)
takes_carry names (Temp t) = named_carries names (λ k. Given k) 0 t (Of (Temp t)) tt
takes_carry names (Given k) = tt
takes_carry names (Answered k) = tt
takes_carry names Depth = tt
takes_carry names Awaits = tt

retrieves_carry : (names : List ℕ) → AllCarry (Retrieves names)
retrieves_carry names (Temp t) = named_carries names (λ k. Answered k) 0 t (Of (Temp t)) tt
retrieves_carry names (Given k) = tt
retrieves_carry names (Answered k) = tt
retrieves_carry names Depth = tt
retrieves_carry names Awaits = tt

at_carries : (values : List Source) (k : ℕ) (past : Source) → AllByRecursion Carries values → Carries past → Carries (at_place values k past)
at_carries [] k past each h = h
at_carries (v ∷ values) zero past each h = each.0
at_carries (v ∷ values) (suc k) past each h = at_carries values k past each.1 h

begins_carry : (values : List Source) → AllByRecursion Carries values → AllCarry (Begins values)
begins_carry values each (Temp t) = tt
begins_carry values each (Given k) = at_carries values k (Is (Const 0)) each tt
begins_carry values each (Answered k) = tt
begins_carry values each Depth = tt
begins_carry values each Awaits = tt

passes_carry : (count : ℕ) → AllCarry (Passes count)
passes_carry count (Temp t) = tt
passes_carry count (Given k) = either (nat_lt k count) (Of (Given k)) (Is (Const 0)) tt tt
passes_carry count (Answered k) = tt
passes_carry count Depth = tt
passes_carry count Awaits = tt

calls_carry : (values : List Source) (answer : ℕ) → AllByRecursion Carries values → AllCarry (Calls values answer)
calls_carry values answer each (Temp t) = tt
calls_carry values answer each (Given k) = at_carries values k (Is (Const 0)) each tt
calls_carry values answer each (Answered k) = tt
calls_carry values answer each Depth = tt
calls_carry values answer each Awaits = tt

answers_carry : (values : List Source) → AllByRecursion Carries values → AllCarry (Answers values)
answers_carry values each (Temp t) = tt
answers_carry values each (Given k) = tt
answers_carry values each (Answered k) = at_carries values k Nothing each tt
answers_carry values each Depth = tt
answers_carry values each Awaits = tt

-- statements

as_made : (how made : Passing) → how ≡ made → AllCarry made → AllCarry how
as_made how made is h = λ s. subst (λ (k : Passing). Carries (source_of k s)) (sym is) (h s)

shape_carries : (x : Exchange) (l : Layer) (w : Way) → Shape x l w → AllCarry w.how
shape_carries x l w (Stays is) = as_made w.how Keeps is keeps_carry
shape_carries x l w (Assigns temp e own is) = as_made w.how (Sets temp (expr_source e)) is (sets_carry temp (expr_source e) (expr_carries e))
shape_carries x l w (Finds temp is) = as_made w.how (Sets temp (Is Any)) is (sets_carry temp (Is Any) tt)
shape_carries x l w (TakesGiven signal temps kind is) = as_made w.how (Takes temps) is (takes_carry temps)
shape_carries x l w (TakesAnswer answer temps kind is) = as_made w.how (Retrieves temps) is (retrieves_carry temps)
shape_carries x l w (Starts values own is) = as_made w.how (Begins (map expr_source values)) is (begins_carry (map expr_source values) (exprs_carry values))
shape_carries x l w (Transfers count is) = as_made w.how (Passes count) is (passes_carry count)
shape_carries x l w (Asks signal name count answer values there own is) =
    as_made w.how (Calls (map expr_source values) answer) is (calls_carry (map expr_source values) answer (exprs_carry values))
shape_carries x l w (GivesAnswer answer values kind is to) = as_made w.how (Answers (map expr_source values)) is
    (answers_carry (map expr_source values) (exprs_carry values))

leads_carry : (x : Exchange) (at : Place) (q : ℕ) (how : Passing) → LeadsTo x at q how → AllCarry how
leads_carry x at q how g = (let led = led_by x at q how g in as_made how led.way.how led.leads.is (shape_carries x at.layer led.way led.shape))

-- values that are given are of the entry

module _ (x : Exchange) where
  number_of_entry : (e : ℕ) (v : Value) → IsNumber v → IsValueOfEntry x e v
  number_of_entry e (Arg k) h = absurd h
  number_of_entry e (Const c) h = tt
  number_of_entry e Any h = tt

  carried : (P : Facts) → ((f : Fact) → P f → IsValueOfEntry x f.entry f.value)
      → (e p : ℕ) (source : Source) (v : Value) → Carries source → SourceGives P e p source v → IsValueOfEntry x e v
  carried P each e p (Of s) v h g = each (fact e p s v) g
  carried P each e p (Is w) v h g = subst (IsValueOfEntry x e) (sym g) (number_of_entry e w h)
  carried P each e p Deeper v h g = subst (IsValueOfEntry x e) (sym g.2) tt
  carried P each e p Nothing v h g = absurd g

  begun : (e count k : ℕ) (t : Bool) (v : Value) (P : Facts) (p : ℕ) → count ≡ entry_count x e → nat_lt k count ≡ t
      → SourceGives P e p (if t then Is (Arg k) else Is (Const 0)) v → IsValueOfEntry x e v
  begun e count k true v P p is below g = subst (IsValueOfEntry x e) (sym g) (subst (λ n. k < n) is (ltb-true k count below))
  begun e count k false v P p is below g = subst (IsValueOfEntry x e) (sym g) tt

  started : (e count : ℕ) (s : Slot) (v : Value) (P : Facts) (p : ℕ) → count ≡ entry_count x e
      → SourceGives P e p (start_source count s) v → IsValueOfEntry x e v
  started e count (Temp t) v P p is g = subst (IsValueOfEntry x e) (sym g) tt
  started e count (Given k) v P p is g = begun e count k (nat_lt k count) v P p is refl g
  started e count (Answered k) v P p is g = absurd g
  started e count Depth v P p is g = subst (IsValueOfEntry x e) (sym g) tt
  started e count Awaits v P p is g = subst (IsValueOfEntry x e) (sym g) tt

  all_of_exchange : IsClosed x (IsOfExchange x)
  all_of_exchange f (inl g) = record {
    entry = slice_get_within x.entries f.entry g.entry g.there;
    slot = g.slot;
    value = started f.entry (value_count x g.entry.signal) f.slot f.value (IsOfExchange x) f.point
        (count_some x f.entry (value_count x g.entry.signal) g.entry g.there refl) g.gives;
  }
  all_of_exchange f (inr (p, g)) =
      let w = g.flow in
      record {
        entry = w.reached.1.entry;
        slot = w.slot;
        value = carried (IsOfExchange x) (λ h of_it. of_it.value) f.entry g.at.point (source_of g.how f.slot) f.value
            (leads_carry x g.at f.point g.how w.leads f.slot) w.gives;
      }

  -- the least facts are a list

  own_facts : All (IsOfExchange x) (least_facts x).items
  own_facts = λ i d lt. least_in x (IsOfExchange x) all_of_exchange (get_or (least_facts x).items i d)
      ((least_facts x).each (get_or (least_facts x).items i d) (Contains-get_or (least_facts x).items i d lt))

  least_are_closed : IsClosed x (Contains (least_facts x).items)
  least_are_closed f given = (least_facts x).all f
      (least_closed x f (gives_more x (Contains (least_facts x).items) (IsLeast x) (λ g c. (least_facts x).each g c) f
      given))

  pub by_least : (summaries : List Summary) → AreSummaries x summaries → AreSummariesBy x (IsLeast x) summaries
  by_least summaries are = record { each_entry = are.each_entry; is = are.is }

  pub own_checked : (k : KeptSummaries) → AreSummaries x k.summaries → IsChecked x k
  own_checked k are = record {
    facts = (least_facts x).items;
    own = own_facts;
    closed = least_are_closed;
    by_facts = summaries_alike x (IsLeast x) (Contains (least_facts x).items)
        (λ f. ((least_facts x).all f, (least_facts x).each f)) k.summaries (by_least k.summaries are);
  }

-- what is kept of the exchange's own certificate is of the exchange
pub kept_is_checked : (x : Exchange) (looks : ℕ) (o : Own) (k : KeptSummaries) → o ≡ Kept k → IsOwn x looks o → IsChecked x k
kept_is_checked x looks o k is own = (let kept : AreOwn x k = subst (IsOwn x looks) is own in kept.checked)

-- nothing is kept only where the analysis was given up

pub given_up : (x : Exchange) (looks : ℕ) (o : Own) (excess : Excess) → IsOwn x looks o → o ≡ Many excess → IsGivenUp x looks
given_up x looks o excess h is = record { excess = excess; past = subst (IsOwn x looks) is h }
