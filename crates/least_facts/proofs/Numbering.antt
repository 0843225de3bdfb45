-- Each source over a flow gives values that have a number in the plane of the slot.
use Rattle.std.proofs.Common.{◌≡◌, ℕ, zero, suc, ◌+◌, ◌<◌, ◌≤◌, Bool, true, false, nat_lt, nat_eq}
use Rattle.std.proofs.Common.{if◌then◌else◌, List, [], ◌∷◌, length, map, Option, Some, None}
use Rattle.std.proofs.Common.{slice_get, refl, sym, ap, subst, arith}
use Rattle.std.proofs.lemmas.Bool.{ltb-true}
use Rattle.std.proofs.lemmas.Option.{slice_get_within}
use Rattle.std.specs.List.{AllByRecursion}
use Rattle.plex_limits.specs.declared.limits.TheConstants.{MOST_BLOCKS, MOST_SIGNALS, MOST_VALUES}
use Rattle.exchange_model.specs.declared.exchange.Exchange.{Exchange}
use Rattle.exchange_model.specs.declared.expr.Expr.{Expr, out-Expr}
use Rattle.exchange_model.specs.declared.expr.Term.{Term, out-Term}
use Rattle.exchange_model.specs.declared.expr.Joined.{Joined}
use Rattle.exchange_model.specs.declared.expr.Factor.{Factor}
use Rattle.exchange_model.specs.declared.expr.Factor.TheOpen as layer
use Rattle.exchange_model.specs.declared.expr.Factor.TheVariants as factor
use Rattle.exchange_model.specs.declared.signal.SignalKind.{SignalKind}
use Rattle.exchange_model.specs.declared.signal.SignalKind.TheVariants.{Combined}
use Rattle.exchange_model.specs.Fits.{Scope, ExprFits, FactorFits}
use Rattle.exchange_model.specs.Inside.{own_exprs}
use Rattle.exchange_model.specs.Kept.{IsExchange, IsAnswerOf, scope_of}
use Rattle.exchange_model.specs.PartFits.{TermFits, JoinedFits, FactorOwnFits, InsideFits}
use Rattle.exchange_model.proofs.Layers.{expr_fits-out, term_fits-out, joined_fits-out}
use Rattle.exchange_model.proofs.Layers.{factor_fits-out}
use Rattle.source_meaning.specs.Changes.{value_count}
use Rattle.source_meaning.specs.Named.{Layer}
use Rattle.source_meaning.specs.Rests.{IsOfBlock}
use Rattle.source_meaning.proofs.Parts.{NodeParts, every_expr}
use Rattle.flow_points.specs.declared.limits.TheConstants.{SMALL_NUMBERS}
use Rattle.flow_points.specs.declared.fact.Slot.{Slot}
use Rattle.flow_points.specs.declared.fact.Slot.TheVariants.{Temp, Given, Answered, Depth, Awaits}
use Rattle.flow_points.specs.declared.fact.Value.TheVariants.{Arg, Const, Any}
use Rattle.flow_points.specs.declared.flow.Passing.{Passing}
use Rattle.flow_points.specs.declared.flow.Passing.TheVariants.{Kept, Sets, Takes, Retrieves}
use Rattle.flow_points.specs.declared.flow.Passing.TheVariants.{Begins, Passes, Calls, Answers}
use Rattle.flow_points.specs.declared.flow.Source.{Source}
use Rattle.flow_points.specs.declared.flow.Source.TheVariants.{Of, Is, Nothing}
use Rattle.flow_points.specs.Flows.{Leads}
use Rattle.flow_points.specs.Sources.{at_place, expr_source, kept, lone_source, named, source_of}
use Rattle.flow_points.specs.Sources.{start_source}
use Rattle.flow_table.specs.declared.way.Way.{Way}
use Rattle.flow_table.specs.Alone.{term_source, joined_source, own_source}
use Rattle.flow_table.specs.Shapes.{Shape, Stays, Assigns, Finds, TakesGiven, TakesAnswer, Starts}
use Rattle.flow_table.specs.Shapes.{Transfers, Asks, GivesAnswer}
use Rattle.flow_table.proofs.Shaping.{led_by}
use Rattle.flow_table.proofs.Sourcing.{expr_source-out, term_source-out, joined_source-out}
use Rattle.flow_table.proofs.Sourcing.{factor_as}
use Rattle.least_facts.specs.Fit.{HowFits, NumberedSource, SourceFits}
use Rattle.flow_points.proofs.Few.{count_few}

no_number : NumberedSource (Is (Const 0))
no_number = omega arith

-- expressions

module _ (s : Scope) (few : length s.blocks ≤ MOST_BLOCKS) where
  abbrev ExprNumbered : Expr → Type 0
  ExprNumbered e = ExprFits s e → NumberedSource (expr_source e)

  abbrev TermNumbered : Term → Type 0
  TermNumbered t = TermFits s t → NumberedSource (term_source t)

  abbrev FactorNumbered : Factor → Type 0
  FactorNumbered f = FactorOwnFits s f → NumberedSource (own_source f)

  alone_term : (ts : List Term) → AllByRecursion TermNumbered ts → AllByRecursion (TermFits s) ts → NumberedSource (lone_source (map term_source ts))
  alone_term [] each fit = tt
  alone_term (t ∷ []) each fit = each.0 fit.0
  alone_term (t ∷ u ∷ ts) each fit = tt

  alone_factor : (js : List Joined) → AllByRecursion (λ (j : Joined). FactorNumbered j.factor) js
      → AllByRecursion (JoinedFits s) js → NumberedSource (lone_source (map joined_source js))
  alone_factor [] each fit = tt
  alone_factor (j ∷ []) each fit = subst NumberedSource (sym (joined_source-out j)) (each.0 (joined_fits-out s j fit.0))
  alone_factor (j ∷ k ∷ js) each fit = tt

  small_number : (n : ℕ) (t : Bool) → nat_lt n SMALL_NUMBERS ≡ t → NumberedSource (if t then Is (Const n) else Is Any)
  small_number n true is = ltb-true n SMALL_NUMBERS is
  small_number n false is = tt

  numbered_parts : NodeParts ExprNumbered TermNumbered FactorNumbered
  numbered_parts = record {
    expr = λ e each fit. subst NumberedSource (sym (expr_source-out e)) (alone_term (out-Expr e).terms each (expr_fits-out s e fit).1);
    term = λ t each fit. subst NumberedSource (sym (term_source-out t)) (alone_factor (out-Term t).factors each (term_fits-out s t fit).1);
    number = λ n fit. subst NumberedSource (factor_as (factor.Number n) (layer.Number n) (factor.outs-Number n)) (small_number n (nat_lt n SMALL_NUMBERS) refl);
    variable = λ v fit. subst NumberedSource (factor_as (factor.Variable v) (layer.Variable v) (factor.outs-Variable v)) tt;
    temporary = λ t fit. subst NumberedSource (factor_as (factor.Temporary t) (layer.Temporary t) (factor.outs-Temporary t)) (λ v h. h);
    field = λ file field pointer fit. subst NumberedSource
        (factor_as (factor.Field file field pointer) (layer.Field file field pointer)
        (factor.outs-Field file field pointer)) tt;
    bracket = λ e inside fit. subst NumberedSource
        (factor_as (factor.Bracket e) (layer.Bracket e) (factor.outs-Bracket e))
        (inside (subst (InsideFits s) (factor.outs-Bracket e) (factor_fits-out s (factor.Bracket e) fit).1));
    reference = λ b fit.
        subst NumberedSource (factor_as (factor.Reference b) (layer.Reference b) (factor.outs-Reference b))
        (let below : b < length s.blocks = subst (FactorFits s) (factor.outs-Reference b)
        (factor_fits-out s (factor.Reference b) fit).0 in omega (arith, below, few));
  }

  expr_numbered : (e : Expr) → ExprFits s e → NumberedSource (expr_source e)
  expr_numbered e = every_expr numbered_parts e

  exprs_numbered : (es : List Expr) → AllByRecursion (ExprFits s) es → AllByRecursion NumberedSource (map expr_source es)
  exprs_numbered [] fit = tt
  exprs_numbered (e ∷ es) fit = (expr_numbered e fit.0, exprs_numbered es fit.1)

-- flows

either : (t : Bool) (a b : Source) → NumberedSource a → NumberedSource b → NumberedSource (if t then a else b)
either true a b h k = h
either false a b h k = k

kept_fits : (s : Slot) → SourceFits s (kept s)
kept_fits (Temp t) = λ v h. h
kept_fits (Given k) = λ v h. h
kept_fits (Answered k) = tt
kept_fits Depth = λ v h. h
kept_fits Awaits = λ v h. h

sets_fit : (temp : ℕ) (source : Source) → NumberedSource source → HowFits (Sets temp source)
sets_fit temp source h (Temp t) = either (nat_eq t temp) source (Of (Temp t)) h (λ v k. k)
sets_fit temp source h (Given k) = λ v h. h
sets_fit temp source h (Answered k) = tt
sets_fit temp source h Depth = λ v h. h
sets_fit temp source h Awaits = λ v h. h

named_fits : (names : List ℕ) (slot : ℕ → Slot) → ((k : ℕ) → NumberedSource (Of (slot k))) → (k t : ℕ) (before : Source)
    → NumberedSource before → NumberedSource (named names slot k t before)
named_fits [] slot each k t before h = h
named_fits (name ∷ names) slot each k t before h = named_fits names slot each (k + 1) t
    (if nat_eq t name then Of (slot k) else before) (either (nat_eq t name) (Of (slot k)) before (each k) h)

takes_fit : (names : List ℕ) → HowFits (Takes names)
takes_fit names (Temp t) = named_fits names (λ k. Given k) (λ k v h. h) 0 t (Of (Temp t)) (λ v h. h)
takes_fit names (Given k) = λ v h. h
takes_fit names (Answered k) = tt
takes_fit names Depth = λ v h. h
takes_fit names Awaits = λ v h. h

retrieves_fit : (names : List ℕ) → HowFits (Retrieves names)
retrieves_fit names (Temp t) = named_fits names (λ k. Answered k) (λ k v h. h) 0 t (Of (Temp t)) (λ v h. h)
retrieves_fit names (Given k) = λ v h. h
retrieves_fit names (Answered k) = tt
retrieves_fit names Depth = λ v h. h
retrieves_fit names Awaits = λ v h. h

at_fits : (values : List Source) (k : ℕ) (past : Source) → AllByRecursion NumberedSource values → NumberedSource past → NumberedSource (at_place values k past)
at_fits [] k past each h = h
at_fits (v ∷ values) zero past each h = each.0
at_fits (v ∷ values) (suc k) past each h = at_fits values k past each.1 h

begins_fit : (values : List Source) → AllByRecursion NumberedSource values → HowFits (Begins values)
begins_fit values each (Temp t) = no_number
begins_fit values each (Given k) = at_fits values k (Is (Const 0)) each no_number
begins_fit values each (Answered k) = tt
begins_fit values each Depth = λ v h. h
begins_fit values each Awaits = λ v h. h

passes_fit : (count : ℕ) → HowFits (Passes count)
passes_fit count (Temp t) = no_number
passes_fit count (Given k) = either (nat_lt k count) (Of (Given k)) (Is (Const 0)) (λ v h. h) no_number
passes_fit count (Answered k) = tt
passes_fit count Depth = λ v h. h
passes_fit count Awaits = λ v h. h

calls_fit : (values : List Source) (answer : ℕ) → AllByRecursion NumberedSource values → answer < MOST_SIGNALS → HowFits (Calls values answer)
calls_fit values answer each lt (Temp t) = no_number
calls_fit values answer each lt (Given k) = at_fits values k (Is (Const 0)) each no_number
calls_fit values answer each lt (Answered k) = tt
calls_fit values answer each lt Depth = tt
calls_fit values answer each lt Awaits = omega (arith, lt)

pub answers_fit : (values : List Source) → AllByRecursion NumberedSource values → HowFits (Answers values)
answers_fit values each (Temp t) = tt
answers_fit values each (Given k) = tt
answers_fit values each (Answered k) = at_fits values k Nothing each tt
answers_fit values each Depth = tt
answers_fit values each Awaits = tt

-- statements

answer_some : (signals : List SignalKind) (combined answer : ℕ) (o : Option SignalKind) → slice_get signals answer ≡ o
    → IsAnswerOf combined o → answer < length signals
answer_some signals combined answer None there is = absurd is
answer_some signals combined answer (Some s) there is = slice_get_within signals answer s there

as_made : (how made : Passing) → how ≡ made → HowFits made → HowFits how
as_made how made is h = λ s. subst (λ (k : Passing). SourceFits s (source_of k s)) (sym is) (h s)

kept_all : HowFits Kept
kept_all = λ s. kept_fits s

module _ (x : Exchange) (exchange : IsExchange x) where
  shape_fits : (b : ℕ) (l : Layer) → IsOfBlock x b l → (w : Way) → Shape x l w → HowFits w.how
  shape_fits b l of w shape = by shape
    where
      each : (exprs : List Expr) → own_exprs l ≡ exprs → AllByRecursion (ExprFits (scope_of x b of.block)) exprs
      each exprs own = subst (AllByRecursion (ExprFits (scope_of x b of.block))) own of.fits.exprs.each

      values_fit : (exprs : List Expr) → own_exprs l ≡ exprs → AllByRecursion NumberedSource (map expr_source exprs)
      values_fit exprs own = exprs_numbered (scope_of x b of.block) exchange.blocks.few exprs (each exprs own)

      by : Shape x l w → HowFits w.how
      by (Stays is) = as_made w.how Kept is kept_all
      by (Assigns temp e own is) = as_made w.how (Sets temp (expr_source e)) is
          (sets_fit temp (expr_source e) (expr_numbered (scope_of x b of.block) exchange.blocks.few e
          (each (e ∷ []) own).0))
      by (Finds temp is) = as_made w.how (Sets temp (Is Any)) is (sets_fit temp (Is Any) tt)
      by (TakesGiven signal temps kind is) = as_made w.how (Takes temps) is (takes_fit temps)
      by (TakesAnswer answer temps kind is) = as_made w.how (Retrieves temps) is (retrieves_fit temps)
      by (Starts values own is) = as_made w.how (Begins (map expr_source values)) is (begins_fit (map expr_source values) (values_fit values own))
      by (Transfers count is) = as_made w.how (Passes count) is (passes_fit count)
      by (Asks signal name count answer values there own is) =
          let next = exchange.signals.answers signal (Combined name count answer) there in
          let below = answer_some x.signals signal answer (slice_get x.signals answer) refl next.1 in
          let few = exchange.signals.few in
          as_made w.how (Calls (map expr_source values) answer) is
          (calls_fit (map expr_source values) answer (values_fit values own) (omega (arith, below, few)))
      by (GivesAnswer answer values kind is to) =
          as_made w.how (Answers (map expr_source values)) is (answers_fit (map expr_source values) (values_fit values (ap (λ (k : Layer). own_exprs k) kind)))

  pub leads_fit : (b p : ℕ) (next : Option ℕ) (l : Layer) (q : ℕ) (how : Passing) → IsOfBlock x b l → Leads x b p next l q how → HowFits how
  leads_fit b p next l q how of g =
      let led = led_by x (record { block = b; point = p; layer = l; next = next }) q how g in
      as_made how led.way.how led.leads.is (shape_fits b l of led.way led.shape)

  -- the start

  given_start : (count k : ℕ) (t : Bool) → count ≤ MOST_VALUES → nat_lt k count ≡ t → NumberedSource (if t then Is (Arg k) else Is (Const 0))
  given_start count k true few is = (let lt = ltb-true k count is in omega (arith, few, lt))
  given_start count k false few is = no_number

  pub start_fits : (signal : ℕ) (s : Slot) → SourceFits s (start_source (value_count x signal) s)
  start_fits signal (Temp t) = no_number
  start_fits signal (Given k) = given_start (value_count x signal) k (nat_lt k (value_count x signal)) (count_few x exchange signal) refl
  start_fits signal (Answered k) = tt
  start_fits signal Depth = no_number
  start_fits signal Awaits = omega arith
