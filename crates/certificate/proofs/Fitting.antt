-- Each least fact can be told in a certificate.
use Rattle.std.proofs.Common.{◌≡◌, ◌↔◌, inl, inr, ℕ, ◌<◌, ◌≤◌, max, List, [], ◌∷◌, map, Option}
use Rattle.std.proofs.Common.{None, Some, slice_get, get_or, Contains, All, refl, sym, subst, arith}
use Rattle.std.specs.Option.{option_map_or}
use Rattle.std.proofs.lemmas.List.Elements.{Contains-get_or}
use Rattle.plex_limits.specs.declared.limits.TheConstants.{MOST_VALUES, MOST_TEMPORARIES}
use Rattle.exchange_model.specs.declared.exchange.Exchange.{Exchange}
use Rattle.exchange_model.specs.declared.block.Block.{Block}
use Rattle.exchange_model.specs.declared.block.Enter.{Enter as Row}
use Rattle.exchange_model.specs.Fits.{retrieved}
use Rattle.exchange_model.specs.Inside.{most}
use Rattle.exchange_model.specs.Kept.{IsExchange}
use Rattle.source_meaning.specs.Changes.{value_count}
use Rattle.flow_points.specs.declared.fact.Fact.{Fact}
use Rattle.flow_points.specs.declared.fact.Slot.{Slot}
use Rattle.flow_points.specs.declared.fact.Slot.TheVariants.{Temp, Given, Answered, Depth, Awaits}
use Rattle.flow_points.specs.declared.fact.Value.{Value}
use Rattle.flow_points.specs.declared.fact.Value.TheVariants.{Arg, Const, Any}
use Rattle.flow_points.specs.declared.flow.Source.{Source}
use Rattle.flow_points.specs.declared.flow.Source.TheVariants.{Of, Is, Deeper, Nothing}
use Rattle.flow_points.specs.Facts.{Facts, IsClosed, IsLeast, SourceGives}
use Rattle.flow_points.specs.Places.{Place}
use Rattle.flow_points.specs.Slots.{IsSlotOf, answer_count, given_count, temp_count}
use Rattle.flow_points.specs.Sources.{source_of, start_source}
use Rattle.flow_points.proofs.Least.{least_in}
use Rattle.flow_table.proofs.Rowing.{place_fits}
use Rattle.fact_rows.specs.Values.{HasNumber, IsAwaited, IsNumbered}
use Rattle.least_facts.specs.Fit.{Awaited, NumberedSource, SourceFits}
use Rattle.least_facts.proofs.Numbering.{leads_fit, start_fits}
use Rattle.certificate_text.specs.Text.{FactFits, SlotFits, ValueFits}
use Rattle.certificate.proofs.Reaching.{least_slot}
use Rattle.flow_points.proofs.Few.{count_few, temps_few}

-- values

numbered_given : (P : Facts) → ((f : Fact) → P f → HasNumber f.slot f.value) → (e p : ℕ) (source : Source) (v : Value)
    → NumberedSource source → SourceGives P e p source v → IsNumbered v
numbered_given P has e p (Of s) v h g = h v (has _ g)
numbered_given P has e p (Is w) v h g = subst IsNumbered (sym g) h
numbered_given P has e p Deeper v h g = subst IsNumbered (sym g.2) (let lt = g.1 in omega (arith, lt))
numbered_given P has e p Nothing v h g = absurd g

awaited_given : (P : Facts) → ((f : Fact) → P f → HasNumber f.slot f.value) → (e p : ℕ) (source : Source) (v : Value)
    → Awaited source → SourceGives P e p source v → IsAwaited v
awaited_given P has e p (Of s) v h g = h v (has _ g)
awaited_given P has e p (Is w) v h g = subst IsAwaited (sym g) h
awaited_given P has e p Deeper v h g = absurd h
awaited_given P has e p Nothing v h g = absurd g

given_number : (P : Facts) → ((f : Fact) → P f → HasNumber f.slot f.value)
    → (e p : ℕ) (s : Slot) (source : Source) (v : Value) → SourceFits s source → SourceGives P e p source v
    → HasNumber s v
given_number P has e p (Temp k) source v h g = numbered_given P has e p source v h g
given_number P has e p (Given k) source v h g = numbered_given P has e p source v h g
given_number P has e p (Answered k) source v h g = numbered_given P has e p source v h g
given_number P has e p Depth source v h g = numbered_given P has e p source v h g
given_number P has e p Awaits source v h g = awaited_given P has e p source v h g

value_few : (s : Slot) (v : Value) → HasNumber s v → ValueFits v
value_few (Temp k) (Arg n) h = h
value_few (Given k) (Arg n) h = h
value_few (Answered k) (Arg n) h = h
value_few Depth (Arg n) h = h
value_few Awaits (Arg n) h = absurd h
value_few s (Const c) h = tt
value_few s Any h = tt

-- slots

below : (a b n : ℕ) → n ≤ b → a < n → a < b
below a b n le lt = omega arith

either_few : (a b n : ℕ) → a ≤ n → b ≤ n → max a b ≤ n
either_few a b n p q = omega arith

none_few : (n : ℕ) → 0 ≤ n
none_few n = omega arith

module _ (x : Exchange) (kept : IsExchange x) where
  most_few : (rows : List Row) → most (map (λ (r : Row). value_count x r.signal) rows) ≤ MOST_VALUES
  most_few [] = none_few MOST_VALUES
  most_few (r ∷ rows) = either_few (value_count x r.signal) (most (map (λ (r : Row). value_count x r.signal) rows))
      MOST_VALUES (count_few x kept r.signal) (most_few rows)

  given_few : (b : ℕ) → given_count x b ≤ MOST_VALUES
  given_few b = by (slice_get x.blocks b) refl
    where
      by : (o : Option Block) → slice_get x.blocks b ≡ o
          → option_map_or (λ (k : Block). most (map (λ (r : Row). value_count x r.signal) k.enters)) o 0 ≤ MOST_VALUES
      by None there = omega arith
      by (Some k) there = most_few k.enters

  answers_few : (o : Option ℕ) → answer_count x o ≤ MOST_VALUES
  answers_few None = omega arith
  answers_few (Some answer) = count_few x kept answer

  slot_few : (at : Place) (s : Slot) → IsSlotOf x at s → SlotFits s
  slot_few at (Temp t) h = below t MOST_TEMPORARIES (temp_count x at.block) (temps_few x kept at.block) h
  slot_few at (Given k) h = below k MOST_VALUES (given_count x at.block) (given_few at.block) h
  slot_few at (Answered k) h = below k MOST_VALUES (answer_count x (retrieved at.layer)) (answers_few (retrieved at.layer)) h
  slot_few at Depth h = tt
  slot_few at Awaits h = tt

  -- facts

  numbers_closed : IsClosed x (λ f. HasNumber f.slot f.value)
  numbers_closed f (inl g) = given_number _ (λ h n. n) f.entry f.point f.slot (start_source _ f.slot) f.value (start_fits x kept g.entry.signal f.slot) g.gives
  numbers_closed f (inr (p, g)) =
      let w = g.flow in
      given_number _ (λ h n. n) f.entry g.at.point f.slot (source_of g.how f.slot) f.value
      (leads_fit x kept g.at.block g.at.point g.at.next g.at.layer f.point g.how
      (place_fits x g.at kept g.stands.place) w.leads f.slot) w.gives

  least_fits : (f : Fact) → IsLeast x f → FactFits f
  least_fits f least =
      let slot = least_slot x f least in
      record {
        slot = slot_few slot.place f.slot slot.slot;
        value = value_few f.slot f.value (least_in x (λ f. HasNumber f.slot f.value) numbers_closed f least);
      }

  pub facts_fit : (facts : List Fact) → ((f : Fact) → Contains facts f ↔ IsLeast x f) → All FactFits facts
  facts_fit facts exact = λ i d lt. least_fits (get_or facts i d) ((exact (get_or facts i d)).0 (Contains-get_or facts i d lt))
