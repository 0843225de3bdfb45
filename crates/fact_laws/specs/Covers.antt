-- Facts cover a job where each number that the job has before its next statement has a fact whose
-- value stands for it.
--
-- How many callers wait, and what the last of them awaits, is known exactly: other facts may stand
-- beside it.
use Rattle.std.specs.Prelude.{◌≡◌, ℕ, ◌+◌, ◌<◌, ◌≤◌, List, [], ◌∷◌, length, slice_index, Some}
use Rattle.exchange_model.specs.declared.exchange.Exchange.{Exchange}
use Rattle.source_meaning.specs.Config.{Item, Caller, Config}
use Rattle.source_meaning.specs.Changes.{value_count}
use Rattle.source_meaning.specs.Deeds.{deed_of, deed_point}
use Rattle.source_meaning.specs.Rests.{IsRetrieveOf, head_point}
use Rattle.flow_points.specs.declared.fact.Slot.{Slot}
use Rattle.flow_points.specs.declared.fact.Slot.TheVariants.{Temp, Given, Answered, Depth, Awaits}
use Rattle.flow_points.specs.declared.fact.Value.{Value}
use Rattle.flow_points.specs.declared.fact.Value.TheVariants.{Arg, Const, Any}
use Rattle.flow_points.specs.Slots.{temp_count, given_count}
use Rattle.flow_points.specs.Facts.{Facts, Known}

-- the number is one for which the value stands, in a job that started with these values
abbrev pub StandsFor : List ℕ → Value → ℕ → Type 0
StandsFor args (Arg k) n = n ≡ slice_index args k
StandsFor args (Const c) n = n ≡ c
StandsFor args Any n = Unit {0}

-- some fact of the slot before the point, in a job of the entry, stands for the number
abbrev pub SlotHolds : Facts → ℕ → List ℕ → ℕ → Slot → ℕ → Type 0
SlotHolds P e args p s n = (v : Value) × Known P e p s v × StandsFor args v n

-- 0, or 1 plus the answer that the last caller awaits
abbrev pub awaits_of : List Caller → ℕ
awaits_of [] = 0
awaits_of (k ∷ ks) = k.awaits + 1

-- before a point a fact stands for each temporary of the block
abbrev pub CoversTemps : (x : Exchange) → (P : Facts) → (e : ℕ) → (args : List ℕ) → (b p : ℕ)
    → (temps : List ℕ) → Type 0
CoversTemps x P e args b p temps =
    (t : ℕ) → t < temp_count x b → SlotHolds P e args p (Temp t) (slice_index temps t)

-- what is known of an activation in a block before a point; past those of the block its entry
-- values are 0
pub record Activation (x : Exchange) (P : Facts) (e : ℕ) (args : List ℕ) (b p : ℕ)
    (temps given : List ℕ) (callers : List Caller) : Type 0 where
  pub temp : CoversTemps x P e args b p temps
  pub gave : (k : ℕ) → k < given_count x b → SlotHolds P e args p (Given k) (slice_index given k)
  pub past : (k : ℕ) → given_count x b ≤ k → slice_index given k ≡ 0
  pub depth : Known P e p Depth (Const (length callers))
  pub awaits : Known P e p Awaits (Const (awaits_of callers))

-- that is known before the first of these items
abbrev pub KnownBefore : Exchange → Facts → ℕ → List ℕ → ℕ → List Item → List ℕ → List ℕ
    → List Caller → Type 0
KnownBefore x P e args b todo temps given callers =
    (p : ℕ) → head_point todo ≡ Some p → Activation x P e args b p temps given callers

-- so it is of each caller, before the RETRIEVE at which it goes on
abbrev pub CallersCovered : Exchange → Facts → ℕ → List ℕ → List Caller → Type 0
CallersCovered x P e args [] = Unit {0}
CallersCovered x P e args (k ∷ ks) =
    KnownBefore x P e args k.block k.todo k.temps k.given ks × CallersCovered x P e args ks

-- at a RETRIEVE the values of the answer are known
abbrev pub AnswersCovered : Exchange → Facts → ℕ → List ℕ → List Item → List ℕ → Type 0
AnswersCovered x P e args todo answers =
    (m p k : ℕ) → IsRetrieveOf m todo → head_point todo ≡ Some p → k < value_count x m
    → SlotHolds P e args p (Answered k) (slice_index answers k)

-- a job of the entry, between two steps
pub record Covered (x : Exchange) (P : Facts) (e : ℕ) (args : List ℕ) (c : Config) : Type 0 where
  pub here : KnownBefore x P e args c.block c.todo c.temps c.own.given c.callers
  pub answers : AnswersCovered x P e args c.todo c.own.answers
  pub waiting : CallersCovered x P e args c.callers

-- what is known before the item that is counted next
abbrev pub KnownNext : Exchange → Facts → ℕ → List ℕ → Config → Item → Type 0
KnownNext x P e args c i =
    Activation x P e args c.block (deed_point (deed_of i)) c.temps c.own.given c.callers
