-- The first strange fact, as far as a loop has come.
use Rattle.std.proofs.Common.{◌≡◌, ℕ, ◌+◌, ◌<◌, ◌≤◌, ◌↔◌, Bool, true, false, IsTrue, ◌&&◌, List, []}
use Rattle.std.proofs.Common.{◌∷◌, ◌++◌, All, length, take, drop, get_or, Some, slice_get, sym, ap}
use Rattle.std.proofs.Common.{subst, ◌∙◌}
use Rattle.std.specs.Option.{option_map_or}
use Rattle.std.proofs.lemmas.Bool.{and_from, and_parts, true≢false}
use Rattle.std.proofs.lemmas.List.{drop_more, get_or_default, take-append-drop, take_all, take_more}
use Rattle.std.proofs.lemmas.List.Elements.{All-nil, All-push}
use Rattle.std.proofs.lemmas.Option.{slice_get_past}
use Rattle.exchange_model.specs.declared.exchange.Exchange.{Exchange}
use Rattle.exchange_model.specs.declared.entry.Entry.{Entry}
use Rattle.source_meaning.specs.Changes.{value_count}
use Rattle.source_meaning.specs.Valid.{entry_count}
use Rattle.flow_points.specs.declared.fact.Fact.{Fact}
use Rattle.flow_points.specs.declared.fact.Slot.TheVariants.{Temp}
use Rattle.flow_points.specs.declared.fact.Value.TheVariants.{Arg}
use Rattle.flow_points.specs.Slots.{HasSlot}
use Rattle.checked.specs.Belonging.{IsOfExchange, IsValueOfEntry}
use Rattle.certificate_meaning.specs.Faults.{IsFirstStrange}

-- what stands past the end of a list of facts
abbrev pub no_fact : Fact
no_fact = record { entry = 0; point = 0; slot = Temp 0; value = Arg 0 }

pub item_is : (facts : List Fact) (i : ℕ) (d : Fact) → i < length facts → get_or facts i d ≡ get_or facts i (get_or facts i d)
item_is facts i d inside = get_or_default facts i d (get_or facts i d) inside

-- none of the first i facts is strange
pub record NoneYet (x : Exchange) (facts : List Fact) (i : ℕ) : Type 0 where
  pub all : All (IsOfExchange x) (take i facts)

pub first_begin : (x : Exchange) (facts : List Fact) → NoneYet x facts 0
first_begin x facts = record { all = All-nil (IsOfExchange x) }

pub first_more : (x : Exchange) (facts : List Fact) (i : ℕ) (f : Fact) (b : Bool) → i < length facts
    → f ≡ get_or facts i f → (IsTrue b ↔ IsOfExchange x f) → b ≡ true → NoneYet x facts i → NoneYet x facts (i + 1)
first_more x facts i f b inside is tells up none = record {
  all = subst (All (IsOfExchange x)) (ap (λ (g : Fact). take i facts ++ g ∷ []) is ∙ sym (take_more facts i f inside))
      (All-push (IsOfExchange x) (take i facts) f none.all (tells.0 up));
}

pub first_here : (x : Exchange) (facts : List Fact) (i : ℕ) (f : Fact) (b : Bool) → i < length facts
    → f ≡ get_or facts i f → (IsTrue b ↔ IsOfExchange x f) → b ≡ false → NoneYet x facts i → IsFirstStrange x facts f
first_here x facts i f b inside is tells down none = record {
  before = take i facts;
  after = drop (i + 1) facts;
  so = sym (take-append-drop i facts) ∙ ap (λ (l : List Fact). take i facts ++ l)
      (drop_more facts i f inside ∙ ap (λ (g : Fact). g ∷ drop (i + 1) facts) (sym is));
  others = none.all;
  strange = λ of_it. true≢false (sym (tells.1 of_it) ∙ down);
}

pub first_end : (x : Exchange) (facts : List Fact) (i : ℕ) → length facts ≤ i → NoneYet x facts i → All (IsOfExchange x) facts
first_end x facts i past none = subst (All (IsOfExchange x)) (take_all i facts past) none.all

-- three tests together
pub tests_told : (x : Exchange) (f : Fact) (a b c r : Bool) → (IsTrue a ↔ (f.entry < length x.entries))
    → (IsTrue b ↔ HasSlot x f.point f.slot) → (IsTrue c ↔ IsValueOfEntry x f.entry f.value) → r ≡ (a && b && c)
    → IsTrue r ↔ IsOfExchange x f
tests_told x f a b c r entry slot value is = (
  (λ e. (let outer = and_parts (a && b) c (sym is ∙ e) in let inner = and_parts a b outer.0 in record
      { entry = entry.0 inner.0; slot = slot.0 inner.1; value = value.0 outer.1 })),
  (λ of_it. is ∙ and_from (a && b) c (and_from a b (entry.1 of_it.entry) (slot.1 of_it.slot)) (value.1 of_it.value)),
)

-- the values of an entry
pub count_some : (x : Exchange) (e n : ℕ) (found : Entry) → slice_get x.entries e ≡ Some found → n ≡ value_count x found.signal → n ≡ entry_count x e
count_some x e n found there is = is ∙ ap (λ o. option_map_or (λ (k : Entry). value_count x k.signal) o 0) (sym there)

pub count_none : (x : Exchange) (e : ℕ) → length x.entries ≤ e → 0 ≡ entry_count x e
count_none x e past = ap (λ o. option_map_or (λ (k : Entry). value_count x k.signal) o 0) (sym (slice_get_past x.entries e past))
