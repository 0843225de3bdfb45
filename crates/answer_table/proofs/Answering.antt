-- The table of answers, from its lists.
use Rattle.std.proofs.Common.{◌≡◌, ℕ, zero, suc, List, [], ◌∷◌, length, map, Option, Some, None}
use Rattle.std.proofs.Common.{◌≤◌, slice_get, sym, ap, ◌∙◌, arith}
use Rattle.std.proofs.lemmas.List.{length-map}
use Rattle.std.proofs.lemmas.Option.{none-some, same_Some, slice_get_past}
use Rattle.exchange_model.specs.declared.exchange.Exchange.{Exchange}
use Rattle.exchange_model.specs.Fits.{retrieved}
use Rattle.flow_points.specs.Places.{IsRetrieveAt, Place, StandsAt}
use Rattle.flow_table.specs.declared.place.PlaceAt.{PlaceAt}
use Rattle.flow_table.specs.PointLists.{ArePointLists, answer_by, retrieved_by}
use Rattle.flow_table.specs.Texts.{ArePlaces, seen}
use Rattle.answer_table.specs.declared.answers.AnswerTable.{AnswerTable}
use Rattle.answer_table.specs.Answers.{AreAnswers, awaited_at, known_answer, returned}

awaited_get : (places : List PlaceAt) (p : ℕ) (at : Place) → slice_get (map seen places) p ≡ Some at
    → slice_get (map (answer_by retrieved_by) places) p ≡ Some (retrieved at.layer)
awaited_get [] p at there = absurd (none-some at there)
awaited_get (a ∷ places) zero at there = ap (λ (q : Place). Some (retrieved q.layer)) (same_Some (seen a) at there)
awaited_get (a ∷ places) (suc p) at there = awaited_get places p at there

pub answers_are : (x : Exchange) (places given : List PlaceAt) (t : AnswerTable) → ArePlaces x (map seen places)
    → given ≡ places → t.awaited ≡ map (answer_by retrieved_by) given → ArePointLists returned x t.returns
    → AreAnswers x t
answers_are x places given t are same listed returns =
    let is : t.awaited ≡ map (answer_by retrieved_by) places = listed ∙ ap (map (answer_by retrieved_by)) same in
    let long : length t.awaited ≡ length places = ap length is ∙ length-map places (answer_by retrieved_by) in
    let mapped : length (map seen places) ≡ length places = length-map places seen in
    let each = are.each_point in
    record {
      each_point = omega (arith, long, mapped, each);
      awaits = λ p at stands. ap (λ (l : List (Option ℕ)). slice_get l p) is ∙ awaited_get places p at (are.listed p at stands);
      returns = returns;
    }

-- what is read of a list

pub known_some : (os : List (Option ℕ)) (i : ℕ) (o : Option ℕ) → slice_get os i ≡ Some o → o ≡ known_answer (slice_get os i)
known_some os i o there = sym (ap known_answer there)

pub known_none : (os : List (Option ℕ)) (i : ℕ) → length os ≤ i → None ≡ known_answer (slice_get os i)
known_none os i past = sym (ap known_answer (slice_get_past os i past))

-- RETRIEVEs by the table

module _ (x : Exchange) (a : AnswerTable) (are : AreAnswers x a) where
  pub awaited_of : (q n : ℕ) → IsRetrieveAt x q n → awaited_at a q ≡ Some n
  awaited_of q n w = ap known_answer (are.awaits q w.place w.stands) ∙ w.retrieves

  pub one_answer : (q n m : ℕ) → IsRetrieveAt x q n → IsRetrieveAt x q m → n ≡ m
  one_answer q n m w u = same_Some n m (sym (awaited_of q n w) ∙ awaited_of q m u)

  pub retrieve_of : (q n : ℕ) (at : Place) → StandsAt x q at → awaited_at a q ≡ Some n → IsRetrieveAt x q n
  retrieve_of q n at stands is = record { place = at; stands = stands; retrieves = sym (ap known_answer (are.awaits q at stands)) ∙ is }
