-- Which way a check goes.
use Rattle.std.proofs.Common.{◌≡◌, ◌↔◌, Bool, true, false, IsTrue, List, map, Contains, All, Option}
use Rattle.std.proofs.Common.{Some, None, get_or, refl, sym, ◌∙◌, subst}
use Rattle.std.proofs.lemmas.Bool.{true≢false}
use Rattle.std.proofs.lemmas.List.Elements.{All-contains, Contains-get_or}
use Rattle.exchange_model.specs.declared.exchange.Exchange.{Exchange}
use Rattle.flow_points.specs.declared.fact.Fact.{Fact}
use Rattle.flow_points.specs.Facts.{Gives, IsClosed}
use Rattle.flow_points.proofs.Least.{gives_more}
use Rattle.flow_table.specs.declared.place.PlaceAt.{PlaceAt}
use Rattle.flow_table.specs.Texts.{ArePlaces, seen}
use Rattle.entry_summary.specs.declared.summary.Summary.{Summary}
use Rattle.certificate_text.specs.declared.certificate.Certificate.{Certificate}
use Rattle.certificate_text.specs.declared.certificate.Shape.{Shape}
use Rattle.certificate_meaning.specs.Faults.{IsLeastIn}
use Rattle.certificate_faults.specs.Missing.{LeastIn}
use Rattle.certificate_meaning.specs.Shapes.{IsShapeOf}
use Rattle.certificate_meaning.proofs.Shaping.{same_shape}
use Rattle.checked.specs.Belonging.{IsOfExchange}
use Rattle.certificate_faults.specs.Strange.{AreListed}
use Rattle.checked.specs.Kept.{AreSummariesBy, KeptSummaries}
use Rattle.certificate_meaning.specs.Verdicts.{Accepts, AreShapes, IsMissing}
use Rattle.certificate_check.proofs.Summing.{summaries_alike}

pub listed_by : (x : Exchange) (places : List PlaceAt) → ArePlaces x (map seen places) → AreListed x
listed_by x places all = record { places = map seen places; all = all }

-- the four ends of a check

pub wrong_shape : (x : Exchange) (c : Certificate) (own : Shape) (b : Bool) → IsShapeOf x own
    → (IsTrue b ↔ (own ≡ c.shape)) → b ≡ false → AreShapes x c own c.shape
wrong_shape x c own b is tells down = record {
  own = is;
  told = refl;
  differ = λ also. true≢false (sym (tells.1 (same_shape x own c.shape is also)) ∙ down);
}

-- facts of a list in order are those of the list that it was made of
module _ (x : Exchange) (facts known : List Fact) (same : (f : Fact) → Contains known f ↔ Contains facts f) where
  all_own : All (IsOfExchange x) facts → All (IsOfExchange x) known
  all_own own = λ i d lt. All-contains (IsOfExchange x) facts (get_or known i d) own ((same (get_or known i d)).0 (Contains-get_or known i d lt))

  stays_closed : IsClosed x (Contains known) → IsClosed x (Contains facts)
  stays_closed closed f given = (same f).0 (closed f (gives_more x (Contains facts) (Contains known) (λ g c. (same g).1 c) f given))

  stays_least : (f : Fact) → IsLeastIn (Contains known) (Gives x (Contains known)) f → IsLeastIn (Contains facts) (Gives x (Contains facts)) f
  stays_least f l = record {
    given = gives_more x (Contains known) (Contains facts) (λ g c. (same g).0 c) f l.given;
    missing = λ c. l.missing ((same f).1 c);
    least = λ g given new less. l.least g (gives_more x (Contains facts) (Contains known) (λ h c. (same h).1 c) g given) (λ c. new ((same g).0 c)) less;
  }

pub known_own : (x : Exchange) (facts first known sorted : List Fact) → first ≡ facts → All (IsOfExchange x) first
    → known ≡ sorted → ((f : Fact) → Contains sorted f ↔ Contains facts f) → All (IsOfExchange x) known
known_own x facts first known sorted first_is own known_is same =
    subst (All (IsOfExchange x)) (sym known_is) (all_own x facts sorted same (subst (All (IsOfExchange x)) first_is own))

-- the way to the end, by what each stage tells
module _ (x : Exchange) (c : Certificate) (own : Shape) (b : Bool) (first known sorted : List Fact)
    (found : Option Fact) (shape : IsShapeOf x own) (tells : IsTrue b ↔ (own ≡ c.shape)) (up : b ≡ true)
    (first_is : first ≡ c.facts) (of_it : All (IsOfExchange x) first) (known_is : known ≡ sorted)
    (same : (f : Fact) → Contains sorted f ↔ Contains c.facts f)
    (least : LeastIn (Contains known) (Gives x (Contains known)) found) where
  is_shape : IsShapeOf x c.shape
  is_shape = subst (IsShapeOf x) (tells.0 up) shape

  own_all : All (IsOfExchange x) c.facts
  own_all = subst (All (IsOfExchange x)) first_is of_it

  same_known : (f : Fact) → Contains known f ↔ Contains c.facts f
  same_known = subst (λ (l : List Fact). (f : Fact) → Contains l f ↔ Contains c.facts f) (sym known_is) same

  pub missing_told : (f : Fact) → found ≡ Some f → IsMissing x c f
  missing_told f some = record {
    shape = is_shape;
    own = own_all;
    least = stays_least x c.facts known same_known f (subst (LeastIn (Contains known) (Gives x (Contains known))) some least);
  }

  pub accepted : (k : KeptSummaries) (summaries : List Summary) → found ≡ None
      → AreSummariesBy x (Contains known) summaries → k.summaries ≡ summaries → Accepts x c k
  accepted k summaries none by_facts summaries_are =
      let closed : IsClosed x (Contains known) = subst (LeastIn (Contains known) (Gives x (Contains known))) none least in
      record {
        is = record { shape = is_shape; own = own_all; closed = stays_closed x c.facts known same_known closed };
        by_facts = subst (AreSummariesBy x (Contains c.facts)) (sym summaries_are)
            (summaries_alike x (Contains known) (Contains c.facts) same_known summaries by_facts);
      }
