-- What the items of a list give, each at its place.
use Rattle.std.specs.Prelude.{◌≡◌, ℕ, List, Option, Some, None, slice_get}
use Rattle.std.specs.List.{Contains}

-- the item at some place gives it
pub record GivenBy {A B : Type 0} (G : ℕ → B → A → Type 0) (items : List B) (a : A) : Type 0 where
  pub place : ℕ
  pub item : B
  pub there : slice_get items place ≡ Some item
  pub gives : G place item a

-- an item stands at this place, or nowhere
abbrev pub StandsThere : {A : Type 0} → List A → A → Option ℕ → Type 0
StandsThere items item None = Contains items item → ⊥
StandsThere items item (Some place) = slice_get items place ≡ Some item
