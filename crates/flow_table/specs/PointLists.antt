-- Lists of points, one for each answer: of the statements that have to do with the answer in one
-- way, as those that retrieve it.
use Rattle.std.specs.Prelude.{◌≡◌, ◌↔◌, ℕ, List, [], ◌∷◌, ◌++◌, length, Option, Some, None}
use Rattle.std.specs.Prelude.{slice_get, slice_index_or, slice_set}
use Rattle.std.specs.List.{Contains}
use Rattle.exchange_model.specs.declared.exchange.Exchange.{Exchange}
use Rattle.exchange_model.specs.declared.stmt.StmtKind.{out-StmtKind}
use Rattle.exchange_model.specs.Fits.{retrieved}
use Rattle.source_meaning.specs.Named.{Layer}
use Rattle.flow_points.specs.Places.{Place, StandsAt}
use Rattle.flow_table.specs.declared.place.PlaceAt.{PlaceAt}

-- the answer that a statement awaits
abbrev pub retrieved_by : Layer → Option ℕ
retrieved_by l = retrieved l

-- the answer of a statement as it is kept
abbrev pub answer_by : (Layer → Option ℕ) → PlaceAt → Option ℕ
answer_by of at = of (out-StmtKind at.kind.now)

-- one of these lists with a point more
abbrev pub put : ℕ → ℕ → List (List ℕ) → List (List ℕ)
put i point lists = slice_set lists i (slice_index_or lists i [] ++ point ∷ [])

-- the list of the answer, if there is one, with a point more
abbrev pub listed_at : Option ℕ → ℕ → List (List ℕ) → List (List ℕ)
listed_at None point lists = lists
listed_at (Some answer) point lists = put answer point lists

-- a statement of this answer stands at the point
pub record IsOfAnswer (of : Layer → Option ℕ) (x : Exchange) (point answer : ℕ) : Type 0 where
  pub place : Place
  pub stands : StandsAt x point place
  pub has : of place.layer ≡ Some answer

-- the points of each signal's answer
pub record ArePointLists (of : Layer → Option ℕ) (x : Exchange) (lists : List (List ℕ)) : Type
    0 where
  pub each_signal : length lists ≡ length x.signals
  pub exact : (answer : ℕ) (points : List ℕ) → slice_get lists answer ≡ Some points → (p : ℕ)
      → Contains points p ↔ IsOfAnswer of x p answer
