-- Points that are marked, and the RETRIEVE of each answer that was reached first.
use Rattle.std.specs.Prelude.{◌≡◌, ◌⊎◌, ℕ, ◌+◌, ◌<◌, ◌≤◌, ◌%◌, ◌^◌, Bool, true, false, List, []}
use Rattle.std.specs.Prelude.{◌∷◌, length, map, Option, Some, None, slice_get}
use Rattle.std.specs.List.{Contains, sum_by}
use Rattle.flow_points.specs.Facts.{Reached}
use Rattle.fact_rows.specs.Known.{Knows, BitRows}
use Rattle.answer_table.specs.declared.answers.AnswerTable.{AnswerTable}
use Rattle.least_facts.specs.declared.marks.Marked.{Marked}
use Rattle.answer_table.specs.Answers.{ReturnsOf, awaited_at}

-- the point of a mark is its lowest part
abbrev pub point_in : ℕ → ℕ
point_in mark = mark % 2 ^ 32

-- all points that are marked, in the order in which they are looked at
abbrev pub marks_of : Marked → List ℕ
marks_of m = map point_in m.marks.keys

-- the first of these is taken, if there is one
abbrev pub Takes : Option ℕ → List ℕ → List ℕ → Type 0
Takes None old new = (old ≡ []) × (new ≡ [])
Takes (Some p) old new = old ≡ p ∷ new

abbrev pub IsThis : ℕ → ℕ → Type 0
IsThis point p = p ≡ point

-- these points are marked besides, by so many marks at most
pub record Marks (old new : List ℕ) (G : ℕ → Type 0) (most : ℕ) : Type 0 where
  pub still : (p : ℕ) → Contains old p → Contains new p
  pub all : (p : ℕ) → G p → Contains new p
  pub few : length new ≤ length old + most

-- how many RETURNs there are, and how many marks come of a point at most at which something is new
abbrev pub most_returns : AnswerTable → ℕ
most_returns a = sum_by length a.returns

abbrev pub most_marks : AnswerTable → ℕ
most_marks a = 1 + (1 + most_returns a)

-- the RETRIEVE of the answer that was reached first: this one, so that all RETURNs of the answer
-- are marked
pub record IsOpened (a : AnswerTable) (answer point : ℕ) (marked : List ℕ) (i p : ℕ) : Type 0 where
  pub own : i ≡ answer
  pub this : p ≡ point
  pub returns : (r : ℕ) → ReturnsOf a answer r → Contains marked r

-- there is a first RETRIEVE, which is this one, or is marked
pub record HasFirst (point : ℕ) (marked : List ℕ) (firsts : List (Option ℕ)) (answer : ℕ) : Type
    0 where
  pub first : ℕ
  pub is : slice_get firsts answer ≡ Some (Some first)
  pub handing : (first ≡ point) ⊎ Contains marked first

-- a point is reached, and where it is a RETRIEVE, its answer has a first one now
pub record Reaches (a : AnswerTable) (point : ℕ) (old : List ℕ) (before : List (Option ℕ))
    (new : List ℕ) (after : List (Option ℕ)) : Type 0 where
  pub still : (p : ℕ) → Contains old p → Contains new p
  pub few : length new ≤ length old + (1 + most_returns a)
  pub long : length after ≡ length before
  pub kept : (i p : ℕ) → slice_get before i ≡ Some (Some p) → slice_get after i ≡ Some (Some p)
  pub firsts : (i p : ℕ) → slice_get after i ≡ Some (Some p)
      → (slice_get before i ≡ Some (Some p)) ⊎ ((awaited_at a point ≡ Some i)
      × IsOpened a i point new i p)
  pub found : (n : ℕ) → awaited_at a point ≡ Some n → n < length before → HasFirst point new after n

-- a point needs no note where it comes to be reached: it is no RETRIEVE, or is reached already
abbrev pub IsNoted : AnswerTable → BitRows → ℕ → ℕ → Type 0
IsNoted a k e point = (awaited_at a point ≡ None) ⊎ Reached (Knows k) e point

-- something is new at a point, unless nothing has grown: it is marked, and where a RETRIEVE is
-- reached only now, that is noted
pub record Settles (a : AnswerTable) (k : BitRows) (e : ℕ) (grown noted : Bool) (point : ℕ)
    (old : List ℕ) (before : List (Option ℕ)) (new : List ℕ) (after : List (Option ℕ)) : Type
    0 where
  pub same : grown ≡ false → (new ≡ old) × (after ≡ before)
  pub still : (p : ℕ) → Contains old p → Contains new p
  pub own : grown ≡ true → Contains new point
  pub few : length new ≤ length old + most_marks a
  pub long : length after ≡ length before
  pub kept : (i p : ℕ) → slice_get before i ≡ Some (Some p) → slice_get after i ≡ Some (Some p)
  pub firsts : (i p : ℕ) → slice_get after i ≡ Some (Some p)
      → (slice_get before i ≡ Some (Some p)) ⊎ (Reached (Knows k) e point
      × (awaited_at a point ≡ Some i) × IsOpened a i point new i p)
  pub found : grown ≡ true → noted ≡ false → Reached (Knows k) e point → (n : ℕ)
      → awaited_at a point ≡ Some n → n < length before → HasFirst point new after n
