-- The statements of an exchange in the order of the text: each one before those in it, and these
-- before those after it.
use Rattle.std.specs.Prelude.{◌≡◌, ◌⊎◌, ℕ, ◌+◌, ◌<◌, ◌≤◌, List, [], ◌∷◌, ◌++◌, length, map, Option}
use Rattle.std.specs.Prelude.{Some, None, slice_get}
use Rattle.exchange_model.specs.declared.exchange.Exchange.{Exchange}
use Rattle.exchange_model.specs.declared.block.Block.{Block}
use Rattle.exchange_model.specs.declared.expr.Cond.{Cond}
use Rattle.exchange_model.specs.declared.expr.Expr.{Expr}
use Rattle.exchange_model.specs.declared.stmt.Stmt.{Stmt}
use Rattle.exchange_model.specs.declared.stmt.When.{When, out-When}
use Rattle.exchange_model.specs.declared.stmt.StmtKind.{out-StmtKind}
use Rattle.exchange_model.specs.declared.stmt.StmtKind.TheOpen as stmt
use Rattle.source_meaning.specs.Named.{Layer}
use Rattle.source_meaning.specs.Rests.{first_point}
use Rattle.std.specs.List.{Contains}
use Rattle.flow_points.specs.Facts.{Facts, Reached}
use Rattle.flow_points.specs.Places.{IsPlace, Place, place_of, StandsAt}
use Rattle.flow_table.specs.declared.place.PlaceAt.{PlaceAt}

-- a statement as it is kept
abbrev pub seen : PlaceAt → Place
seen p = record { block = p.block; point = p.point; layer = out-StmtKind p.kind.now; next = p.next }

-- a statement with no statements in it
abbrev pub HoldsNone : Layer → Type 0
HoldsNone (stmt.If cond yes_part no_part) = ⊥
HoldsNone (stmt.Case value whens otherwise) = ⊥
HoldsNone (stmt.On temp from upto body) = ⊥
HoldsNone _ = Unit {0}

mutual
  -- the places of these statements of a block, and of those in them, before what is next after them
  pub data Walked (b : ℕ) : List Stmt → Option ℕ → List Place → Type 0 where
    nothing_left : (end : Option ℕ) → Walked b [] end []
    statement : (s : Stmt) (list : List Stmt) (end : Option ℕ) (inner later : List Place)
        → Inside b s.point (first_point list end) (out-StmtKind s.kind) inner
        → Walked b list end later
        → Walked b (s ∷ list) end (place_of b s (first_point list end) ∷ (inner ++ later))

  -- those of the choices of a CASE
  pub data Chosen (b : ℕ) : Option ℕ → List When → List Place → Type 0 where
    no_choice : {next : Option ℕ} → Chosen b next [] []
    choice : {next : Option ℕ} (w : When) (rest : List When) (ps qs : List Place)
        → Walked b (out-When w).body next ps → Chosen b next rest qs
        → Chosen b next (w ∷ rest) (ps ++ qs)

  -- those in a statement, at its point and before its next
  pub data Inside (b : ℕ) : ℕ → Option ℕ → Layer → List Place → Type 0 where
    of_none : {p : ℕ} {next : Option ℕ} (l : Layer) → HoldsNone l → Inside b p next l []
    of_if : {p : ℕ} {next : Option ℕ} (cond : Cond) (yes_part no_part : List Stmt)
        (ps qs : List Place) → Walked b yes_part next ps → Walked b no_part next qs
        → Inside b p next (stmt.If cond yes_part no_part) (ps ++ qs)
    of_case : {p : ℕ} {next : Option ℕ} (value : Expr) (whens : List When) (otherwise : List Stmt)
        (ps qs : List Place) → Chosen b next whens ps → Walked b otherwise next qs
        → Inside b p next (stmt.Case value whens otherwise) (ps ++ qs)
    of_on : {p : ℕ} {next : Option ℕ} (temp : ℕ) (from upto : Expr) (body : List Stmt)
        (ps : List Place) → Walked b body (Some p) ps
        → Inside b p next (stmt.On temp from upto body) ps

-- those of the texts of these blocks, the first of which has this number
pub data Texts : ℕ → List Block → List Place → Type 0 where
  no_block : (b : ℕ) → Texts b [] []
  block : (b : ℕ) (k : Block) (rest : List Block) (ps qs : List Place) → Walked b k.body None ps
      → Texts (b + 1) rest qs → Texts b (k ∷ rest) (ps ++ qs)

-- all statements of the exchange, each at its point
pub record ArePlaces (x : Exchange) (places : List Place) : Type 0 where
  pub each_point : length places ≡ length x.points
  pub stands : (p : ℕ) (at : Place) → slice_get places p ≡ Some at → StandsAt x p at
  pub listed : (p : ℕ) (at : Place) → StandsAt x p at → slice_get places p ≡ Some at

-- statements of the exchange in the order of their points, each once, and all that are reached in a
-- job of the entry are among them
pub record AreReachedAmong (x : Exchange) (P : Facts) (e : ℕ) (places : List Place) : Type 0 where
  pub few : length places ≤ length x.points
  pub each : (i : ℕ) (at : Place) → slice_get places i ≡ Some at → IsPlace x at
  pub rising : (i j : ℕ) (a b : Place) → i < j → slice_get places i ≡ Some a
      → slice_get places j ≡ Some b → a.point < b.point
  pub all : (p : ℕ) (at : Place) → StandsAt x p at → Reached P e p → Contains places at

-- a list that has a statement more, if it is reached
abbrev pub HasReached : Facts → ℕ → PlaceAt → List PlaceAt → List PlaceAt → Type 0
HasReached P e at old new =
    (Reached P e at.point × (new ≡ old ++ at ∷ [])) ⊎ ((Reached P e at.point → ⊥) × (new ≡ old))

-- a list that has these places more
pub record HasMore (old new : List PlaceAt) (Are : List Place → Type 0) : Type 0 where
  pub added : List PlaceAt
  pub is : new ≡ old ++ added
  pub are : Are (map seen added)
