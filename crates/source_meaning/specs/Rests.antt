-- What remains to be done is built of the text of a block, and what follows an item there is what
-- follows it in the text.
--
-- "Next" is the statement that follows when nothing jumps, past ENTERs; the next of the last
-- statement of an ON is the ON itself, and after the last statement of a text nothing follows.
use Rattle.std.specs.Prelude.{◌≡◌, ℕ, ◌≤◌, true, List, [], ◌∷◌, ◌++◌, map, Option, Some, None}
use Rattle.std.specs.Prelude.{slice_get, if◌then◌else◌}
use Rattle.std.specs.List.{AllByRecursion}
use Rattle.exchange_model.specs.declared.exchange.Exchange.{Exchange}
use Rattle.exchange_model.specs.declared.block.Block.{Block}
use Rattle.exchange_model.specs.declared.entry.Entry.{Entry}
use Rattle.exchange_model.specs.declared.expr.Expr.{Expr}
use Rattle.exchange_model.specs.declared.stmt.Stmt.{Stmt}
use Rattle.exchange_model.specs.declared.stmt.StmtKind.{out-StmtKind}
use Rattle.exchange_model.specs.declared.stmt.StmtKind.TheOpen.{On}
use Rattle.exchange_model.specs.Fits.{LayerFits, retrieved}
use Rattle.exchange_model.specs.Kept.{IsFinish, IsText, entered, scope_of}
use Rattle.source_meaning.specs.Config.{Item, Do, Start, Turns, Caller, Config, from_place}
use Rattle.source_meaning.specs.Config.{from_signal, label_of, next_counted}
use Rattle.exchange_model.specs.Kept.{is_enter}
use Rattle.source_meaning.specs.Named.{Layer}
use Rattle.source_meaning.specs.Deeds.{Deed, Doing, Starting, Turning, deed_of, deed_point}
use Rattle.source_meaning.specs.Deeds.{IsBranch}

-- the point of the item that is counted next
abbrev pub point_of_first : List Item → Option ℕ
point_of_first [] = None
point_of_first (i ∷ rest) = Some (deed_point (deed_of i))

abbrev pub point_of : List Item → Option ℕ
point_of todo = point_of_first (next_counted todo)

-- the point of the first of these statements that is no ENTER, or else this one
abbrev pub first_point : List Stmt → Option ℕ → Option ℕ
first_point [] end = end
first_point (s ∷ rest) end =
    (if is_enter (out-StmtKind s.kind) then first_point rest end else Some s.point)

-- the point of what remains, where a loop stands for itself whether a turn is left or not
abbrev pub head_point : List Item → Option ℕ
head_point [] = None
head_point (Do s ∷ rest) =
    (if is_enter (out-StmtKind s.kind) then head_point rest else Some s.point)
head_point (Start s ∷ rest) = Some s.point
head_point (Turns p temp this end body ∷ rest) = Some p

-- these statements stand one after the other in the text of a block, and this is the next after
-- them
pub data IsRow (x : Exchange) (b : ℕ) : List Stmt → Option ℕ → Type 0 where
  whole : (k : Block) → slice_get x.blocks b ≡ Some k → IsRow x b k.body None
  later : (s : Stmt) (rest : List Stmt) (end : Option ℕ) → IsRow x b (s ∷ rest) end
      → IsRow x b rest end
  branch : (s : Stmt) (rest : List Stmt) (end : Option ℕ) (body : List Stmt)
      → IsRow x b (s ∷ rest) end → IsBranch (out-StmtKind s.kind) body
      → IsRow x b body (first_point rest end)
  turn : (s : Stmt) (rest : List Stmt) (end : Option ℕ) (temp : ℕ) (from upto : Expr)
      (body : List Stmt) → IsRow x b (s ∷ rest) end → out-StmtKind s.kind ≡ On temp from upto body
      → IsRow x b body (Some s.point)

-- a statement of the text of a block, before what follows it there
pub record StandsInText (x : Exchange) (b : ℕ) (s : Stmt) (rest : List Item) : Type 0 where
  pub list : List Stmt
  pub end : Option ℕ
  pub more : List Item
  pub row : IsRow x b (s ∷ list) end
  pub is : rest ≡ map Do list ++ more
  pub ends : head_point more ≡ end

-- an ON of the text, by its point, its temporary and its body, before what follows it there
pub record IsLoop (x : Exchange) (b : ℕ) (p temp : ℕ) (body : List Stmt) (rest : List Item) : Type
    0 where
  pub stmt : Stmt
  pub point : stmt.point ≡ p
  pub from : Expr
  pub upto : Expr
  pub is : out-StmtKind stmt.kind ≡ On temp from upto body
  pub stands : StandsInText x b stmt rest

-- what remains in a block is of its text
abbrev pub IsRest : Exchange → ℕ → List Item → Type 0
IsRest x b [] = Unit {0}
IsRest x b (Do s ∷ rest) = StandsInText x b s rest × IsRest x b rest
IsRest x b (Start s ∷ rest) =
    StandsInText x b s rest × (is_enter (out-StmtKind s.kind) ≡ true) × IsRest x b rest
IsRest x b (Turns p temp this end body ∷ rest) = IsLoop x b p temp body rest × IsRest x b rest

-- so it is of a job, and of each caller that waits
pub record AreRests (x : Exchange) (c : Config) : Type 0 where
  pub here : IsRest x c.block c.todo
  pub callers : AllByRecursion (λ (k : Caller). IsRest x k.block k.todo) c.callers

-- a statement, by its point and its layer, before what follows it in the text
pub record StandsAs (x : Exchange) (b p : ℕ) (l : Layer) (rest : List Item) : Type 0 where
  pub stmt : Stmt
  pub point : stmt.point ≡ p
  pub is : out-StmtKind stmt.kind ≡ l
  pub stands : StandsInText x b stmt rest

-- what is counted is of the text of the block, and of a loop a turn is left
abbrev pub DeedStands : Exchange → ℕ → Deed → List Item → Type 0
DeedStands x b (Doing p l) rest = StandsAs x b p l rest
DeedStands x b (Starting p l) rest = StandsAs x b p l rest × (is_enter l ≡ true)
DeedStands x b (Turning p temp this end body) rest = IsLoop x b p temp body rest × (this ≤ end)

-- from a point to one that is reached past ONs with no turn left
pub data Past (x : Exchange) (b : ℕ) : Option ℕ → Option ℕ → Type 0 where
  here : (p : Option ℕ) → Past x b p p
  beyond : (p temp : ℕ) (body : List Stmt) (rest : List Item) (q : Option ℕ)
      → IsLoop x b p temp body rest → Past x b (head_point rest) q → Past x b (Some p) q

-- a statement of an exchange's text, by its layer, is of its block
pub record IsOfBlock (x : Exchange) (b : ℕ) (l : Layer) : Type 0 where
  pub block : Block
  pub there : slice_get x.blocks b ≡ Some block
  pub fits : LayerFits (scope_of x b block) l

-- a caller waits at the RETRIEVE of the answer that it awaits
abbrev pub IsRetrieveOf : ℕ → List Item → Type 0
IsRetrieveOf answer (Do s ∷ rest) = retrieved (out-StmtKind s.kind) ≡ Some answer
IsRetrieveOf answer _ = ⊥

abbrev pub WaitsAtRetrieve : Caller → Type 0
WaitsAtRetrieve k = IsRetrieveOf k.awaits k.todo

abbrev pub AllWaitAtRetrieve : Config → Type 0
AllWaitAtRetrieve c = AllByRecursion WaitsAtRetrieve c.callers

-- an activation begins at the ENTER of its signal, in the text of the block
pub record BeginsAt (x : Exchange) (b signal : ℕ) : Type 0 where
  pub stmt : Stmt
  pub rest : List Stmt
  pub is : from_signal x b signal ≡ Start stmt ∷ map Do rest
  pub enters : entered (out-StmtKind stmt.kind) ≡ Some signal
  pub row : IsRow x b (stmt ∷ rest) None
  pub text : IsText (stmt ∷ rest)

-- a job begins so at the point of its entry
pub record BeginsAs (x : Exchange) (e : Entry) : Type 0 where
  pub begins : BeginsAt x e.block e.signal
  pub point : begins.stmt.point ≡ e.point

-- a jump goes to the statement at the label, which is no RETRIEVE
pub record JumpsTo (x : Exchange) (b label : ℕ) : Type 0 where
  pub stmt : Stmt
  pub rest : List Stmt
  pub is : from_place x b (label_of x b label) ≡ map Do (stmt ∷ rest)
  pub row : IsRow x b (stmt ∷ rest) None
  pub text : IsText (stmt ∷ rest)
  pub plain : retrieved (out-StmtKind stmt.kind) ≡ None

-- what remains ends with the end of the text
abbrev pub IsTextEnd : Item → Type 0
IsTextEnd (Do s) = IsFinish (out-StmtKind s.kind)
IsTextEnd _ = ⊥

abbrev pub EndsText : List Item → Type 0
EndsText [] = ⊥
EndsText (i ∷ []) = IsTextEnd i
EndsText (i ∷ j ∷ rest) = EndsText (j ∷ rest)

-- so it does of a job and of each caller, and something is counted next
pub record AllEndText (c : Config) : Type 0 where
  pub here : EndsText c.todo
  pub callers : AllByRecursion (λ (k : Caller). EndsText k.todo) c.callers
