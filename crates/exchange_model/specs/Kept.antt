-- What an exchange keeps: the numbering of all that it holds, its limits, and the rules that its
-- signals and blocks follow.
--
-- Every later layer takes the facts that it needs from here. The numberings are equations, so that
-- an entry, a point or a row of a table is where its definition puts it, and nowhere else.
use Rattle.std.specs.Prelude.{◌≡◌, ℕ, ◌+◌, ◌<◌, ◌≤◌, ◌^◌, nat_eq, Bool, true, false, List, [], ◌∷◌}
use Rattle.std.specs.Prelude.{◌++◌, length, map, Option, Some, None, slice_get}
use Rattle.std.specs.Str.{bytes_eq}
use Rattle.std.specs.List.{AllByRecursion, IsDistinct, cons_option, range_with_len}
use Rattle.std.specs.Option.{IsSomeAnd}
use Rattle.plex_limits.specs.declared.limits.TheConstants.{MOST_SIGNALS, MOST_BLOCKS, MOST_ENTRIES}
use Rattle.plex_limits.specs.declared.limits.TheConstants.{MOST_STATEMENTS, MOST_TEMPORARIES}
use Rattle.plex_limits.specs.declared.limits.TheConstants.{MOST_VALUES, MOST_NESTED, MOST_RECORDS}
use Rattle.plex_limits.specs.declared.limits.TheConstants.{MOST_CELLS, MOST_WHENS}
use Rattle.exchange_model.specs.declared.signal.SignalKind.{SignalKind}
use Rattle.exchange_model.specs.declared.signal.SignalKind.TheVariants.{Buffered, Direct, Combined}
use Rattle.exchange_model.specs.declared.signal.SignalKind.TheVariants.{Answer, Outside}
use Rattle.exchange_model.specs.declared.block.Block.{Block}
use Rattle.exchange_model.specs.declared.block.Variable.{Variable}
use Rattle.exchange_model.specs.declared.block.File.{File}
use Rattle.exchange_model.specs.declared.block.Enter.{Enter as Row}
use Rattle.exchange_model.specs.declared.block.Label.{Label}
use Rattle.exchange_model.specs.declared.entry.Entry.{Entry}
use Rattle.exchange_model.specs.declared.entry.PointInfo.{PointInfo}
use Rattle.exchange_model.specs.declared.stmt.Stmt.{Stmt}
use Rattle.exchange_model.specs.declared.stmt.StmtKind.{StmtKind-F, out-StmtKind}
use Rattle.exchange_model.specs.declared.stmt.StmtKind.TheOpen.{Enter, Finish}
use Rattle.exchange_model.specs.Cells.{Placed, placed_files, cell_count}
use Rattle.exchange_model.specs.Inside.{PointLine, spots, joined, text_depth, when_count, total}
use Rattle.exchange_model.specs.Fits.{Scope, StmtFits, ArePaired, retrieved}
use Rattle.exchange_model.specs.Parts.{Parts}

-- signals

abbrev pub signal_name : SignalKind → List ℕ
signal_name (Buffered name level count) = name
signal_name (Direct name count) = name
signal_name (Combined name count answer) = name
signal_name (Answer name count combined) = name
signal_name (Outside name count) = name

abbrev pub signal_count : SignalKind → ℕ
signal_count (Buffered name level count) = count
signal_count (Direct name count) = count
signal_count (Combined name count answer) = count
signal_count (Answer name count combined) = count
signal_count (Outside name count) = count

-- it leaves the exchange
abbrev pub is_outside : SignalKind → Bool
is_outside (Outside name count) = true
is_outside _ = false

-- the signal of this number is an answer to the combined one of that number
abbrev pub IsAnswerOf : ℕ → Option SignalKind → Type 0
IsAnswerOf combined (Some (Answer name count of)) = of ≡ combined
IsAnswerOf combined _ = ⊥

-- the signal of this number is combined, and that one is its answer
abbrev pub IsAnsweredBy : ℕ → Option SignalKind → Type 0
IsAnsweredBy answer (Some (Combined name count by)) = by ≡ answer
IsAnsweredBy answer _ = ⊥

-- a combined signal's answer has the next number, and an answer's combined signal the one before
abbrev pub IsAnswered : List SignalKind → ℕ → SignalKind → Type 0
IsAnswered signals i (Combined name count answer) =
    (answer ≡ i + 1) × IsAnswerOf i (slice_get signals answer)
IsAnswered signals i (Answer name count combined) =
    (i ≡ combined + 1) × IsAnsweredBy i (slice_get signals combined)
IsAnswered signals i _ = Unit {0}

pub record SignalsKept (signals : List SignalKind) : Type 0 where
  pub few : length signals ≤ MOST_SIGNALS
  pub names : IsDistinct bytes_eq (map signal_name signals)
  pub values : AllByRecursion (λ s. signal_count s ≤ MOST_VALUES) signals
  pub answers : (i : ℕ) (s : SignalKind) → slice_get signals i ≡ Some s → IsAnswered signals i s

-- blocks

-- a stored variable, or a field: its INIT value fits its width
pub record VariableFits (v : Variable) : Type 0 where
  pub some : 1 ≤ v.width
  pub few : v.width ≤ 32
  pub init : v.init < 2 ^ v.width

-- a field is no CLEAR variable
pub record FieldFits (v : Variable) : Type 0 where
  pub variable : VariableFits v
  pub stays : v.clear ≡ false

pub record FileFits (f : File) : Type 0 where
  pub some : 1 ≤ f.size
  pub few : f.size ≤ MOST_RECORDS
  pub fields : AllByRecursion FieldFits f.fields

abbrev pub variable_names : List Variable → List (List ℕ)
variable_names variables = map (λ v. v.name) variables

-- all names that a block declares: those of its variables, temporaries, files, fields and labels
abbrev pub block_names : Block → List (List ℕ)
block_names k =
    variable_names k.variables ++ (k.temporaries
    ++ (joined (map (λ (f : File). f.name ∷ variable_names f.fields) k.files)
    ++ map (λ (l : Label). l.name) k.labels))

-- a signal that a block may send
abbrev pub CanBeSent : Option SignalKind → Type 0
CanBeSent None = ⊥
CanBeSent (Some (Answer name count combined)) = ⊥
CanBeSent (Some _) = Unit {0}

-- the signal of an ENTER
abbrev pub entered : {K S W : Type 0} → StmtKind-F K S W → Option ℕ
entered (Enter signal temps) = Some signal
entered _ = None

abbrev pub is_enter : {K S W : Type 0} → StmtKind-F K S W → Bool
is_enter (Enter signal temps) = true
is_enter _ = false

abbrev pub row_at : Option ℕ → ℕ → Option Row
row_at None place = None
row_at (Some signal) place = Some (record { signal = signal; place = place })

-- the ENTERs of a body, the first statement of which stands at this place
unfoldable pub enters_from : ℕ → List Stmt → List Row
enters_from place [] = []
enters_from place (s ∷ rest) =
    cons_option (row_at (entered (out-StmtKind s.kind)) place) (enters_from (place + 1) rest)

-- the end of the text is the last statement, and no other is one
abbrev pub IsFinish : {K S W : Type 0} → StmtKind-F K S W → Type 0
IsFinish Finish = Unit {0}
IsFinish _ = ⊥

abbrev pub IsNotFinish : {K S W : Type 0} → StmtKind-F K S W → Type 0
IsNotFinish Finish = ⊥
IsNotFinish _ = Unit {0}

pub data IsText : List Stmt → Type 0 where
  ends : {s : Stmt} → IsFinish (out-StmtKind s.kind) → IsText (s ∷ [])
  goes : {s : Stmt} {rest : List Stmt} → IsNotFinish (out-StmtKind s.kind) → IsText rest
      → IsText (s ∷ rest)

-- a label stands at a statement of the body, and not between a SEND and its RETRIEVE
abbrev pub IsLabelAt : List Stmt → Label → Type 0
IsLabelAt body l = IsSomeAnd (slice_get body l.place)
    (λ (s : Stmt). retrieved (out-StmtKind s.kind) ≡ None)

abbrev pub scope_of : Parts → ℕ → Block → Scope
scope_of x b k = record {
  signals = x.signals;
  blocks = x.blocks;
  files = placed_files x.blocks;
  number = b;
  block = k;
}

-- a block by its number
pub record BlockKept (x : Parts) (b : ℕ) (k : Block) : Type 0 where
  pub names : IsDistinct bytes_eq (block_names k)
  pub variables : AllByRecursion VariableFits k.variables
  pub temporaries : length k.temporaries ≤ MOST_TEMPORARIES
  pub files : AllByRecursion FileFits k.files
  pub sends : AllByRecursion (λ signal. CanBeSent (slice_get x.signals signal)) k.sends
  pub sends_once : IsDistinct nat_eq k.sends
  pub enters : k.enters ≡ enters_from 0 k.body
  pub enters_once : IsDistinct nat_eq (map (λ (r : Row). r.signal) k.enters)
  pub labels : AllByRecursion (IsLabelAt k.body) k.labels
  pub text : IsText k.body
  pub statements : AllByRecursion (λ (s : Stmt). StmtFits (scope_of x b k) s.kind) k.body
  pub paired : ArePaired x.signals None k.body
  pub shallow : text_depth k.body ≤ MOST_NESTED

pub record BlocksKept (x : Parts) : Type 0 where
  pub few : length x.blocks ≤ MOST_BLOCKS
  pub names : IsDistinct bytes_eq (map (λ (k : Block). k.name) x.blocks)
  pub each : (b : ℕ) (k : Block) → slice_get x.blocks b ≡ Some k → BlockKept x b k

-- numberings

-- the statements of all blocks in order
abbrev pub all_spots : List Block → List PointLine
all_spots blocks = joined (map (λ (k : Block). spots k.body) blocks)

-- the points of these blocks, the first of which has this number
unfoldable pub points_from : ℕ → List Block → List PointInfo
points_from b [] = []
points_from b (k ∷ rest) = map (λ (s : PointLine). record { block = b; line = s.line })
    (spots k.body) ++ points_from (b + 1) rest

-- an ENTER of a buffered signal is an entry
abbrev pub entry_of : Option SignalKind → ℕ → ℕ → ℕ → Option Entry
entry_of (Some (Buffered name level count)) b signal point =
    Some (record { block = b; signal = signal; point = point })
entry_of _ b signal point = None

abbrev pub entry_at : List SignalKind → Option ℕ → ℕ → ℕ → Option Entry
entry_at signals None b point = None
entry_at signals (Some signal) b point = entry_of (slice_get signals signal) b signal point

abbrev pub entries_in : List SignalKind → ℕ → List Stmt → List Entry
entries_in signals b [] = []
entries_in signals b (s ∷ rest) = cons_option (entry_at signals (entered (out-StmtKind s.kind)) b
    s.point) (entries_in signals b rest)

-- the entries of these blocks, the first of which has this number
unfoldable pub entries_from : List SignalKind → ℕ → List Block → List Entry
entries_from signals b [] = []
entries_from signals b (k ∷ rest) = entries_in signals b k.body ++ entries_from signals (b + 1) rest

-- statements, points, files, entries and cells are numbered in the order of the text
pub record Numbered (x : Parts) : Type 0 where
  pub statements : map (λ (s : PointLine). s.point) (all_spots x.blocks)
      ≡ range_with_len 0 (length (all_spots x.blocks))
  pub points : x.points ≡ points_from 0 x.blocks
  pub files : map (λ (p : Placed). p.file.number) (placed_files x.blocks)
      ≡ range_with_len 0 (length (placed_files x.blocks))
  pub entries : x.entries ≡ entries_from x.signals 0 x.blocks
  pub cells : x.cells ≡ cell_count x.blocks

pub record Limited (x : Parts) : Type 0 where
  pub entries : length x.entries ≤ MOST_ENTRIES
  pub statements : length x.points ≤ MOST_STATEMENTS
  pub cells : x.cells ≤ MOST_CELLS
  pub whens : total (map (λ (k : Block). when_count k.body) x.blocks) ≤ MOST_WHENS

pub record IsExchange (x : Parts) : Type 0 where
  pub signals : SignalsKept x.signals
  pub blocks : BlocksKept x
  pub numbered : Numbered x
  pub limited : Limited x
