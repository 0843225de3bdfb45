-- What a statement of an exchange may name.
--
-- A scope is a block with the exchange around it. Each fact looks at one layer of an expression or
-- of a statement, and `every-..` says it of all layers, at whatever depth: so a further kind of
-- statement is one line.
use Rattle.std.specs.Prelude.{◌≡◌, ℕ, ◌<◌, ◌≤◌, ◌^◌, Bool, true, false, List, [], ◌∷◌, length, map}
use Rattle.std.specs.Prelude.{Option, Some, None, slice_get}
use Rattle.std.specs.List.{AllByRecursion, Contains, IsDistinct}
use Rattle.std.specs.Prelude.{nat_eq}
use Rattle.plex_limits.specs.declared.limits.TheConstants.{MOST_BRACKETS, MOST_OPERANDS}
use Rattle.exchange_model.specs.declared.signal.SignalKind.{SignalKind}
use Rattle.exchange_model.specs.declared.signal.SignalKind.TheVariants.{Buffered, Direct, Combined}
use Rattle.exchange_model.specs.declared.signal.SignalKind.TheVariants.{Answer, Outside}
use Rattle.exchange_model.specs.declared.block.Block.{Block}
use Rattle.exchange_model.specs.declared.block.Enter.{Enter as Row}
use Rattle.exchange_model.specs.declared.expr.Expr.{Expr, every-Expr}
use Rattle.exchange_model.specs.declared.expr.Term.{Term, out-Term}
use Rattle.exchange_model.specs.declared.expr.Joined.{Joined}
use Rattle.exchange_model.specs.declared.expr.Factor.TheOpen.{Factor-F, Number, Variable, Temporary}
use Rattle.exchange_model.specs.declared.expr.Factor.TheOpen.{Field, Bracket, Reference}
use Rattle.exchange_model.specs.declared.expr.FactorOp.TheVariants.{Times}
use Rattle.exchange_model.specs.declared.expr.Cond.{Cond}
use Rattle.exchange_model.specs.declared.stmt.Holder.{Holder}
use Rattle.exchange_model.specs.declared.stmt.Holder.TheVariants as holder
use Rattle.exchange_model.specs.declared.stmt.Receiver.{Receiver}
use Rattle.exchange_model.specs.declared.stmt.Receiver.TheVariants as receiver
use Rattle.exchange_model.specs.declared.stmt.Stmt.{Stmt}
use Rattle.exchange_model.specs.declared.stmt.When.{When, out-When}
use Rattle.exchange_model.specs.declared.stmt.StmtKind.{StmtKind, StmtKind-F, out-StmtKind}
use Rattle.exchange_model.specs.declared.stmt.StmtKind.TheOpen as layer
use Rattle.exchange_model.specs.Cells.{Placed}
use Rattle.exchange_model.specs.Everywhere.{Everywhere}
use Rattle.exchange_model.specs.Inside.{own_exprs, bracket_depth, operand_count, total}

-- a block by its number, the signals and blocks of its exchange, and the files of all blocks
pub record Scope : Type 0 where
  pub signals : List SignalKind
  pub blocks : List Block
  pub files : List Placed
  pub number : ℕ
  pub block : Block

abbrev pub IsTemporary : Scope → ℕ → Type 0
IsTemporary s t = t < length s.block.temporaries

abbrev pub IsVariable : Scope → ℕ → Type 0
IsVariable s v = v < length s.block.variables

abbrev pub IsLabel : Scope → ℕ → Type 0
IsLabel s l = l < length s.block.labels

-- the number of a file of the block, which is a forlopp file or not
pub record IsFile (s : Scope) (file : ℕ) (forlopp : Bool) : Type 0 where
  pub placed : Placed
  pub there : slice_get s.files file ≡ Some placed
  pub own : placed.block ≡ s.number
  pub kind : placed.file.forlopp ≡ forlopp

-- the number of a file of the block, and the place of a field of that file
pub record IsField (s : Scope) (file field : ℕ) : Type 0 where
  pub placed : Placed
  pub there : slice_get s.files file ≡ Some placed
  pub own : placed.block ≡ s.number
  pub within : field < length placed.file.fields

-- an operand is of the block
abbrev pub FactorFits : {A B C D : Type 0} → Scope → Factor-F A B C D → Type 0
FactorFits s (Number n) = n < 2 ^ 32
FactorFits s (Variable v) = IsVariable s v
FactorFits s (Temporary t) = IsTemporary s t
FactorFits s (Field file field pointer) = IsField s file field × IsTemporary s pointer
FactorFits s (Bracket e) = Unit {0}
FactorFits s (Reference b) = b < length s.blocks

-- there is a first term, and nothing stands before it that it could be taken from
abbrev pub TermsStand : List Term → Type 0
TermsStand [] = ⊥
TermsStand (t ∷ rest) = (out-Term t).minus ≡ false

-- there is a first factor, and nothing stands before it that it could be joined to
abbrev pub FactorsStand : List Joined → Type 0
FactorsStand [] = ⊥
FactorsStand (j ∷ rest) = j.by ≡ Times

-- an expression of the block
unfoldable pub ExprFits : Scope → Expr → Type 0
ExprFits s = every-Expr (FactorFits s) (λ e. TermsStand e.terms) (λ j. Unit {0})
    (λ t. FactorsStand t.factors)

-- no list of a condition is empty
abbrev pub IsFilled : {T : Type 0} → List T → Type 0
IsFilled [] = ⊥
IsFilled (t ∷ rest) = Unit {0}

abbrev pub CondStands : Cond → Type 0
CondStands c = IsFilled c.any × AllByRecursion IsFilled c.any

-- the block receives the signal
pub record Receives (s : Scope) (block signal : ℕ) : Type 0 where
  pub receiver : Block
  pub there : slice_get s.blocks block ≡ Some receiver
  pub enters : Contains (map (λ (r : Row). r.signal) receiver.enters) signal

-- a holder of the block
abbrev pub IsHolder : Scope → Holder → Type 0
IsHolder s (holder.Temporary t) = IsTemporary s t
IsHolder s (holder.Variable v) = IsVariable s v

-- the block that is named receives the signal; where a reference is held, its holder is of the
-- block, and some block receives the signal
abbrev pub ReceiverFits : Scope → Receiver → ℕ → Type 0
ReceiverFits s (receiver.Block block) signal = Receives s block signal
ReceiverFits s (receiver.Held holder) signal =
    IsHolder s holder × (block : ℕ) × Receives s block signal

-- there is a receiver, and the signal stands in the block's sending table
abbrev pub Reaches : Scope → Option Receiver → ℕ → Type 0
Reaches s None signal = ⊥
Reaches s (Some to) signal = ReceiverFits s to signal × Contains s.block.sends signal

-- so many values may be sent by this signal
abbrev pub SendFits : Scope → Option SignalKind → ℕ → Option Receiver → ℕ → Bool → Type 0
SendFits s None signal to values fresh = ⊥
SendFits s (Some (Buffered name level count)) signal to values fresh =
    (values ≡ count) × Reaches s to signal
SendFits s (Some (Direct name count)) signal to values fresh =
    (values ≡ count) × Reaches s to signal × (fresh ≡ false)
SendFits s (Some (Combined name count answer)) signal to values fresh =
    (values ≡ count) × Reaches s to signal × (fresh ≡ false)
SendFits s (Some (Answer name count combined)) signal to values fresh = ⊥
SendFits s (Some (Outside name count)) signal to values fresh =
    (values ≡ count) × (to ≡ None) × (fresh ≡ false) × Contains s.block.sends signal

-- the signal is an answer with so many values
abbrev pub AnswerFits : Option SignalKind → ℕ → Type 0
AnswerFits (Some (Answer name count combined)) values = values ≡ count
AnswerFits _ values = ⊥

-- the signal is direct and single
abbrev pub TransferFits : Scope → Option SignalKind → ℕ → Option Receiver → Type 0
TransferFits s (Some (Direct name count)) signal to = Reaches s to signal
TransferFits s _ signal to = ⊥

-- a signal that begins an activation has so many values
abbrev pub EnterFits : Option SignalKind → ℕ → Type 0
EnterFits (Some (Buffered name level count)) names = names ≡ count
EnterFits (Some (Direct name count)) names = names ≡ count
EnterFits (Some (Combined name count answer)) names = names ≡ count
EnterFits _ names = ⊥

-- the temporaries after WITH: none, or one for each value
abbrev pub NamesFit : Scope → List ℕ → Type 0
NamesFit s temps = AllByRecursion (IsTemporary s) temps

-- what a statement names is of the block
abbrev pub KindNames : {K S : Type 0} → Scope → StmtKind-F K S When → Type 0
KindNames s (layer.Enter signal temps) =
    EnterFits (slice_get s.signals signal) (length temps) × NamesFit s temps
KindNames s (layer.SetTemp temp value) = IsTemporary s temp
KindNames s (layer.SetVariable variable value) = IsVariable s variable
KindNames s (layer.SetField file field pointer value) = IsField s file field × IsTemporary s pointer
KindNames s (layer.Goto label) = IsLabel s label
KindNames s (layer.IfGoto cond label) = CondStands cond × IsLabel s label
KindNames s (layer.If cond yes_part no_part) = CondStands cond
KindNames s (layer.Case value whens otherwise) =
    IsDistinct nat_eq (map (λ w. (out-When w).number) whens)
KindNames s (layer.On temp from upto body) = IsTemporary s temp
KindNames s (layer.ForFirst temp file field rel value label) =
    IsTemporary s temp × IsFile s file false × IsField s file field × IsLabel s label
KindNames s (layer.Send signal to values fresh) =
    SendFits s (slice_get s.signals signal) signal to (length values) fresh
KindNames s (layer.Retrieve answer temps) =
    AnswerFits (slice_get s.signals answer) (length temps) × NamesFit s temps
KindNames s (layer.Return answer values) = AnswerFits (slice_get s.signals answer) (length values)
KindNames s (layer.Transfer signal to) = TransferFits s (slice_get s.signals signal) signal to
KindNames s (layer.Seize temp file label) =
    IsTemporary s temp × IsFile s file true × IsLabel s label
KindNames s (layer.Free temp file) = IsTemporary s temp × IsFile s file true
KindNames s layer.Exit = Unit {0}
KindNames s layer.Finish = Unit {0}

-- the answer that a combined SEND waits for, and the answer of a RETRIEVE
abbrev pub answer_of : Option SignalKind → Option ℕ
answer_of (Some (Combined name count answer)) = Some answer
answer_of _ = None

abbrev pub awaited : {K S W : Type 0} → List SignalKind → StmtKind-F K S W → Option ℕ
awaited signals (layer.Send signal to values fresh) = answer_of (slice_get signals signal)
awaited signals _ = None

abbrev pub retrieved : {K S W : Type 0} → StmtKind-F K S W → Option ℕ
retrieved (layer.Retrieve answer temps) = Some answer
retrieved _ = None

-- a combined SEND stands directly before the RETRIEVE of its answer, and each RETRIEVE directly
-- after its SEND, where the statement before these awaits that answer
abbrev pub ArePaired : List SignalKind → Option ℕ → List Stmt → Type 0
ArePaired signals answer [] = answer ≡ None
ArePaired signals answer (s ∷ rest) = (retrieved (out-StmtKind s.kind) ≡ answer)
    × ArePaired signals (awaited signals (out-StmtKind s.kind)) rest

-- statements inside another one: an ENTER and the end of the text stand nowhere but in the body
-- itself
abbrev pub is_inner : {K S W : Type 0} → StmtKind-F K S W → Bool
is_inner (layer.Enter signal temps) = false
is_inner layer.Finish = false
is_inner _ = true

abbrev pub InnerFits : Scope → List Stmt → Type 0
InnerFits s list = AllByRecursion (λ (one : Stmt). is_inner (out-StmtKind one.kind) ≡ true) list
    × ArePaired s.signals None list

-- the lists in a statement
abbrev pub ListsFit : {K : Type 0} → Scope → StmtKind-F K Stmt When → Type 0
ListsFit s (layer.If cond yes_part no_part) = InnerFits s yes_part × InnerFits s no_part
ListsFit s (layer.Case value whens otherwise) =
    AllByRecursion (λ w. InnerFits s (out-When w).body) whens × InnerFits s otherwise
ListsFit s (layer.On temp from upto body) = InnerFits s body
ListsFit s _ = Unit {0}

-- the expressions of a statement are of the block, and keep the limits on brackets and operands
pub record ExprsFit (s : Scope) (exprs : List Expr) : Type 0 where
  pub each : AllByRecursion (ExprFits s) exprs
  pub shallow : AllByRecursion (λ e. bracket_depth e ≤ MOST_BRACKETS) exprs
  pub few : total (map operand_count exprs) ≤ MOST_OPERANDS

-- one layer of a statement
pub record LayerFits (s : Scope) (l : StmtKind-F StmtKind Stmt When) : Type 0 where
  pub names : KindNames s l
  pub exprs : ExprsFit s (own_exprs l)
  pub lists : ListsFit s l

-- a statement of the block, with all those in it
abbrev pub StmtFits : Scope → StmtKind → Type 0
StmtFits s k = Everywhere (LayerFits s) k
