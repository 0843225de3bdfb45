-- What is counted at a step, and what the text says of it.
--
-- For a statement, an ENTER that begins an activation and a turn of a loop: which values it has,
-- where its signal goes, at which cells it looks, where the job goes on and with which temporaries,
-- and why it fails. Each is a relation between the job where it stands and what comes of it, one
-- line for each way that the text has.
use Rattle.std.specs.Prelude.{◌≡◌, ◌⊎◌, ℕ, ◌+◌, ◌<◌, ◌^◌, Bool, true, false, nat_lt, nat_eq, List}
use Rattle.std.specs.Prelude.{[], ◌∷◌, ◌++◌, length, map, take, Option, Some, None, Ok, slice_get}
use Rattle.std.specs.Prelude.{slice_index, slice_set}
use Rattle.std.specs.List.{Contains}
use Rattle.plex_limits.specs.declared.limits.TheConstants.{MOST_CALLERS, MOST_HELD, MOST_SENT}
use Rattle.job_types.specs.declared.fault.Fault.{Fault}
use Rattle.job_types.specs.declared.fault.Fault.TheVariants as fault
use Rattle.job_types.specs.declared.outbox.SendTo.{SendTo}
use Rattle.job_types.specs.declared.outbox.SendTo.TheVariants as sent_to
use Rattle.job_types.specs.declared.touch.Touch.{Touch}
use Rattle.exchange_model.specs.declared.exchange.Exchange.{Exchange}
use Rattle.exchange_model.specs.declared.expr.Expr.{Expr}
use Rattle.exchange_model.specs.declared.expr.Rel.{Rel}
use Rattle.plex_num.specs.declared.level.Level.{Level}
use Rattle.exchange_model.specs.declared.signal.SignalKind.{SignalKind}
use Rattle.exchange_model.specs.declared.signal.SignalKind.TheVariants.{Buffered, Direct, Combined}
use Rattle.exchange_model.specs.declared.signal.SignalKind.TheVariants.{Outside}
use Rattle.exchange_model.specs.declared.stmt.Holder.{Holder}
use Rattle.exchange_model.specs.declared.stmt.Holder.TheVariants as holder
use Rattle.exchange_model.specs.declared.stmt.Receiver.{Receiver}
use Rattle.exchange_model.specs.declared.stmt.Receiver.TheVariants as receiver
use Rattle.exchange_model.specs.declared.stmt.Stmt.{Stmt}
use Rattle.exchange_model.specs.declared.stmt.When.{When, out-When}
use Rattle.exchange_model.specs.declared.stmt.StmtKind.{out-StmtKind}
use Rattle.exchange_model.specs.declared.stmt.StmtKind.TheOpen as stmt
use Rattle.exchange_model.specs.Cells.{Placed, field_cell, mark_cell}
use Rattle.exchange_model.specs.Inside.{own_exprs}
use Rattle.source_meaning.specs.Named.{Layer, NamedVariable, NamedField, named_in}
use Rattle.source_meaning.specs.Value.{Gives, Fails, expr_value, holder_value, values_of}
use Rattle.source_meaning.specs.Value.{pointer_fault, load_of}
use Rattle.source_meaning.specs.Config.{Item, Do, Start, Turns, Caller, Config, label_of}
use Rattle.source_meaning.specs.Config.{from_place, entry_number, receiver_of, base_of, files_of}
use Rattle.source_meaning.specs.Config.{sight}
use Rattle.source_meaning.specs.Changes.{takes, variable_width, field_width, value_count}

-- what an item is that is counted: a statement, the ENTER that begins an activation, or one turn of
-- a loop
pub data Deed : Type 0 where
  Doing : (point : ℕ) (layer : Layer) → Deed
  Starting : (point : ℕ) (layer : Layer) → Deed
  Turning : (point temp this last : ℕ) (body : List Stmt) → Deed

-- that of an item
abbrev pub deed_of : Item → Deed
deed_of (Do s) = Doing s.point (out-StmtKind s.kind)
deed_of (Start s) = Starting s.point (out-StmtKind s.kind)
deed_of (Turns p temp this end body) = Turning p temp this end body

-- the point at which it is counted
abbrev pub deed_point : Deed → ℕ
deed_point (Doing p l) = p
deed_point (Starting p l) = p
deed_point (Turning p temp this end body) = p

-- values

-- an expression of the statement itself
abbrev pub IsExprOf : Deed → Expr → Type 0
IsExprOf (Doing p l) e = Contains (own_exprs l) e
IsExprOf _ e = ⊥

-- the value of an expression where the job stands
pub record IsValueOf (x : Exchange) (c : Config) (e : Expr) (v : ℕ) : Type 0 where
  pub loads : List Touch
  pub is : expr_value e (sight x c) ≡ Gives loads v

-- the file of this number
abbrev pub IsFileAt : Exchange → ℕ → Placed → Type 0
IsFileAt x file p = slice_get (files_of x) file ≡ Some p

-- a record of the file
pub record IsRecordOf (x : Exchange) (file number : ℕ) (p : Placed) : Type 0 where
  pub there : IsFileAt x file p
  pub within : number < p.file.size

-- a record of a file which nothing keeps the job from using
pub record MayUse (x : Exchange) (c : Config) (file number : ℕ) (p : Placed) : Type 0 where
  pub there : IsFileAt x file p
  pub sound : pointer_fault c.own.chain file p number ≡ None

-- signals

-- the receiver and the signal of a SEND or a TRANSFER
abbrev pub receiver_in : Layer → Option Receiver
receiver_in (stmt.Send signal to values fresh) = to
receiver_in (stmt.Transfer signal to) = to
receiver_in _ = None

abbrev pub signal_in : Layer → ℕ
signal_in (stmt.Send signal to values fresh) = signal
signal_in (stmt.Transfer signal to) = signal
signal_in _ = 0

-- the value of a holder where the job stands
pub record IsHeld (x : Exchange) (c : Config) (h : Holder) (v : ℕ) : Type 0 where
  pub loads : List Touch
  pub is : holder_value h (sight x c) ≡ Gives loads v

-- a signal goes to this block; an outside one, which has no receiver, to none
pub data GoesTo (x : Exchange) (c : Config) (signal : ℕ) : Option Receiver → ℕ → Type 0 where
  out : GoesTo x c signal None 0
  named : (b : ℕ) → GoesTo x c signal (Some (receiver.Block b)) b
  held : (h : Holder) (v b : ℕ) → IsHeld x c h v → receiver_of x signal v ≡ Some b
      → GoesTo x c signal (Some (receiver.Held h)) b

-- a signal is sent to a block with these values
pub record IsSending (x : Exchange) (c : Config) (signal : ℕ) (to : Option Receiver)
    (values : List Expr) (b : ℕ) (vs : List ℕ) : Type 0 where
  pub receiver : GoesTo x c signal to b
  pub given : values_of values [] (sight x c) ≡ Ok vs

-- a signal that joins the outbox
pub data IsPosting (x : Exchange) (c : Config) : Deed → SendTo → List ℕ → Type 0 where
  to_queue : (p signal : ℕ) (to : Option Receiver) (values : List Expr) (fresh : Bool)
      (name : List ℕ) (level : Level) (count b : ℕ) (vs : List ℕ)
      → slice_get x.signals signal ≡ Some (Buffered name level count)
      → IsSending x c signal to values b vs
      → IsPosting x c (Doing p (stmt.Send signal to values fresh))
      (sent_to.Queue (entry_number x b signal) level fresh) vs
  to_outside : (p signal : ℕ) (to : Option Receiver) (values : List Expr) (fresh : Bool)
      (name : List ℕ) (count b : ℕ) (vs : List ℕ)
      → slice_get x.signals signal ≡ Some (Outside name count) → IsSending x c signal to values b vs
      → IsPosting x c (Doing p (stmt.Send signal to values fresh)) (sent_to.Outside signal) vs

-- a signal that begins an activation in place of the one that sends it
pub data IsBeginning (x : Exchange) (c : Config) : Deed → ℕ → ℕ → List ℕ → Type 0 where
  by_send : (p signal : ℕ) (to : Option Receiver) (values : List Expr) (fresh : Bool)
      (name : List ℕ) (count b : ℕ) (vs : List ℕ)
      → slice_get x.signals signal ≡ Some (Direct name count) → IsSending x c signal to values b vs
      → IsBeginning x c (Doing p (stmt.Send signal to values fresh)) b signal vs
  by_transfer : (p signal : ℕ) (to : Option Receiver) (b : ℕ) → GoesTo x c signal to b
      → IsBeginning x c (Doing p (stmt.Transfer signal to)) b signal
      (take (value_count x signal) c.own.given)

-- a signal whose answer the sender waits for
pub data IsAsking (x : Exchange) (c : Config) : Deed → ℕ → ℕ → ℕ → List ℕ → Type 0 where
  by_combined : (p signal : ℕ) (to : Option Receiver) (values : List Expr) (fresh : Bool)
      (name : List ℕ) (count answer b : ℕ) (vs : List ℕ)
      → slice_get x.signals signal ≡ Some (Combined name count answer)
      → IsSending x c signal to values b vs
      → IsAsking x c (Doing p (stmt.Send signal to values fresh)) b signal answer vs

-- loads

-- a cell that a statement looks at: a variable or a field that an expression names, a variable that
-- holds a reference, the field or the mark of a record of a file that is searched
pub data LooksAt (x : Exchange) (c : Config) : Deed → ℕ → Type 0 where
  at_variable : {deed : Deed} (e : Expr) (v : ℕ) → IsExprOf deed e
      → Contains (named_in e) (NamedVariable v)
      → LooksAt x c deed (base_of x c.block + v)
  at_field : {deed : Deed} (e : Expr) (file field pointer : ℕ) (p : Placed) → IsExprOf deed e
      → Contains (named_in e) (NamedField file field pointer)
      → MayUse x c file (slice_index c.temps pointer) p
      → LooksAt x c deed (field_cell p (slice_index c.temps pointer) field)
  at_holder : (p : ℕ) {l : Layer} (v : ℕ) → receiver_in l ≡ Some (receiver.Held (holder.Variable v))
      → LooksAt x c (Doing p l) (base_of x c.block + v)
  at_searched : (p temp file field : ℕ) (rel : Rel) (e : Expr) (label number : ℕ) (placed : Placed)
      → IsRecordOf x file number placed
      → LooksAt x c (Doing p (stmt.ForFirst temp file field rel e label))
      (field_cell placed number field)
  at_mark : (p temp file label number : ℕ) (placed : Placed) → IsRecordOf x file number placed
      → LooksAt x c (Doing p (stmt.Seize temp file label)) (mark_cell placed number)

-- the load of such a cell
pub record IsLook (x : Exchange) (c : Config) (deed : Deed) (t : Touch) : Type 0 where
  pub cell : ℕ
  pub at : LooksAt x c deed cell
  pub is : t ≡ load_of c.world.store cell

-- where a job goes on

-- the label of a statement
abbrev pub label_in : Layer → Option ℕ
label_in (stmt.Goto label) = Some label
label_in (stmt.IfGoto cond label) = Some label
label_in (stmt.ForFirst temp file field rel value label) = Some label
label_in (stmt.Seize temp file label) = Some label
label_in _ = None

-- a signal after which its sender goes on at once
abbrev pub GoesOnAfter : Option SignalKind → Type 0
GoesOnAfter (Some (Direct name count)) = ⊥
GoesOnAfter (Some (Combined name count answer)) = ⊥
GoesOnAfter _ = Unit {0}

-- the statement may go on with what follows it, the temporaries as they are
abbrev pub MayGoOn : Exchange → Layer → Type 0
MayGoOn x (stmt.SetVariable variable value) = Unit {0}
MayGoOn x (stmt.SetField file field pointer value) = Unit {0}
MayGoOn x (stmt.IfGoto cond label) = Unit {0}
MayGoOn x (stmt.ForFirst temp file field rel value label) = Unit {0}
MayGoOn x (stmt.Send signal to values fresh) = GoesOnAfter (slice_get x.signals signal)
MayGoOn x (stmt.Seize temp file label) = Unit {0}
MayGoOn x (stmt.Free temp file) = Unit {0}
MayGoOn x (stmt.Enter signal temps) = Unit {0}
MayGoOn x _ = ⊥

-- these statements are a branch of an IF or a CASE
abbrev pub IsBranch : Layer → List Stmt → Type 0
IsBranch (stmt.If cond yes_part no_part) body = (body ≡ yes_part) ⊎ (body ≡ no_part)
IsBranch (stmt.Case value whens otherwise) body =
    (body ≡ otherwise) ⊎ ((w : When) × Contains whens w × (body ≡ (out-When w).body))
IsBranch _ body = ⊥

-- any statement but an ENTER
abbrev pub IsNoEnter : Layer → Type 0
IsNoEnter (stmt.Enter signal temps) = ⊥
IsNoEnter _ = Unit {0}

-- a job goes on at these items with these temporaries
pub data GoesOn (x : Exchange) (rest : List Item) (c : Config) : Deed → List Item → List ℕ
    → Type 0 where
  to_next : (p : ℕ) {l : Layer} → MayGoOn x l → GoesOn x rest c (Doing p l) rest c.temps
  with_value : (p temp : ℕ) (e : Expr) (v : ℕ) → IsValueOf x c e v
      → GoesOn x rest c (Doing p (stmt.SetTemp temp e)) rest (slice_set c.temps temp v)
  to_label : (p : ℕ) {l : Layer} (label : ℕ) → label_in l ≡ Some label
      → GoesOn x rest c (Doing p l) (from_place x c.block (label_of x c.block label)) c.temps
  to_branch : (p : ℕ) {l : Layer} (body : List Stmt) → IsBranch l body
      → GoesOn x rest c (Doing p l) (map Do body ++ rest) c.temps
  to_loop : (p temp : ℕ) (from upto : Expr) (body : List Stmt) (a b : ℕ) → IsValueOf x c from a
      → IsValueOf x c upto b
      → GoesOn x rest c (Doing p (stmt.On temp from upto body)) (Turns p temp a b body ∷ rest)
      c.temps
  to_turn : (p temp this end : ℕ) (body : List Stmt)
      → GoesOn x rest c (Turning p temp this end body)
      (map Do body ++ (Turns p temp (this + 1) end body ∷ rest)) (slice_set c.temps temp this)
  with_found : (p temp file field : ℕ) (rel : Rel) (e : Expr) (label number : ℕ) (placed : Placed)
      → IsRecordOf x file number placed
      → GoesOn x rest c (Doing p (stmt.ForFirst temp file field rel e label))
      (from_place x c.block (label_of x c.block label)) (slice_set c.temps temp number)
  with_seized : (p temp file label number : ℕ) (placed : Placed) → IsRecordOf x file number placed
      → GoesOn x rest c (Doing p (stmt.Seize temp file label)) rest (slice_set c.temps temp number)
  with_answers : (p answer : ℕ) (temps : List ℕ)
      → GoesOn x rest c (Doing p (stmt.Retrieve answer temps)) rest
      (takes 0 temps c.own.answers c.temps)
  with_given : (p signal : ℕ) (temps : List ℕ)
      → GoesOn x rest c (Starting p (stmt.Enter signal temps)) rest
      (takes 0 temps c.own.given c.temps)
  from_no_enter : (p : ℕ) {l : Layer} → IsNoEnter l → GoesOn x rest c (Starting p l) rest c.temps

-- faults

-- an EXIT, or the end of the text
abbrev pub IsEnd : Layer → Type 0
IsEnd stmt.Exit = Unit {0}
IsEnd stmt.Finish = Unit {0}
IsEnd _ = ⊥

-- no caller waits, or the last one does for another answer
abbrev pub AwaitsOther : List Caller → ℕ → Type 0
AwaitsOther [] answer = Unit {0}
AwaitsOther (k ∷ ks) answer = nat_eq k.awaits answer ≡ false

-- a caller waits
abbrev pub SomeWait : List Caller → Type 0
SomeWait [] = ⊥
SomeWait (k ∷ ks) = Unit {0}

-- why a statement fails
pub data Why (x : Exchange) (c : Config) : Deed → Fault → Type 0 where
  in_value : {deed : Deed} (e : Expr) (loads : List Touch) (f : Fault) → IsExprOf deed e
      → expr_value e (sight x c) ≡ Fails loads f → Why x c deed f
  no_receiver : (p : ℕ) {l : Layer} (h : Holder) (v : ℕ) → receiver_in l ≡ Some (receiver.Held h)
      → IsHeld x c h v
      → receiver_of x (signal_in l) v ≡ None → Why x c (Doing p l) fault.Pointer
  wide_value : (p variable : ℕ) (e : Expr) (v : ℕ) → IsValueOf x c e v
      → nat_lt v (2 ^ variable_width x c.block variable) ≡ false
      → Why x c (Doing p (stmt.SetVariable variable e)) fault.Range
  wide_field : (p file field pointer : ℕ) (e : Expr) (v : ℕ) (placed : Placed)
      → IsFileAt x file placed → IsValueOf x c e v
      → nat_lt v (2 ^ field_width placed field) ≡ false
      → Why x c (Doing p (stmt.SetField file field pointer e)) fault.Range
  bad_field : (p file field pointer : ℕ) (e : Expr) (placed : Placed) (f : Fault)
      → IsFileAt x file placed
      → pointer_fault c.own.chain file placed (slice_index c.temps pointer) ≡ Some f
      → Why x c (Doing p (stmt.SetField file field pointer e)) f
  bad_free : (p temp file : ℕ) (placed : Placed) (f : Fault) → IsFileAt x file placed
      → pointer_fault c.own.chain file placed (slice_index c.temps temp) ≡ Some f
      → Why x c (Doing p (stmt.Free temp file)) f
  no_forlopp : (p temp file label : ℕ) → nat_eq c.own.forlopp 0 ≡ true
      → Why x c (Doing p (stmt.Seize temp file label)) fault.NoForlopp
  full_chain : (p temp file label : ℕ) → nat_lt (length c.own.chain) MOST_HELD ≡ false
      → Why x c (Doing p (stmt.Seize temp file label)) fault.Chain
  too_deep : (p signal : ℕ) (to : Option Receiver) (values : List Expr) (fresh : Bool)
      (name : List ℕ) (count answer : ℕ)
      → slice_get x.signals signal ≡ Some (Combined name count answer)
      → nat_lt (length c.callers) MOST_CALLERS ≡ false
      → Why x c (Doing p (stmt.Send signal to values fresh)) fault.Depth
  too_many : (p signal : ℕ) (to : Option Receiver) (values : List Expr) (fresh : Bool)
      (one : SendTo) (vs : List ℕ)
      → IsPosting x c (Doing p (stmt.Send signal to values fresh)) one vs
      → nat_lt (length c.own.sends) MOST_SENT ≡ false
      → Why x c (Doing p (stmt.Send signal to values fresh)) fault.Sends
  no_caller : (p answer : ℕ) (values : List Expr) → AwaitsOther c.callers answer
      → Why x c (Doing p (stmt.Return answer values)) fault.BadEnd
  has_caller : (p : ℕ) {l : Layer} → IsEnd l → SomeWait c.callers → Why x c (Doing p l) fault.BadEnd
