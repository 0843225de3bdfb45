-- Where a job may fault. A value may be a number: a number that it is, and any number where it is
-- one that the job started with or is not known. One line for each fault of a statement; two more
-- look at all statements that are reached.
use Rattle.std.specs.Prelude.{◌≡◌, ◌≢◌, ◌⊎◌, ℕ, ◌+◌, ◌<◌, ◌≤◌, ◌^◌, Bool, false, true, nat_lt}
use Rattle.std.specs.Prelude.{nat_eq, not, ◌&&◌, ◌||◌, List, length, Option, Some, None, slice_get}
use Rattle.std.specs.List.{Contains, IsDistinct, list_any}
use Rattle.plex_limits.specs.declared.limits.TheConstants.{MOST_CALLERS, MOST_SENT}
use Rattle.exchange_model.specs.declared.exchange.Exchange.{Exchange}
use Rattle.exchange_model.specs.declared.expr.Expr.{Expr, fold-Expr}
use Rattle.exchange_model.specs.declared.expr.Factor.TheOpen.{Factor-F, Joined-F, Number, Bracket}
use Rattle.exchange_model.specs.declared.expr.FactorOp.{FactorOp}
use Rattle.exchange_model.specs.declared.expr.FactorOp.TheVariants.{Times, Divide, Modulo}
use Rattle.exchange_model.specs.declared.signal.SignalKind.{SignalKind}
use Rattle.exchange_model.specs.declared.signal.SignalKind.TheVariants.{Buffered, Combined, Outside}
use Rattle.exchange_model.specs.declared.stmt.Holder.{Holder}
use Rattle.exchange_model.specs.declared.stmt.Holder.TheVariants as holder
use Rattle.exchange_model.specs.declared.stmt.Receiver.{Receiver}
use Rattle.exchange_model.specs.declared.stmt.Receiver.TheVariants as receiver
use Rattle.exchange_model.specs.declared.stmt.StmtKind.TheOpen as stmt
use Rattle.exchange_model.specs.Cells.{Placed}
use Rattle.exchange_model.specs.Inside.{own_exprs}
use Rattle.source_meaning.specs.Config.{receiver_of}
use Rattle.source_meaning.specs.Changes.{variable_width, field_width}
use Rattle.source_meaning.specs.Named.{Layer}
use Rattle.source_meaning.specs.Deeds.{IsFileAt, IsEnd, receiver_in, signal_in}
use Rattle.flow_points.specs.declared.fact.Slot.TheVariants.{Temp, Depth, Awaits}
use Rattle.flow_points.specs.declared.fact.Value.{Value}
use Rattle.flow_points.specs.declared.fact.Value.TheVariants.{Const, Any}
use Rattle.flow_points.specs.declared.flow.Source.{Source}
use Rattle.flow_points.specs.declared.flow.Source.TheVariants.{Of, Is}
use Rattle.flow_points.specs.declared.flow.Passing.{Passing}
use Rattle.flow_points.specs.Places.{Place, StandsAt}
use Rattle.flow_points.specs.Sources.{expr_source}
use Rattle.flow_points.specs.Flows.{LeadsTo}
use Rattle.flow_points.specs.Facts.{Facts, Reached, SourceGives}
use Rattle.entry_summary.specs.Accesses.{IsForlopp, NamesField}

-- the value may be the number, of 32 bits
abbrev pub ValueMayBe : Value → ℕ → Type 0
ValueMayBe (Const c) n = n ≡ c
ValueMayBe _ n = n < 2 ^ 32

-- a value that comes from the source before the point may be the number
pub record SourceMayBe (P : Facts) (e p : ℕ) (s : Source) (n : ℕ) : Type 0 where
  pub value : Value
  pub comes : SourceGives P e p s value
  pub is : ValueMayBe value n

-- divisions

-- a factor: whether it is a number above 0, and whether something in it may be divided by 0
pub record Divisor : Type 0 where
  pub above_zero : Bool
  pub inside : Bool

abbrev pub divisor_of : {E J T : Type 0} → Factor-F E Bool J T → Divisor
divisor_of (Number n) = record { above_zero = nat_lt 0 n; inside = false }
divisor_of (Bracket inside) = record { above_zero = false; inside = inside }
divisor_of _ = record { above_zero = false; inside = false }

abbrev pub divides : FactorOp → Bool
divides Times = false
divides Divide = true
divides Modulo = true

abbrev pub joined_divides : {E J T : Type 0} → Joined-F Divisor E J T → Bool
joined_divides j = j.factor.inside || (divides j.by && not j.factor.above_zero)

-- some right factor of `/` or MOD in the expression is no number above 0
unfoldable pub may_divide_by_zero : Expr → Bool
may_divide_by_zero = fold-Expr Divisor Bool Bool Bool divisor_of (λ e. list_any (λ t. t) e.terms)
    joined_divides (λ t. list_any (λ j. j) t.factors)

-- pointers and references

-- a pointer of the statement to a record of a file: of a field that is read or written, or of FREE
pub data PointsAt : Layer → ℕ → ℕ → Type 0 where
  reads : (l : Layer) (file field pointer : ℕ) → NamesField l file field pointer
      → PointsAt l file pointer
  writes : (file field pointer : ℕ) (value : Expr)
      → PointsAt (stmt.SetField file field pointer value) file pointer
  frees : (temp file : ℕ) → PointsAt (stmt.Free temp file) file temp

abbrev pub holder_source : Holder → Source
holder_source (holder.Temporary t) = Of (Temp t)
holder_source (holder.Variable v) = Is Any

-- values of a width

-- the statement gives a variable or a field of the width the value of an expression
pub data PutsIn (x : Exchange) (b : ℕ) : Layer → Expr → ℕ → Type 0 where
  in_variable : (variable : ℕ) (value : Expr) → PutsIn x b (stmt.SetVariable variable value) value
      (variable_width x b variable)
  in_field : (file field pointer : ℕ) (value : Expr) (placed : Placed) → IsFileAt x file placed
      → PutsIn x b (stmt.SetField file field pointer value) value (field_width placed field)

-- faults of one statement

-- the statement of a block, at its point, may fault in a job of the entry
pub data FaultsAt (x : Exchange) (P : Facts) (e b p : ℕ) : Layer → Type 0 where
  no_record : (l : Layer) (file pointer n : ℕ) (placed : Placed) → PointsAt l file pointer
      → IsFileAt x file placed
      → SourceMayBe P e p (Of (Temp pointer)) n → placed.file.size ≤ n → FaultsAt x P e b p l
  no_receiver : (l : Layer) (h : Holder) (n : ℕ) → receiver_in l ≡ Some (receiver.Held h)
      → SourceMayBe P e p (holder_source h) n
      → receiver_of x (signal_in l) n ≡ None → FaultsAt x P e b p l
  too_wide : (l : Layer) (value : Expr) (width n : ℕ) → PutsIn x b l value width
      → SourceMayBe P e p (expr_source value) n → 2 ^ width ≤ n
      → FaultsAt x P e b p l
  divides_by_zero : (l : Layer) (value : Expr) → Contains (own_exprs l) value
      → may_divide_by_zero value ≡ true → FaultsAt x P e b p l
  not_own : (l : Layer) (file pointer : ℕ) → PointsAt l file pointer → IsForlopp x file
      → FaultsAt x P e b p l
  seizes : (temp file label : ℕ) → FaultsAt x P e b p (stmt.Seize temp file label)
  has_caller : (l : Layer) (n : ℕ) → IsEnd l → SourceMayBe P e p (Of Depth) n → 0 < n
      → FaultsAt x P e b p l
  no_caller : (answer : ℕ) (values : List Expr) → SourceMayBe P e p (Of Depth) 0
      → FaultsAt x P e b p (stmt.Return answer values)
  other_caller : (answer : ℕ) (values : List Expr) (n : ℕ) → SourceMayBe P e p (Of Awaits) n
      → n ≢ answer + 1
      → FaultsAt x P e b p (stmt.Return answer values)
  too_deep : (signal : ℕ) (to : Option Receiver) (values : List Expr) (fresh : Bool) (name : List ℕ)
      (count answer : ℕ)
      → slice_get x.signals signal ≡ Some (Combined name count answer)
      → SourceMayBe P e p (Of Depth) MOST_CALLERS
      → FaultsAt x P e b p (stmt.Send signal to values fresh)

-- a reached statement may fault
pub record SomeFaults (x : Exchange) (P : Facts) (e : ℕ) : Type 0 where
  pub at : Place
  pub point : ℕ
  pub stands : StandsAt x point at
  pub reached : Reached P e point
  pub faults : FaultsAt x P e at.block point at.layer

-- too many sends

-- a signal that joins the outbox
abbrev pub JoinsOutbox : Option SignalKind → Type 0
JoinsOutbox (Some (Buffered name level count)) = Unit {0}
JoinsOutbox (Some (Outside name count)) = Unit {0}
JoinsOutbox _ = ⊥

abbrev pub Posts : Exchange → Layer → Type 0
Posts x (stmt.Send signal to values fresh) = JoinsOutbox (slice_get x.signals signal)
Posts x _ = ⊥

-- a SEND to a buffer or out of the exchange stands at the point, which is reached
pub record PostsAt (x : Exchange) (P : Facts) (e point : ℕ) : Type 0 where
  pub at : Place
  pub stands : StandsAt x point at
  pub reached : Reached P e point
  pub posts : Posts x at.layer

-- at each of these points there is such a SEND
abbrev pub AllPost : (x : Exchange) → (P : Facts) → (e : ℕ) → (points : List ℕ) → Type 0
AllPost x P e points = (p : ℕ) → Contains points p → PostsAt x P e p

-- more such SENDs are reached than a job may make
pub record TooManySends (x : Exchange) (P : Facts) (e : ℕ) : Type 0 where
  pub points : List ℕ
  pub once : IsDistinct nat_eq points
  pub each : AllPost x P e points
  pub many : MOST_SENT < length points

-- too many statements

-- a flow leads from a reached point to another one
pub record FlowLeads (x : Exchange) (P : Facts) (e p q : ℕ) : Type 0 where
  pub at : Place
  pub stands : StandsAt x p at
  pub reached : Reached P e p
  pub how : Passing
  pub leads : LeadsTo x at q how

-- one or more flows, each from a reached point, lead there
pub data Walk (x : Exchange) (P : Facts) (e : ℕ) : ℕ → ℕ → Type 0 where
  Once : {p q : ℕ} → FlowLeads x P e p q → Walk x P e p q
  Then : {p q r : ℕ} → FlowLeads x P e p q → Walk x P e q r → Walk x P e p r

-- a reached point leads back to itself
pub record GoesRound (x : Exchange) (P : Facts) (e : ℕ) : Type 0 where
  pub point : ℕ
  pub walk : Walk x P e point point

-- a job of the entry may fault
abbrev pub MayFault : Exchange → Facts → ℕ → Type 0
MayFault x P e = SomeFaults x P e ⊎ TooManySends x P e ⊎ GoesRound x P e
