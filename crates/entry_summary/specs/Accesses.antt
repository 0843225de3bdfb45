-- What the statement at a point may do to stored data. One line for each way that the text has.
use Rattle.std.specs.Prelude.{◌≡◌, ℕ, ◌<◌, true, false, length, Some}
use Rattle.std.specs.List.{Contains}
use Rattle.exchange_model.specs.declared.exchange.Exchange.{Exchange}
use Rattle.exchange_model.specs.declared.expr.Expr.{Expr}
use Rattle.exchange_model.specs.declared.expr.Rel.{Rel}
use Rattle.exchange_model.specs.declared.stmt.Holder.TheVariants as holder
use Rattle.exchange_model.specs.declared.stmt.Receiver.TheVariants as receiver
use Rattle.exchange_model.specs.declared.stmt.StmtKind.TheOpen as stmt
use Rattle.exchange_model.specs.Cells.{Placed}
use Rattle.exchange_model.specs.Inside.{own_exprs}
use Rattle.source_meaning.specs.Named.{Layer, NamedVariable, NamedField, named_in}
use Rattle.source_meaning.specs.Deeds.{IsFileAt, receiver_in}
use Rattle.flow_points.specs.declared.fact.Slot.TheVariants.{Temp}
use Rattle.flow_points.specs.declared.fact.Value.{Value}
use Rattle.flow_points.specs.declared.fact.Value.TheVariants.{Any}
use Rattle.entry_summary.specs.declared.summary.Access.{Access}
use Rattle.entry_summary.specs.declared.summary.Access.TheVariants.{Variable, Field, Own, Seizes}
use Rattle.entry_summary.specs.declared.summary.Access.TheVariants.{Frees}
use Rattle.flow_points.specs.Places.{Place, StandsAt}
use Rattle.flow_points.specs.Facts.{Facts, Known, Reached}
use Rattle.entry_summary.specs.Numbers.{variable_number, field_number}

-- the file of this number is a plain one, or a forlopp file
pub record IsPlain (x : Exchange) (file : ℕ) : Type 0 where
  pub placed : Placed
  pub there : IsFileAt x file placed
  pub plain : placed.file.forlopp ≡ false

pub record IsForlopp (x : Exchange) (file : ℕ) : Type 0 where
  pub placed : Placed
  pub there : IsFileAt x file placed
  pub forlopp : placed.file.forlopp ≡ true

-- an expression of the statement names the variable, or the field with its pointer
pub record NamesVariable (l : Layer) (variable : ℕ) : Type 0 where
  pub expr : Expr
  pub own : Contains (own_exprs l) expr
  pub named : Contains (named_in expr) (NamedVariable variable)

pub record NamesField (l : Layer) (file field pointer : ℕ) : Type 0 where
  pub expr : Expr
  pub own : Contains (own_exprs l) expr
  pub named : Contains (named_in expr) (NamedField file field pointer)

-- an access of the statement of a block, at its point, in a job of the entry
pub data Accesses (x : Exchange) (P : Facts) (e b p : ℕ) : Layer → Access → Type 0 where
  reads : (l : Layer) (variable : ℕ) → NamesVariable l variable
      → Accesses x P e b p l (Variable false (variable_number x b variable))
  reads_holder : (l : Layer) (variable : ℕ) → receiver_in l
      ≡ Some (receiver.Held (holder.Variable variable))
      → Accesses x P e b p l (Variable false (variable_number x b variable))
  writes : (variable : ℕ) (value : Expr) → Accesses x P e b p (stmt.SetVariable variable value)
      (Variable true (variable_number x b variable))
  reads_field : (l : Layer) (file field pointer : ℕ) (v : Value) → NamesField l file field pointer
      → IsPlain x file → Known P e p (Temp pointer) v
      → Accesses x P e b p l (Field false (field_number x file field) v)
  writes_field : (file field pointer : ℕ) (value : Expr) (v : Value) → IsPlain x file
      → Known P e p (Temp pointer) v
      → Accesses x P e b p (stmt.SetField file field pointer value)
      (Field true (field_number x file field) v)
  searches : (temp file field : ℕ) (rel : Rel) (value : Expr) (label : ℕ)
      → Accesses x P e b p (stmt.ForFirst temp file field rel value label)
      (Field false (field_number x file field) Any)
  reads_own : (l : Layer) (file field pointer : ℕ) → NamesField l file field pointer
      → IsForlopp x file
      → Accesses x P e b p l (Own false (field_number x file field))
  writes_own : (file field pointer : ℕ) (value : Expr) → IsForlopp x file
      → Accesses x P e b p (stmt.SetField file field pointer value)
      (Own true (field_number x file field))
  opens_own : (temp file field : ℕ) (placed : Placed) → IsFileAt x file placed
      → field < length placed.file.fields
      → Accesses x P e b p (stmt.Free temp file) (Own true (field_number x file field))
  seizes : (temp file label : ℕ) → Accesses x P e b p (stmt.Seize temp file label) (Seizes file)
  frees : (temp file : ℕ) → Accesses x P e b p (stmt.Free temp file) (Frees file)

-- a job of the entry may reach a statement with this access
pub record IsAccess (x : Exchange) (P : Facts) (e : ℕ) (a : Access) : Type 0 where
  pub at : Place
  pub point : ℕ
  pub stands : StandsAt x point at
  pub reached : Reached P e point
  pub access : Accesses x P e at.block point at.layer a
