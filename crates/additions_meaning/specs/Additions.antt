-- Additions to variables and to fields of plain files.
--
-- A statement adds to a variable where it gives it the sum of its own value and of terms that do
-- not name it. Two such statements leave the same sum in either order, since numbers are modulo
-- 2^32 and none is too wide for 32 bits. An entry only adds to a variable where each access to it,
-- at each statement that its jobs may reach, is one of such a statement: then no job of the entry
-- looks at its value for anything else. So it is of a field, whatever record it is of: the term is
-- the field of the record of the same pointer, and no other term names the field of any record.
use Rattle.std.specs.Prelude.{◌≡◌, ◌⊎◌, ℕ, Bool, false, List, [], ◌∷◌, ◌++◌}
use Rattle.std.specs.List.{AllByRecursion, Contains}
use Rattle.exchange_model.specs.declared.exchange.Exchange.{Exchange}
use Rattle.exchange_model.specs.declared.expr.Expr.{Expr, out-Expr}
use Rattle.exchange_model.specs.declared.expr.Term.{Term, out-Term}
use Rattle.exchange_model.specs.declared.expr.Joined.{Joined}
use Rattle.exchange_model.specs.declared.expr.Factor.{Factor}
use Rattle.exchange_model.specs.declared.expr.Factor.TheVariants as factor
use Rattle.exchange_model.specs.declared.expr.FactorOp.TheVariants.{Times}
use Rattle.exchange_model.specs.declared.stmt.StmtKind.TheOpen as stmt
use Rattle.exchange_model.specs.Cells.{Placed}
use Rattle.source_meaning.specs.Named.{Layer, Named, NamedField, NamedVariable, named_in_term}
use Rattle.source_meaning.specs.Changes.{field_width, variable_width}
use Rattle.source_meaning.specs.Deeds.{IsFileAt}
use Rattle.flow_points.specs.declared.fact.Value.{Value}
use Rattle.flow_points.specs.Places.{Place, StandsAt}
use Rattle.flow_points.specs.Facts.{Facts, Reached}
use Rattle.entry_summary.specs.declared.summary.Access.TheVariants.{Field, Variable}
use Rattle.entry_summary.specs.Accesses.{Accesses, IsPlain}
use Rattle.entry_summary.specs.Numbers.{field_number, variable_number}
use Rattle.start_permit.specs.Granted.{IsFieldNumber, IsOfField, IsVariableWord, OneOf}

-- the factor that is this name alone
abbrev pub factor_of : Named → Factor
factor_of (NamedVariable v) = factor.Variable v
factor_of (NamedField file field pointer) = factor.Field file field pointer

-- a term that is the name alone, and is not taken away
pub record IsNameTerm (n : Named) (t : Term) : Type 0 where
  pub plus : (out-Term t).minus ≡ false
  pub only : (out-Term t).factors ≡ record { by = Times; factor = factor_of n } ∷ []

-- a term that does not name the variable, or the field of any record, at whatever depth
abbrev pub NamesNone : Named → Term → Type 0
NamesNone (NamedVariable v) t = Contains (named_in_term t) (NamedVariable v) → ⊥
NamesNone (NamedField file field pointer) t = (other : ℕ)
    → Contains (named_in_term t) (NamedField file field other) → ⊥

-- one term of the sum is the name alone, and no other one names the same variable or field
pub record IsAdditionTo (n : Named) (e : Expr) : Type 0 where
  pub before : List Term
  pub own : Term
  pub after : List Term
  pub terms : (out-Expr e).terms ≡ before ++ own ∷ after
  pub alone : IsNameTerm n own
  pub front : AllByRecursion (NamesNone n) before
  pub back : AllByRecursion (NamesNone n) after

-- these of a variable
abbrev pub IsOwnTerm : ℕ → Term → Type 0
IsOwnTerm v t = IsNameTerm (NamedVariable v) t

abbrev pub NamesNot : ℕ → Term → Type 0
NamesNot v t = NamesNone (NamedVariable v) t

abbrev pub IsAddition : ℕ → Expr → Type 0
IsAddition v e = IsAdditionTo (NamedVariable v) e

-- a statement of the block that adds to the variable of this number through the exchange, which has
-- all 32 bits
pub data AddsTo (x : Exchange) (b number : ℕ) : Layer → Type 0 where
  adds : (v : ℕ) (e : Expr) → number ≡ variable_number x b v → IsAddition v e
      → variable_width x b v ≡ 32 → AddsTo x b number (stmt.SetVariable v e)

-- a statement that adds to the field of this number through the exchange, which has all 32 bits
pub data AddsToField (x : Exchange) (number : ℕ) : Layer → Type 0 where
  adds_field : (file field pointer : ℕ) (e : Expr) (placed : Placed)
      → number ≡ field_number x file field → IsFileAt x file placed
      → IsAdditionTo (NamedField file field pointer) e → field_width placed field ≡ 32
      → AddsToField x number (stmt.SetField file field pointer e)

-- wherever a job of the entry may access the variable, the statement adds to it
abbrev pub OnlyAddsTo : Exchange → Facts → ℕ → ℕ → Type 0
OnlyAddsTo x P entry number = (at : Place) (point : ℕ) → StandsAt x point at → Reached P entry point
    → (write : Bool) → Accesses x P entry at.block point at.layer (Variable write number)
    → AddsTo x at.block number at.layer

-- so it is of each of these variables, by number
abbrev pub OnlyAddsToAll : Exchange → Facts → ℕ → List ℕ → Type 0
OnlyAddsToAll x P entry numbers = (n : ℕ) → Contains numbers n → OnlyAddsTo x P entry n

-- wherever a job of the entry may access the field, of whatever record, the statement adds to it
abbrev pub AddsAtField : Exchange → Facts → ℕ → ℕ → Type 0
AddsAtField x P entry number = (at : Place) (point : ℕ) → StandsAt x point at
    → Reached P entry point → (write : Bool) (selector : Value)
    → Accesses x P entry at.block point at.layer (Field write number selector)
    → AddsToField x number at.layer

-- and the field is of a plain file
pub record OnlyAddsToField (x : Exchange) (P : Facts) (entry number : ℕ) : Type 0 where
  pub plain : (file field : ℕ) → IsFieldNumber x number file field → IsPlain x file
  pub adds : AddsAtField x P entry number

-- variables and fields, by number
pub record Targets : Type 0 where
  pub variables : List ℕ
  pub fields : List ℕ

-- an entry only adds to each of these
pub record OnlyAddsToEach (x : Exchange) (P : Facts) (entry : ℕ) (d : Targets) : Type 0 where
  pub variables : OnlyAddsToAll x P entry d.variables
  pub fields : (n : ℕ) → Contains d.fields n → OnlyAddsToField x P entry n

-- the word of the field of this number in some record
abbrev pub IsFieldWord : Exchange → ℕ → ℕ → Type 0
IsFieldWord x number word = IsOfField x number (λ file record_number. Unit {0}) word

-- the word of one of these variables, or of one of these fields in some record
abbrev pub IsAddedWord : Exchange → Targets → ℕ → Type 0
IsAddedWord x d word =
    OneOf (IsVariableWord x) d.variables word ⊎ OneOf (IsFieldWord x) d.fields word
