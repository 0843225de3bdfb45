-- The variables and fields to which the jobs of an entry only add.
use Rattle.std.specs.Prelude.{◌↔◌, ℕ, Bool, true}
use Rattle.std.specs.List.{Contains}
use Rattle.exchange_model.specs.declared.exchange.Exchange.{Exchange}
use Rattle.flow_points.specs.declared.fact.Value.{Value}
use Rattle.flow_points.specs.Facts.{Facts}
use Rattle.entry_summary.specs.declared.summary.Access.TheVariants.{Field, Variable}
use Rattle.entry_summary.specs.Accesses.{IsAccess}
use Rattle.additions_meaning.specs.Additions.{AddsAtField, OnlyAddsTo, Targets}

-- a job of the entry may write the variable, and wherever one may access it, the statement adds to
-- it
pub record IsAdded (x : Exchange) (P : Facts) (entry number : ℕ) : Type 0 where
  pub written : IsAccess x P entry (Variable true number)
  pub only : OnlyAddsTo x P entry number

-- so it is of a field of a plain file, of whatever record
pub record IsAddedField (x : Exchange) (P : Facts) (entry number : ℕ) : Type 0 where
  pub write : Bool
  pub selector : Value
  pub accessed : IsAccess x P entry (Field write number selector)
  pub only : AddsAtField x P entry number

-- these variables and fields, by number, and no others
pub record AreAdded (x : Exchange) (P : Facts) (entry : ℕ) (d : Targets) : Type 0 where
  pub variables : (n : ℕ) → Contains d.variables n ↔ IsAdded x P entry n
  pub fields : (n : ℕ) → Contains d.fields n ↔ IsAddedField x P entry n

-- the two lists have the same variables and the same fields
pub record HaveTheSame (d e : Targets) : Type 0 where
  pub variables : (n : ℕ) → Contains d.variables n ↔ Contains e.variables n
  pub fields : (n : ℕ) → Contains d.fields n ↔ Contains e.fields n

-- those that two lists have
pub record AreOfBoth (d e shared : Targets) : Type 0 where
  pub variables : (n : ℕ)
      → Contains shared.variables n ↔ (Contains d.variables n × Contains e.variables n)
  pub fields : (n : ℕ) → Contains shared.fields n ↔ (Contains d.fields n × Contains e.fields n)
