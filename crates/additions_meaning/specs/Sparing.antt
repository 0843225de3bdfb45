-- Summaries without their accesses to listed variables and fields.
use Rattle.std.specs.Prelude.{◌≡◌, ◌↔◌}
use Rattle.std.specs.List.{Contains}
use Rattle.entry_summary.specs.declared.summary.Access.{Access}
use Rattle.entry_summary.specs.declared.summary.Access.TheVariants.{Field, Variable}
use Rattle.entry_summary.specs.declared.summary.Summary.{Summary}
use Rattle.additions_meaning.specs.Additions.{Targets}

-- an access to one of these variables, or to one of these fields, of whatever record
abbrev pub IsSpared : Targets → Access → Type 0
IsSpared d (Variable write number) = Contains d.variables number
IsSpared d (Field write number selector) = Contains d.fields number
IsSpared d _ = ⊥

-- the second summary is the first one without these accesses
pub record IsSparing (d : Targets) (m n : Summary) : Type 0 where
  pub level : n.level ≡ m.level
  pub accesses : (a : Access)
      → Contains n.accesses a ↔ (Contains m.accesses a × (IsSpared d a → ⊥))
  pub levels : n.levels ≡ m.levels
  pub fault : n.fault ≡ m.fault
