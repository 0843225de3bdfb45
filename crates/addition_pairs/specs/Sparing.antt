-- Which accesses are to listed variables and fields, as a truth value.
use Rattle.std.specs.Prelude.{◌↔◌, ℕ, Bool, true, not, nat_eq, ◌&&◌, List, length}
use Rattle.std.specs.List.{Contains, list_any}
use Rattle.entry_summary.specs.declared.summary.Access.{Access}
use Rattle.entry_summary.specs.declared.summary.Access.TheVariants.{Field, Variable}
use Rattle.additions_meaning.specs.Additions.{Targets}

-- the numbers that both lists have
abbrev pub HasBoth : List ℕ → List ℕ → List ℕ → Type 0
HasBoth first later both = (n : ℕ) → Contains both n ↔ (Contains first n × Contains later n)

abbrev pub is_in : List ℕ → ℕ → Bool
is_in numbers n = list_any (nat_eq n) numbers

abbrev pub is_nothing : Targets → Bool
is_nothing d = nat_eq (length d.variables) 0 && nat_eq (length d.fields) 0

-- the access is to none of these
abbrev pub is_kept : Targets → Access → Bool
is_kept d (Variable write number) = not (is_in d.variables number)
is_kept d (Field write number selector) = not (is_in d.fields number)
is_kept d _ = true
