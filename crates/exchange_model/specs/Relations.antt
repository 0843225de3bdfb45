-- How numbers stand to one another.
use Rattle.std.specs.Prelude.{ℕ, Bool, nat_lt, nat_le, nat_eq, not}
use Rattle.exchange_model.specs.declared.expr.Rel.{Rel}
use Rattle.exchange_model.specs.declared.expr.Rel.TheVariants.{Equal, Unequal, Below, AtMost, Above}
use Rattle.exchange_model.specs.declared.expr.Rel.TheVariants.{AtLeast}

-- whether a number stands so to another
abbrev pub stands : Rel → ℕ → ℕ → Bool
stands Equal a b = nat_eq a b
stands Unequal a b = not (nat_eq a b)
stands Below a b = nat_lt a b
stands AtMost a b = nat_le a b
stands Above a b = nat_lt b a
stands AtLeast a b = nat_le b a
