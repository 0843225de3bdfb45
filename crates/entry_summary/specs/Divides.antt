-- Whether a term, a factor and what joins it may divide by 0.
use Rattle.std.specs.Prelude.{Bool, false, nat_lt, not, ◌&&◌, ◌||◌}
use Rattle.std.specs.List.{list_any}
use Rattle.exchange_model.specs.declared.expr.Term.{Term, fold-Term}
use Rattle.exchange_model.specs.declared.expr.Joined.{Joined}
use Rattle.exchange_model.specs.declared.expr.Factor.{Factor, fold-Factor, out-Factor}
use Rattle.exchange_model.specs.declared.expr.Factor.TheOpen.{Factor-F, Number}
use Rattle.entry_summary.specs.Faults.{Divisor, divisor_of, divides, joined_divides}

unfoldable pub term_divides : Term → Bool
term_divides = fold-Term Divisor Bool Bool Bool divisor_of (λ e. list_any (λ t. t) e.terms)
    joined_divides (λ t. list_any (λ j. j) t.factors)

unfoldable pub divisor_in : Factor → Divisor
divisor_in = fold-Factor Divisor Bool Bool Bool divisor_of (λ e. list_any (λ t. t) e.terms)
    joined_divides (λ t. list_any (λ j. j) t.factors)

-- a factor is a number above 0
abbrev pub above_zero : {E F J T : Type 0} → Factor-F F E J T → Bool
above_zero (Number n) = nat_lt 0 n
above_zero _ = false

-- a factor with what joins it
abbrev pub joins_badly : Joined → Bool
joins_badly j = (divisor_in j.factor).inside || (divides j.by
    && not (above_zero (out-Factor j.factor)))
