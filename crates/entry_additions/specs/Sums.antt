-- Whether a statement adds to a variable or a field, as a boolean.
use Rattle.std.specs.Prelude.{ℕ, Bool, true, false, nat_eq, not, ◌&&◌, List, [], ◌∷◌, Option}
use Rattle.std.specs.Prelude.{slice_get}
use Rattle.std.specs.Option.{option_map_or}
use Rattle.std.specs.List.{count_by, list_any}
use Rattle.exchange_model.specs.declared.block.File.{File}
use Rattle.exchange_model.specs.declared.block.Variable.{Variable as Cell}
use Rattle.exchange_model.specs.declared.exchange.Exchange.{Exchange}
use Rattle.exchange_model.specs.declared.expr.Expr.{out-Expr}
use Rattle.exchange_model.specs.declared.expr.Factor.{Factor, out-Factor}
use Rattle.exchange_model.specs.declared.expr.Factor.TheOpen.{Factor-F, Field, Variable}
use Rattle.exchange_model.specs.declared.expr.FactorOp.{FactorOp}
use Rattle.exchange_model.specs.declared.expr.FactorOp.TheVariants.{Times, Divide, Modulo}
use Rattle.exchange_model.specs.declared.expr.Joined.{Joined}
use Rattle.exchange_model.specs.declared.expr.Term.{Term, out-Term}
use Rattle.exchange_model.specs.declared.stmt.StmtKind.TheOpen as stmt
use Rattle.exchange_model.specs.Cells.{Placed}
use Rattle.source_meaning.specs.Changes.{field_width, variable_width}
use Rattle.source_meaning.specs.Config.{files_of}
use Rattle.source_meaning.specs.Named.{Layer, Named, NamedField, NamedVariable}
use Rattle.entry_summary.specs.Numbers.{field_number, variable_number}
use Rattle.entry_additions.specs.declared.cells.CellKind.{CellKind}
use Rattle.entry_additions.specs.Cells.{is_of_fields, is_of_variables}
use Rattle.entry_additions.specs.Naming.{is_record_field_of, is_variable_of, term_names}

abbrev pub is_the_name : {E J T : Type 0} → Named → Factor-F Factor E J T → Bool
is_the_name n (Variable w) = is_variable_of n w
is_the_name n (Field file field pointer) = is_record_field_of n file field pointer
is_the_name n _ = false

abbrev pub is_times : FactorOp → Bool
is_times Times = true
is_times Divide = false
is_times Modulo = false

-- the factors are the name and nothing else
abbrev pub is_alone : Named → List Joined → Bool
is_alone n (j ∷ []) = is_times j.by && is_the_name n (out-Factor j.factor)
is_alone n _ = false

-- the term is the name and nothing else, without a minus
abbrev pub is_own : Named → Term → Bool
is_own n t = not (out-Term t).minus && is_alone n (out-Term t).factors

-- exactly one of the terms names the variable or field, and one is the name and nothing else
abbrev pub is_sum : Named → List Term → Bool
is_sum n ts = nat_eq (count_by (term_names n) ts) 1 && list_any (is_own n) ts

-- the width of a field of a file, if there is one

abbrev pub width_at : File → ℕ → ℕ
width_at f field = option_map_or (λ (e : Cell). e.width) (slice_get f.fields field) 0

abbrev pub width_in : Option Placed → ℕ → ℕ
width_in o field = option_map_or (λ (p : Placed). field_width p field) o 0

-- the statement adds to the variable or field of this number
abbrev pub adds : Exchange → ℕ → CellKind → ℕ → Layer → Bool
adds x b k number (stmt.SetVariable v e) =
    is_of_variables k && nat_eq (variable_number x b v) number && nat_eq (variable_width x b v) 32
    && is_sum (NamedVariable v) (out-Expr e).terms
adds x b k number (stmt.SetField file field pointer e) =
    is_of_fields k && nat_eq (field_number x file field) number
    && nat_eq (width_in (slice_get (files_of x) file) field) 32
    && is_sum (NamedField file field pointer) (out-Expr e).terms
adds x b k number _ = false
