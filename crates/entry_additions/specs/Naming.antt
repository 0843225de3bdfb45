-- Whether expressions name a variable, or a field of any record, as a boolean.
use Rattle.std.specs.Prelude.{ℕ, Bool, false, nat_eq, ◌&&◌}
use Rattle.std.specs.List.{list_any}
use Rattle.exchange_model.specs.declared.expr.Expr.{Expr}
use Rattle.exchange_model.specs.declared.expr.Factor.{Factor}
use Rattle.exchange_model.specs.declared.expr.Joined.{Joined}
use Rattle.exchange_model.specs.declared.expr.Term.{Term}
use Rattle.source_meaning.specs.Named.{Named, NamedVariable, NamedField, named_in, named_in_factor}
use Rattle.source_meaning.specs.Named.{named_in_term}
use Rattle.entry_additions.specs.declared.assigned.Assigned.{Assigned}
use Rattle.entry_additions.specs.declared.assigned.Assigned.TheVariants as assigned

-- the name of what a statement assigns to
abbrev pub named_of : Assigned → Named
named_of (assigned.Variable v) = NamedVariable v
named_of (assigned.Field file field pointer) = NamedField file field pointer

-- the name is that of this variable; of this field in any record; of this field in this record

abbrev pub is_variable_of : Named → ℕ → Bool
is_variable_of (NamedVariable v) w = nat_eq w v
is_variable_of (NamedField file field pointer) w = false

abbrev pub is_field_of : Named → ℕ → ℕ → Bool
is_field_of (NamedVariable v) f g = false
is_field_of (NamedField file field pointer) f g = nat_eq f file && nat_eq g field

abbrev pub is_record_field_of : Named → ℕ → ℕ → ℕ → Bool
is_record_field_of (NamedVariable v) f g p = false
is_record_field_of (NamedField file field pointer) f g p =
    nat_eq f file && nat_eq g field && nat_eq p pointer

-- another name is that of the same variable, or of the same field in any record
abbrev pub is_named : Named → Named → Bool
is_named n (NamedVariable w) = is_variable_of n w
is_named n (NamedField f g p) = is_field_of n f g

abbrev pub expr_names : Named → Expr → Bool
expr_names n e = list_any (is_named n) (named_in e)

abbrev pub term_names : Named → Term → Bool
term_names n t = list_any (is_named n) (named_in_term t)

abbrev pub factor_names : Named → Factor → Bool
factor_names n f = list_any (is_named n) (named_in_factor f)

abbrev pub joined_names : Named → Joined → Bool
joined_names n j = factor_names n j.factor
