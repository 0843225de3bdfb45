-- The records at which an expression looks, by their files and the temporaries that point at them.
use Rattle.std.specs.Prelude.{ℕ, List, [], ◌∷◌, ◌++◌}
use Rattle.exchange_model.specs.declared.expr.Expr.{Expr}
use Rattle.source_meaning.specs.Named.{Named, NamedVariable, NamedField, named_in}
use Rattle.entry_faults.specs.declared.fields.Pointer.{Pointer}

abbrev pub pointer_to : ℕ → ℕ → Pointer
pointer_to file temp = record { file = file; temp = temp }

-- those of the fields among what is named
abbrev pub pointers_named : List Named → List Pointer
pointers_named [] = []
pointers_named (NamedVariable v ∷ ns) = pointers_named ns
pointers_named (NamedField file field temp ∷ ns) = pointer_to file temp ∷ pointers_named ns

-- those of some expressions
abbrev pub pointers_in : List Expr → List Pointer
pointers_in [] = []
pointers_in (e ∷ es) = pointers_named (named_in e) ++ pointers_in es
