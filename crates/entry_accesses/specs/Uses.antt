-- What statements do to stored data, before facts tell which records pointers mean.
use Rattle.std.specs.Prelude.{◌≡◌, ℕ, Bool, true, false, List, [], ◌∷◌, ◌++◌, map, Option, Some}
use Rattle.std.specs.Prelude.{None, slice_get, if◌then◌else◌}
use Rattle.exchange_model.specs.declared.exchange.Exchange.{Exchange}
use Rattle.exchange_model.specs.declared.stmt.Holder.TheVariants as holder
use Rattle.exchange_model.specs.declared.stmt.Receiver.{Receiver}
use Rattle.exchange_model.specs.declared.stmt.Receiver.TheVariants as receiver
use Rattle.exchange_model.specs.declared.stmt.StmtKind.TheOpen as stmt
use Rattle.exchange_model.specs.Cells.{Placed}
use Rattle.exchange_model.specs.Inside.{joined}
use Rattle.source_meaning.specs.Config.{files_of}
use Rattle.source_meaning.specs.Deeds.{receiver_in}
use Rattle.source_meaning.specs.Named.{Layer, Named, NamedVariable, NamedField}
use Rattle.flow_points.specs.declared.fact.Slot.TheVariants.{Temp}
use Rattle.flow_points.specs.declared.fact.Value.{Value}
use Rattle.flow_points.specs.declared.fact.Value.TheVariants.{Any}
use Rattle.flow_points.specs.declared.flow.Source.TheVariants.{Of, Is}
use Rattle.flow_points.specs.Facts.{Facts, SourceGives}
use Rattle.entry_summary.specs.declared.summary.Access.{Access}
use Rattle.entry_summary.specs.declared.summary.Access.TheVariants as access
use Rattle.entry_summary.specs.Numbers.{variable_number, field_number}
use Rattle.entry_accesses.specs.Operands.{layer_names}
use Rattle.entry_accesses.specs.declared.uses.Use.{Use}
use Rattle.entry_accesses.specs.declared.uses.Use.TheVariants as use_of

-- a field of a forlopp file, or of a plain one in the record that a temporary has
abbrev pub field_use : Bool → Bool → ℕ → ℕ → Use
field_use forlopp write number pointer =
    (if forlopp then use_of.Own write number else use_of.Field write number (Of (Temp pointer)))

abbrev pub field_uses : Option Placed → Bool → ℕ → ℕ → List Use
field_uses None write number pointer = []
field_uses (Some p) write number pointer = field_use p.file.forlopp write number pointer ∷ []

-- what a block names, read or written
abbrev pub named_uses : Exchange → ℕ → Bool → Named → List Use
named_uses x b write (NamedVariable v) = use_of.Variable write (variable_number x b v) ∷ []
named_uses x b write (NamedField file field pointer) =
    field_uses (slice_get (files_of x) file) write (field_number x file field) pointer

-- all these names, read
abbrev pub read_uses : Exchange → ℕ → List Named → List Use
read_uses x b names = joined (map (named_uses x b false) names)

-- the variable in which the reference to a receiver is held
abbrev pub holder_uses : Exchange → ℕ → Option Receiver → List Use
holder_uses x b (Some (receiver.Held (holder.Variable v))) = named_uses x b false (NamedVariable v)
holder_uses x b _ = []

-- what a statement does besides reading what it names and where its receiver is held, but for the
-- fields that FREE opens
abbrev pub done_uses : Exchange → ℕ → Layer → List Use
done_uses x b (stmt.SetVariable variable value) = named_uses x b true (NamedVariable variable)
done_uses x b (stmt.SetField file field pointer value) =
    named_uses x b true (NamedField file field pointer)
done_uses x b (stmt.ForFirst temp file field rel value label) =
    use_of.Field false (field_number x file field) (Is Any) ∷ []
done_uses x b (stmt.Seize temp file label) = use_of.Seizes file ∷ []
done_uses x b (stmt.Free temp file) = use_of.Frees file ∷ []
done_uses x b _ = []

-- all that a statement of a block does, but for those fields
abbrev pub layer_uses : Exchange → ℕ → Layer → List Use
layer_uses x b l = read_uses x b (layer_names l)
    ++ (holder_uses x b (receiver_in l) ++ done_uses x b l)

-- which accesses these are, before a point in a job of an entry
abbrev pub UseGives : Facts → ℕ → ℕ → Use → Access → Type 0
UseGives P e p (use_of.Variable write number) a = a ≡ access.Variable write number
UseGives P e p (use_of.Field write number source) a =
    (v : Value) × SourceGives P e p source v × (a ≡ access.Field write number v)
UseGives P e p (use_of.Own write number) a = a ≡ access.Own write number
UseGives P e p (use_of.Seizes file) a = a ≡ access.Seizes file
UseGives P e p (use_of.Frees file) a = a ≡ access.Frees file
