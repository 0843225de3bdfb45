-- What is asked at a statement, and where one surely may fault: one line for each kind of statement
-- that has it.
use Rattle.std.specs.Prelude.{ℕ, Bool, true, false, List, [], ◌∷◌, ◌++◌, Option, Some, None}
use Rattle.std.specs.Prelude.{slice_get}
use Rattle.std.specs.List.{Contains}
use Rattle.std.specs.Option.{option_to_list}
use Rattle.plex_limits.specs.declared.limits.TheConstants.{MOST_CALLERS}
use Rattle.exchange_model.specs.declared.block.FilePlace.{FilePlace}
use Rattle.exchange_model.specs.declared.exchange.Exchange.{Exchange}
use Rattle.exchange_model.specs.declared.expr.Expr.{Expr}
use Rattle.exchange_model.specs.declared.signal.SignalKind.{SignalKind}
use Rattle.exchange_model.specs.declared.signal.SignalKind.TheVariants.{Combined}
use Rattle.exchange_model.specs.declared.stmt.Receiver.{Receiver}
use Rattle.exchange_model.specs.declared.stmt.Receiver.TheVariants as receiver
use Rattle.exchange_model.specs.declared.stmt.StmtKind.{out-StmtKind}
use Rattle.exchange_model.specs.declared.stmt.StmtKind.TheOpen as stmt
use Rattle.exchange_model.specs.Cells.{Placed}
use Rattle.exchange_model.specs.Inside.{own_exprs}
use Rattle.source_meaning.specs.Changes.{variable_width, field_width}
use Rattle.source_meaning.specs.Config.{files_of}
use Rattle.source_meaning.specs.Deeds.{receiver_in, signal_in}
use Rattle.source_meaning.specs.Named.{Layer}
use Rattle.flow_points.specs.declared.fact.Slot.TheVariants.{Temp, Depth, Awaits}
use Rattle.flow_points.specs.declared.flow.Source.TheVariants.{Of}
use Rattle.flow_points.specs.Facts.{Facts, Reached}
use Rattle.flow_points.specs.Sources.{expr_source}
use Rattle.flow_table.specs.declared.place.PlaceAt.{PlaceAt}
use Rattle.entry_summary.specs.Faults.{holder_source, FaultsAt}
use Rattle.entry_faults.specs.declared.fields.Pointer.{Pointer}
use Rattle.entry_faults.specs.declared.question.Asked.TheVariants.{AtLeast, TooWide, Equal}
use Rattle.entry_faults.specs.declared.question.Asked.TheVariants.{OtherAnswer, NoReceiver}
use Rattle.entry_faults.specs.declared.question.Question.{Question}
use Rattle.entry_faults.specs.Asking.{MayAnswer}
use Rattle.entry_faults.specs.Fields.{pointer_to, pointers_in}

-- a file by its number
abbrev pub placed_as : Option FilePlace → Option Placed
placed_as None = None
placed_as (Some p) = Some (record { block = p.block; file = p.file.now; first = p.first })

abbrev pub file_at : Exchange → ℕ → Option Placed
file_at x file = slice_get (files_of x) file

-- pointers

-- the record that a statement itself writes or frees
abbrev pub own_pointer : Layer → Option Pointer
own_pointer (stmt.SetField file field temp value) = Some (pointer_to file temp)
own_pointer (stmt.Free temp file) = Some (pointer_to file temp)
own_pointer _ = None

abbrev pub pointers_at : Layer → List Pointer
pointers_at l = pointers_in (own_exprs l) ++ option_to_list (own_pointer l)

abbrev pub is_forlopp : Option Placed → Bool
is_forlopp None = false
is_forlopp (Some placed) = placed.file.forlopp

abbrev pub points_at_forlopp : Exchange → Pointer → Bool
points_at_forlopp x p = is_forlopp (file_at x p.file)

abbrev pub size_question : ℕ → Option Placed → Option Question
size_question temp None = None
size_question temp (Some placed) =
    Some (record { source = Of (Temp temp); asked = AtLeast placed.file.size })

abbrev pub pointer_question : Exchange → Pointer → Option Question
pointer_question x p = size_question p.temp (file_at x p.file)

-- one of these pointers may lead to no record
pub record AnyMisses (x : Exchange) (P : Facts) (e p : ℕ) (pointers : List Pointer) : Type 0 where
  pub pointer : Pointer
  pub one : Contains pointers pointer
  pub misses : MayAnswer x P e p (pointer_question x pointer)

-- values

abbrev pub wide_question : Expr → ℕ → Question
wide_question value width = record { source = expr_source value; asked = TooWide width }

abbrev pub field_question : Option Placed → ℕ → Expr → Option Question
field_question None field value = None
field_question (Some placed) field value = Some (wide_question value (field_width placed field))

abbrev pub width_question : Exchange → ℕ → Layer → Option Question
width_question x b (stmt.SetVariable variable value) =
    Some (wide_question value (variable_width x b variable))
width_question x b (stmt.SetField file field temp value) =
    field_question (file_at x file) field value
width_question x b _ = None

-- signals

abbrev pub held_question : Option Receiver → ℕ → Option Question
held_question (Some (receiver.Held holder)) signal =
    Some (record { source = holder_source holder; asked = NoReceiver signal })
held_question _ signal = None

abbrev pub receiver_question : Layer → Option Question
receiver_question l = held_question (receiver_in l) (signal_in l)

abbrev pub call_question : Option SignalKind → Option Question
call_question (Some (Combined name count answer)) =
    Some (record { source = Of Depth; asked = Equal MOST_CALLERS })
call_question _ = None

abbrev pub depth_question : Exchange → Layer → Option Question
depth_question x (stmt.Send signal to values fresh) = call_question (slice_get x.signals signal)
depth_question x _ = None

-- ends

abbrev pub end_question : Layer → Option Question
end_question stmt.Exit = Some (record { source = Of Depth; asked = AtLeast 1 })
end_question stmt.Finish = Some (record { source = Of Depth; asked = AtLeast 1 })
end_question (stmt.Return answer values) = Some (record { source = Of Depth; asked = Equal 0 })
end_question _ = None

abbrev pub awaits_question : Layer → Option Question
awaits_question (stmt.Return answer values) =
    Some (record { source = Of Awaits; asked = OtherAnswer answer })
awaits_question _ = None

abbrev pub is_seize : Layer → Bool
is_seize (stmt.Seize temp file label) = true
is_seize _ = false

-- a statement is reached and may fault
pub record FaultsHere (x : Exchange) (P : Facts) (e : ℕ) (at : PlaceAt) : Type 0 where
  pub reached : Reached P e at.point
  pub faults : FaultsAt x P e at.block at.point (out-StmtKind at.kind.now)
