-- What a statement that gives something a value does.
use Rattle.std.proofs.Common.{◌≡◌, ℕ, ◌+◌, List, Option, Some, None, Ok, Err, refl, subst}
use Rattle.std.proofs.Common.{slice_get}
use Rattle.std.specs.Prelude.{slice_set, slice_index}
use Rattle.job_types.specs.declared.fault.Fault.{Fault}
use Rattle.job_types.specs.declared.touch.Touch.{Touch}
use Rattle.exchange_model.specs.declared.expr.Expr.{Expr}
use Rattle.exchange_model.specs.declared.stmt.StmtKind.TheOpen as stmt
use Rattle.exchange_model.specs.Cells.{Placed, field_cell}
use Rattle.source_meaning.specs.Value.{answer_of, expr_value, pointer_fault}
use Rattle.source_interpreter.specs.Checks.{unless, range_check}
use Rattle.source_meaning.specs.Config.{Config, Item, base_of, files_of}
use Rattle.source_meaning.specs.Step.{does}
use Rattle.source_meaning.specs.Changes.{where_fits, goes, sets_temp, sets_cell, at_record}
use Rattle.source_meaning.specs.Changes.{sets_field, variable_width, field_width}
use Rattle.source_interpreter.specs.Running.{Running, sight_of, with_temp}
use Rattle.source_interpreter.specs.Leaves.{Leaves, Does}
use Rattle.source_interpreter.specs.declared.stop.Stop.{Stop}
use Rattle.source_interpreter.specs.declared.stop.Stop.TheVariants as stop
use Rattle.source_interpreter.proofs.Follow.{Answer, start_of, value_goes, value_stops, unless_goes}
use Rattle.source_interpreter.proofs.Follow.{unless_stops, fits_goes, fits_stops, stands}
use Rattle.source_interpreter.proofs.Follow.{stands_with, as_fault}

-- a temporary

abbrev after_temp : Running → ℕ → ℕ → Config → Config
after_temp r temp v d = goes r.todo (sets_temp temp v d)

pub set_temp_goes : (r r' : Running) (s : List ℕ) (temp v : ℕ) (e : Expr)
    → Ok v ≡ answer_of (expr_value e (sight_of r s)) → r' ≡ with_temp temp v r
    → Does (stmt.SetTemp temp e) r s (Ok tt) r' s
set_temp_goes r r' s temp v e value is = record {
  leaves = λ trace todo. value_goes (expr_value e (sight_of r s)) v (after_temp r temp) r.exchange r s trace todo
      (Ok tt) r' s value (λ t. stands r.exchange (with_temp temp v r) r' s t refl is);
}

pub set_temp_stops : (r : Running) (s : List ℕ) (temp : ℕ) (e : Expr) (f : Fault) (o : Stop)
    → Err f ≡ answer_of (expr_value e (sight_of r s)) → o ≡ stop.Fault f → Does (stmt.SetTemp temp e) r s (Err o) r s
set_temp_stops r s temp e f o value is =
    as_fault (does r.exchange r.own.point (stmt.SetTemp temp e) r.todo) r s f o r s is
    (λ trace todo. value_stops (expr_value e (sight_of r s)) f (after_temp r temp) r.exchange r s trace todo value)

-- a variable

abbrev in_variable : Running → ℕ → ℕ → Config → Config
in_variable r variable v d = goes r.todo (sets_cell (base_of r.exchange r.block + variable) v d)

abbrev after_variable : Running → ℕ → ℕ → Config → Config
after_variable r variable v d = where_fits v (variable_width r.exchange r.block variable) d (in_variable r variable v)

pub set_variable_goes : (r : Running) (s s' : List ℕ) (variable v : ℕ) (e : Expr)
    → Ok v ≡ answer_of (expr_value e (sight_of r s))
    → Ok tt ≡ range_check v (variable_width r.exchange r.block variable)
    → s' ≡ slice_set s (base_of r.exchange r.block + variable) v → Does (stmt.SetVariable variable e) r s (Ok tt) r s'
set_variable_goes r s s' variable v e value fits is = record {
  leaves = λ trace todo. value_goes (expr_value e (sight_of r s)) v (after_variable r variable) r.exchange r s trace todo (Ok tt) r s' value (λ t.
      fits_goes v (variable_width r.exchange r.block variable) (in_variable r variable v) r.exchange s
      (start_of r s t todo) (Ok tt) r s' fits
      (stands_with r.exchange r r (slice_set s (base_of r.exchange r.block + variable) v) s' _ refl refl is));
}

pub set_variable_stops : (r : Running) (s : List ℕ) (variable : ℕ) (e : Expr) (f : Fault) (o : Stop)
    → Err f ≡ answer_of (expr_value e (sight_of r s)) → o ≡ stop.Fault f
    → Does (stmt.SetVariable variable e) r s (Err o) r s
set_variable_stops r s variable e f o value is =
    as_fault (does r.exchange r.own.point (stmt.SetVariable variable e) r.todo) r s f o r s is
    (λ trace todo. value_stops (expr_value e (sight_of r s)) f (after_variable r variable) r.exchange r s trace todo
    value)

pub set_variable_wide : (r : Running) (s : List ℕ) (variable v : ℕ) (e : Expr) (f : Fault) (o : Stop)
    → Ok v ≡ answer_of (expr_value e (sight_of r s))
    → Err f ≡ range_check v (variable_width r.exchange r.block variable) → o ≡ stop.Fault f
    → Does (stmt.SetVariable variable e) r s (Err o) r s
set_variable_wide r s variable v e f o value wide is =
    as_fault (does r.exchange r.own.point (stmt.SetVariable variable e) r.todo) r s f o r s is (λ trace todo.
    value_goes (expr_value e (sight_of r s)) v (after_variable r variable) r.exchange r s trace todo (Err (stop.Fault f)) r s value (λ t.
    fits_stops v (variable_width r.exchange r.block variable) f (in_variable r variable v) r.exchange r s t todo wide))

-- a field

abbrev after_field : Running → ℕ → ℕ → ℕ → ℕ → Config → Config
after_field r file field pointer v d =
    at_record (slice_get (files_of r.exchange) file) file (slice_index d.temps pointer) (goes r.todo d) (sets_field (slice_index d.temps pointer) field v)

abbrev in_field : Placed → ℕ → ℕ → ℕ → Config → Config
in_field p number field v = sets_cell (field_cell p number field) v

abbrev checked_field : Placed → ℕ → ℕ → ℕ → Config → Config
checked_field p number field v d = where_fits v (field_width p field) d (in_field p number field v)

-- the file is there
in_file : (r : Running) (s : List ℕ) (file field pointer v : ℕ) (e : Expr) (p : Placed) (o : Answer) (r' : Running)
    (s' : List ℕ) (trace : List Touch) (todo : List Item) → Ok v ≡ answer_of (expr_value e (sight_of r s))
    → Some p ≡ slice_get (files_of r.exchange) file
    → ((t : List Touch) → Leaves r.exchange s (at_record (Some p) file (slice_index r.temps pointer)
    (start_of r s t r.todo) (sets_field (slice_index r.temps pointer) field v)) o r' s')
    → Leaves r.exchange s (does r.exchange r.own.point (stmt.SetField file field pointer e) r.todo
    (start_of r s trace todo)) o r' s'
in_file r s file field pointer v e p o r' s' trace todo value found more =
    value_goes (expr_value e (sight_of r s)) v (after_field r file field pointer) r.exchange r s trace todo o r' s' value (λ t.
    let P : Option Placed → Type 0 = λ q. Leaves r.exchange s
    (at_record q file (slice_index r.temps pointer) (start_of r s t r.todo)
    (sets_field (slice_index r.temps pointer) field v)) o r' s' in
    subst P found (more t))

pub set_field_goes : (r : Running) (s s' : List ℕ) (file field pointer v : ℕ) (e : Expr) (p : Placed)
    → Ok v ≡ answer_of (expr_value e (sight_of r s)) → Some p ≡ slice_get (files_of r.exchange) file
    → Ok tt ≡ unless (pointer_fault r.own.chain file p (slice_index r.temps pointer))
    → Ok tt ≡ range_check v (field_width p field)
    → s' ≡ slice_set s (field_cell p (slice_index r.temps pointer) field) v
    → Does (stmt.SetField file field pointer e) r s (Ok tt) r s'
set_field_goes r s s' file field pointer v e p value found right fits is =
    let number = slice_index r.temps pointer in
    record {
      leaves = λ trace todo. in_file r s file field pointer v e p (Ok tt) r s' trace todo value found (λ t.
          unless_goes (pointer_fault r.own.chain file p number) (checked_field p number field v) r.exchange s (start_of r s t r.todo) (Ok tt) r s' right (
          fits_goes v (field_width p field) (in_field p number field v) r.exchange s (start_of r s t r.todo) (Ok tt) r
          s' fits (stands_with r.exchange r r (slice_set s (field_cell p number field) v) s' _ refl refl is)));
    }

pub set_field_stops : (r : Running) (s : List ℕ) (file field pointer : ℕ) (e : Expr) (f : Fault) (o : Stop)
    → Err f ≡ answer_of (expr_value e (sight_of r s)) → o ≡ stop.Fault f
    → Does (stmt.SetField file field pointer e) r s (Err o) r s
set_field_stops r s file field pointer e f o value is =
    as_fault (does r.exchange r.own.point (stmt.SetField file field pointer e) r.todo) r s f o r s is
    (λ trace todo. value_stops (expr_value e (sight_of r s)) f (after_field r file field pointer) r.exchange r s
    trace todo value)

pub set_field_wrong : (r : Running) (s : List ℕ) (file field pointer v : ℕ) (e : Expr) (p : Placed) (f : Fault)
    (o : Stop) → Ok v ≡ answer_of (expr_value e (sight_of r s)) → Some p ≡ slice_get (files_of r.exchange) file
    → Err f ≡ unless (pointer_fault r.own.chain file p (slice_index r.temps pointer)) → o ≡ stop.Fault f
    → Does (stmt.SetField file field pointer e) r s (Err o) r s
set_field_wrong r s file field pointer v e p f o value found wrong is =
    let number = slice_index r.temps pointer in
    as_fault (does r.exchange r.own.point (stmt.SetField file field pointer e) r.todo) r s f o r s is (λ trace todo.
    in_file r s file field pointer v e p (Err (stop.Fault f)) r s trace todo value found (λ t.
    unless_stops (pointer_fault r.own.chain file p number) f (checked_field p number field v) r.exchange r s t r.todo wrong))

pub set_field_wide : (r : Running) (s : List ℕ) (file field pointer v : ℕ) (e : Expr) (p : Placed) (f : Fault)
    (o : Stop) → Ok v ≡ answer_of (expr_value e (sight_of r s)) → Some p ≡ slice_get (files_of r.exchange) file
    → Ok tt ≡ unless (pointer_fault r.own.chain file p (slice_index r.temps pointer))
    → Err f ≡ range_check v (field_width p field) → o ≡ stop.Fault f
    → Does (stmt.SetField file field pointer e) r s (Err o) r s
set_field_wide r s file field pointer v e p f o value found right wide is =
    let number = slice_index r.temps pointer in
    as_fault (does r.exchange r.own.point (stmt.SetField file field pointer e) r.todo) r s f o r s is (λ trace todo.
    in_file r s file field pointer v e p (Err (stop.Fault f)) r s trace todo value found (λ t.
    unless_goes (pointer_fault r.own.chain file p number) (checked_field p number field v) r.exchange s (start_of r s t r.todo) (Err (stop.Fault f)) r s right (
    fits_stops v (field_width p field) f (in_field p number field v) r.exchange r s t r.todo wide)))

-- no such file
pub set_field_nowhere : (r : Running) (s : List ℕ) (file field pointer v : ℕ) (e : Expr)
    → Ok v ≡ answer_of (expr_value e (sight_of r s)) → None ≡ slice_get (files_of r.exchange) file
    → Does (stmt.SetField file field pointer e) r s (Ok tt) r s
set_field_nowhere r s file field pointer v e value found = record {
  leaves = λ trace todo. value_goes (expr_value e (sight_of r s)) v (after_field r file field pointer) r.exchange r s trace todo (Ok tt) r s value (λ t.
      let P : Option Placed → Type 0 = λ q. Leaves r.exchange s
      (at_record q file (slice_index r.temps pointer) (start_of r s t r.todo)
      (sets_field (slice_index r.temps pointer) field v)) (Ok tt) r s in
      subst P found (stands r.exchange r r s t refl refl));
}

-- how the assignment of a field may leave the job
pub ruleset set_fields = (set_field_goes, set_field_stops, set_field_wrong, set_field_wide, set_field_nowhere)
