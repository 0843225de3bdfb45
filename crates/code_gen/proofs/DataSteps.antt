-- The code of assignments is appended.
use Rattle.std.proofs.Common.{◌≡◌, ℕ, ◌+◌, ◌<◌, ◌≤◌, List, [], ◌∷◌, ◌++◌, None, slice_get, sym, ap}
use Rattle.std.proofs.Common.{◌∙◌, append-nil, if◌then◌else◌}
use Rattle.std.proofs.lemmas.Bool.{lt-ltb, le-ltb}
use Rattle.machine_code.specs.declared.op.Op.{Op}
use Rattle.machine_code.specs.declared.op.Op.TheVariants as op
use Rattle.exchange_model.specs.declared.expr.Expr.{Expr}
use Rattle.exchange_model.specs.Cells.{Placed, record_cells}
use Rattle.source_meaning.specs.Changes.{field_width}
use Rattle.expr_code.specs.Code.{expr_code, pointer_code}
use Rattle.stmt_code.specs.StmtCode.{Places, range_code, field_store}
use Rattle.code_gen.specs.declared.setting.Setting.{Setting}
use Rattle.code_gen.specs.Settings.{places_in, IsFileIn}
use Rattle.code_gen.proofs.Parts.{three, four}

pub set_temp_is : (p t : ℕ) (e : Expr) (pl : Places) (old n1 n2 new : List Op) → n1 ≡ old ++ op.Stmt p ∷ []
    → n2 ≡ n1 ++ expr_code e pl.site 0 → new ≡ n2 ++ op.Stt t 0 ∷ []
    → new ≡ old ++ op.Stmt p ∷ (expr_code e pl.site 0 ++ op.Stt t 0 ∷ [])
set_temp_is p t e pl old n1 n2 new e1 e2 e3 = three old n1 n2 new (op.Stmt p ∷ []) (expr_code e pl.site 0) (op.Stt t 0 ∷ []) e1 e2 e3

pub set_variable_is : (p v width word : ℕ) (e : Expr) (pl : Places) (old n1 n2 n3 new : List Op)
    → n1 ≡ old ++ op.Stmt p ∷ [] → n2 ≡ n1 ++ expr_code e pl.site 0 → width ≡ pl.width v → word ≡ pl.site.first + v
    → n3 ≡ n2 ++ range_code 0 width → new ≡ n3 ++ op.Stw word 0 ∷ []
    → new ≡ old ++ op.Stmt p ∷ (expr_code e pl.site 0
    ++ (range_code 0 (pl.width v) ++ op.Stw (pl.site.first + v) 0 ∷ []))
set_variable_is p v width word e pl old n1 n2 n3 new e1 e2 ew ew' e3 e4 =
    four old n1 n2 n3 new (op.Stmt p ∷ []) (expr_code e pl.site 0) (range_code 0 (pl.width v))
    (op.Stw (pl.site.first + v) 0 ∷ []) e1 e2 (e3 ∙ λ i. n2 ++ range_code 0 (ew i))
    (e4 ∙ λ i. n3 ++ op.Stw (ew' i) 0 ∷ [])

pub set_field_is : (p file field pointer : ℕ) (e : Expr) (pl : Places) (old n1 n2 new : List Op)
    → n1 ≡ old ++ op.Stmt p ∷ [] → n2 ≡ n1 ++ expr_code e pl.site 0
    → new ≡ n2 ++ field_store (slice_get pl.site.files file) file field pointer
    → new ≡ old ++ op.Stmt p ∷ (expr_code e pl.site 0 ++ field_store (slice_get pl.site.files file) file field pointer)
set_field_is p file field pointer e pl old n1 n2 new e1 e2 e3 = three old n1 n2 new (op.Stmt p ∷ [])
    (expr_code e pl.site 0) (field_store (slice_get pl.site.files file) file field pointer) e1 e2 e3

pub no_store : (s : Setting) (file field pointer : ℕ) (old : List Op) → slice_get (places_in s).site.files file ≡ None
    → old ≡ old ++ field_store (slice_get (places_in s).site.files file) file field pointer
no_store s file field pointer old none = sym (ap (λ o. old ++ field_store o file field pointer) none ∙ append-nil old)

pub store_is : (s : Setting) (file field pointer width word n : ℕ) (p : Placed) (old n1 n2 n3 new : List Op)
    → IsFileIn s file p → width ≡ field_width p field → word ≡ p.first + field → n ≡ record_cells p.file
    → n1 ≡ old ++ op.Ldt 1 pointer ∷ [] → n2 ≡ n1 ++ pointer_code p file 1 → n3 ≡ n2 ++ range_code 0 width
    → new ≡ n3 ++ op.Stx word n 1 0 ∷ [] → new ≡ old
    ++ field_store (slice_get (places_in s).site.files file) file field pointer
store_is s file field pointer width word n p old n1 n2 n3 new at wide words cells e1 e2 e3 e4 =
    let last : List Op = op.Stx (p.first + field) (record_cells p.file) 1 0 ∷ [] in
    four old n1 n2 n3 new (op.Ldt 1 pointer ∷ []) (pointer_code p file 1) (range_code 0 (field_width p field)) last e1
    e2 (e3 ∙ λ i. n2 ++ range_code 0 (wide i)) (e4 ∙ λ i. n3 ++ op.Stx (words i) (cells i) 1 0 ∷ [])
    ∙ sym (ap (λ o. old ++ field_store o file field pointer) at.there)

pub range_looked : (r width : ℕ) (old new : List Op) → width < 32 → new ≡ old ++ op.Ckw r width ∷ [] → new ≡ old ++ range_code r width
range_looked r width old new lt e = e ∙ sym (ap (λ b. old ++ (if b then op.Ckw r width ∷ [] else [])) (lt-ltb width 32 lt))

pub range_wide : (r width : ℕ) (old : List Op) → 32 ≤ width → old ≡ old ++ range_code r width
range_wide r width old le = sym (ap (λ b. old ++ (if b then op.Ckw r width ∷ [] else [])) (le-ltb width 32 le) ∙ append-nil old)

-- whether a value fits a width is looked at, or every value does
pub ruleset ranges = (range_looked, range_wide)

-- a field is stored, where there is a file
pub ruleset stores = (no_store, store_is)
