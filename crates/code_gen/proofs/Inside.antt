-- What is known of the parts of a statement.
use Rattle.std.proofs.Common.{◌≡◌, ℕ, zero, suc, ◌+◌, ◌*◌, ◌^◌, ◌<◌, ◌≤◌, Bool, List, [], ◌∷◌, ◌++◌}
use Rattle.std.proofs.Common.{length, get_or, Option, Some, None, slice_get, refl, sym, ap, ◌∙◌}
use Rattle.std.proofs.Common.{subst, arith}
use Rattle.std.specs.List.{AllByRecursion}
use Rattle.std.proofs.lemmas.Option.{same_Some}
use Rattle.machine_code.specs.declared.op.Op.{Op}
use Rattle.exchange_model.specs.declared.block.Block.{Block}
use Rattle.exchange_model.specs.declared.block.FilePlace.{FilePlace}
use Rattle.exchange_model.specs.declared.signal.SignalKind.{SignalKind}
use Rattle.exchange_model.specs.declared.signal.SignalKind.TheVariants.{Buffered, Direct, Combined}
use Rattle.exchange_model.specs.declared.signal.SignalKind.TheVariants.{Answer, Outside}
use Rattle.exchange_model.specs.declared.entry.Cell.TheVariants as cell
use Rattle.exchange_model.specs.declared.expr.Expr.{Expr}
use Rattle.exchange_model.specs.declared.expr.Cond.{Cond}
use Rattle.exchange_model.specs.declared.expr.Rel.{Rel}
use Rattle.exchange_model.specs.declared.stmt.Receiver.{Receiver}
use Rattle.exchange_model.specs.declared.stmt.Receiver.TheVariants as receiver
use Rattle.exchange_model.specs.declared.stmt.Stmt.{Stmt}
use Rattle.exchange_model.specs.declared.stmt.When.{When}
use Rattle.exchange_model.specs.declared.stmt.StmtKind.{StmtKind, StmtKind-F}
use Rattle.exchange_model.specs.declared.stmt.StmtKind.TheOpen as layer
use Rattle.exchange_model.specs.Cells.{Placed, placed_files, record_cells, IsCell, cell_number}
use Rattle.exchange_model.specs.Fits.{ExprFits, Reaches, SendFits, TransferFits}
use Rattle.exchange_model.specs.Inside.{bracket_depth, own_exprs}
use Rattle.exchange_model.specs.Kept.{scope_of, signal_count}
use Rattle.plex_limits.specs.declared.limits.TheConstants.{MOST_BRACKETS, MOST_VALUES}
use Rattle.exchange_model.proofs.Facts.{file_kept}
use Rattle.exchange_model.proofs.Numbers.{variable_is_cell}
use Rattle.store_layout.specs.Laid.{HasCell, IsLayout}
use Rattle.source_meaning.specs.Config.{base_of}
use Rattle.plex_num.proofs.Lists.{all_at}
use Rattle.expr_code.specs.Code.{expr_code, cond_code}
use Rattle.expr_code.specs.Sites.{IsScopeOf, IsExprOfBlock, IsCondOf, GrowsByCode}
use Rattle.stmt_code.proofs.NarrowKinds.{enter_few}
use Rattle.stmt_code.proofs.Signals.{answer_few}
use Rattle.code_gen.specs.declared.setting.Setting.{Setting}
use Rattle.code_gen.specs.Settings.{placed_of, places_in, IsSetting, IsFileIn, IsValueIn, IsTestIn}
use Rattle.code_gen.specs.Settings.{IsVariableIn, IsFieldIn, IsReachedIn, IsIn}
use Rattle.code_gen.proofs.Files.{site_files, site_in}

-- for the code of expressions

scope_in : (s : Setting) (block : Block) → IsSetting s → slice_get s.exchange.now.blocks s.block ≡ Some block
    → IsScopeOf s.layout.now s.block (scope_of s.exchange.now s.block block)
scope_in s block h there = record {
  layout = h.layout;
  there = there;
  files = refl;
  filled = λ n p is. (file_kept s.exchange.now h.kept n p is).some;
}

pub expr_of : (s : Setting) (e : Expr) → IsValueIn s e → IsExprOfBlock s.layout.now s.block e
expr_of s e h = record { scope = scope_of s.exchange.now s.block h.block; is_scope = scope_in s h.block h.setting h.there; fits = h.fits }

pub cond_of : (s : Setting) (c : Cond) → IsTestIn s c → IsCondOf s.layout.now s.block c
cond_of s c h = record { scope = scope_of s.exchange.now s.block h.block; is_scope = scope_in s h.block h.setting h.there; fits = h.fits }

pub value_registers : (s : Setting) (e : Expr) (first : ℕ) → IsValueIn s e → first ≤ 1 → first + (2 * bracket_depth e + 2) < 16
value_registers s e first h le = omega (arith, h.shallow)

pub value_grows : (s : Setting) (e : Expr) (first : ℕ) (old new : List Op) → IsValueIn s e
    → GrowsByCode s.layout.now s.block old new (λ site. expr_code e site first)
    → new ≡ old ++ expr_code e (places_in s).site first
value_grows s e first old new h g = g.is (places_in s).site (site_in s h.setting h.block h.there)

pub test_grows : (s : Setting) (c : Cond) (old new : List Op) → IsTestIn s c
    → GrowsByCode s.layout.now s.block old new (λ site. cond_code c site) → new ≡ old ++ cond_code c (places_in s).site
test_grows s c old new h g = g.is (places_in s).site (site_in s h.setting h.block h.there)

-- values

value_at : (s : Setting) (es : List Expr) (i : ℕ) (e : Expr) → AllByRecursion (IsValueIn s) es → i < length es → e ≡ get_or es i e → IsValueIn s e
value_at s [] i e all lt is = absurd (omega arith)
value_at s (y ∷ es) zero e all lt is = subst (IsValueIn s) (sym is) all.0
value_at s (y ∷ es) (suc i) e all lt is = value_at s es i e all.1 (omega arith) is

pub value_in : (s : Setting) (es given : List Expr) (i : ℕ) (e : Expr) → AllByRecursion (IsValueIn s) es → given ≡ es
    → i < length given → e ≡ get_or given i e → IsValueIn s e
value_in s es given i e all same lt is = value_at s given i e (subst (AllByRecursion (IsValueIn s)) (sym same) all) lt is

values_of : (s : Setting) (block : Block) (es : List Expr) → IsSetting s
    → slice_get s.exchange.now.blocks s.block ≡ Some block
    → AllByRecursion (ExprFits (scope_of s.exchange.now s.block block)) es
    → AllByRecursion (λ e. bracket_depth e ≤ MOST_BRACKETS) es → AllByRecursion (IsValueIn s) es
values_of s block [] h there fits shallow = tt
values_of s block (e ∷ es) h there fits shallow = (
  record
      { setting = h; block = block; there = there; fits = fits.0; shallow = shallow.0 },
  values_of s block es h there
      fits.1 shallow.1,
)

-- all expressions of a statement
own_values : {s : Setting} {d : ℕ} {l : StmtKind-F StmtKind Stmt When} → IsIn s d l → AllByRecursion (IsValueIn s) (own_exprs l)
own_values {s = s} {l = l} h = values_of s h.inside.block (own_exprs l) h.setting h.inside.there h.inside.fits.exprs.each h.inside.fits.exprs.shallow

pub set_temp_value : (s : Setting) (d t : ℕ) (e : Expr) → IsIn s d (layer.SetTemp t e) → IsValueIn s e
set_temp_value s d t e h = (own_values h).0

pub set_variable_value : (s : Setting) (d v : ℕ) (e : Expr) → IsIn s d (layer.SetVariable v e) → IsValueIn s e
set_variable_value s d v e h = (own_values h).0

pub set_field_value : (s : Setting) (d file field pointer : ℕ) (e : Expr) → IsIn s d (layer.SetField file field pointer e) → IsValueIn s e
set_field_value s d file field pointer e h = (own_values h).0

pub for_first_value : (s : Setting) (d t file field label : ℕ) (rel : Rel) (e : Expr) → IsIn s d (layer.ForFirst t file field rel e label) → IsValueIn s e
for_first_value s d t file field label rel e h = (own_values h).0

pub if_goto_test : (s : Setting) (d : ℕ) (c : Cond) (label : ℕ) → IsIn s d (layer.IfGoto c label) → IsTestIn s c
if_goto_test s d c label h = record { setting = h.setting; block = h.inside.block; there = h.inside.there; fits = h.inside.fits.exprs }

-- a variable

pub set_variable_in : (s : Setting) (d v : ℕ) (e : Expr) → IsIn s d (layer.SetVariable v e) → IsVariableIn s v
set_variable_in s d v e h = record { setting = h.setting; block = h.inside.block; there = h.inside.there; within = h.inside.fits.names }

pub variable_cell : (s : Setting) (v : ℕ) → IsVariableIn s v → HasCell s.layout.now (cell.Variable s.block v)
variable_cell s v h = record {
  blocks = s.exchange.now.blocks;
  layout = h.setting.layout;
  cell = variable_is_cell s.exchange.now.blocks s.block v h.block h.there h.within;
}

pub variable_word : (s : Setting) (v word : ℕ) → IsVariableIn s v
    → ((bs : List Block) → IsLayout bs s.layout.now → IsCell bs (cell.Variable s.block v)
    → word ≡ cell_number bs (cell.Variable s.block v)) → word ≡ (places_in s).site.first + v
unfolding places_in base_of
variable_word s v word h tells = tells s.exchange.now.blocks h.setting.layout (variable_is_cell s.exchange.now.blocks s.block v h.block h.there h.within)

-- fields

pub set_field_in : (s : Setting) (d file field pointer : ℕ) (e : Expr) → IsIn s d (layer.SetField file field pointer e) → IsFieldIn s file field
set_field_in s d file field pointer e h = record { setting = h.setting; block = h.inside.block; fits = h.inside.fits.names.0 }

pub for_first_field : (s : Setting) (d t file field label : ℕ) (rel : Rel) (e : Expr)
    → IsIn s d (layer.ForFirst t file field rel e label) → IsFieldIn s file field
for_first_field s d t file field label rel e h = record { setting = h.setting; block = h.inside.block; fits = h.inside.fits.names.2 }

pub field_setting : (s : Setting) (file field : ℕ) → IsFieldIn s file field → IsSetting s
field_setting s file field h = h.setting

pub in_setting : (s : Setting) (d : ℕ) (l : StmtKind-F StmtKind Stmt When) → IsIn s d l → IsSetting s
in_setting s d l h = h.setting

pub cells_fit : (s : Setting) (file : ℕ) (p : Placed) → IsFileIn s file p → record_cells p.file < 2 ^ 32
cells_fit s file p h = omega (arith, h.cells)

pub field_fits : (s : Setting) (file field : ℕ) (p : Placed) → IsFieldIn s file field → IsFileIn s file p → p.first + field < 2 ^ 32
field_fits s file field p h at =
    let there : slice_get (placed_files s.exchange.now.blocks) file ≡ Some p = ap (λ ps. slice_get ps file) (sym (site_files s h.setting)) ∙ at.there in
    let same : h.fits.placed ≡ p = same_Some h.fits.placed p (sym h.fits.there ∙ there) in
    let inside : field < length p.file.fields = subst (λ (r : Placed). field < length r.file.fields) same h.fits.within in
    omega (arith, at.cells, inside)

pub field_in_place : (s : Setting) (file field : ℕ) (place : FilePlace) → IsFieldIn s file field
    → IsFileIn s file (placed_of place) → place.first + field < 2 ^ 32
field_in_place s file field place h at = field_fits s file field (placed_of place) h at

-- lists of temporaries

pub enter_temps_few : (s : Setting) (d signal : ℕ) (temps : List ℕ) → IsIn s d (layer.Enter signal temps) → length temps ≤ MOST_VALUES
enter_temps_few s d signal temps h = enter_few (slice_get s.exchange.now.signals signal) (length temps)
    h.inside.fits.names.0 (λ k e. all_at (λ k. signal_count k ≤ MOST_VALUES) s.exchange.now.signals signal k
    h.setting.kept.signals.values e)

pub retrieve_temps_few : (s : Setting) (d answer : ℕ) (temps : List ℕ) → IsIn s d (layer.Retrieve answer temps) → length temps ≤ MOST_VALUES
retrieve_temps_few s d answer temps h = answer_few (slice_get s.exchange.now.signals answer) (length temps)
    h.inside.fits.names.0 (λ k e. all_at (λ k. signal_count k ≤ MOST_VALUES) s.exchange.now.signals answer k
    h.setting.kept.signals.values e)

-- values that are sent

pub send_values : (s : Setting) (d signal : ℕ) (to : Option Receiver) (es : List Expr) (fresh : Bool)
    → IsIn s d (layer.Send signal to es fresh) → AllByRecursion (IsValueIn s) es
send_values s d signal to es fresh h = own_values h

pub no_values : (s : Setting) (es : List Expr) → es ≡ [] → AllByRecursion (IsValueIn s) es
no_values s es e = subst (AllByRecursion (IsValueIn s)) (sym e) tt

-- receivers

reached : (s : Setting) (block : Block) (to : Option Receiver) (signal : ℕ) → IsSetting s
    → slice_get s.exchange.now.blocks s.block ≡ Some block → Reaches (scope_of s.exchange.now s.block block) to signal
    → IsReachedIn s to
reached s block None signal h there fits = absurd fits
reached s block (Some (receiver.Block b)) signal h there fits = tt
reached s block (Some (receiver.Held holder)) signal h there fits = record { setting = h; block = block; there = there; fits = fits.0.0 }

outside : (s : Setting) (to : Option Receiver) → to ≡ None → IsReachedIn s to
outside s to e = subst (IsReachedIn s) (sym e) tt

send_fits : (kind : Option SignalKind) (s : Setting) (block : Block) (to : Option Receiver) (signal count : ℕ)
    (fresh : Bool) → IsSetting s → slice_get s.exchange.now.blocks s.block ≡ Some block
    → SendFits (scope_of s.exchange.now s.block block) kind signal to count fresh → IsReachedIn s to
send_fits None s block to signal count fresh h there fits = absurd fits
send_fits (Some (Buffered name level n)) s block to signal count fresh h there fits = reached s block to signal h there fits.1
send_fits (Some (Direct name n)) s block to signal count fresh h there fits = reached s block to signal h there fits.1
send_fits (Some (Combined name n answer)) s block to signal count fresh h there fits = reached s block to signal h there fits.1
send_fits (Some (Answer name n combined)) s block to signal count fresh h there fits = absurd fits
send_fits (Some (Outside name n)) s block to signal count fresh h there fits = outside s to fits.1

pub send_reached : (s : Setting) (d signal : ℕ) (to : Option Receiver) (es : List Expr) (fresh : Bool)
    → IsIn s d (layer.Send signal to es fresh) → IsReachedIn s to
send_reached s d signal to es fresh h = send_fits (slice_get s.exchange.now.signals signal) s h.inside.block to signal
    (length es) fresh h.setting h.inside.there h.inside.fits.names

transfer_fits : (kind : Option SignalKind) (s : Setting) (block : Block) (to : Option Receiver) (signal : ℕ)
    → IsSetting s → slice_get s.exchange.now.blocks s.block ≡ Some block
    → TransferFits (scope_of s.exchange.now s.block block) kind signal to → IsReachedIn s to
transfer_fits None s block to signal h there fits = absurd fits
transfer_fits (Some (Buffered name level n)) s block to signal h there fits = absurd fits
transfer_fits (Some (Direct name n)) s block to signal h there fits = reached s block to signal h there fits
transfer_fits (Some (Combined name n answer)) s block to signal h there fits = absurd fits
transfer_fits (Some (Answer name n combined)) s block to signal h there fits = absurd fits
transfer_fits (Some (Outside name n)) s block to signal h there fits = absurd fits

pub transfer_reached : (s : Setting) (d signal : ℕ) (to : Option Receiver) → IsIn s d (layer.Transfer signal to) → IsReachedIn s to
transfer_reached s d signal to h = transfer_fits (slice_get s.exchange.now.signals signal) s h.inside.block to signal
    h.setting h.inside.there h.inside.fits.names

pub return_values : (s : Setting) (d answer : ℕ) (es : List Expr) → IsIn s d (layer.Return answer es) → AllByRecursion (IsValueIn s) es
return_values s d answer es h = own_values h

-- a field of a file of the block
pub ruleset in_file = (field_in_place, cells_fit, field_setting)
