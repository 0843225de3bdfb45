-- Where the numbers of an instruction are of 32 bits, each of its operands is in its range: what
-- all kinds of statement need.
use Rattle.std.proofs.Common.{◌≡◌, ℕ, zero, suc, ◌+◌, ◌*◌, ◌<◌, ◌≤◌, ◌^◌, Bool, true, false, List}
use Rattle.std.proofs.Common.{[], ◌∷◌, ◌++◌, length, Some, refl, sym, subst, arith, if◌then◌else◌}
use Rattle.std.specs.Prelude.{slice_get, nat_lt}
use Rattle.std.specs.List.{AllByRecursion}
use Rattle.machine_code.specs.declared.op.Op.{Op}
use Rattle.machine_code.specs.declared.op.Op.TheVariants as op
use Rattle.machine_code.specs.Operands.{OpFits, IsWidth}
use Rattle.exchange_model.specs.declared.exchange.Exchange.{Exchange}
use Rattle.exchange_model.specs.declared.signal.SignalKind.{SignalKind}
use Rattle.exchange_model.specs.declared.block.Block.{Block}
use Rattle.exchange_model.specs.declared.block.Variable.{Variable}
use Rattle.exchange_model.specs.declared.expr.Expr.{Expr}
use Rattle.exchange_model.specs.declared.expr.Cond.{Cond}
use Rattle.exchange_model.specs.declared.expr.Rel.{Rel}
use Rattle.exchange_model.specs.declared.expr.Rel.TheVariants.{Equal, Unequal, Below, AtMost, Above}
use Rattle.exchange_model.specs.declared.expr.Rel.TheVariants.{AtLeast}
use Rattle.exchange_model.specs.Cells.{Placed, record_cells}
use Rattle.exchange_model.specs.Inside.{bracket_depth, cond_exprs}
use Rattle.exchange_model.specs.Fits.{ExprFits, ExprsFit}
use Rattle.exchange_model.specs.Kept.{IsExchange, VariableFits, signal_count, scope_of}
use Rattle.exchange_model.proofs.Places.{file_below, block_below}
use Rattle.exchange_model.proofs.Facts.{cells_few, variable_kept, file_kept, field_kept}
use Rattle.source_meaning.specs.Config.{files_of, base_of}
use Rattle.std.specs.Option.{option_map_or}
use Rattle.source_meaning.specs.Changes.{variable_width, field_width}
use Rattle.expr_code.specs.Code.{expr_code, cond_code, own_code, pointer_code, rel_op}
use Rattle.expr_code.specs.Sites.{IsLimited, IsSite, IsPlacedFile}
use Rattle.plex_num.proofs.Lists.{all_append, all_at, some_at}
use Rattle.expr_code.proofs.Operands.{expr_ops_fit, cond_ops_fit}
use Rattle.stmt_code.specs.Numbers.{AreNumbers}
use Rattle.stmt_code.specs.StmtCode.{range_code, values_code}
use Rattle.stmt_code.specs.Whole.{Table, places_of}

-- the operands that are no numbers of 32 bits are in their ranges
abbrev pub Narrow : Op → Type 0
Narrow op = AreNumbers op → OpFits op

abbrev pub AllNarrow : List Op → Type 0
AllNarrow ops = AllByRecursion Narrow ops

pub narrow_on : (xs ys : List Op) → AllNarrow xs → AllNarrow ys → AllNarrow (xs ++ ys)
narrow_on xs ys p q = all_append Narrow xs ys p q

pub fit_narrow : (ops : List Op) → AllByRecursion OpFits ops → AllNarrow ops
fit_narrow [] fits = tt
fit_narrow (op ∷ ops) fits = (λ n. fits.0, fit_narrow ops fits.1)

pub narrow_fit : (ops : List Op) → AllNarrow ops → AllByRecursion AreNumbers ops → AllByRecursion OpFits ops
narrow_fit [] narrow numbers = tt
narrow_fit (op ∷ ops) narrow numbers = (narrow.0 numbers.0, narrow_fit ops narrow.1 numbers.1)

-- checks of pointers and of values, and relations

own_narrow : (forlopp : Bool) (file r : ℕ) → r < 16 → AllNarrow (own_code forlopp file r)
own_narrow false file r lt = tt
own_narrow true file r lt = (λ n. (lt, n), tt)

pub pointer_narrow : (p : Placed) (file r : ℕ) → r < 16 → AllNarrow (pointer_code p file r)
pointer_narrow p file r lt = (λ n. (lt, n), own_narrow p.file.forlopp file r lt)

-- what looks whether a value fits
range_narrow_if : (narrow : Bool) (r width : ℕ) → r < 16 → IsWidth width → AllNarrow (if narrow then op.Ckw r width ∷ [] else [])
range_narrow_if false r width lt fits = tt
range_narrow_if true r width lt fits = (λ n. (lt, fits), tt)

pub range_narrow : (r width : ℕ) → r < 16 → IsWidth width → AllNarrow (range_code r width)
range_narrow r width lt fits = range_narrow_if (nat_lt width 32) r width lt fits

pub rel_narrow : (rel : Rel) (r s : ℕ) → r < 16 → s < 16 → Narrow (rel_op rel r s)
rel_narrow Equal r s p q = λ n. (p, q)
rel_narrow Unequal r s p q = λ n. (p, q)
rel_narrow Below r s p q = λ n. (p, q)
rel_narrow AtMost r s p q = λ n. (p, q)
rel_narrow Above r s p q = λ n. (p, q)
rel_narrow AtLeast r s p q = λ n. (p, q)

module _ (x : Exchange) (kept : IsExchange x) (few_files : length (files_of x) ≤ 2 ^ 32) where
  -- where a block's statements stand
  place_is : (i : ℕ) (p : Placed) → slice_get (files_of x) i ≡ Some p → IsPlacedFile p
  unfolding files_of
  place_is i p there =
      let below = file_below x.blocks i p there in
      let few = cells_few x kept in
      let fits = file_kept x kept i p there in
      record { cells = first_record p.first p.file.size (record_cells p.file) fits.some (omega (arith, below, few)); size = omega (arith, fits.few) }
    where
      first_record : (first size cells : ℕ) → 1 ≤ size → first + size * cells < 2 ^ 32 → first + cells < 2 ^ 32
      first_record first zero cells some lt = absurd (omega arith)
      first_record first (suc n) cells some lt = omega (arith, lt)

  pub site_is : (t : Table) (b : ℕ) (k : Block) → slice_get x.blocks b ≡ Some k → IsLimited (scope_of x b k) → IsSite (scope_of x b k) (places_of x t b).site
  unfolding files_of base_of
  site_is t b k there few = record {
    files = refl;
    variables = omega (arith, block_below x.blocks b k there, cells_few x kept);
    limited = few;
    few = few_files;
    each = place_is;
  }

  -- the code of an expression in one of the first two registers, and of a condition
  pub expr_narrow : (t : Table) (b r : ℕ) (k : Block) (e : Expr) → slice_get x.blocks b ≡ Some k
      → IsLimited (scope_of x b k) → r ≤ 1 → ExprFits (scope_of x b k) e → bracket_depth e ≤ 6
      → AllNarrow (expr_code e (places_of x t b).site r)
  expr_narrow t b r k e there few le fits shallow =
      let site = (places_of x t b).site in
      fit_narrow (expr_code e site r) (expr_ops_fit (scope_of x b k) site (site_is t b k there few) e r fits (omega (arith, le, shallow)))

  pub cond_narrow : (t : Table) (b : ℕ) (k : Block) (c : Cond) → slice_get x.blocks b ≡ Some k
      → IsLimited (scope_of x b k) → ExprsFit (scope_of x b k) (cond_exprs c)
      → AllNarrow (cond_code c (places_of x t b).site)
  cond_narrow t b k c there few fits =
      let site = (places_of x t b).site in
      fit_narrow (cond_code c site) (cond_ops_fit (scope_of x b k) site (site_is t b k there few) c fits)

  pub values_narrow : (t : Table) (b r : ℕ) (k : Block) (es : List Expr) → slice_get x.blocks b ≡ Some k
      → IsLimited (scope_of x b k) → r ≤ 1 → AllByRecursion (ExprFits (scope_of x b k)) es
      → AllByRecursion (λ e. bracket_depth e ≤ 6) es → AllNarrow (values_code es (places_of x t b).site r)
  values_narrow t b r k [] there few le fits shallow = tt
  values_narrow t b r k (e ∷ es) there few le fits shallow =
      let site = (places_of x t b).site in
      narrow_on (expr_code e site r) _ (expr_narrow t b r k e there few le fits.0 shallow.0)
      (λ n. omega arith, values_narrow t b r k es there few le fits.1 shallow.1)

  -- widths of variables and fields
  width_of : (v : Variable) → VariableFits v → IsWidth v.width
  width_of v fits = (fits.some, fits.few)

  pub variable_width_fits : (b v : ℕ) (k : Block) → slice_get x.blocks b ≡ Some k → v < length k.variables → IsWidth (variable_width x b v)
  variable_width_fits b v k there lt =
      let w = some_at k.variables v lt in
      let inner : IsWidth (option_map_or (λ (e : Variable). e.width) (slice_get k.variables v) 0) = subst
      (λ o. IsWidth (option_map_or (λ (e : Variable). e.width) o 0)) (sym w.1)
      (width_of w.0 (variable_kept x kept b v k w.0 there w.1)) in
      subst (λ o. IsWidth (option_map_or (λ (k : Block). option_map_or (λ (e : Variable). e.width) (slice_get k.variables v) 0) o 0)) (sym there) inner

  pub field_width_fits : (file field : ℕ) (p : Placed) → slice_get (files_of x) file ≡ Some p → field < length p.file.fields → IsWidth (field_width p field)
  unfolding files_of
  field_width_fits file field p there lt =
      let w = some_at p.file.fields field lt in
      subst (λ o. IsWidth (option_map_or (λ (e : Variable). e.width) o 0)) (sym w.1) (width_of w.0 (field_kept x kept file field p w.0 there w.1))

  -- no signal has more than eight values
  pub signal_few : (signal : ℕ) (k : SignalKind) → slice_get x.signals signal ≡ Some k → signal_count k ≤ 8
  signal_few signal k there = all_at (λ s. signal_count s ≤ 8) x.signals signal k kept.signals.values there
