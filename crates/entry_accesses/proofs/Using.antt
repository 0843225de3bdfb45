-- What statements do to stored data, step by step.
use Rattle.std.proofs.Common.{◌≡◌, ℕ, zero, suc, ◌+◌, ◌<◌, ◌≤◌, ◌^◌, Bool, false, List, [], ◌∷◌}
use Rattle.std.proofs.Common.{◌++◌, length, map, take, drop, get_or, sum_by, Option, Some, None}
use Rattle.std.proofs.Common.{slice_get, refl, sym, ap, ◌∙◌, subst, arith, append_assoc, append-nil}
use Rattle.std.specs.List.{AllByRecursion}
use Rattle.std.proofs.Math.ListN.{drop_of_length-le}
use Rattle.std.proofs.lemmas.List.Sums.{sum_by_more_le}
use Rattle.std.proofs.lemmas.Option.{none-some, slice_get_within, get_or_from_slice_get}
use Rattle.std.proofs.lemmas.List.{get_or_default}
use Rattle.plex_num.proofs.Lists.{all_append, opens, all_weaker}
use Rattle.plex_limits.specs.declared.limits.TheConstants.{MOST_CELLS}
use Rattle.exchange_model.specs.declared.exchange.Exchange.{Exchange}
use Rattle.exchange_model.specs.declared.block.Block.{Block}
use Rattle.exchange_model.specs.declared.block.File.{File}
use Rattle.exchange_model.specs.declared.expr.Expr.{Expr}
use Rattle.exchange_model.specs.declared.expr.Rel.{Rel}
use Rattle.exchange_model.specs.declared.signal.SignalKind.{SignalKind}
use Rattle.exchange_model.specs.declared.signal.SignalKind.TheVariants.{Buffered, Direct, Combined}
use Rattle.exchange_model.specs.declared.signal.SignalKind.TheVariants.{Answer, Outside}
use Rattle.exchange_model.specs.declared.stmt.Holder.TheVariants as holder
use Rattle.exchange_model.specs.declared.stmt.Receiver.{Receiver}
use Rattle.exchange_model.specs.declared.stmt.Receiver.TheVariants as receiver
use Rattle.exchange_model.specs.declared.stmt.Stmt.{Stmt}
use Rattle.exchange_model.specs.declared.stmt.When.{When}
use Rattle.exchange_model.specs.declared.stmt.StmtKind.{StmtKind, StmtKind-F, out-StmtKind}
use Rattle.exchange_model.specs.declared.stmt.StmtKind.TheOpen as layer
use Rattle.exchange_model.specs.declared.stmt.StmtKind.TheVariants as kind
use Rattle.exchange_model.specs.Cells.{placed_files}
use Rattle.exchange_model.specs.Fits.{ExprFits, IsField, KindNames, SendFits, Reaches, TransferFits}
use Rattle.exchange_model.specs.Inside.{own_exprs}
use Rattle.exchange_model.specs.Kept.{IsExchange, scope_of}
use Rattle.exchange_model.proofs.Layers.{same_kind}
use Rattle.source_meaning.specs.Config.{files_of}
use Rattle.source_meaning.specs.Deeds.{receiver_in}
use Rattle.source_meaning.specs.Named.{Layer, Named, NamedVariable, NamedField, named_in}
use Rattle.source_meaning.specs.Rests.{IsOfBlock}
use Rattle.source_meaning.proofs.Fitting.{NamedFits, names_fit}
use Rattle.entry_summary.specs.Numbers.{field_number}
use Rattle.entry_accesses.specs.declared.operands.Operand.{Operand}
use Rattle.entry_accesses.specs.declared.uses.Use.{Use}
use Rattle.entry_accesses.specs.Numbered.{variable_count, placed_count, IsNumbered}
use Rattle.entry_accesses.specs.Operands.{HasNames, named, names_in, layer_names}
use Rattle.entry_accesses.specs.Uses.{field_use, field_uses, named_uses, read_uses, holder_uses}
use Rattle.entry_accesses.specs.Uses.{done_uses, layer_uses}
use Rattle.entry_accesses.proofs.Numbering.{variables_few, fields_few}

-- what a block names has a number

pub within : {A : Type 0} (f : A → ℕ) (xs : List A) (i j : ℕ) (x : A) → slice_get xs i ≡ Some x → j ≤ f x
    → sum_by f xs ≤ MOST_CELLS → sum_by f (take i xs) + j < 2 ^ 32
within f xs i j x there small few =
    let lt = slice_get_within xs i x there in
    let more = sum_by_more_le f xs i x lt in
    let at : f (get_or xs i x) ≡ f x = ap f (get_or_from_slice_get xs i x x there) in
    omega (arith, small, few, more, at)

file_within : (x : Exchange) (b file field : ℕ) (k : Block) → IsExchange x → IsField (scope_of x b k) file field
    → (j : ℕ) → j ≤ field → (file < length (files_of x)) × (field_number x file j < 2 ^ 32)
unfolding files_of
file_within x b file field k kept h j le =
    let lt = h.within in (
      slice_get_within (placed_files x.blocks) file h.placed h.there,
      within placed_count (files_of x) file j h.placed
          h.there (omega (arith, lt, le)) (fields_few x kept),
    )

fits_numbered : (x : Exchange) (b : ℕ) (k : Block) → IsExchange x → slice_get x.blocks b ≡ Some k → (n : Named)
    → NamedFits (scope_of x b k) n → IsNumbered x b n
fits_numbered x b k kept there (NamedVariable v) fits =
    let lt = fits in
    (slice_get_within x.blocks b k there, within variable_count x.blocks b v k there (omega (arith, lt)) (variables_few x kept))
fits_numbered x b k kept there (NamedField file field pointer) fits = file_within x b file field k kept fits.0 field (omega arith)

exprs_numbered : (x : Exchange) (b : ℕ) (k : Block) → IsExchange x → slice_get x.blocks b ≡ Some k → (es : List Expr)
    → AllByRecursion (ExprFits (scope_of x b k)) es → AllByRecursion (IsNumbered x b) (names_in es)
exprs_numbered x b k kept there [] fit = tt
exprs_numbered x b k kept there (e ∷ es) fit =
    all_append (IsNumbered x b) (named_in e) (names_in es)
    (all_weaker (NamedFits (scope_of x b k)) (IsNumbered x b) (named_in e) (fits_numbered x b k kept there) (names_fit (scope_of x b k) e fit.0))
    (exprs_numbered x b k kept there es fit.1)

pub names_numbered : (x : Exchange) (b : ℕ) (l : Layer) (old names given : List Operand) → IsExchange x
    → IsOfBlock x b l → old ≡ [] → HasNames old names (layer_names l) → given ≡ names
    → AllByRecursion (IsNumbered x b) (map named given)
names_numbered x b l old names given kept h none has same =
    let all = exprs_numbered x b h.block kept h.there (own_exprs l) h.fits.exprs.each in
    let is : map named given ≡ layer_names l = ap (map named) same ∙ has.is ∙ ap (λ o. map named o ++ layer_names l) none in
    subst (AllByRecursion (IsNumbered x b)) (sym is) all

pub numbered_at : {A B : Type 0} (P : B → Type 0) (f : A → B) (xs : List A) (i : ℕ) (d : A)
    → AllByRecursion P (map f xs) → i < length xs → P (f (get_or xs i d))
numbered_at P f [] i d all lt = absurd (omega arith)
numbered_at P f (x ∷ xs) zero d all lt = all.0
numbered_at P f (x ∷ xs) (suc i) d all lt = numbered_at P f xs i d all.1 (omega arith)

-- a receiver's holder

reaches_numbered : (x : Exchange) (b v : ℕ) (k : Block) (to : Option Receiver) (signal : ℕ) → IsExchange x
    → slice_get x.blocks b ≡ Some k → to ≡ Some (receiver.Held (holder.Variable v)) → Reaches (scope_of x b k) to signal
    → IsNumbered x b (NamedVariable v)
reaches_numbered x b v k to signal kept there is h =
    let fits = subst (λ (r : Option Receiver). Reaches (scope_of x b k) r signal) is h in
    fits_numbered x b k kept there (NamedVariable v) fits.0.0

send_numbered : (x : Exchange) (b v : ℕ) (k : Block) (to : Option Receiver) (signal values : ℕ) (fresh : Bool)
    (o : Option SignalKind) → IsExchange x → slice_get x.blocks b ≡ Some k
    → to ≡ Some (receiver.Held (holder.Variable v)) → SendFits (scope_of x b k) o signal to values fresh
    → IsNumbered x b (NamedVariable v)
send_numbered x b v k to signal values fresh None kept there is h = absurd h
send_numbered x b v k to signal values fresh (Some (Buffered name level count)) kept there is h = reaches_numbered x b v k to signal kept there is h.1
send_numbered x b v k to signal values fresh (Some (Direct name count)) kept there is h = reaches_numbered x b v k to signal kept there is h.1
send_numbered x b v k to signal values fresh (Some (Combined name count answer)) kept there is h = reaches_numbered x b v k to signal kept there is h.1
send_numbered x b v k to signal values fresh (Some (Answer name count combined)) kept there is h = absurd h
send_numbered x b v k to signal values fresh (Some (Outside name count)) kept there is h = absurd (none-some (receiver.Held (holder.Variable v)) (sym h.1 ∙ is))

transfer_numbered : (x : Exchange) (b v : ℕ) (k : Block) (to : Option Receiver) (signal : ℕ) (o : Option SignalKind)
    → IsExchange x → slice_get x.blocks b ≡ Some k → to ≡ Some (receiver.Held (holder.Variable v))
    → TransferFits (scope_of x b k) o signal to → IsNumbered x b (NamedVariable v)
transfer_numbered x b v k to signal (Some (Direct name count)) kept there is h = reaches_numbered x b v k to signal kept there is h
transfer_numbered x b v k to signal _ kept there is h = absurd h

pub holder_numbered : (x : Exchange) (b v : ℕ) (l : Layer) → IsExchange x → IsOfBlock x b l
    → receiver_in l ≡ Some (receiver.Held (holder.Variable v)) → IsNumbered x b (NamedVariable v)
holder_numbered x b v l kept h is = by l h.fits.names is
  where
    by : (l : Layer) → KindNames (scope_of x b h.block) l → receiver_in l ≡ Some (receiver.Held (holder.Variable v)) → IsNumbered x b (NamedVariable v)
    by (layer.Send signal to values fresh) names at = send_numbered x b v h.block to signal (length values) fresh
        (slice_get x.signals signal) kept h.there at names
    by (layer.Transfer signal to) names at = transfer_numbered x b v h.block to signal (slice_get x.signals signal) kept h.there at names
    by _ names at = absurd (none-some (receiver.Held (holder.Variable v)) at)

-- what statements name besides

pub set_variable_numbered : (x : Exchange) (b variable : ℕ) (value : Expr) (l : Layer) → IsExchange x → IsOfBlock x b l
    → l ≡ layer.SetVariable variable value → IsNumbered x b (NamedVariable variable)
set_variable_numbered x b variable value l kept h is =
    fits_numbered x b h.block kept h.there (NamedVariable variable) (subst (λ (m : Layer). KindNames (scope_of x b h.block) m) is h.fits.names)

pub set_field_numbered : (x : Exchange) (b file field pointer : ℕ) (value : Expr) (l : Layer) → IsExchange x
    → IsOfBlock x b l → l ≡ layer.SetField file field pointer value → IsNumbered x b (NamedField file field pointer)
set_field_numbered x b file field pointer value l kept h is =
    fits_numbered x b h.block kept h.there (NamedField file field pointer) (subst (λ (m : Layer). KindNames (scope_of x b h.block) m) is h.fits.names)

pub search_numbered : (x : Exchange) (b temp file field : ℕ) (rel : Rel) (value : Expr) (label : ℕ) (l : Layer)
    → IsExchange x → IsOfBlock x b l → l ≡ layer.ForFirst temp file field rel value label
    → IsNumbered x b (NamedField file field temp)
search_numbered x b temp file field rel value label l kept h is =
    let names = subst (λ (m : Layer). KindNames (scope_of x b h.block) m) is h.fits.names in
    file_within x b file field h.block kept names.2 field (omega arith)

-- one after the other

pub record ReadsGo (x : Exchange) (b : ℕ) (names : List Operand) (i : ℕ) (old now : List Use) : Type 0 where
  pub same : now ++ read_uses x b (map named (drop i names)) ≡ old ++ read_uses x b (map named names)

pub reads_begin : (x : Exchange) (b : ℕ) (names : List Operand) (old : List Use) → ReadsGo x b names 0 old old
reads_begin x b names old = record { same = refl }

reads_more : (x : Exchange) (b : ℕ) (names : List Operand) (i : ℕ) (o : Operand) (old now new : List Use)
    → i < length names → o ≡ get_or names i o → new ≡ now ++ named_uses x b false (named o)
    → ReadsGo x b names i old now → ReadsGo x b names (i + 1) old new
reads_more x b names i o old now new lt is made g = record {
  same =
      ap (λ l. l ++ read_uses x b (map named (drop (i + 1) names))) made
      ∙ append_assoc now (named_uses x b false (named o)) (read_uses x b (map named (drop (i + 1) names)))
      ∙ ap (λ l. now ++ read_uses x b (map named l)) (sym (opens names i o lt is))
      ∙ g.same;
}

pub reads_item : (x : Exchange) (b : ℕ) (names : List Operand) (i : ℕ) (d : Operand) (old now new : List Use)
    → i < length names → new ≡ now ++ named_uses x b false (named (get_or names i d)) → ReadsGo x b names i old now
    → ReadsGo x b names (i + 1) old new
reads_item x b names i d old now new lt made g = reads_more x b names i (get_or names i d) old now new lt
    (get_or_default names i d (get_or names i d) lt) made g

pub reads_end : (x : Exchange) (b : ℕ) (names : List Operand) (i : ℕ) (old now : List Use) → length names ≤ i
    → ReadsGo x b names i old now → now ≡ old ++ read_uses x b (map named names)
reads_end x b names i old now past g = sym (append-nil now) ∙ sym (ap (λ l. now ++ read_uses x b (map named l)) (drop_of_length-le names past)) ∙ g.same

pub all_uses : (x : Exchange) (b : ℕ) (l : Layer) (none names given : List Operand) (old mid later new : List Use)
    → none ≡ [] → HasNames none names (layer_names l) → given ≡ names → mid ≡ old ++ read_uses x b (map named given)
    → later ≡ mid ++ holder_uses x b (receiver_in l) → new ≡ later ++ done_uses x b l → new ≡ old ++ layer_uses x b l
all_uses x b l none names given old mid later new empty has same first second third =
    let is : map named given ≡ layer_names l = ap (map named) same ∙ has.is ∙ ap (λ o. map named o ++ layer_names l) empty in
    let reads : List Use = read_uses x b (layer_names l) in
    let held : List Use = holder_uses x b (receiver_in l) in
    third
    ∙ ap (λ u. u ++ done_uses x b l) (second ∙ ap (λ u. u ++ held) (first ∙ ap (λ ns. old ++ read_uses x b ns) is))
    ∙ append_assoc (old ++ reads) held (done_uses x b l)
    ∙ append_assoc old reads (held ++ done_uses x b l)

-- fields

pub field_nowhere : (x : Exchange) (file : ℕ) (write : Bool) (number pointer : ℕ) (old : List Use)
    → slice_get (placed_files x.blocks) file ≡ None
    → old ≡ old ++ field_uses (slice_get (files_of x) file) write number pointer
unfolding files_of
field_nowhere x file write number pointer old none = sym (append-nil old) ∙ ap (λ o. old ++ field_uses o write number pointer) (sym none)

pub field_there : (x : Exchange) (file b first : ℕ) (f : File) (write : Bool) (number pointer : ℕ) (u : Use)
    (old new : List Use) → slice_get (placed_files x.blocks) file ≡ Some (record { block = b; file = f; first = first })
    → u ≡ field_use f.forlopp write number pointer → new ≡ old ++ u ∷ []
    → new ≡ old ++ field_uses (slice_get (files_of x) file) write number pointer
unfolding files_of
field_there x file b first f write number pointer u old new there is made =
    made ∙ ap (λ v. old ++ v ∷ []) is ∙ ap (λ o. old ++ field_uses o write number pointer) (sym there)

-- a statement, by its layer

pub done_as : (x : Exchange) (b : ℕ) (k : StmtKind) (l : Layer) (old new : List Use) → out-StmtKind k ≡ l
    → new ≡ old ++ done_uses x b l → new ≡ old ++ done_uses x b (out-StmtKind k)
done_as x b k l old new is made = made ∙ ap (λ (m : Layer). old ++ done_uses x b m) (sym is)

pub done_none : (x : Exchange) (b : ℕ) (k : StmtKind) (old : List Use) →
    ((v : ℕ) (e : Expr) → k ≡ kind.SetVariable v e → ⊥) →
    ((f d p : ℕ) (e : Expr) → k ≡ kind.SetField f d p e → ⊥) →
    ((t f d : ℕ) (r : Rel) (e : Expr) (l : ℕ) → k ≡ kind.ForFirst t f d r e l → ⊥) →
    ((t f l : ℕ) → k ≡ kind.Seize t f l → ⊥) →
    ((t f : ℕ) → k ≡ kind.Free t f → ⊥) → old ≡ old ++ done_uses x b (out-StmtKind k)
done_none x b k old no_variable no_field no_search no_seize no_free = sym (append-nil old) ∙ ap (λ l. old ++ l) (sym (alone (out-StmtKind k) refl))
  where
    alone : (l : StmtKind-F StmtKind Stmt When) → out-StmtKind k ≡ l → done_uses x b l ≡ []
    alone (layer.SetVariable v e) is = absurd (no_variable v e (same_kind k (kind.SetVariable v e) _ is (kind.outs-SetVariable v e)))
    alone (layer.SetField f d p e) is = absurd (no_field f d p e (same_kind k (kind.SetField f d p e) _ is (kind.outs-SetField f d p e)))
    alone (layer.ForFirst t f d r e l) is = absurd (no_search t f d r e l (same_kind k (kind.ForFirst t f d r e l) _ is (kind.outs-ForFirst t f d r e l)))
    alone (layer.Seize t f l) is = absurd (no_seize t f l (same_kind k (kind.Seize t f l) _ is (kind.outs-Seize t f l)))
    alone (layer.Free t f) is = absurd (no_free t f (same_kind k (kind.Free t f) _ is (kind.outs-Free t f)))
    alone _ is = refl
