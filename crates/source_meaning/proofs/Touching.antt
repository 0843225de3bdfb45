-- A job touches cells of its exchange alone.
use Rattle.std.proofs.Common.{◌≡◌, ℕ, suc, ◌+◌, ◌<◌, Bool, true, false, List, [], ◌∷◌, ◌++◌, length}
use Rattle.std.proofs.Common.{Option, Some, None, refl, sym, ap, ◌∙◌, subst, slice_get, arith}
use Rattle.std.proofs.lemmas.Bool.{ltb-true}
use Rattle.std.proofs.lemmas.Option.{same_Some, slice_get_within}
use Rattle.std.specs.Prelude.{nat_lt, slice_index, if◌then◌else◌}
use Rattle.std.specs.List.{AllByRecursion}
use Rattle.job_types.specs.declared.chain.Held.{Held}
use Rattle.job_types.specs.declared.fault.Fault.TheVariants as fault
use Rattle.job_types.specs.declared.job.JobStart.{JobStart}
use Rattle.job_types.specs.declared.touch.Touch.{Touch}
use Rattle.job_types.specs.declared.touch.Touch.TheVariants.{Store}
use Rattle.job_types.specs.Own.{World, writes, budget}
use Rattle.exchange_model.specs.declared.exchange.Exchange.{Exchange}
use Rattle.exchange_model.specs.declared.block.Block.{Block}
use Rattle.exchange_model.specs.declared.block.Variable.{Variable}
use Rattle.exchange_model.specs.declared.expr.Expr.{Expr}
use Rattle.exchange_model.specs.declared.signal.SignalKind.{SignalKind}
use Rattle.exchange_model.specs.declared.signal.SignalKind.TheVariants.{Buffered, Direct, Combined}
use Rattle.exchange_model.specs.declared.signal.SignalKind.TheVariants.{Answer, Outside}
use Rattle.exchange_model.specs.declared.stmt.Holder.{Holder}
use Rattle.exchange_model.specs.declared.stmt.Holder.TheVariants as holder
use Rattle.exchange_model.specs.declared.stmt.Receiver.{Receiver}
use Rattle.exchange_model.specs.declared.stmt.Receiver.TheVariants as receiver
use Rattle.exchange_model.specs.declared.stmt.StmtKind.TheOpen as stmt
use Rattle.exchange_model.specs.Cells.{Placed, field_cell, mark_cell, record_cells, marks}
use Rattle.exchange_model.specs.Fits.{Scope, IsHolder, IsVariable, IsField, IsFile, Reaches}
use Rattle.exchange_model.specs.Fits.{SendFits, TransferFits, ExprFits, KindNames}
use Rattle.exchange_model.specs.Inside.{own_exprs}
use Rattle.exchange_model.specs.Kept.{IsExchange, scope_of}
use Rattle.exchange_model.proofs.Numbers.{field_cell_below}
use Rattle.exchange_model.proofs.Places.{file_below, variable_below}
use Rattle.source_meaning.specs.Value.{pointer_fault, may_use}
use Rattle.source_meaning.specs.Config.{Item, Caller, Config, base_of, files_of}
use Rattle.source_meaning.specs.Changes.{ends, opens_fields, opens_record}
use Rattle.source_meaning.specs.Deeds.{Deed, Doing, Starting, Turning, IsExprOf, receiver_in}
use Rattle.source_meaning.specs.Deeds.{LooksAt, at_variable, at_field, at_holder, at_searched}
use Rattle.source_meaning.specs.Deeds.{at_mark, IsLook}
use Rattle.source_meaning.specs.Effects.{Effect, Looks, PutsVariable, PutsField, Seizes, Frees}
use Rattle.source_meaning.specs.Effects.{Goes, Posts, Leave, Faults}
use Rattle.source_meaning.specs.Job.{begins, job}
use Rattle.source_meaning.specs.Named.{Layer, NamedVariable, NamedField}
use Rattle.source_meaning.specs.Rests.{AreRests, DeedStands}
use Rattle.source_meaning.specs.Traces.{touched_word}
use Rattle.source_meaning.proofs.Keeping.{KeptWith, kept_both, steps_keep}
use Rattle.plex_num.proofs.Lists.{all_append}
use Rattle.source_meaning.proofs.Lists.{all_contained}
use Rattle.source_meaning.proofs.Fitting.{deed_fits_in, NamedFits, names_fit}
use Rattle.source_meaning.proofs.Rests.{DeedRest, rests_kept, start_rests}

-- a pointer with nothing wrong is below the size
pub pointer_within : (chain : List Held) (file : ℕ) (p : Placed) (number : ℕ) → pointer_fault chain file p number ≡ None → number < p.file.size
pointer_within chain file p number sound = by (nat_lt number p.file.size) refl sound
  where
    by : (b : Bool) → nat_lt number p.file.size ≡ b
        → (if b then (if may_use chain file p number then None else Some fault.NotOwn) else Some fault.Pointer) ≡ None
        → number < p.file.size
    by true is h = ltb-true number p.file.size is
    by false is h = cc

-- and the job may use the record
pub pointer_own : (chain : List Held) (file : ℕ) (p : Placed) (number : ℕ) → pointer_fault chain file p number ≡ None → may_use chain file p number ≡ true
pointer_own chain file p number sound = by (nat_lt number p.file.size) (may_use chain file p number) sound
  where
    by : (b own : Bool) → (if b then (if own then None else Some fault.NotOwn) else Some fault.Pointer) ≡ None → own ≡ true
    by true true h = refl
    by true false h = cc
    by false own h = cc

-- the cells of an exchange
module _ (x : Exchange) (kept : IsExchange x) where
  pub variable_inside : (b v : ℕ) (k : Block) → slice_get x.blocks b ≡ Some k → v < length k.variables → base_of x b + v < x.cells
  unfolding base_of
  variable_inside b v k there lt = let below = variable_below x.blocks b v k there lt in let all = kept.numbered.cells in omega arith

  pub cell_inside : (file number place : ℕ) (p : Placed) → slice_get (files_of x) file ≡ Some p → number < p.file.size
      → place < record_cells p.file → field_cell p number place < x.cells
  unfolding files_of
  cell_inside file number place p there within lt =
      let below = field_cell_below p number place within lt in
      let whole = file_below x.blocks file p there in
      let all = kept.numbered.cells in
      omega arith

  pub field_inside : (file number field : ℕ) (p : Placed) → slice_get (files_of x) file ≡ Some p → number < p.file.size
      → field < length p.file.fields → field_cell p number field < x.cells
  field_inside file number field p there within lt = cell_inside file number field p there within (omega arith)

  pub mark_inside : (file number : ℕ) (p : Placed) → slice_get (files_of x) file ≡ Some p → number < p.file.size
      → p.file.forlopp ≡ true → mark_cell p number < x.cells
  mark_inside file number p there within marked =
      let one : marks p.file.forlopp ≡ 1 = ap marks marked in
      cell_inside file number (length p.file.fields) p there within (omega arith)

  -- a field of the block's scope is one of the file that its number names
  pub field_of : (b : ℕ) (k : Block) (file field : ℕ) (p : Placed) → IsField (scope_of x b k) file field
      → slice_get (files_of x) file ≡ Some p → field < length p.file.fields
  unfolding files_of
  field_of b k file field p f there =
      let same : f.placed ≡ p = same_Some f.placed p (sym f.there ∙ there) in
      subst (λ (q : Placed). field < length q.file.fields) same f.within

  pub forlopp_of : (b : ℕ) (k : Block) (file : ℕ) (kind : Bool) (p : Placed) → IsFile (scope_of x b k) file kind
      → slice_get (files_of x) file ≡ Some p → p.file.forlopp ≡ kind
  unfolding files_of
  forlopp_of b k file kind p f there =
      let same : f.placed ≡ p = same_Some f.placed p (sym f.there ∙ there) in
      subst (λ (q : Placed). q.file.forlopp ≡ kind) same f.kind

  -- an expression of what is counted is of the block
  pub record ExprFitsIn (b : ℕ) (e : Expr) : Type 0 where
    pub block : Block
    pub there : slice_get x.blocks b ≡ Some block
    pub fits : ExprFits (scope_of x b block) e

  pub deed_expr : (b : ℕ) (deed : Deed) (rest : List Item) (e : Expr) → DeedStands x b deed rest → IsExprOf deed e → ExprFitsIn b e
  deed_expr b (Doing p l) rest e h of =
      let f = deed_fits_in x kept b p l rest h in
      record { block = f.block; there = f.there; fits = all_contained (ExprFits (scope_of x b f.block)) (own_exprs l) e f.fits.exprs.each of }
  deed_expr b (Starting p l) rest e h of = absurd of
  deed_expr b (Turning p temp this end body) rest e h of = absurd of

  -- what holds a reference is of the block
  held_fits : (s : Scope) (h : Holder) (signal : ℕ) (to : Option Receiver) → to ≡ Some (receiver.Held h) → Reaches s to signal → IsHolder s h
  held_fits s h signal to is reaches = (subst (λ o. Reaches s o signal) is reaches).0.0

  send_holder : (s : Scope) (h : Holder) (signal : ℕ) (kind : Option SignalKind) (to : Option Receiver) (values : ℕ)
      (fresh : Bool) → to ≡ Some (receiver.Held h) → SendFits s kind signal to values fresh → IsHolder s h
  send_holder s h signal None to values fresh is fits = absurd fits
  send_holder s h signal (Some (Buffered name level count)) to values fresh is fits = held_fits s h signal to is fits.1
  send_holder s h signal (Some (Direct name count)) to values fresh is fits = held_fits s h signal to is fits.1
  send_holder s h signal (Some (Combined name count answer)) to values fresh is fits = held_fits s h signal to is fits.1
  send_holder s h signal (Some (Answer name count combined)) to values fresh is fits = absurd fits
  send_holder s h signal (Some (Outside name count)) to values fresh is fits = absurd (let none = fits.1 in cc)

  transfer_holder : (s : Scope) (h : Holder) (signal : ℕ) (kind : Option SignalKind) (to : Option Receiver)
      → to ≡ Some (receiver.Held h) → TransferFits s kind signal to → IsHolder s h
  transfer_holder s h signal (Some (Direct name count)) to is fits = held_fits s h signal to is fits
  transfer_holder s h signal _ to is fits = absurd fits

  pub holder_fits : (s : Scope) (l : Layer) (h : Holder) → receiver_in l ≡ Some (receiver.Held h) → KindNames s l → IsHolder s h
  holder_fits s (stmt.Send signal to values fresh) h is names = send_holder s h signal (slice_get s.signals signal) to (length values) fresh is names
  holder_fits s (stmt.Transfer signal to) h is names = transfer_holder s h signal (slice_get s.signals signal) to is names
  holder_fits s _ h is names = absurd (let none = is in cc)

  pub holder_variable : (s : Scope) (l : Layer) (v : ℕ) → receiver_in l ≡ Some (receiver.Held (holder.Variable v)) → KindNames s l → IsVariable s v
  holder_variable s l v is names = holder_fits s l (holder.Variable v) is names

  -- a cell that is looked at
  look_inside : (c : Config) (deed : Deed) (rest : List Item) (cell : ℕ) → DeedStands x c.block deed rest → LooksAt x c deed cell → cell < x.cells
  look_inside c deed rest cell h (at_variable e v of named) =
      let f = deed_expr c.block deed rest e h of in
      variable_inside c.block v f.block f.there
      (all_contained (NamedFits (scope_of x c.block f.block)) _ (NamedVariable v)
      (names_fit (scope_of x c.block f.block) e f.fits) named)
  look_inside c deed rest cell h (at_field e file field pointer p of named may) =
      let f = deed_expr c.block deed rest e h of in
      let is = all_contained (NamedFits (scope_of x c.block f.block)) _ (NamedField file field pointer)
      (names_fit (scope_of x c.block f.block) e f.fits) named in
      field_inside file (slice_index c.temps pointer) field p may.there
      (pointer_within c.own.chain file p (slice_index c.temps pointer) may.sound)
      (field_of c.block f.block file field p is.0 may.there)
  look_inside c deed rest cell h (at_holder p {l = l} v is) =
      let f = deed_fits_in x kept c.block p l rest h in
      variable_inside c.block v f.block f.there (holder_variable (scope_of x c.block f.block) l v is f.fits.names)
  look_inside c deed rest cell h (at_searched p temp file field rel e label number placed at) =
      let f = deed_fits_in x kept c.block p (stmt.ForFirst temp file field rel e label) rest h in
      field_inside file number field placed at.there at.within (field_of c.block f.block file field placed f.fits.names.2 at.there)
  look_inside c deed rest cell h (at_mark p temp file label number placed at) =
      let f = deed_fits_in x kept c.block p (stmt.Seize temp file label) rest h in
      mark_inside file number placed at.there at.within (forlopp_of c.block f.block file true placed f.fits.names.1 at.there)

-- a record that is opened: what holds of the store to each of its cells
module _ (Q : Touch → Type 0) where
  opens_all : (p : Placed) (number field : ℕ) (fields : List Variable) (w : World)
      → ((i : ℕ) (v : Variable) → slice_get fields i ≡ Some v → Q (Store (field_cell p number (field + i)) v.init))
      → AllByRecursion Q w.trace → AllByRecursion Q (opens_fields p number field fields w).trace
  opens_all p number field [] w each all = all
  opens_all p number field (v ∷ rest) w each all =
      let u = writes (field_cell p number field) v.init w in
      let first : field + 0 ≡ field = omega arith in
      let here : Q (Store (field_cell p number field) v.init) = subst (λ (n : ℕ). Q (Store (field_cell p number n) v.init)) first (each 0 v refl) in
      opens_all p number (field + 1) rest u
      (λ i e at. let past : field + suc i ≡ field + 1 + i = omega arith in subst (λ (n : ℕ). Q (Store (field_cell p number n) e.init)) past (each (suc i) e at))
      (all_append Q w.trace (Store (field_cell p number field) v.init ∷ []) all (here, tt))

  pub record_all : (p : Placed) (number : ℕ) (w : World)
      → ((i : ℕ) (v : Variable) → slice_get p.file.fields i ≡ Some v → Q (Store (field_cell p number i) v.init))
      → Q (Store (mark_cell p number) 0) → AllByRecursion Q w.trace → AllByRecursion Q (opens_record p number w).trace
  record_all p number w each mark all =
      let u = opens_fields p number 0 p.file.fields w in
      all_append Q u.trace (Store (mark_cell p number) 0 ∷ [])
      (opens_all p number 0 p.file.fields w
      (λ i v at. let none : i ≡ 0 + i = omega arith in subst (λ (n : ℕ). Q (Store (field_cell p number n) v.init))
      none (each i v at)) all) (mark, tt)

module _ (x : Exchange) (kept : IsExchange x) where
  -- a touch of a cell of the exchange
  abbrev pub IsInside : Touch → Type 0
  IsInside t = touched_word t < x.cells

  abbrev AreInside : Config → Type 0
  AreInside c = AllByRecursion IsInside c.world.trace

  looks_inside : (c : Config) (deed : Deed) (rest : List Item) (loads : List Touch) → DeedStands x c.block deed rest
      → AllByRecursion (IsLook x c deed) loads → AllByRecursion IsInside loads
  looks_inside c deed rest [] h each = tt
  looks_inside c deed rest (t ∷ loads) h each =
      (subst IsInside (sym each.0.is) (look_inside x kept c deed rest each.0.cell h each.0.at), looks_inside c deed rest loads h each.1)

  one_more : (c : Config) (cell v : ℕ) → cell < x.cells → AreInside c → AllByRecursion IsInside (c.world.trace ++ Store cell v ∷ [])
  one_more c cell v lt all = all_append IsInside c.world.trace (Store cell v ∷ []) all (lt, tt)

  effect_inside : (deed : Deed) (rest : List Item) (c d : Config) → DeedRest x c.block deed rest → AreRests x c
      → AreInside c → Effect x deed rest c d → AreInside d
  effect_inside deed rest c d at h all (Looks e loads each) = all_append IsInside c.world.trace loads all (looks_inside c deed rest loads at.0 each)
  effect_inside deed rest c d at h all (PutsVariable e p variable expr v is value fits) =
      let f = deed_fits_in x kept c.block p (stmt.SetVariable variable expr) rest (subst (λ (a : Deed). DeedStands x c.block a rest) is at.0) in
      one_more c (base_of x c.block + variable) v (variable_inside x kept c.block variable f.block f.there f.fits.names) all
  effect_inside deed rest c d at h all (PutsField e p file field pointer expr v placed is may value fits) =
      let f = deed_fits_in x kept c.block p (stmt.SetField file field pointer expr) rest (subst (λ (a : Deed). DeedStands x c.block a rest) is at.0) in
      let number = slice_index c.temps pointer in
      one_more c (field_cell placed number field) v
      (field_inside x kept file number field placed may.there
      (pointer_within c.own.chain file placed number may.sound)
      (field_of x kept c.block f.block file field placed f.fits.names.0 may.there)) all
  effect_inside deed rest c d at h all (Seizes e p temp file label number placed is record_of some room free) =
      let f = deed_fits_in x kept c.block p (stmt.Seize temp file label) rest (subst (λ (a : Deed). DeedStands x c.block a rest) is at.0) in
      one_more c (mark_cell placed number) 1 (mark_inside x kept file number placed record_of.there record_of.within
      (forlopp_of x kept c.block f.block file true placed f.fits.names.1 record_of.there)) all
  effect_inside deed rest c d at h all (Frees e p temp file placed is may) =
      let f = deed_fits_in x kept c.block p (stmt.Free temp file) rest (subst (λ (a : Deed). DeedStands x c.block a rest) is at.0) in
      let number = slice_index c.temps temp in
      let within = pointer_within c.own.chain file placed number may.sound in
      record_all IsInside placed number c.world
      (λ i v there. field_inside x kept file number i placed may.there within
      (slice_get_within placed.file.fields i v there))
      (mark_inside x kept file number placed may.there within (forlopp_of x kept c.block f.block file true placed f.fits.names.1 may.there)) all
  effect_inside deed rest c d at h all (Goes e todo temps on) = all
  effect_inside deed rest c d at h all (Posts e to vs is room) = all

  leave_inside : (deed : Deed) (rest : List Item) (c d : Config) → DeedRest x c.block deed rest → AreRests x c
      → AreInside c → Leave x deed rest c d → AreInside d
  leave_inside deed rest c d at h all (Faults e f why) = all
  leave_inside deed rest c d at h all _ = all

  ends_inside : (ks : List Caller) (c : Config) → AreInside c → AreInside (ends ks c)
  ends_inside [] c all = all
  ends_inside (k ∷ ks) c all = all

  inside_kept : KeptWith x (AreRests x) (λ b deed rest. DeedRest x b deed rest) AreInside (λ deed rest. Unit {0})
  inside_kept = record {
    context = λ c i rest h all is. tt;
    counting = λ deed rest c at h all. all;
    effect = λ deed rest c d at more h all e. effect_inside deed rest c d at h all e;
    leave = λ deed rest c d at more h all e. leave_inside deed rest c d at h all e;
    ending = λ c all. ends_inside c.callers c all;
    full = λ c all. all;
  }

  pub touches_inside : (start : JobStart) (store : List ℕ) → AllByRecursion IsInside (job x start store).world.trace
  unfolding job
  touches_inside start store = (steps_keep (kept_both (rests_kept x) inside_kept) (budget + 1) (begins x start store) (start_rests x start store, tt)).1
