-- A statement that accesses no listed variable or field touches no word of one.
use Rattle.std.proofs.Common.{◌≡◌, ℕ, ◌+◌, ◌<◌, Bool, true, false, List, [], ◌∷◌, length, Some}
use Rattle.std.proofs.Common.{refl, sym, subst, slice_get}
use Rattle.std.proofs.lemmas.Option.{slice_get_within}
use Rattle.std.specs.List.{AllByRecursion, Contains}
use Rattle.std.specs.Prelude.{slice_index}
use Rattle.plex_num.proofs.Lists.{all_append}
use Rattle.job_types.specs.declared.touch.Touch.{Touch}
use Rattle.job_types.specs.declared.touch.Touch.TheVariants.{Store}
use Rattle.exchange_model.specs.declared.exchange.Exchange.{Exchange}
use Rattle.exchange_model.specs.declared.block.Block.{Block}
use Rattle.exchange_model.specs.declared.expr.Expr.{Expr}
use Rattle.exchange_model.specs.declared.stmt.StmtKind.TheOpen as stmt
use Rattle.exchange_model.specs.Cells.{Placed, field_cell, mark_cell}
use Rattle.exchange_model.specs.Kept.{IsExchange, scope_of}
use Rattle.source_meaning.specs.Named.{Layer, NamedVariable, NamedField, named_in}
use Rattle.source_meaning.specs.Config.{Item, Config, base_of}
use Rattle.source_meaning.specs.Deeds.{Deed, Doing, Starting, Turning, IsExprOf, IsFileAt, LooksAt}
use Rattle.source_meaning.specs.Deeds.{MayUse, at_variable, at_field, at_holder, at_searched}
use Rattle.source_meaning.specs.Deeds.{at_mark, IsLook}
use Rattle.source_meaning.specs.Effects.{Effect, Looks, PutsVariable, PutsField, Seizes, Frees}
use Rattle.source_meaning.specs.Effects.{Goes, Posts, Leave, Faults, Effects, Done, Then, Last}
use Rattle.source_meaning.specs.Rests.{DeedStands}
use Rattle.source_meaning.proofs.Fitting.{deed_fits_in, NamedFits, names_fit}
use Rattle.source_meaning.proofs.Keeping.{effect_block}
use Rattle.source_meaning.proofs.Lists.{all_contained}
use Rattle.source_meaning.proofs.Touching.{pointer_within, field_of, forlopp_of, deed_expr}
use Rattle.source_meaning.proofs.Touching.{holder_variable, record_all}
use Rattle.flow_points.specs.declared.fact.Slot.TheVariants.{Temp}
use Rattle.flow_points.specs.declared.fact.Value.{Value}
use Rattle.flow_points.specs.declared.fact.Value.TheVariants.{Any}
use Rattle.flow_points.specs.Facts.{Facts, Known}
use Rattle.flow_points.specs.Slots.{temp_count}
use Rattle.entry_summary.specs.declared.summary.Access.TheVariants.{Field, Variable}
use Rattle.entry_summary.specs.Accesses as access
use Rattle.entry_summary.specs.Accesses.{Accesses, IsPlain}
use Rattle.entry_summary.specs.Numbers.{field_number, variable_number}
use Rattle.start_permit.specs.Granted.{IsFieldNumber}
use Rattle.permit_laws.proofs.Telling.{temp_within}
use Rattle.pair_laws.proofs.Naming.{kinds_apart}
use Rattle.additions_meaning.specs.Additions.{IsAddedWord, Targets}
use Rattle.addition_laws.specs.Either.{IsOutside}
use Rattle.addition_laws.proofs.Cells.{field_added, mark_added, variable_added}

-- each of these fields is of a plain file
abbrev pub AllPlain : Exchange → List ℕ → Type 0
AllPlain x fields = (n : ℕ) → Contains fields n → (file field : ℕ) → IsFieldNumber x n file field → IsPlain x file

module _ (x : Exchange) (d : Targets) where
  abbrev pub Out : ℕ → Type 0
  Out w = IsAddedWord x d w → ⊥

  abbrev pub Outs : Touch → Type 0
  Outs = IsOutside (IsAddedWord x d)

  pub mark_out : (file number : ℕ) (p : Placed) → IsFileAt x file p → number < p.file.size → p.file.forlopp ≡ true → Out (mark_cell p number)
  mark_out file number p there below kind added = mark_added x d file number p there below kind added

  module _ (plain : AllPlain x d.fields) where
    -- the file of an added field is a plain one
    pub added_plain : (file number field : ℕ) (p : Placed) → IsFileAt x file p → number < p.file.size
        → field < length p.file.fields → IsAddedWord x d (field_cell p number field) → IsPlain x file
    added_plain file number field p there below lt added =
        plain (field_number x file field) (field_added x d file number field p there below lt added) file field
        (record { placed = p; there = there; within = lt; numbered = refl })

    pub own_out : (file number field : ℕ) (p : Placed) → IsFileAt x file p → number < p.file.size
        → field < length p.file.fields → p.file.forlopp ≡ true → Out (field_cell p number field)
    own_out file number field p there below lt kind added = kinds_apart x file
        (added_plain file number field p there below lt added) (record { placed = p; there = there; forlopp = kind })

module _ (x : Exchange) (kept : IsExchange x) (P : Facts) (entry : ℕ) (d : Targets) (plain : AllPlain x d.fields) where
  -- for each temporary of the block some fact stands before the point
  abbrev pub KnowsSome : ℕ → ℕ → Type 0
  KnowsSome b p = (t : ℕ) → t < temp_count x b → (v : Value) × Known P entry p (Temp t) v

  -- the statement accesses no listed variable or field
  pub record IsApartAt (b p : ℕ) (l : Layer) : Type 0 where
    pub knows : KnowsSome b p
    pub variables : (n : ℕ) → Contains d.variables n → (write : Bool) → Accesses x P entry b p l (Variable write n) → ⊥
    pub fields : (n : ℕ) → Contains d.fields n → (write : Bool) (v : Value) → Accesses x P entry b p l (Field write n v) → ⊥

  abbrev pub IsApart : ℕ → Deed → Type 0
  IsApart b (Doing p l) = IsApartAt b p l
  IsApart b deed = Unit {0}

  abbrev OutSo : ℕ → Type 0
  OutSo w = Out x d w

  abbrev OutsSo : Touch → Type 0
  OutsSo = Outs x d

  variable_out : (b p v : ℕ) (l : Layer) (write : Bool) (k : Block) → slice_get x.blocks b ≡ Some k
      → v < length k.variables → IsApart b (Doing p l)
      → Accesses x P entry b p l (Variable write (variable_number x b v)) → OutSo (base_of x b + v)
  variable_out b p v l write k there lt apart is added = apart.variables (variable_number x b v) (variable_added x d b v k there lt added) write is

  field_out : (b p : ℕ) (l : Layer) (write : Bool) (v : Value) (file number field : ℕ) (q : Placed) → IsFileAt x file q
      → number < q.file.size → field < length q.file.fields → IsApart b (Doing p l)
      → (IsPlain x file → Accesses x P entry b p l (Field write (field_number x file field) v)) → OutSo (field_cell q number field)
  field_out b p l write v file number field q there below lt apart is added =
      apart.fields (field_number x file field) (field_added x d file number field q there below lt added) write v
      (is (added_plain x d plain file number field q there below lt added))

  named_out : (b : ℕ) (deed : Deed) (rest : List Item) (e : Expr) (v : ℕ) → DeedStands x b deed rest → IsApart b deed
      → IsExprOf deed e → Contains (named_in e) (NamedVariable v) → OutSo (base_of x b + v)
  named_out b (Doing p l) rest e v at apart of named =
      let f = deed_expr x kept b (Doing p l) rest e at of in
      let lt = all_contained (NamedFits (scope_of x b f.block)) (named_in e) (NamedVariable v) (names_fit (scope_of x b f.block) e f.fits) named in
      variable_out b p v l false f.block f.there lt apart (access.reads l v (record { expr = e; own = of; named = named }))
  named_out b (Starting p l) rest e v at apart of named = absurd of
  named_out b (Turning p temp this end body) rest e v at apart of named = absurd of

  named_field_out : (c : Config) (deed : Deed) (rest : List Item) (e : Expr) (file field pointer : ℕ) (q : Placed)
      → DeedStands x c.block deed rest → IsApart c.block deed → IsExprOf deed e
      → Contains (named_in e) (NamedField file field pointer)
      → MayUse x c file (slice_index c.temps pointer) q → OutSo (field_cell q (slice_index c.temps pointer) field)
  named_field_out c (Doing p l) rest e file field pointer q at apart of named may =
      let f = deed_expr x kept c.block (Doing p l) rest e at of in
      let is = all_contained (NamedFits (scope_of x c.block f.block)) (named_in e) (NamedField file field pointer)
      (names_fit (scope_of x c.block f.block) e f.fits) named in
      let number = slice_index c.temps pointer in
      let k = apart.knows pointer (temp_within x c.block pointer f.block f.there is.1) in
      field_out c.block p l false k.0 file number field q may.there (pointer_within c.own.chain file q number may.sound)
      (field_of x kept c.block f.block file field q is.0 may.there) apart
      (λ plain. access.reads_field l file field pointer k.0 (record { expr = e; own = of; named = named }) plain k.1)
  named_field_out c (Starting p l) rest e file field pointer q at apart of named may = absurd of
  named_field_out c (Turning p temp this end body) rest e file field pointer q at apart of named may = absurd of

  look_out : (c : Config) (deed : Deed) (rest : List Item) (cell : ℕ) → DeedStands x c.block deed rest
      → IsApart c.block deed → LooksAt x c deed cell → OutSo cell
  look_out c deed rest cell at apart (at_variable e v of named) = named_out c.block deed rest e v at apart of named
  look_out c deed rest cell at apart (at_field e file field pointer placed of named may) =
      named_field_out c deed rest e file field pointer placed at apart of named may
  look_out c deed rest cell at apart (at_holder p {l = l} v is) =
      let f = deed_fits_in x kept c.block p l rest at in
      variable_out c.block p v l false f.block f.there
      (holder_variable x kept (scope_of x c.block f.block) l v is f.fits.names) apart (access.reads_holder l v is)
  look_out c deed rest cell at apart (at_searched p temp file field rel e label number placed record_of) =
      let l = stmt.ForFirst temp file field rel e label in
      let f = deed_fits_in x kept c.block p l rest at in
      field_out c.block p l false Any file number field placed record_of.there record_of.within
      (field_of x kept c.block f.block file field placed f.fits.names.2 record_of.there) apart
      (λ plain. access.searches temp file field rel e label)
  look_out c deed rest cell at apart (at_mark p temp file label number placed record_of) =
      let f = deed_fits_in x kept c.block p (stmt.Seize temp file label) rest at in
      mark_out x d file number placed record_of.there record_of.within (forlopp_of x kept c.block f.block file true placed f.fits.names.1 record_of.there)

  looks_out : (c : Config) (deed : Deed) (rest : List Item) (loads : List Touch) → DeedStands x c.block deed rest
      → IsApart c.block deed → AllByRecursion (IsLook x c deed) loads → AllByRecursion OutsSo loads
  looks_out c deed rest [] at apart each = tt
  looks_out c deed rest (t ∷ loads) at apart each = (
    subst OutsSo (sym each.0.is)
        (look_out c deed rest each.0.cell at apart each.0.at),
    looks_out c deed rest loads at apart each.1,
  )

  abbrev AreOut : Config → Type 0
  AreOut c = AllByRecursion OutsSo c.world.trace

  effect_out : (deed : Deed) (rest : List Item) (c e : Config) → DeedStands x c.block deed rest → IsApart c.block deed
      → AreOut c → Effect x deed rest c e → AreOut e
  effect_out deed rest c e at apart all (Looks o loads each) = all_append OutsSo c.world.trace loads all (looks_out c deed rest loads at apart each)
  effect_out deed rest c e at apart all (PutsVariable o p variable expr v is value fits) =
      let l = stmt.SetVariable variable expr in
      let g = deed_fits_in x kept c.block p l rest (subst (λ (a : Deed). DeedStands x c.block a rest) is at) in
      let out = variable_out c.block p variable l true g.block g.there g.fits.names (subst (IsApart c.block) is apart) (access.writes variable expr) in
      all_append OutsSo c.world.trace (Store (base_of x c.block + variable) v ∷ []) all (out, tt)
  effect_out deed rest c e at apart all (PutsField o p file field pointer expr v placed is may value fits) =
      let l = stmt.SetField file field pointer expr in
      let g = deed_fits_in x kept c.block p l rest (subst (λ (a : Deed). DeedStands x c.block a rest) is at) in
      let number = slice_index c.temps pointer in
      let here = subst (IsApart c.block) is apart in
      let k = here.knows pointer (temp_within x c.block pointer g.block g.there g.fits.names.1) in
      let out = field_out c.block p l true k.0 file number field placed may.there
      (pointer_within c.own.chain file placed number may.sound)
      (field_of x kept c.block g.block file field placed g.fits.names.0 may.there) here
      (λ plain. access.writes_field file field pointer expr k.0 plain k.1) in
      all_append OutsSo c.world.trace (Store (field_cell placed number field) v ∷ []) all (out, tt)
  effect_out deed rest c e at apart all (Seizes o p temp file label number placed is record_of some room free) =
      let g = deed_fits_in x kept c.block p (stmt.Seize temp file label) rest (subst (λ (a : Deed). DeedStands x c.block a rest) is at) in
      let out = mark_out x d file number placed record_of.there record_of.within
      (forlopp_of x kept c.block g.block file true placed g.fits.names.1 record_of.there) in
      all_append OutsSo c.world.trace (Store (mark_cell placed number) 1 ∷ []) all (out, tt)
  effect_out deed rest c e at apart all (Frees o p temp file placed is may) =
      let g = deed_fits_in x kept c.block p (stmt.Free temp file) rest (subst (λ (a : Deed). DeedStands x c.block a rest) is at) in
      let number = slice_index c.temps temp in
      let within = pointer_within c.own.chain file placed number may.sound in
      let kind = forlopp_of x kept c.block g.block file true placed g.fits.names.1 may.there in
      record_all OutsSo placed number c.world (λ i v there. own_out x d plain file number i placed may.there within
      (slice_get_within placed.file.fields i v there) kind)
      (mark_out x d file number placed may.there within kind) all
  effect_out deed rest c e at apart all (Goes o todo temps on) = all
  effect_out deed rest c e at apart all (Posts o to vs is room) = all

  leave_out : (deed : Deed) (rest : List Item) (c e : Config) → AreOut c → Leave x deed rest c e → AreOut e
  leave_out deed rest c e all (Faults o f why) = all
  leave_out deed rest c e all _ = all

  pub effects_out : (deed : Deed) (rest : List Item) (temps : List ℕ) (c e : Config) → DeedStands x c.block deed rest
      → IsApart c.block deed → AreOut c → Effects x deed rest temps c e → AreOut e
  effects_out deed rest temps c e at apart all (Done f) = all
  effects_out deed rest temps c e at apart all (Then a b f same effect more) =
      let block = sym (effect_block c b effect) in
      effects_out deed rest temps b e (subst (λ n. DeedStands x n deed rest) block at)
      (subst (λ n. IsApart n deed) block apart) (effect_out deed rest c b at apart all effect) more
  effects_out deed rest temps c e at apart all (Last a b same leave) = leave_out deed rest c e all leave
