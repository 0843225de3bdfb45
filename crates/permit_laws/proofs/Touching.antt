-- Each word that a statement touches is one that the permit lets the job touch.
use Rattle.std.proofs.Common.{◌≡◌, inl, ⊎_elim, ℕ, ◌+◌, ◌<◌, Bool, true, false, List, [], ◌∷◌}
use Rattle.std.proofs.Common.{length, Some, refl, sym, subst, slice_get}
use Rattle.std.proofs.lemmas.Option.{slice_get_within}
use Rattle.std.specs.List.{AllByRecursion, Contains}
use Rattle.std.specs.Prelude.{slice_index}
use Rattle.job_types.specs.declared.job.JobStart.{JobStart}
use Rattle.job_types.specs.declared.touch.Touch.{Touch}
use Rattle.job_types.specs.Chain.{holds}
use Rattle.job_types.specs.Forlopps.{ChainMap}
use Rattle.exchange_model.specs.declared.exchange.Exchange.{Exchange}
use Rattle.exchange_model.specs.declared.block.Block.{Block}
use Rattle.exchange_model.specs.declared.expr.Expr.{Expr}
use Rattle.exchange_model.specs.declared.stmt.StmtKind.TheOpen as stmt
use Rattle.exchange_model.specs.Cells.{Placed, field_cell, mark_cell}
use Rattle.exchange_model.specs.Kept.{IsExchange, scope_of}
use Rattle.source_meaning.specs.Named.{Layer, NamedVariable, NamedField, named_in}
use Rattle.source_meaning.specs.Config.{Item, Config, base_of}
use Rattle.source_meaning.specs.Changes.{opens_record}
use Rattle.source_meaning.specs.Deeds.{Deed, Doing, Starting, Turning, deed_point, IsExprOf}
use Rattle.source_meaning.specs.Deeds.{IsRecordOf, MayUse, LooksAt, at_variable, at_field}
use Rattle.source_meaning.specs.Deeds.{at_holder, at_searched, at_mark, IsLook}
use Rattle.source_meaning.specs.Rests.{StandsAs, DeedStands}
use Rattle.source_meaning.proofs.Fitting.{deed_fits_in, NamedFits, names_fit}
use Rattle.source_meaning.proofs.Holding.{uses_own}
use Rattle.source_meaning.proofs.Lists.{all_contained}
use Rattle.source_meaning.proofs.Marks.{HasMark}
use Rattle.source_meaning.proofs.Touching.{pointer_within, pointer_own, field_of, deed_expr}
use Rattle.source_meaning.proofs.Touching.{holder_variable, record_all}
use Rattle.flow_points.specs.declared.fact.Slot.TheVariants.{Temp}
use Rattle.flow_points.specs.declared.fact.Value.{Value}
use Rattle.flow_points.specs.declared.fact.Value.TheVariants.{Any}
use Rattle.flow_points.specs.Facts.{Facts, Known, Reached}
use Rattle.flow_points.specs.Slots.{temp_count}
use Rattle.entry_summary.specs.declared.summary.Access.{Access}
use Rattle.entry_summary.specs.declared.summary.Access.TheVariants.{Variable, Field, Own, Seizes}
use Rattle.entry_summary.specs.declared.summary.Access.TheVariants.{Frees}
use Rattle.entry_summary.specs.declared.summary.Summary.{Summary}
use Rattle.entry_summary.specs.Accesses as access
use Rattle.entry_summary.specs.Accesses.{Accesses, IsPlain, IsForlopp}
use Rattle.entry_summary.specs.Numbers.{variable_number, field_number}
use Rattle.entry_summary.specs.Summaries.{IsSummary}
use Rattle.start_permit.specs.Granted.{Selects, Marks}
use Rattle.fact_laws.specs.Covers.{CoversTemps}
use Rattle.permit_laws.specs.Permitted.{IsPermitted, ArePermitted}
use Rattle.permit_laws.proofs.Holding.{MayHave, HoldsOwn}
use Rattle.permit_laws.proofs.Telling.{temp_within, told_access}
use Rattle.permit_laws.proofs.Words.{selects, variable_word, field_word, mark_word, MayTouch, lets}

-- a point of the block is reached, and for each temporary a fact stands
pub record KnowsTemps (x : Exchange) (P : Facts) (e : ℕ) (args : List ℕ) (b p : ℕ) (temps : List ℕ) : Type 0 where
  pub reached : Reached P e p
  pub temp : CoversTemps x P e args b p temps

module _ (x : Exchange) (kept : IsExchange x) (P : Facts) (m : Summary) (start : JobStart) (chains : ChainMap) (summary : IsSummary x P start.job.entry m) where
  abbrev pub Knows : ℕ → ℕ → List ℕ → Type 0
  Knows b p temps = KnowsTemps x P start.job.entry start.job.values b p temps

  abbrev pub Owns : Config → Type 0
  Owns c = HoldsOwn x m start chains c.own.chain c.world.store

  abbrev pub Touches : Bool → ℕ → Type 0
  Touches write w = MayTouch x m start chains write w

  abbrev pub AccessAt : ℕ → ℕ → Layer → Access → Type 0
  AccessAt b p l a = Accesses x P start.job.entry b p l a

  -- a variable of the block
  pub variable_touch : (write : Bool) (b p v : ℕ) (l : Layer) (rest : List Item) (k : Block) → StandsAs x b p l rest
      → Reached P start.job.entry p → slice_get x.blocks b ≡ Some k → v < length k.variables
      → AccessAt b p l (Variable write (variable_number x b v)) → Touches write (base_of x b + v)
  variable_touch write b p v l rest k at reached there lt is =
      lets x m start chains write (Variable write (variable_number x b v)) (base_of x b + v)
      (told_access x P start.job.entry m summary b p l rest at reached (Variable write (variable_number x b v)) is)
      refl (variable_word x b v k there lt)

  -- a field of a record that the job may use
  pub field_touch : (write : Bool) (c : Config) (p file field pointer : ℕ) (l : Layer) (rest : List Item)
      (placed : Placed) → StandsAs x c.block p l rest → Knows c.block p c.temps → Owns c
      → pointer < temp_count x c.block → field < length placed.file.fields → MayUse x c file (slice_index c.temps pointer) placed
      → ((v : Value) → IsPlain x file → Known P start.job.entry p (Temp pointer) v → AccessAt c.block p l (Field write (field_number x file field) v))
      → (IsForlopp x file → AccessAt c.block p l (Own write (field_number x file field)))
      → Touches write (field_cell placed (slice_index c.temps pointer) field)
  field_touch write c p file field pointer l rest placed at known own lt within may plain forlopp = by placed.file.forlopp refl
    where
      number : ℕ
      number = slice_index c.temps pointer

      record_of : IsRecordOf x file number placed
      record_of = record { there = may.there; within = pointer_within c.own.chain file placed number may.sound }

      by : (kind : Bool) → placed.file.forlopp ≡ kind → Touches write (field_cell placed number field)
      by false is =
          let k = known.temp pointer lt in
          let a = Field write (field_number x file field) k.0 in
          let told = told_access x P start.job.entry m summary c.block p l rest at known.reached a
          (plain k.0 (record { placed = placed; there = may.there; plain = is }) k.1) in
          lets x m start chains write a (field_cell placed number field) told refl
          (field_word x (λ other. Selects start.job.values k.0) file number field placed record_of within
          (selects start.job.values k.0 number k.2))
      by true is =
          let a = Own write (field_number x file field) in
          let told = told_access x P start.job.entry m summary c.block p l rest at known.reached a
          (forlopp (record { placed = placed; there = may.there; forlopp = is })) in
          let mine = own.held file number (uses_own c.own.chain file placed number is (pointer_own c.own.chain file placed number may.sound)) in
          lets x m start chains write a (field_cell placed number field) told refl
          (field_word x (MayHave m start chains) file number field placed record_of within mine)

  -- what an expression of the statement names
  named_variable : (b : ℕ) (deed : Deed) (rest : List Item) (e : Expr) (v : ℕ) → DeedStands x b deed rest
      → Reached P start.job.entry (deed_point deed) → IsExprOf deed e → Contains (named_in e) (NamedVariable v)
      → Touches false (base_of x b + v)
  named_variable b (Doing p l) rest e v at reached of named =
      let f = deed_expr x kept b (Doing p l) rest e at of in
      let lt = all_contained (NamedFits (scope_of x b f.block)) (named_in e) (NamedVariable v) (names_fit (scope_of x b f.block) e f.fits) named in
      variable_touch false b p v l rest f.block at reached f.there lt (access.reads l v (record { expr = e; own = of; named = named }))
  named_variable b (Starting p l) rest e v at reached of named = absurd of
  named_variable b (Turning p temp this end body) rest e v at reached of named = absurd of

  named_field : (c : Config) (deed : Deed) (rest : List Item) (e : Expr) (file field pointer : ℕ) (placed : Placed)
      → DeedStands x c.block deed rest → Knows c.block (deed_point deed) c.temps → Owns c
      → IsExprOf deed e → Contains (named_in e) (NamedField file field pointer)
      → MayUse x c file (slice_index c.temps pointer) placed
      → Touches false (field_cell placed (slice_index c.temps pointer) field)
  named_field c (Doing p l) rest e file field pointer placed at known own of named may =
      let f = deed_expr x kept c.block (Doing p l) rest e at of in
      let is = all_contained (NamedFits (scope_of x c.block f.block)) (named_in e) (NamedField file field pointer)
      (names_fit (scope_of x c.block f.block) e f.fits) named in
      let within = field_of x kept c.block f.block file field placed is.0 may.there in
      field_touch false c p file field pointer l rest placed at known own (temp_within x c.block pointer f.block f.there is.1) within may
      (λ v plain fact. access.reads_field l file field pointer v (record { expr = e; own = of; named = named }) plain fact)
      (λ forlopp. access.reads_own l file field pointer (record { expr = e; own = of; named = named }) forlopp)
  named_field c (Starting p l) rest e file field pointer placed at known own of named may = absurd of
  named_field c (Turning p temp this end body) rest e file field pointer placed at known own of named may = absurd of

  -- loads
  look_touch : (c : Config) (deed : Deed) (rest : List Item) (cell : ℕ) → DeedStands x c.block deed rest
      → Knows c.block (deed_point deed) c.temps → Owns c → LooksAt x c deed cell → Touches false cell
  look_touch c deed rest cell at known own (at_variable e v of named) = named_variable c.block deed rest e v at known.reached of named
  look_touch c deed rest cell at known own (at_field e file field pointer placed of named may) =
      named_field c deed rest e file field pointer placed at known own of named may
  look_touch c deed rest cell at known own (at_holder p {l = l} v is) =
      let f = deed_fits_in x kept c.block p l rest at in
      variable_touch false c.block p v l rest f.block at known.reached f.there
      (holder_variable x kept (scope_of x c.block f.block) l v is f.fits.names) (access.reads_holder l v is)
  look_touch c deed rest cell at known own (at_searched p temp file field rel e label number placed record_of) =
      let f = deed_fits_in x kept c.block p (stmt.ForFirst temp file field rel e label) rest at in
      let within = field_of x kept c.block f.block file field placed f.fits.names.2 record_of.there in
      let told = told_access x P start.job.entry m summary c.block p (stmt.ForFirst temp file field rel e label) rest at
      known.reached (Field false (field_number x file field) Any) (access.searches temp file field rel e label) in
      lets x m start chains false (Field false (field_number x file field) Any) cell told refl
      (field_word x (λ other. Selects start.job.values Any) file number field placed record_of within tt)
  look_touch c deed rest cell at known own (at_mark p temp file label number placed record_of) =
      let told = told_access x P start.job.entry m summary c.block p (stmt.Seize temp file label) rest at known.reached
      (Seizes file) (access.seizes temp file label) in
      lets x m start chains false (Seizes file) cell told tt (mark_word x (Marks false chains file) file number placed record_of tt)

  pub looks_permitted : (c : Config) (deed : Deed) (rest : List Item) (loads : List Touch)
      → DeedStands x c.block deed rest → Knows c.block (deed_point deed) c.temps → Owns c
      → AllByRecursion (IsLook x c deed) loads → ArePermitted x m start chains loads
  looks_permitted c deed rest [] at known own each = tt
  looks_permitted c deed rest (t ∷ loads) at known own each = (
    subst (IsPermitted x m start chains) (sym each.0.is)
        (inl (look_touch c deed rest each.0.cell at known own each.0.at)),
    looks_permitted c deed rest loads at known
        own each.1,
  )

  -- the mark of a record that is seized: the record was free, or the job itself has freed it
  pub mark_touch : (c : Config) (p temp file label number : ℕ) (rest : List Item) (placed : Placed)
      → StandsAs x c.block p (stmt.Seize temp file label) rest → Reached P start.job.entry p → Owns c
      → HasMark x file number placed
      → slice_index c.world.store (mark_cell placed number) ≡ 0 → Touches true (mark_cell placed number)
  mark_touch c p temp file label number rest placed at reached own has none =
      let record_of : IsRecordOf x file number placed = record { there = has.at.there; within = has.at.within } in
      let told = told_access x P start.job.entry m summary c.block p (stmt.Seize temp file label) rest at reached
      (Seizes file) (access.seizes temp file label) in
      ⊎_elim
      (λ free. lets x m start chains true (Seizes file) (mark_cell placed number) told tt
      (mark_word x (Marks true chains file) file number placed record_of free))
      (λ freed. lets x m start chains true (Frees file) (mark_cell placed number) freed.0 refl
      (mark_word x (MayHave m start chains file) file number placed record_of freed.1))
      (own.opened file number placed has none)

  -- the words of a record of the chain that is freed
  pub freed_permitted : (c : Config) (p temp file number : ℕ) (rest : List Item) (placed : Placed)
      → StandsAs x c.block p (stmt.Free temp file) rest → Reached P start.job.entry p → Owns c
      → HasMark x file number placed
      → holds c.own.chain file number ≡ true → ArePermitted x m start chains c.world.trace
      → ArePermitted x m start chains (opens_record placed number c.world).trace
  freed_permitted c p temp file number rest placed at reached own has mine all =
      let record_of : IsRecordOf x file number placed = record { there = has.at.there; within = has.at.within } in
      let told = told_access x P start.job.entry m summary c.block p (stmt.Free temp file) rest at reached in
      let held = own.held file number mine in
      record_all (IsPermitted x m start chains) placed number c.world
      (λ i v there.
      let lt = slice_get_within placed.file.fields i v there in
      let a = Own true (field_number x file i) in
      lets x m start chains true a (field_cell placed number i)
      (told a (access.opens_own temp file i placed has.at.there lt)) refl
      (field_word x (MayHave m start chains) file number i placed record_of lt held))
      (lets x m start chains true (Frees file) (mark_cell placed number) (told (Frees file) (access.frees temp file))
      refl (mark_word x (MayHave m start chains file) file number placed record_of held)) all
