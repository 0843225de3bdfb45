-- Each reason for which a statement fails is one that the facts before it tell.
--
-- The values of a temporary, of an expression and of a held reference stand for the number that the
-- job has there; how many callers wait, and what the last of them awaits, is known exactly.
use Rattle.std.proofs.Common.{◌≡◌, ◌⊎◌, inl, inr, ℕ, ◌+◌, ◌<◌, ◌≤◌, ◌^◌, Bool, true, false, List}
use Rattle.std.proofs.Common.{[], ◌∷◌, length, Some, None, refl, sym, ap, subst, slice_get, arith}
use Rattle.std.proofs.lemmas.Bool.{ltb-false, eqb-false}
use Rattle.std.specs.Prelude.{nat_lt, not, ◌||◌, slice_index, if◌then◌else◌}
use Rattle.std.specs.List.{AllByRecursion, Contains}
use Rattle.plex_limits.specs.declared.limits.TheConstants.{MOST_CALLERS, MOST_SENT}
use Rattle.job_types.specs.declared.fault.Fault.{Fault}
use Rattle.job_types.specs.declared.fault.Fault.TheVariants as fault
use Rattle.job_types.specs.declared.outbox.SendTo.{SendTo}
use Rattle.job_types.specs.declared.touch.Touch.{Touch}
use Rattle.job_types.specs.Chain.{holds}
use Rattle.exchange_model.specs.declared.exchange.Exchange.{Exchange}
use Rattle.exchange_model.specs.declared.block.Block.{Block}
use Rattle.exchange_model.specs.declared.expr.Expr.{Expr}
use Rattle.exchange_model.specs.declared.stmt.Holder.{Holder}
use Rattle.exchange_model.specs.declared.stmt.Holder.TheVariants as holder
use Rattle.exchange_model.specs.declared.stmt.StmtKind.TheOpen as stmt
use Rattle.exchange_model.specs.Cells.{Placed}
use Rattle.exchange_model.specs.Fits.{ExprFits, IsHolder}
use Rattle.exchange_model.specs.Inside.{own_exprs}
use Rattle.exchange_model.specs.Kept.{IsExchange, scope_of}
use Rattle.source_meaning.specs.Named.{Layer, NamedField, named_in}
use Rattle.source_meaning.specs.Value.{Gives, Fails, expr_value, holder_value, may_use}
use Rattle.source_meaning.specs.Value.{pointer_fault}
use Rattle.source_meaning.specs.Config.{Item, Caller, Config, base_of, sight}
use Rattle.source_meaning.specs.Changes.{goes, variable_width, field_width}
use Rattle.source_meaning.specs.Deeds.{Deed, Doing, Starting, Turning, deed_point, IsExprOf}
use Rattle.source_meaning.specs.Deeds.{IsFileAt, IsPosting, to_queue, to_outside, IsEnd}
use Rattle.source_meaning.specs.Deeds.{AwaitsOther, SomeWait, Why, in_value, no_receiver}
use Rattle.source_meaning.specs.Deeds.{wide_value, wide_field, bad_field, bad_free, no_forlopp}
use Rattle.source_meaning.specs.Deeds.{full_chain, too_deep, too_many, no_caller, has_caller}
use Rattle.source_meaning.specs.Rests.{StandsAs, DeedStands}
use Rattle.source_meaning.specs.Valid.{IsWord, StoreFits}
use Rattle.source_meaning.proofs.Doing.{traced}
use Rattle.source_meaning.proofs.Fitting.{NamedFits, deed_fits_in, names_fit}
use Rattle.source_meaning.proofs.Lists.{all_contained}
use Rattle.source_meaning.proofs.Touching.{deed_expr, holder_fits}
use Rattle.source_meaning.proofs.WordValues.{GotWord, expr_word, variable_word, word_at}
use Rattle.flow_points.specs.declared.fact.Slot.TheVariants.{Temp, Depth, Awaits}
use Rattle.flow_points.specs.declared.fact.Value.TheVariants.{Arg, Const, Any}
use Rattle.flow_points.specs.declared.flow.Source.{Source}
use Rattle.flow_points.specs.declared.flow.Source.TheVariants.{Of}
use Rattle.flow_points.specs.Facts.{Facts}
use Rattle.flow_points.specs.Sources.{expr_source}
use Rattle.entry_summary.specs.Faults.{JoinsOutbox, SourceMayBe, may_divide_by_zero, PointsAt}
use Rattle.entry_summary.specs.Faults.{reads, writes, frees, holder_source, in_variable, in_field}
use Rattle.entry_summary.specs.Faults.{FaultsAt, SomeFaults}
use Rattle.entry_summary.specs.Faults as faults
use Rattle.fact_laws.specs.Covers.{Activation, awaits_of}
use Rattle.fact_laws.proofs.Carrying.{Gets}
use Rattle.fact_laws.proofs.Standing.{at_place, deed_place}
use Rattle.fact_laws.proofs.Values.{expr_gets}
use Rattle.fact_laws.proofs.Going.{temps_known}
use Rattle.fault_laws.proofs.Failing.{IsCause, by_zero, at_pointer, expr_cause}
use Rattle.fault_laws.proofs.Moves.{PostsBy}
use Rattle.plex_num.proofs.Members.{first_is}

-- a signal that joins the outbox
posting_posts : (x : Exchange) (c : Config) (deed : Deed) (to : SendTo) (vs : List ℕ) → IsPosting x c deed to vs → PostsBy x deed
posting_posts x c deed to vs (to_queue p signal at values fresh name level count b ws kind sending) = subst JoinsOutbox (sym kind) tt
posting_posts x c deed to vs (to_outside p signal at values fresh name count b ws kind sending) = subst JoinsOutbox (sym kind) tt

gives_same : (ls ms : List Touch) (n v : ℕ) → Gives ls n ≡ Gives ms v → n ≡ v
gives_same ls ms n v is = cc

-- what is not a plain file is a forlopp file
owned : (forlopp held : Bool) → (not forlopp || held) ≡ false → forlopp ≡ true
owned true held is = refl
owned false held is = cc

module _ (x : Exchange) (kept : IsExchange x) (P : Facts) (e : ℕ) (args : List ℕ) (c : Config)
    (small : AllByRecursion IsWord c.temps) (store : StoreFits x c.world.store)
    (few : length c.callers ≤ MOST_CALLERS) where
  abbrev pub KnownAt : ℕ → Type 0
  KnownAt p = Activation x P e args c.block p c.temps c.own.given c.callers

  gets_may : (p : ℕ) (s : Source) (n : ℕ) → IsWord n → Gets P e args p s n → SourceMayBe P e p s n
  gets_may p s n word (Arg k, comes, is) = record { value = Arg k; comes = comes; is = word }
  gets_may p s n word (Const m, comes, is) = record { value = Const m; comes = comes; is = is }
  gets_may p s n word (Any, comes, is) = record { value = Any; comes = comes; is = word }

  module _ (p : ℕ) (known : KnownAt p) where
    depth_may : SourceMayBe P e p (Of Depth) (length c.callers)
    depth_may = record { value = Const (length c.callers); comes = known.depth; is = refl }

    awaits_may : SourceMayBe P e p (Of Awaits) (awaits_of c.callers)
    awaits_may = record { value = Const (awaits_of c.callers); comes = known.awaits; is = refl }

    temp_may : (k : Block) → slice_get x.blocks c.block ≡ Some k → (t : ℕ) → t < length k.temporaries → SourceMayBe P e p (Of (Temp t)) (slice_index c.temps t)
    temp_may k there t lt = gets_may p (Of (Temp t)) (slice_index c.temps t) (word_at c.temps t small) (temps_known known k there t lt)

    module _ (l : Layer) (rest : List Item) (stands : StandsAs x c.block p l rest) where
      abbrev Faulty : Type 0
      Faulty = FaultsAt x P e c.block p l

      pub some_faults : Faulty → SomeFaults x P e
      some_faults h = record {
        at = at_place c.block p l rest;
        point = p;
        stands = record { place = deed_place stands; here = refl };
        reached = (Const (length c.callers), known.depth);
        faults = h;
      }

      -- pointers

      pointer_faulty : (file pointer : ℕ) (placed : Placed) (f : Fault) → PointsAt l file pointer
          → IsFileAt x file placed → SourceMayBe P e p (Of (Temp pointer)) (slice_index c.temps pointer)
          → pointer_fault c.own.chain file placed (slice_index c.temps pointer) ≡ Some f → Faulty
      pointer_faulty file pointer placed f points there may bad = by (nat_lt n placed.file.size) refl (may_use c.own.chain file placed n) refl bad
        where
          n : ℕ
          n = slice_index c.temps pointer

          by : (within : Bool) → nat_lt n placed.file.size ≡ within → (use_it : Bool)
              → may_use c.own.chain file placed n ≡ use_it
              → (if within then (if use_it then None else Some fault.NotOwn) else Some fault.Pointer) ≡ Some f → Faulty
          by true lt true free at = absurd (let none = at in cc)
          by true lt false kept_from at = faults.not_own l file pointer points
              (record {
                placed = placed;
                there = there;
                forlopp = owned placed.file.forlopp (holds c.own.chain file n) kept_from;
              })
          by false past use_it is at = faults.no_record l file pointer n placed points there may (ltb-false n placed.file.size past)

      cause_faulty : (k : Block) → slice_get x.blocks c.block ≡ Some k → (ex : Expr) → Contains (own_exprs l) ex
          → AllByRecursion (NamedFits (scope_of x c.block k)) (named_in ex) → (f : Fault)
          → IsCause (sight x c) (may_divide_by_zero ex) (named_in ex) f → Faulty
      cause_faulty k there ex own names f (by_zero is) = faults.divides_by_zero l ex own is
      cause_faulty k there ex own names f (at_pointer file field pointer placed g named found bad) =
          let fit = all_contained (NamedFits (scope_of x c.block k)) (named_in ex) (NamedField file field pointer) names named in
          pointer_faulty file pointer placed f
          (reads l file field pointer (record { expr = ex; own = own; named = named })) found
          (temp_may k there pointer fit.1) bad

      -- values of a width

      expr_may : (k : Block) → slice_get x.blocks c.block ≡ Some k → (ex : Expr) → Contains (own_exprs l) ex
          → AllByRecursion (ExprFits (scope_of x c.block k)) (own_exprs l) → (loads : List Touch) (v : ℕ)
          → expr_value ex (sight x c) ≡ Gives loads v → SourceMayBe P e p (expr_source ex) v
      expr_may k there ex own fits loads v is =
          let fit = all_contained (ExprFits (scope_of x c.block k)) (own_exprs l) ex fits own in
          let word : IsWord v = subst GotWord is (expr_word x kept c.block k there (sight x c) small store refl refl ex fit) in
          gets_may p (expr_source ex) v word (expr_gets P e args p x kept c.block k (sight x c) small (temps_known known k there) ex fit loads v is)

      -- references

      held_may : (k : Block) → slice_get x.blocks c.block ≡ Some k → (h : Holder) (v : ℕ) (loads : List Touch)
          → IsHolder (scope_of x c.block k) h → holder_value h (sight x c) ≡ Gives loads v
          → SourceMayBe P e p (holder_source h) v
      held_may k there (holder.Temporary t) v loads fit is = subst (SourceMayBe P e p (Of (Temp t)))
          (gives_same [] loads (slice_index c.temps t) v is) (temp_may k there t fit)
      held_may k there (holder.Variable n) v loads fit is =
          record {
            value = Any;
            comes = refl;
            is = subst IsWord
                (gives_same _ loads (slice_index c.world.store (base_of x c.block + n)) v is)
                (variable_word x kept c.block k there (sight x c) small store refl refl n fit);
          }

      -- callers

      ends_faulty : (ks : List Caller) → c.callers ≡ ks → IsEnd l → SomeWait ks → Faulty
      ends_faulty [] is end some = absurd some
      ends_faulty (k ∷ ks) is end some = faults.has_caller l (length (k ∷ ks)) end (subst (SourceMayBe P e p (Of Depth)) (ap length is) depth_may) (omega arith)

    returns_faulty : (answer : ℕ) (values : List Expr) (ks : List Caller) → c.callers ≡ ks → AwaitsOther ks answer
        → FaultsAt x P e c.block p (stmt.Return answer values)
    returns_faulty answer values [] is other = faults.no_caller answer values (subst (SourceMayBe P e p (Of Depth)) (ap length is) depth_may)
    returns_faulty answer values (k ∷ ks) is other =
        faults.other_caller answer values (k.awaits + 1)
        (subst (SourceMayBe P e p (Of Awaits)) (ap awaits_of is) awaits_may)
        (λ same. eqb-false k.awaits answer other (omega (arith, same)))

    deep : nat_lt (length c.callers) MOST_CALLERS ≡ false → SourceMayBe P e p (Of Depth) MOST_CALLERS
    deep full = subst (SourceMayBe P e p (Of Depth)) (let many = ltb-false (length c.callers) MOST_CALLERS full in omega (arith, many, few)) depth_may

  value_told : (deed : Deed) (rest : List Item) (ex : Expr) (loads : List Touch) (f : Fault)
      → DeedStands x c.block deed rest → KnownAt (deed_point deed) → IsExprOf deed ex
      → expr_value ex (sight x c) ≡ Fails loads f → SomeFaults x P e
  value_told (Doing p l) rest ex loads f at known of is =
      let g = deed_expr x kept c.block (Doing p l) rest ex at of in
      some_faults p known l rest at (cause_faulty p known l rest at g.block g.there ex of
      (names_fit (scope_of x c.block g.block) ex g.fits) f (expr_cause (sight x c) ex loads f is))
  value_told (Starting p l) rest ex loads f at known of is = absurd of
  value_told (Turning p temp this end body) rest ex loads f at known of is = absurd of

  -- a reason that is told of the statement, or too many sends
  pub why_told : (deed : Deed) (rest : List Item) (t : List Touch) (todo : List Item) (f : Fault)
      → DeedStands x c.block deed rest → KnownAt (deed_point deed) → Why x (goes todo (traced t c)) deed f
      → SomeFaults x P e ⊎ (PostsBy x deed × (nat_lt (length c.own.sends) MOST_SENT ≡ false))
  why_told deed rest t todo f at known (in_value ex loads g of is) = inl (value_told deed rest ex loads g at known of is)
  why_told deed rest t todo f at known (no_receiver p {l = l} h v is held none) =
      let g = deed_fits_in x kept c.block p l rest at in
      inl (some_faults p known l rest at (faults.no_receiver l h v is
      (held_may p known l rest at g.block g.there h v held.loads
      (holder_fits x kept (scope_of x c.block g.block) l h is g.fits.names) held.is) none))
  why_told deed rest t todo f at known (wide_value p variable ex v value wide) =
      let l : Layer = stmt.SetVariable variable ex in
      let g = deed_fits_in x kept c.block p l rest at in
      let width = variable_width x c.block variable in
      inl (some_faults p known l rest at (faults.too_wide l ex width v (in_variable variable ex)
      (expr_may p known l rest at g.block g.there ex (first_is ex []) g.fits.exprs.each value.loads v value.is)
      (ltb-false v (2 ^ width) wide)))
  why_told deed rest t todo f at known (wide_field p file field pointer ex v placed there value wide) =
      let l : Layer = stmt.SetField file field pointer ex in
      let g = deed_fits_in x kept c.block p l rest at in
      let width = field_width placed field in
      inl (some_faults p known l rest at (faults.too_wide l ex width v (in_field file field pointer ex placed there)
      (expr_may p known l rest at g.block g.there ex (first_is ex []) g.fits.exprs.each value.loads v value.is)
      (ltb-false v (2 ^ width) wide)))
  why_told deed rest t todo f at known (bad_field p file field pointer ex placed g there bad) =
      let l : Layer = stmt.SetField file field pointer ex in
      let h = deed_fits_in x kept c.block p l rest at in
      inl (some_faults p known l rest at (pointer_faulty p known l rest at file pointer placed g
      (writes file field pointer ex) there (temp_may p known h.block h.there pointer h.fits.names.1) bad))
  why_told deed rest t todo f at known (bad_free p temp file placed g there bad) =
      let l : Layer = stmt.Free temp file in
      let h = deed_fits_in x kept c.block p l rest at in
      inl (some_faults p known l rest at (pointer_faulty p known l rest at file temp placed g (frees temp file) there
      (temp_may p known h.block h.there temp h.fits.names.0) bad))
  why_told deed rest t todo f at known (no_forlopp p temp file label none) =
      inl (some_faults p known (stmt.Seize temp file label) rest at (faults.seizes temp file label))
  why_told deed rest t todo f at known (full_chain p temp file label full) =
      inl (some_faults p known (stmt.Seize temp file label) rest at (faults.seizes temp file label))
  why_told deed rest t todo f at known (too_deep p signal to values fresh name count answer kind full) =
      inl (some_faults p known (stmt.Send signal to values fresh) rest at (faults.too_deep signal to values fresh name count answer kind (deep p known full)))
  why_told deed rest t todo f at known (too_many p signal to values fresh one vs posting full) =
      inr (posting_posts x (goes todo (traced t c)) (Doing p (stmt.Send signal to values fresh)) one vs posting, full)
  why_told deed rest t todo f at known (no_caller p answer values other) = inl
      (some_faults p known (stmt.Return answer values) rest at
      (returns_faulty p known answer values c.callers refl other))
  why_told deed rest t todo f at known (has_caller p {l = l} end some) = inl
      (some_faults p known l rest at (ends_faulty p known l rest at c.callers refl end some))
