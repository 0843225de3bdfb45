-- Whether a statement may fault is decided.
use Rattle.std.proofs.Common.{◌≡◌, ◌≢◌, ◌⊎◌, inl, inr, ℕ, ◌+◌, ◌<◌, ◌≤◌, ◌^◌, true, List, Option}
use Rattle.std.proofs.Common.{None, Some, Contains, slice_get, refl, sym, subst}
use Rattle.plex_limits.specs.declared.limits.TheConstants.{MOST_CALLERS}
use Rattle.exchange_model.specs.declared.exchange.Exchange.{Exchange}
use Rattle.exchange_model.specs.declared.expr.Expr.{Expr}
use Rattle.exchange_model.specs.declared.signal.SignalKind.{SignalKind}
use Rattle.exchange_model.specs.declared.signal.SignalKind.TheVariants.{Combined}
use Rattle.exchange_model.specs.declared.stmt.Holder.{Holder}
use Rattle.exchange_model.specs.declared.stmt.Receiver.TheVariants as receiver
use Rattle.exchange_model.specs.declared.stmt.StmtKind.TheOpen as stmt
use Rattle.exchange_model.specs.Cells.{Placed}
use Rattle.exchange_model.specs.Inside.{own_exprs}
use Rattle.source_meaning.specs.Changes.{field_width, variable_width}
use Rattle.source_meaning.specs.Config.{receiver_of}
use Rattle.source_meaning.specs.Deeds.{IsEnd, IsFileAt, receiver_in, signal_in}
use Rattle.source_meaning.specs.Named.{Layer}
use Rattle.flow_points.specs.declared.fact.Fact.{Fact}
use Rattle.flow_points.specs.declared.fact.Slot.TheVariants.{Awaits, Depth, Temp}
use Rattle.flow_points.specs.declared.fact.Value.{Value}
use Rattle.flow_points.specs.declared.fact.Value.TheVariants.{Any, Arg, Const}
use Rattle.flow_points.specs.declared.flow.Source.{Source}
use Rattle.flow_points.specs.declared.flow.Source.TheVariants.{Of}
use Rattle.flow_points.specs.Facts.{Facts, Reached, SourceGives}
use Rattle.flow_points.specs.Places.{IsPlace}
use Rattle.flow_points.specs.Sources.{expr_source}
use Rattle.entry_summary.specs.Accesses.{IsForlopp}
use Rattle.entry_summary.specs.Faults.{FaultsAt, ValueMayBe, PointsAt, PutsIn, SomeFaults}
use Rattle.entry_summary.specs.Faults.{SourceMayBe, divides_by_zero, has_caller, holder_source}
use Rattle.entry_summary.specs.Faults.{in_field, in_variable, may_divide_by_zero, no_caller}
use Rattle.entry_summary.specs.Faults.{no_receiver, no_record, not_own, other_caller, seizes}
use Rattle.entry_summary.specs.Faults.{too_deep, too_wide}
use Rattle.finite_facts.proofs.Finite.{Decided, at_most, below, both, certain, decided_as, either}
use Rattle.finite_facts.proofs.Finite.{impossible, less, listed_in, listed_one, no, refuted}
use Rattle.finite_facts.proofs.Finite.{same_number, some_case, truth, yes}
use Rattle.finite_facts.proofs.Giving.{is_reached, source_values}
use Rattle.analysis_existence.proofs.Naming.{Pointer, file_at, holder_in, is_forlopp, pointers}
use Rattle.finite_facts.proofs.Places.{places}

is_none : {A : Type 0} (o : Option A) → Decided (o ≡ None)
is_none None = yes refl
is_none (Some a) = no (λ e. cc)

-- a value that may be such a number
number_of : (T : ℕ → Type 0) → ((n : ℕ) → Decided (T n)) → (v : Value) → Decided ((n : ℕ) × ValueMayBe v n × T n)
number_of T decided (Const c) = some_case (λ n. n ≡ c) T (listed_one c) (λ n is. decided n)
number_of T decided (Arg k) = some_case (λ n. n < 2 ^ 32) T (below (2 ^ 32)) (λ n lt. decided n)
number_of T decided Any = some_case (λ n. n < 2 ^ 32) T (below (2 ^ 32)) (λ n lt. decided n)

module _ (x : Exchange) (known : List Fact) (e : ℕ) where
  abbrev P : Facts
  P = Contains known

  -- a source that may give such a number
  abbrev Number : ℕ → Source → (ℕ → Type 0) → Type 0
  Number p s T = (n : ℕ) × SourceMayBe P e p s n × T n

  number : (p : ℕ) (s : Source) (T : ℕ → Type 0) → ((n : ℕ) → Decided (T n)) → Decided (Number p s T)
  number p s T decided =
      decided_as (λ h. (h.2.0, record { value = h.0; comes = h.1; is = h.2.1 }, h.2.2)) (λ h. (h.1.value, h.1.comes, (h.0, h.1.is, h.2)))
      (some_case (SourceGives P e p s) (λ v. (n : ℕ) × ValueMayBe v n × T n) (source_values known e p s) (λ v g. number_of T decided v))

  -- by a pointer
  abbrev Past : ℕ → Pointer → Type 0
  Past p q = (placed : Placed) × IsFileAt x q.0 placed × Number p (Of (Temp q.1)) (λ n. placed.file.size ≤ n)

  abbrev ByPointer : ℕ → Layer → Type 0
  ByPointer p l = (q : Pointer) × PointsAt l q.0 q.1 × (Past p q ⊎ IsForlopp x q.0)

  by_pointer : (p : ℕ) (l : Layer) → Decided (ByPointer p l)
  by_pointer p l =
      some_case (λ (q : Pointer). PointsAt l q.0 q.1) (λ q. Past p q ⊎ IsForlopp x q.0) (pointers l)
      (λ q points. either (some_case (λ placed. IsFileAt x q.0 placed)
      (λ placed. Number p (Of (Temp q.1)) (λ n. placed.file.size ≤ n)) (file_at x q.0)
      (λ placed there. number p (Of (Temp q.1)) (λ n. placed.file.size ≤ n) (at_most placed.file.size)))
      (is_forlopp x q.0))

  -- by a held reference
  abbrev ByHolder : ℕ → Layer → Type 0
  ByHolder p l = (h : Holder) × (receiver_in l ≡ Some (receiver.Held h)) × Number p (holder_source h) (λ n. receiver_of x (signal_in l) n ≡ None)

  by_holder : (p : ℕ) (l : Layer) → Decided (ByHolder p l)
  by_holder p l =
      some_case (λ h. receiver_in l ≡ Some (receiver.Held h)) (λ h. Number p (holder_source h) (λ n. receiver_of x (signal_in l) n ≡ None)) (holder_in l)
      (λ h held. number p (holder_source h) (λ n. receiver_of x (signal_in l) n ≡ None) (λ n. is_none (receiver_of x (signal_in l) n)))

  -- by a division
  abbrev ByDivision : Layer → Type 0
  ByDivision l = (v : Expr) × Contains (own_exprs l) v × (may_divide_by_zero v ≡ true)

  by_division : (l : Layer) → Decided (ByDivision l)
  by_division l = some_case (λ v. Contains (own_exprs l) v) (λ v. may_divide_by_zero v ≡ true) (listed_in (own_exprs l)) (λ v own. truth (may_divide_by_zero v))

  -- by its end
  is_end : (l : Layer) → Decided (IsEnd l)
  is_end stmt.Exit = certain tt
  is_end stmt.Finish = certain tt
  is_end _ = impossible

  abbrev ByEnd : ℕ → Layer → Type 0
  ByEnd p l = IsEnd l × Number p (Of Depth) (λ n. 0 < n)

  by_end : (p : ℕ) (l : Layer) → Decided (ByEnd p l)
  by_end p l = both (is_end l) (number p (Of Depth) (λ n. 0 < n) (less 0))

  -- by what the statement itself does
  abbrev IsCombined : Option SignalKind → Type 0
  IsCombined (Some (Combined name count answer)) = Unit {0}
  IsCombined _ = ⊥

  is_combined : (o : Option SignalKind) → Decided (IsCombined o)
  is_combined (Some (Combined name count answer)) = certain tt
  is_combined _ = impossible

  abbrev Wide : ℕ → Expr → ℕ → Type 0
  Wide p value width = Number p (expr_source value) (λ n. 2 ^ width ≤ n)

  wide : (p : ℕ) (value : Expr) (width : ℕ) → Decided (Wide p value width)
  wide p value width = number p (expr_source value) (λ n. 2 ^ width ≤ n) (at_most (2 ^ width))

  abbrev ByLayer : ℕ → ℕ → Layer → Type 0
  ByLayer b p (stmt.SetVariable variable value) = Wide p value (variable_width x b variable)
  ByLayer b p (stmt.SetField file field pointer value) = (placed : Placed) × IsFileAt x file placed × Wide p value (field_width placed field)
  ByLayer b p (stmt.Seize temp file label) = Unit {0}
  ByLayer b p (stmt.Return answer values) = Number p (Of Depth) (λ n. n ≡ 0) ⊎ Number p (Of Awaits) (λ n. n ≢ answer + 1)
  ByLayer b p (stmt.Send signal to values fresh) = IsCombined (slice_get x.signals signal) × Number p (Of Depth) (λ n. n ≡ MOST_CALLERS)
  ByLayer b p _ = ⊥

  by_layer : (b p : ℕ) (l : Layer) → Decided (ByLayer b p l)
  by_layer b p (stmt.SetVariable variable value) = wide p value (variable_width x b variable)
  by_layer b p (stmt.SetField file field pointer value) = some_case (λ placed. IsFileAt x file placed)
      (λ placed. Wide p value (field_width placed field)) (file_at x file)
      (λ placed there. wide p value (field_width placed field))
  by_layer b p (stmt.Seize temp file label) = certain tt
  by_layer b p (stmt.Return answer values) = either (number p (Of Depth) (λ n. n ≡ 0) (λ n. same_number n 0))
      (number p (Of Awaits) (λ n. n ≢ answer + 1) (λ n. refuted (same_number n (answer + 1))))
  by_layer b p (stmt.Send signal to values fresh) = both (is_combined (slice_get x.signals signal))
      (number p (Of Depth) (λ n. n ≡ MOST_CALLERS) (λ n. same_number n MOST_CALLERS))
  by_layer b p _ = impossible

  -- by one of these
  abbrev By : ℕ → ℕ → Layer → Type 0
  By b p l = (ByPointer p l ⊎ ByHolder p l) ⊎ (ByDivision l ⊎ (ByEnd p l ⊎ ByLayer b p l))

  abbrev At : ℕ → ℕ → Layer → Type 0
  At b p l = FaultsAt x P e b p l

  wide_to : (b p : ℕ) (l : Layer) (value : Expr) (width n : ℕ) → PutsIn x b l value width
      → SourceMayBe P e p (expr_source value) n → 2 ^ width ≤ n → ByLayer b p l
  wide_to b p _ _ _ n (in_variable variable value) may past = (n, may, past)
  wide_to b p _ _ _ n (in_field file field pointer value placed there) may past = (placed, there, (n, may, past))

  by_to : (b p : ℕ) (l : Layer) → At b p l → By b p l
  by_to b p _ (no_record l file pointer n placed points there may past) = inl (inl ((file, pointer), points, inl (placed, there, (n, may, past))))
  by_to b p _ (no_receiver l h n held may none) = inl (inr (h, held, (n, may, none)))
  by_to b p _ (too_wide l value width n puts may past) = inr (inr (inr (wide_to b p l value width n puts may past)))
  by_to b p _ (divides_by_zero l value own may) = inr (inl (value, own, may))
  by_to b p _ (not_own l file pointer points forlopp) = inl (inl ((file, pointer), points, inr forlopp))
  by_to b p _ (seizes temp file label) = inr (inr (inr tt))
  by_to b p _ (has_caller l n end may above) = inr (inr (inl (end, (n, may, above))))
  by_to b p _ (no_caller answer values may) = inr (inr (inr (inl (0, may, refl))))
  by_to b p _ (other_caller answer values n may other) = inr (inr (inr (inr (n, may, other))))
  by_to b p _ (too_deep signal to values fresh name count answer is may) = inr (inr (inr (subst IsCombined (sym is) tt, (MOST_CALLERS, may, refl))))

  layer_from : (b p : ℕ) (l : Layer) → ByLayer b p l → At b p l
  layer_from b p (stmt.SetVariable variable value) h = too_wide (stmt.SetVariable variable value) value
      (variable_width x b variable) h.0 (in_variable variable value) h.1 h.2
  layer_from b p (stmt.SetField file field pointer value) h =
      too_wide (stmt.SetField file field pointer value) value (field_width h.0 field) h.2.0 (in_field file field pointer value h.0 h.1) h.2.1 h.2.2
  layer_from b p (stmt.Seize temp file label) h = seizes temp file label
  layer_from b p (stmt.Return answer values) (inl h) = no_caller answer values (subst (SourceMayBe P e p (Of Depth)) h.2 h.1)
  layer_from b p (stmt.Return answer values) (inr h) = other_caller answer values h.0 h.1 h.2
  layer_from b p (stmt.Send signal to values fresh) h = by (slice_get x.signals signal) refl h.0
    where
      by : (o : Option SignalKind) → slice_get x.signals signal ≡ o → IsCombined o → At b p (stmt.Send signal to values fresh)
      by (Some (Combined name count answer)) there is = too_deep signal to values fresh name count answer there
          (subst (SourceMayBe P e p (Of Depth)) h.1.2 h.1.1)
      by _ there is = absurd is
  layer_from b p _ h = absurd h

  pointer_from : (b p : ℕ) (l : Layer) (q : Pointer) → PointsAt l q.0 q.1 → Past p q ⊎ IsForlopp x q.0 → At b p l
  pointer_from b p l q points (inl h) = no_record l q.0 q.1 h.2.0 h.0 points h.1 h.2.1 h.2.2
  pointer_from b p l q points (inr own) = not_own l q.0 q.1 points own

  by_from : (b p : ℕ) (l : Layer) → By b p l → At b p l
  by_from b p l (inl (inl h)) = pointer_from b p l h.0 h.1 h.2
  by_from b p l (inl (inr h)) = no_receiver l h.0 h.2.0 h.1 h.2.1 h.2.2
  by_from b p l (inr (inl h)) = divides_by_zero l h.0 h.1 h.2
  by_from b p l (inr (inr (inl h))) = has_caller l h.1.0 h.0 h.1.1 h.1.2
  by_from b p l (inr (inr (inr h))) = layer_from b p l h

  faults_at : (b p : ℕ) (l : Layer) → Decided (At b p l)
  faults_at b p l = decided_as (by_from b p l) (by_to b p l)
      (either (either (by_pointer p l) (by_holder p l)) (either (by_division l) (either (by_end p l) (by_layer b p l))))

  pub some_faults : Decided (SomeFaults x P e)
  some_faults =
      decided_as (λ h. record { at = h.0; point = h.0.point; stands = record { place = h.1; here = refl }; reached = h.2.0; faults = h.2.1 })
      (λ s. (
        s.at,
        s.stands.place,
        (
          subst (Reached P e) (sym s.stands.here) s.reached,
          subst
              (λ p. FaultsAt x P e s.at.block p s.at.layer) (sym s.stands.here) s.faults,
        ),
      ))
      (some_case (IsPlace x) (λ at. Reached P e at.point × At at.block at.point at.layer) (places x)
      (λ at is. both (is_reached known e at.point) (faults_at at.block at.point at.layer)))
