-- The accesses of the jobs of an entry, and the levels to which they send, as lists.
use Rattle.std.proofs.Common.{◌≡◌, ◌⊎◌, inl, inr, ℕ, ◌<◌, Bool, true, false, List, Option, Some}
use Rattle.std.proofs.Common.{Contains, length, slice_get, refl, sym, subst}
use Rattle.plex_num.specs.declared.level.Level.{Level}
use Rattle.exchange_model.specs.declared.exchange.Exchange.{Exchange}
use Rattle.exchange_model.specs.declared.signal.SignalKind.{SignalKind}
use Rattle.exchange_model.specs.declared.signal.SignalKind.TheVariants.{Buffered}
use Rattle.exchange_model.specs.declared.stmt.Holder.{Holder}
use Rattle.exchange_model.specs.declared.stmt.Holder.TheVariants as holder
use Rattle.exchange_model.specs.declared.stmt.Receiver.TheVariants as receiver
use Rattle.exchange_model.specs.declared.stmt.StmtKind.TheOpen as stmt
use Rattle.exchange_model.specs.Cells.{Placed}
use Rattle.source_meaning.specs.Deeds.{IsFileAt, receiver_in}
use Rattle.source_meaning.specs.Named.{Layer, Named, NamedField, NamedVariable}
use Rattle.flow_points.specs.declared.fact.Fact.{Fact}
use Rattle.flow_points.specs.declared.fact.Slot.TheVariants.{Temp}
use Rattle.flow_points.specs.declared.fact.Value.{Value}
use Rattle.flow_points.specs.declared.fact.Value.TheVariants.{Any}
use Rattle.flow_points.specs.Facts.{Facts, Known, Reached}
use Rattle.flow_points.specs.Places.{IsPlace, Place}
use Rattle.entry_summary.specs.declared.summary.Access.{Access}
use Rattle.entry_summary.specs.declared.summary.Access.TheVariants.{Field, Frees, Own, Seizes}
use Rattle.entry_summary.specs.declared.summary.Access.TheVariants.{Variable}
use Rattle.entry_summary.specs.Accesses.{Accesses, IsAccess, IsForlopp, IsPlain, frees, opens_own}
use Rattle.entry_summary.specs.Accesses.{reads, reads_field, reads_holder, reads_own, searches}
use Rattle.entry_summary.specs.Accesses.{seizes, writes, writes_field, writes_own}
use Rattle.entry_summary.specs.Numbers.{field_number, variable_number}
use Rattle.entry_summary.specs.Summaries.{MaySendTo, SendsTo, sends}
use Rattle.finite_facts.proofs.Finite.{Listed, below, listed_as, listed_map, listed_none}
use Rattle.finite_facts.proofs.Finite.{listed_one, listed_or, listed_then, listed_when}
use Rattle.finite_facts.proofs.Giving.{is_reached, known_values}
use Rattle.analysis_existence.proofs.Naming.{Names, file_at, holder_in, is_forlopp, is_plain, names}
use Rattle.analysis_existence.proofs.Naming.{names_field, names_variable}
use Rattle.finite_facts.proofs.Places.{places}

module _ (x : Exchange) (known : List Fact) (e : ℕ) where
  abbrev P : Facts
  P = Contains known

  -- a field in a record of a plain file, or in one of its own
  abbrev OfField : Bool → ℕ → ℕ → ℕ → ℕ → Access → Type 0
  OfField w p file field pointer a = (IsPlain x file
      × ((v : Value) × Known P e p (Temp pointer) v × (a ≡ Field w (field_number x file field) v)))
      ⊎ (IsForlopp x file × (a ≡ Own w (field_number x file field)))

  of_field : (w : Bool) (p file field pointer : ℕ) → Listed (OfField w p file field pointer)
  of_field w p file field pointer =
      listed_or (λ a. IsPlain x file × ((v : Value) × Known P e p (Temp pointer) v
      × (a ≡ Field w (field_number x file field) v)))
      (λ a. IsForlopp x file × (a ≡ Own w (field_number x file field)))
      (listed_when (IsPlain x file) (λ a. (v : Value) × Known P e p (Temp pointer) v × (a ≡ Field w (field_number x file field) v)) (is_plain x file)
      (λ plain. listed_map (λ v. Known P e p (Temp pointer) v) (λ v. Field w (field_number x file field) v) (known_values known e p (Temp pointer))))
      (listed_when (IsForlopp x file) (λ a. a ≡ Own w (field_number x file field)) (is_forlopp x file) (λ own. listed_one (Own w (field_number x file field))))

  -- by a name
  abbrev OfName : ℕ → ℕ → Named → Access → Type 0
  OfName b p (NamedVariable v) a = a ≡ Variable false (variable_number x b v)
  OfName b p (NamedField file field pointer) a = OfField false p file field pointer a

  of_name : (b p : ℕ) (n : Named) → Listed (OfName b p n)
  of_name b p (NamedVariable v) = listed_one (Variable false (variable_number x b v))
  of_name b p (NamedField file field pointer) = of_field false p file field pointer

  -- by a holder
  abbrev OfHolder : ℕ → Holder → Access → Type 0
  OfHolder b (holder.Temporary t) a = ⊥
  OfHolder b (holder.Variable v) a = a ≡ Variable false (variable_number x b v)

  of_holder : (b : ℕ) (h : Holder) → Listed (OfHolder b h)
  of_holder b (holder.Temporary t) = listed_none (OfHolder b (holder.Temporary t)) (λ a h. h)
  of_holder b (holder.Variable v) = listed_one (Variable false (variable_number x b v))

  -- by what the statement itself does
  abbrev Opened : ℕ → Access → Type 0
  Opened file a = (placed : Placed) × IsFileAt x file placed × ((field : ℕ) × (field < length placed.file.fields) × (a ≡ Own true (field_number x file field)))

  abbrev OfLayer : ℕ → ℕ → Layer → Access → Type 0
  OfLayer b p (stmt.SetVariable variable value) a = a ≡ Variable true (variable_number x b variable)
  OfLayer b p (stmt.SetField file field pointer value) a = OfField true p file field pointer a
  OfLayer b p (stmt.ForFirst temp file field rel value label) a = a ≡ Field false (field_number x file field) Any
  OfLayer b p (stmt.Free temp file) a = Opened file a ⊎ (a ≡ Frees file)
  OfLayer b p (stmt.Seize temp file label) a = a ≡ Seizes file
  OfLayer b p _ a = ⊥

  of_layer : (b p : ℕ) (l : Layer) → Listed (OfLayer b p l)
  of_layer b p (stmt.SetVariable variable value) = listed_one (Variable true (variable_number x b variable))
  of_layer b p (stmt.SetField file field pointer value) = of_field true p file field pointer
  of_layer b p (stmt.ForFirst temp file field rel value label) = listed_one (Field false (field_number x file field) Any)
  of_layer b p (stmt.Free temp file) =
      listed_or (Opened file) (λ a. a ≡ Frees file)
      (listed_then (λ placed. IsFileAt x file placed)
      (λ placed a. (field : ℕ) × (field < length placed.file.fields) × (a ≡ Own true (field_number x file field)))
      (file_at x file)
      (λ placed there. listed_map (λ field. field < length placed.file.fields)
      (λ field. Own true (field_number x file field)) (below (length placed.file.fields))))
      (listed_one (Frees file))
  of_layer b p (stmt.Seize temp file label) = listed_one (Seizes file)
  of_layer b p l = listed_none (OfLayer b p l) (λ a h. h)

  abbrev ByName : ℕ → ℕ → Layer → Access → Type 0
  ByName b p l a = (n : Named) × Names l n × OfName b p n a

  abbrev ByHolder : ℕ → Layer → Access → Type 0
  ByHolder b l a = (h : Holder) × (receiver_in l ≡ Some (receiver.Held h)) × OfHolder b h a

  abbrev By : ℕ → ℕ → Layer → Access → Type 0
  By b p l a = ByName b p l a ⊎ (ByHolder b l a ⊎ OfLayer b p l a)

  by_to : (b p : ℕ) (l : Layer) (a : Access) → Accesses x P e b p l a → By b p l a
  by_to b p _ _ (reads l variable named) = inl (NamedVariable variable, (named.expr, named.own, named.named), refl)
  by_to b p _ _ (reads_holder l variable held) = inr (inl (holder.Variable variable, held, refl))
  by_to b p _ _ (writes variable value) = inr (inr refl)
  by_to b p _ _ (reads_field l file field pointer v named plain k) = inl
      (NamedField file field pointer, (named.expr, named.own, named.named), inl (plain, (v, k, refl)))
  by_to b p _ _ (writes_field file field pointer value v plain k) = inr (inr (inl (plain, (v, k, refl))))
  by_to b p _ _ (searches temp file field rel value label) = inr (inr refl)
  by_to b p _ _ (reads_own l file field pointer named own) = inl (NamedField file field pointer, (named.expr, named.own, named.named), inr (own, refl))
  by_to b p _ _ (writes_own file field pointer value own) = inr (inr (inr (own, refl)))
  by_to b p _ _ (opens_own temp file field placed there lt) = inr (inr (inl (placed, there, (field, lt, refl))))
  by_to b p _ _ (seizes temp file label) = inr (inr refl)
  by_to b p _ _ (frees temp file) = inr (inr (inr refl))

  abbrev Does : ℕ → ℕ → Layer → Access → Type 0
  Does b p l a = Accesses x P e b p l a

  name_from : (b p : ℕ) (l : Layer) (a : Access) (n : Named) → Names l n → OfName b p n a → Does b p l a
  name_from b p l a (NamedVariable v) h is = subst (Does b p l) (sym is) (reads l v (names_variable l v h))
  name_from b p l a (NamedField file field pointer) h (inl (plain, (v, k, is))) = subst (Does b p l) (sym is)
      (reads_field l file field pointer v (names_field l file field pointer h) plain k)
  name_from b p l a (NamedField file field pointer) h (inr (own, is)) = subst (Does b p l) (sym is)
      (reads_own l file field pointer (names_field l file field pointer h) own)

  holder_from : (b p : ℕ) (l : Layer) (a : Access) (h : Holder) → receiver_in l ≡ Some (receiver.Held h) → OfHolder b h a → Does b p l a
  holder_from b p l a (holder.Temporary t) held is = absurd is
  holder_from b p l a (holder.Variable v) held is = subst (Does b p l) (sym is) (reads_holder l v held)

  layer_from : (b p : ℕ) (l : Layer) (a : Access) → OfLayer b p l a → Does b p l a
  layer_from b p (stmt.SetVariable variable value) a is = subst (Does b p (stmt.SetVariable variable value)) (sym is) (writes variable value)
  layer_from b p (stmt.SetField file field pointer value) a (inl (plain, (v, k, is))) = subst
      (Does b p (stmt.SetField file field pointer value)) (sym is) (writes_field file field pointer value v plain k)
  layer_from b p (stmt.SetField file field pointer value) a (inr (own, is)) = subst
      (Does b p (stmt.SetField file field pointer value)) (sym is) (writes_own file field pointer value own)
  layer_from b p (stmt.ForFirst temp file field rel value label) a is = subst
      (Does b p (stmt.ForFirst temp file field rel value label)) (sym is) (searches temp file field rel value label)
  layer_from b p (stmt.Free temp file) a (inl (placed, there, (field, lt, is))) =
      subst (Does b p (stmt.Free temp file)) (sym is) (opens_own temp file field placed there lt)
  layer_from b p (stmt.Free temp file) a (inr is) = subst (Does b p (stmt.Free temp file)) (sym is) (frees temp file)
  layer_from b p (stmt.Seize temp file label) a is = subst (Does b p (stmt.Seize temp file label)) (sym is) (seizes temp file label)
  layer_from b p _ a is = absurd is

  by_from : (b p : ℕ) (l : Layer) (a : Access) → By b p l a → Does b p l a
  by_from b p l a (inl (n, h, is)) = name_from b p l a n h is
  by_from b p l a (inr (inl (h, held, is))) = holder_from b p l a h held is
  by_from b p l a (inr (inr is)) = layer_from b p l a is

  pub does : (b p : ℕ) (l : Layer) → Listed (Does b p l)
  does b p l =
      listed_as (By b p l) (Does b p l) (by_from b p l) (by_to b p l)
      (listed_or (ByName b p l) (λ a. ByHolder b l a ⊎ OfLayer b p l a)
      (listed_then (Names l) (OfName b p) (names l) (λ n h. of_name b p n))
      (listed_or (ByHolder b l) (OfLayer b p l)
      (listed_then (λ h. receiver_in l ≡ Some (receiver.Held h)) (OfHolder b) (holder_in l)
      (λ h held. of_holder b h)) (of_layer b p l)))

  pub accesses : Listed (IsAccess x P e)
  accesses =
      listed_as (λ a. (at : Place) × IsPlace x at × (Reached P e at.point × Does at.block at.point at.layer a)) (IsAccess x P e)
      (λ a h. record { at = h.0; point = h.0.point; stands = record { place = h.1; here = refl }; reached = h.2.0; access = h.2.1 })
      (λ a i. (
        i.at,
        i.stands.place,
        (
          subst (Reached P e) (sym i.stands.here) i.reached,
          subst
              (λ p. Accesses x P e i.at.block p i.at.layer a) (sym i.stands.here) i.access,
        ),
      ))
      (listed_then (IsPlace x) (λ at a. Reached P e at.point × Does at.block at.point at.layer a) (places x)
      (λ at is. listed_when (Reached P e at.point) (Does at.block at.point at.layer) (is_reached known e at.point)
      (λ reached. does at.block at.point at.layer)))

  -- levels

  abbrev OfSignal : Option SignalKind → Level → Type 0
  OfSignal (Some (Buffered name level count)) l = l ≡ level
  OfSignal _ l = ⊥

  of_signal : (o : Option SignalKind) → Listed (OfSignal o)
  of_signal (Some (Buffered name level count)) = listed_one level
  of_signal o = listed_none (OfSignal o) (λ l h. h)

  abbrev SentBy : Layer → Level → Type 0
  SentBy (stmt.Send signal to values fresh) l = OfSignal (slice_get x.signals signal) l
  SentBy _ l = ⊥

  sent_by : (l : Layer) → Listed (SentBy l)
  sent_by (stmt.Send signal to values fresh) = of_signal (slice_get x.signals signal)
  sent_by l = listed_none (SentBy l) (λ v h. h)

  sent_to : (l : Layer) (v : Level) → SendsTo x l v → SentBy l v
  sent_to _ _ (sends signal to values fresh name level count is) = subst (λ o. OfSignal o level) (sym is) refl

  sent_from : (l : Layer) (v : Level) → SentBy l v → SendsTo x l v
  sent_from (stmt.Send signal to values fresh) v h = by (slice_get x.signals signal) refl h
    where
      by : (o : Option SignalKind) → slice_get x.signals signal ≡ o → OfSignal o v → SendsTo x (stmt.Send signal to values fresh) v
      by (Some (Buffered name level count)) there is = subst (SendsTo x (stmt.Send signal to values fresh)) (sym is)
          (sends signal to values fresh name level count there)
      by _ there is = absurd is
  sent_from _ v h = absurd h

  pub levels : Listed (MaySendTo x P e)
  levels =
      listed_as (λ l. (at : Place) × IsPlace x at × (Reached P e at.point × SendsTo x at.layer l)) (MaySendTo x P e)
      (λ l h. record { at = h.0; point = h.0.point; stands = record { place = h.1; here = refl }; reached = h.2.0; sends = h.2.1 })
      (λ l m. (m.at, m.stands.place, (subst (Reached P e) (sym m.stands.here) m.reached, m.sends)))
      (listed_then (IsPlace x) (λ at l. Reached P e at.point × SendsTo x at.layer l) (places x)
      (λ at is. listed_when (Reached P e at.point) (SendsTo x at.layer) (is_reached known e at.point)
      (λ reached. listed_as (SentBy at.layer) (SendsTo x at.layer) (sent_from at.layer) (sent_to at.layer)
      (sent_by at.layer))))
