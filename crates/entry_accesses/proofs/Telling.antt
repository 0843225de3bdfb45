-- What a statement does to stored data, with what is known of pointers, is exactly its accesses.
use Rattle.std.proofs.Common.{◌≡◌, ◌⊎◌, inl, inr, ⊎_elim, ℕ, Bool, true, false, List, [], ◌∷◌, ◌++◌}
use Rattle.std.proofs.Common.{map, Option, Some, None, slice_get, refl, sym, ap, ◌∙◌, subst}
use Rattle.std.specs.List.{Contains}
use Rattle.std.proofs.lemmas.List.Elements.{Contains-append_left, Contains-append_right}
use Rattle.std.proofs.lemmas.List.Elements.{Contains-append_cases}
use Rattle.plex_num.proofs.Members.{first_or_later, none_in, first_is, later_is}
use Rattle.exchange_model.specs.declared.exchange.Exchange.{Exchange}
use Rattle.exchange_model.specs.declared.stmt.Holder.TheVariants as holder
use Rattle.exchange_model.specs.declared.stmt.Receiver.{Receiver}
use Rattle.exchange_model.specs.declared.stmt.Receiver.TheVariants as receiver
use Rattle.exchange_model.specs.declared.stmt.StmtKind.TheOpen as stmt
use Rattle.exchange_model.specs.Cells.{Placed}
use Rattle.exchange_model.specs.Inside.{joined, own_exprs}
use Rattle.source_meaning.specs.Config.{files_of}
use Rattle.source_meaning.specs.Deeds.{receiver_in}
use Rattle.source_meaning.specs.Named.{Layer, Named, NamedVariable, NamedField, named_in}
use Rattle.flow_points.specs.declared.fact.Slot.TheVariants.{Temp}
use Rattle.flow_points.specs.declared.fact.Value.{Value}
use Rattle.flow_points.specs.declared.fact.Value.TheVariants.{Any}
use Rattle.flow_points.specs.declared.flow.Source.TheVariants as source
use Rattle.flow_points.specs.Facts.{Facts, Known}
use Rattle.entry_summary.specs.declared.summary.Access.{Access}
use Rattle.entry_summary.specs.declared.summary.Access.TheVariants as access
use Rattle.entry_summary.specs.Accesses as told
use Rattle.entry_summary.specs.Accesses.{Accesses, IsPlain, IsForlopp, NamesVariable, NamesField}
use Rattle.entry_summary.specs.Numbers.{variable_number, field_number}
use Rattle.entry_accesses.specs.declared.uses.Use.{Use}
use Rattle.entry_accesses.specs.declared.uses.Use.TheVariants as use_of
use Rattle.entry_accesses.specs.Adding.{OneGives}
use Rattle.entry_accesses.specs.Opening.{OpenedBy, Opens}
use Rattle.entry_accesses.specs.Operands.{layer_names}
use Rattle.entry_accesses.specs.Uses.{field_use, field_uses, named_uses, read_uses, holder_uses}
use Rattle.entry_accesses.specs.Uses.{done_uses, layer_uses, UseGives}

-- lists of lists

in_joined : {A B : Type 0} (f : A → List B) (xs : List A) (x : A) (y : B) → Contains xs x → Contains (f x) y → Contains (joined (map f xs)) y
in_joined f [] x y one in_it = absurd (none_in x one)
in_joined f (z ∷ xs) x y one in_it =
    ⊎_elim
    (λ same. Contains-append_left (f z) (joined (map f xs)) y (subst (λ w. Contains (f w) y) (sym same) in_it))
    (λ later. Contains-append_right (f z) (joined (map f xs)) y (in_joined f xs x y later in_it))
    (first_or_later z x xs one)

of_joined : {A B : Type 0} (f : A → List B) (xs : List A) (y : B) → Contains (joined (map f xs)) y → (x : A) × Contains xs x × Contains (f x) y
of_joined f [] y c = absurd (none_in y c)
of_joined f (z ∷ xs) y c =
    ⊎_elim
    (λ here. (z, first_is z xs, here))
    (λ later. let r = of_joined f xs y later in (r.0, later_is z r.0 xs r.1, r.2))
    (Contains-append_cases (f z) (joined (map f xs)) y c)

module _ (x : Exchange) (P : Facts) (e b p : ℕ) where
  abbrev Given : List Use → Access → Type 0
  Given us a = OneGives (UseGives P e p) us a

  given_left : (us vs : List Use) (a : Access) → Given us a → Given (us ++ vs) a
  given_left us vs a g = record { item = g.item; one = Contains-append_left us vs g.item g.one; gives = g.gives }

  given_right : (us vs : List Use) (a : Access) → Given vs a → Given (us ++ vs) a
  given_right us vs a g = record { item = g.item; one = Contains-append_right us vs g.item g.one; gives = g.gives }

  given_cases : (us vs : List Use) (a : Access) → Given (us ++ vs) a → Given us a ⊎ Given vs a
  given_cases us vs a g =
      ⊎_elim
      (λ c. inl (record { item = g.item; one = c; gives = g.gives }))
      (λ c. inr (record { item = g.item; one = c; gives = g.gives }))
      (Contains-append_cases us vs g.item g.one)

  alone : (u : Use) (a : Access) → UseGives P e p u a → Given (u ∷ []) a
  alone u a gives = record { item = u; one = first_is u []; gives = gives }

  of_alone : (u : Use) (a : Access) → Given (u ∷ []) a → UseGives P e p u a
  of_alone u a g =
      ⊎_elim
      (λ same. subst (λ w. UseGives P e p w a) (sym same) g.gives)
      (λ none. absurd (none_in g.item none))
      (first_or_later u g.item [] g.one)

  of_nothing : (a : Access) → Given [] a → ⊥
  of_nothing a g = none_in g.item g.one

  -- what is named

  read_given : (names : List Named) (n : Named) (a : Access) → Contains names n → Given (named_uses x b false n) a → Given (read_uses x b names) a
  read_given names n a one g = record { item = g.item; one = in_joined (named_uses x b false) names n g.item one g.one; gives = g.gives }

  given_read : (names : List Named) (a : Access) → Given (read_uses x b names) a → (n : Named) × Contains names n × Given (named_uses x b false n) a
  given_read names a g =
      let r = of_joined (named_uses x b false) names g.item g.one in
      (r.0, r.1, record { item = g.item; one = r.2; gives = g.gives })

  plain_given : (file pointer number : ℕ) (write : Bool) (v : Value) → IsPlain x file → Known P e p (Temp pointer) v
      → Given (field_uses (slice_get (files_of x) file) write number pointer) (access.Field write number v)
  plain_given file pointer number write v h known =
      let a : Access = access.Field write number v in
      subst (λ o. Given (field_uses o write number pointer) a) (sym h.there)
      (subst (λ t. Given (field_use t write number pointer ∷ []) a) (sym h.plain) (alone (field_use false write number pointer) a (v, known, refl)))

  own_given : (file pointer number : ℕ) (write : Bool) → IsForlopp x file
      → Given (field_uses (slice_get (files_of x) file) write number pointer) (access.Own write number)
  own_given file pointer number write h =
      let a : Access = access.Own write number in
      subst (λ o. Given (field_uses o write number pointer) a) (sym h.there)
      (subst (λ t. Given (field_use t write number pointer ∷ []) a) (sym h.forlopp) (alone (field_use true write number pointer) a refl))

  -- a field of a plain file with a value of its pointer, or one of a forlopp file
  abbrev FieldIs : ℕ → ℕ → ℕ → Bool → Access → Type 0
  FieldIs file pointer number write a =
      (IsPlain x file × (v : Value) × Known P e p (Temp pointer) v × (a ≡ access.Field write number v)) ⊎ (IsForlopp x file × (a ≡ access.Own write number))

  given_field : (file pointer number : ℕ) (write : Bool) (a : Access)
      → Given (field_uses (slice_get (files_of x) file) write number pointer) a → FieldIs file pointer number write a
  given_field file pointer number write a g = by (slice_get (files_of x) file) refl g
    where
      kind : (placed : Placed) (t : Bool) → slice_get (files_of x) file ≡ Some placed → placed.file.forlopp ≡ t
          → UseGives P e p (field_use t write number pointer) a → FieldIs file pointer number write a
      kind placed true there is gives = inr (record { placed = placed; there = there; forlopp = is }, gives)
      kind placed false there is gives = inl (record { placed = placed; there = there; plain = is }, gives.0, gives.1, gives.2)

      by : (o : Option Placed) → slice_get (files_of x) file ≡ o → Given (field_uses o write number pointer) a → FieldIs file pointer number write a
      by None there h = absurd (of_nothing a h)
      by (Some placed) there h = kind placed placed.file.forlopp there refl (of_alone (field_use placed.file.forlopp write number pointer) a h)

  -- every access is given

  abbrev All : Layer → Access → Type 0
  All l a = Given (layer_uses x b l) a

  by_read : (l : Layer) (a : Access) → Given (read_uses x b (layer_names l)) a → All l a
  by_read l a g = given_left (read_uses x b (layer_names l)) (holder_uses x b (receiver_in l) ++ done_uses x b l) a g

  by_held : (l : Layer) (a : Access) → Given (holder_uses x b (receiver_in l)) a → All l a
  by_held l a g =
      given_right (read_uses x b (layer_names l)) (holder_uses x b (receiver_in l) ++ done_uses x b l) a
      (given_left (holder_uses x b (receiver_in l)) (done_uses x b l) a g)

  by_done : (l : Layer) (a : Access) → Given (done_uses x b l) a → All l a
  by_done l a g =
      given_right (read_uses x b (layer_names l)) (holder_uses x b (receiver_in l) ++ done_uses x b l) a
      (given_right (holder_uses x b (receiver_in l)) (done_uses x b l) a g)

  variable_named : (l : Layer) (v : ℕ) → NamesVariable l v → Contains (layer_names l) (NamedVariable v)
  variable_named l v h = in_joined named_in (own_exprs l) h.expr (NamedVariable v) h.own h.named

  field_named : (l : Layer) (file field pointer : ℕ) → NamesField l file field pointer → Contains (layer_names l) (NamedField file field pointer)
  field_named l file field pointer h = in_joined named_in (own_exprs l) h.expr (NamedField file field pointer) h.own h.named

  -- the statement frees records of a file, of which the access writes a field
  pub record Freed (l : Layer) (a : Access) : Type 0 where
    pub file : ℕ
    pub frees : All l (access.Frees file)
    pub opens : Opens x file a

  pub all_given : (l : Layer) (a : Access) → Accesses x P e b p l a → All l a ⊎ Freed l a
  all_given l a (told.reads _ v names) =
      inl (by_read l a (read_given (layer_names l) (NamedVariable v) a (variable_named l v names)
      (alone (use_of.Variable false (variable_number x b v)) a refl)))
  all_given l a (told.reads_holder _ v is) =
      inl (by_held l a (subst (λ r. Given (holder_uses x b r) a) (sym is) (alone (use_of.Variable false (variable_number x b v)) a refl)))
  all_given l a (told.writes v value) = inl (by_done l a (alone (use_of.Variable true (variable_number x b v)) a refl))
  all_given l a (told.reads_field _ file field pointer v names plain known) =
      inl (by_read l a
      (read_given (layer_names l) (NamedField file field pointer) a (field_named l file field pointer names)
      (plain_given file pointer (field_number x file field) false v plain known)))
  all_given l a (told.writes_field file field pointer value v plain known) =
      inl (by_done l a (plain_given file pointer (field_number x file field) true v plain known))
  all_given l a (told.searches temp file field rel value label) =
      inl (by_done l a (alone (use_of.Field false (field_number x file field) (source.Is Any)) a (Any, refl, refl)))
  all_given l a (told.reads_own _ file field pointer names forlopp) =
      inl (by_read l a
      (read_given (layer_names l) (NamedField file field pointer) a (field_named l file field pointer names)
      (own_given file pointer (field_number x file field) false forlopp)))
  all_given l a (told.writes_own file field pointer value forlopp) = inl (by_done l a (own_given file pointer (field_number x file field) true forlopp))
  all_given l a (told.opens_own temp file field placed there lt) =
      inr (record {
        file = file;
        frees = by_done l (access.Frees file)
            (alone (use_of.Frees file) (access.Frees file) refl);
        opens =
            record { field = field; placed = placed; there = there; inside = lt; is = refl };
      })
  all_given l a (told.seizes temp file label) = inl (by_done l a (alone (use_of.Seizes file) a refl))
  all_given l a (told.frees temp file) = inl (by_done l a (alone (use_of.Frees file) a refl))

  -- and nothing else is

  abbrev Is : Layer → Access → Type 0
  Is l a = Accesses x P e b p l a

  of_name : (l : Layer) (a : Access) (n : Named) → Contains (layer_names l) n → Given (named_uses x b false n) a → Is l a
  of_name l a (NamedVariable v) one g =
      let r = of_joined named_in (own_exprs l) (NamedVariable v) one in
      let is : a ≡ access.Variable false (variable_number x b v) = of_alone (use_of.Variable false (variable_number x b v)) a g in
      subst (Is l) (sym is) (told.reads l v (record { expr = r.0; own = r.1; named = r.2 }))
  of_name l a (NamedField file field pointer) one g =
      let r = of_joined named_in (own_exprs l) (NamedField file field pointer) one in
      let names : NamesField l file field pointer = record { expr = r.0; own = r.1; named = r.2 } in
      ⊎_elim
      (λ h. subst (Is l) (sym h.3) (told.reads_field l file field pointer h.1 names h.0 h.2))
      (λ h. subst (Is l) (sym h.1) (told.reads_own l file field pointer names h.0))
      (given_field file pointer (field_number x file field) false a g)

  of_held : (l : Layer) (a : Access) (r : Option Receiver) → receiver_in l ≡ r → Given (holder_uses x b r) a → Is l a
  of_held l a (Some (receiver.Held (holder.Variable v))) is g =
      let same : a ≡ access.Variable false (variable_number x b v) = of_alone (use_of.Variable false (variable_number x b v)) a g in
      subst (Is l) (sym same) (told.reads_holder _ v is)
  of_held l a _ is g = absurd (of_nothing a g)

  of_done : (l : Layer) (a : Access) → Given (done_uses x b l) a → Is l a
  of_done (stmt.SetVariable v value) a g =
      let same : a ≡ access.Variable true (variable_number x b v) = of_alone (use_of.Variable true (variable_number x b v)) a g in
      subst (Is (stmt.SetVariable v value)) (sym same) (told.writes v value)
  of_done (stmt.SetField file field pointer value) a g =
      ⊎_elim
      (λ h. subst (Is (stmt.SetField file field pointer value)) (sym h.3) (told.writes_field file field pointer value h.1 h.0 h.2))
      (λ h. subst (Is (stmt.SetField file field pointer value)) (sym h.1) (told.writes_own file field pointer value h.0))
      (given_field file pointer (field_number x file field) true a g)
  of_done (stmt.ForFirst temp file field rel value label) a g =
      let h = of_alone (use_of.Field false (field_number x file field) (source.Is Any)) a g in
      subst (Is (stmt.ForFirst temp file field rel value label))
      (sym (h.2 ∙ ap (λ v. access.Field false (field_number x file field) v) h.1))
      (told.searches temp file field rel value label)
  of_done (stmt.Seize temp file label) a g =
      subst (Is (stmt.Seize temp file label)) (sym (of_alone (use_of.Seizes file) a g)) (told.seizes temp file label)
  of_done (stmt.Free temp file) a g =
      subst (Is (stmt.Free temp file)) (sym (of_alone (use_of.Frees file) a g)) (told.frees temp file)
  of_done _ a g = absurd (of_nothing a g)

  pub given_all : (l : Layer) (a : Access) → All l a → Is l a
  given_all l a g =
      ⊎_elim
      (λ named. let r = given_read (layer_names l) a named in of_name l a r.0 r.1 r.2)
      (λ other. ⊎_elim (λ held. of_held l a (receiver_in l) refl held) (λ done. of_done l a done)
      (given_cases (holder_uses x b (receiver_in l)) (done_uses x b l) a other))
      (given_cases (read_uses x b (layer_names l)) (holder_uses x b (receiver_in l) ++ done_uses x b l) a g)

-- a statement that frees records of a file opens its fields

same_file : (f g : ℕ) → access.Frees f ≡ access.Frees g → f ≡ g
same_file f g is = cc

frees_in : (x : Exchange) (P : Facts) (e b p : ℕ) (l : Layer) (a : Access) (file : ℕ) → Accesses x P e b p l a
    → a ≡ access.Frees file → (temp : ℕ) × (l ≡ stmt.Free temp file)
frees_in x P e b p l a file (told.frees temp f) is = (temp, ap (λ g. stmt.Free temp g) (same_file f file is))
frees_in x P e b p l a file _ is = cc

pub opened_by : (x : Exchange) (P : Facts) (e b p : ℕ) (l : Layer) (freeing a : Access) → Accesses x P e b p l freeing
    → OpenedBy x freeing a → Accesses x P e b p l a
opened_by x P e b p l (access.Frees file) a h o =
    let f = frees_in x P e b p l (access.Frees file) file h refl in
    subst (λ (m : Layer). Accesses x P e b p m a) (sym f.1)
    (subst (Accesses x P e b p (stmt.Free f.0 file)) (sym o.is) (told.opens_own f.0 file o.field o.placed o.there o.inside))
opened_by x P e b p l _ a h o = absurd o
