-- The fields of the files of which records are freed.
use Rattle.std.proofs.Common.{◌≡◌, ◌⊎◌, inl, inr, ⊎_elim, ℕ, suc, ◌+◌, ◌-◌, ◌<◌, ◌≤◌, ◌^◌, true}
use Rattle.std.proofs.Common.{List, [], ◌∷◌, ◌++◌, length, map, None, Some, slice_get, refl, sym}
use Rattle.std.proofs.Common.{ap, ◌∙◌, subst, arith, append_assoc, append-nil}
use Rattle.std.specs.Prelude.{◌↔◌}
use Rattle.std.specs.List.{Contains, range_with_len}
use Rattle.std.proofs.lemmas.List.Elements.{Contains-append_left, Contains-append_right}
use Rattle.std.proofs.lemmas.List.Elements.{Contains-append_cases}
use Rattle.std.proofs.lemmas.List.FromFn.{length-map-range_with_len, get_or-map-range_with_len}
use Rattle.std.proofs.lemmas.Option.{none-some, same_Some, slice_get_within}
use Rattle.exchange_model.specs.declared.block.File.{File}
use Rattle.exchange_model.specs.declared.exchange.Exchange.{Exchange}
use Rattle.exchange_model.specs.Cells.{Placed, placed_files}
use Rattle.exchange_model.specs.Kept.{IsExchange}
use Rattle.source_meaning.specs.Config.{files_of}
use Rattle.source_meaning.specs.Deeds.{IsFileAt}
use Rattle.entry_summary.specs.declared.summary.Access.{Access}
use Rattle.entry_summary.specs.declared.summary.Access.TheVariants.{Own, Frees}
use Rattle.entry_summary.specs.Numbers.{field_number}
use Rattle.entry_accesses.specs.Adding.{Adds, OneGives}
use Rattle.entry_accesses.specs.Numbered.{AreNumbers, HasNumber, placed_count}
use Rattle.entry_accesses.specs.Opening.{OpenedBy, Opens}
use Rattle.entry_accesses.specs.declared.numbers.CellNumbers.{CellNumbers}
use Rattle.entry_accesses.proofs.Adding.{gives_alike}
use Rattle.entry_accesses.proofs.Numbering.{field_has, fields_few}
use Rattle.entry_accesses.proofs.Using.{within}

-- rows of numbers

in_range : {A : Type 0} (f : ℕ → A) (from many k n : ℕ) → k < many → from + k ≡ n → Contains (map f (range_with_len from many)) (f n)
in_range f from many k n lt at =
    let long = length-map-range_with_len f from many in
    (k, omega (arith, lt, long), get_or-map-range_with_len f from many k n (f n) lt at)

of_range : {A : Type 0} (f : ℕ → A) (from many : ℕ) (y : A) → Contains (map f (range_with_len from many)) y → (k : ℕ) × (k < many) × (f (from + k) ≡ y)
of_range f from many y c =
    let long = length-map-range_with_len f from many in
    let lt = c.1 in
    let below : c.0 < many = omega (arith, lt, long) in
    (c.0, below, sym (get_or-map-range_with_len f from many c.0 (from + c.0) y below refl) ∙ c.2)

-- a file

pub file_at : (x : Exchange) (file b first : ℕ) (f : File)
    → slice_get (placed_files x.blocks) file ≡ Some (record { block = b; file = f; first = first })
    → slice_get (files_of x) file ≡ Some (record { block = b; file = f; first = first })
unfolding files_of
file_at x file b first f there = there

pub opens_nowhere : (x : Exchange) (file : ℕ) (all : List Access) → slice_get (placed_files x.blocks) file ≡ None → Adds all all (Opens x file)
unfolding files_of
opens_nowhere x file all none = record { each = λ a c. inl c; kept = λ a c. c; added = λ a o. absurd (none-some o.placed (sym none ∙ o.there)) }

module _ (x : Exchange) (file : ℕ) (placed : Placed) (kept : IsExchange x) (there : IsFileAt x file placed) where
  pub first_has : (numbers : CellNumbers) → AreNumbers x numbers → HasNumber numbers.fields file 0
  first_has numbers are =
      field_has x numbers 0 file 0 0 are
      (slice_get_within (files_of x) file placed there, within placed_count (files_of x) file 0 placed there (omega arith) (fields_few x kept))

  pub opened_small : (first n : ℕ) → first ≡ field_number x file 0 → n ≡ length placed.file.fields → first + n < 2 ^ 32
  opened_small first n is count = (let small = within placed_count (files_of x) file (placed_count placed) placed there
      (omega arith) (fields_few x kept) in omega (arith, small, is, count))

  pub opened_there : (first n end : ℕ) (old new : List Access) → first ≡ field_number x file 0
      → n ≡ length placed.file.fields → end ≡ first + n
      → new ≡ old ++ map (λ k. Own true k) (range_with_len first (end - first)) → Adds old new (Opens x file)
  opened_there first n end old new at count ends made = record {
    each = λ a c. ⊎_elim (λ was. inl was) (λ one. inr (opens a one)) (Contains-append_cases old fields a (subst (λ l. Contains l a) is c));
    kept = λ a c. subst (λ l. Contains l a) (sym is) (Contains-append_left old fields a c);
    added = λ a o. subst (λ l. Contains l a) (sym is) (Contains-append_right old fields a (opened a o));
  }
    where
      fields : List Access
      fields = map (λ k. Own true k) (range_with_len first (length placed.file.fields))

      is : new ≡ old ++ fields
      is = (let many : end - first ≡ length placed.file.fields = omega (arith, count, ends) in made
          ∙ ap (λ m. old ++ map (λ k. Own true k) (range_with_len first m)) many)

      number : (field : ℕ) → first + field ≡ field_number x file field
      number field = omega (arith, at)

      opens : (a : Access) → Contains fields a → Opens x file a
      opens a c =
          let r = of_range (λ k. Own true k) first (length placed.file.fields) a c in
          record { field = r.0; placed = placed; there = there; inside = r.1; is = sym r.2 ∙ ap (λ k. Own true k) (number r.0) }

      opened : (a : Access) → Opens x file a → Contains fields a
      opened a o =
          let same : placed ≡ o.placed = same_Some placed o.placed (sym there ∙ o.there) in
          let inside : o.field < length placed.file.fields = subst (λ (q : Placed). o.field < length q.file.fields) (sym same) o.inside in
          subst (Contains fields) (sym o.is) (in_range (λ k. Own true k) first (length placed.file.fields) o.field
          (field_number x file o.field) inside (number o.field))

-- fields in a row

abbrev written : ℕ → ℕ → List Access
written from many = map (λ k. Own true k) (range_with_len from many)

pub record WrittenGo (first end number : ℕ) (old now : List Access) : Type 0 where
  pub same : now ++ map (λ k. Own true k) (range_with_len number (end - number)) ≡ old ++ map (λ k. Own true k) (range_with_len first (end - first))

pub written_begin : (first end : ℕ) (old : List Access) → WrittenGo first end first old old
written_begin first end old = record { same = refl }

pub written_more : (first end number : ℕ) (old now new : List Access) → number < end → new ≡ now ++ Own true number ∷ []
    → WrittenGo first end number old now → WrittenGo first end (number + 1) old new
written_more first end number old now new lt made g =
    let one : suc (end - (number + 1)) ≡ end - number = omega (arith, lt) in
    record {
      same =
          ap (λ l. l ++ written (number + 1) (end - (number + 1))) made
          ∙ append_assoc now (Own true number ∷ []) (written (number + 1) (end - (number + 1)))
          ∙ ap (λ m. now ++ written number m) one
          ∙ g.same;
    }

pub written_end : (first end number : ℕ) (old now : List Access) → end ≤ number → WrittenGo first end number old now
    → now ≡ old ++ map (λ k. Own true k) (range_with_len first (end - first))
written_end first end number old now past g =
    let none : 0 ≡ end - number = omega (arith, past) in
    sym (append-nil now) ∙ ap (λ m. now ++ written number m) none ∙ g.same

-- an access that frees records, or another one

pub opens_fields : (x : Exchange) (file : ℕ) (access : Access) (old new : List Access) → access ≡ Frees file
    → Adds old new (Opens x file) → Adds old new (OpenedBy x access)
opens_fields x file access old new is h = subst (λ a. Adds old new (OpenedBy x a)) (sym is) h

pub opens_nothing : (x : Exchange) (access : Access) (all : List Access) → ((file : ℕ) → access ≡ Frees file → ⊥) → Adds all all (OpenedBy x access)
opens_nothing x access all other = record { each = λ a c. inl c; kept = λ a c. c; added = λ a o. absurd (none access a refl o) }
  where
    none : (one a : Access) → access ≡ one → OpenedBy x one a → ⊥
    none (Frees file) a is o = other file is
    none _ a is o = o

-- all of these, and what they open
pub whole_is : (x : Exchange) (found direct given copy all each : List Access)
    → ((a : Access) → Contains direct a ↔ Contains found a) → given ≡ direct → copy ≡ direct
    → Adds copy all (OneGives (OpenedBy x) given) → ((a : Access) → Contains each a ↔ Contains all a) → (a : Access)
    → Contains each a ↔ (Contains found a ⊎ OneGives (OpenedBy x) found a)
whole_is x found direct given copy all each same shown copied h ordered a = (
  λ c. ⊎_elim (λ was. inl ((same a).0 (subst (λ l. Contains l a) copied was))) (λ o. inr ((opens a).0 o)) (h.each a ((ordered a).0 c)),
  λ s. (ordered a).1 (⊎_elim (λ c. h.kept a (subst (λ l. Contains l a) (sym copied) ((same a).1 c))) (λ o. h.added a ((opens a).1 o)) s),
)
  where
    opens : (b : Access) → OneGives (OpenedBy x) given b ↔ OneGives (OpenedBy x) found b
    opens b = gives_alike (OpenedBy x) found given (λ f. subst (λ l. Contains l f ↔ Contains found f) (sym shown) (same f)) b
