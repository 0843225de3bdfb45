-- The lists found have exactly the variables and fields that the entry's jobs only add to.
use Rattle.std.proofs.Common.{◌≡◌, ◌↔◌, inl, inr, ⊎_elim, ℕ, Bool, true, false, List, [], filter}
use Rattle.std.proofs.Common.{map, Option, Some, None, refl, sym, ap, ◌∙◌, subst, arith}
use Rattle.std.specs.Prelude.{option_and_then, slice_get}
use Rattle.std.specs.List.{Contains}
use Rattle.std.specs.List.Sorted.{IsStrictlySortedBy}
use Rattle.std.proofs.lemmas.List.Kept.{IsStrictlySortedBy-filter}
use Rattle.std.proofs.lemmas.Bool.{true≢false}
use Rattle.std.proofs.lemmas.Option.{none-some, same_Some, slice_get_within}
use Rattle.plex_num.proofs.Members.{in_filter, none_in}
use Rattle.exchange_model.specs.declared.exchange.Exchange.{Exchange}
use Rattle.flow_points.specs.declared.fact.Value.{Value}
use Rattle.flow_points.specs.Facts.{Facts, Reached}
use Rattle.flow_points.specs.Places.{Place, StandsAt}
use Rattle.flow_table.specs.declared.place.PlaceAt.{PlaceAt}
use Rattle.flow_table.specs.Texts.{ArePlaces, AreReachedAmong, seen}
use Rattle.fact_rows.specs.Numbers.{AreNumbers}
use Rattle.entry_summary.specs.declared.summary.Access.{Access}
use Rattle.entry_summary.specs.declared.summary.Access.TheVariants.{Field, Variable}
use Rattle.entry_summary.specs.declared.summary.Summary.{Summary}
use Rattle.entry_summary.specs.Accesses.{Accesses, IsAccess}
use Rattle.entry_summary.specs.Orders.{access_order}
use Rattle.entry_summary.specs.Summaries.{IsSummary}
use Rattle.entry_accesses.specs.Adding.{Adds}
use Rattle.additions_meaning.specs.Additions.{AddsAtField, OnlyAddsTo}
use Rattle.additions_meaning.specs.Lists.{IsAdded, IsAddedField}
use Rattle.conflicts_meaning.specs.declared.rows.GivenAt.{GivenAt}
use Rattle.conflicts_meaning.specs.Points.{AreGiven, GivesAccess, IsGiven}
use Rattle.conflict_rows.specs.Items.{GivenBy}
use Rattle.conflict_rows.proofs.Alone.{stands_at}
use Rattle.conflict_rows.proofs.Finding.{contained}
use Rattle.entry_additions.specs.declared.cells.CellKind.{CellKind}
use Rattle.entry_additions.specs.declared.cells.CellKind.TheVariants as kind
use Rattle.entry_additions.specs.Added.{AddsExactly}
use Rattle.entry_additions.specs.Cells.{AreCells, HasCells, field_of, is_cell_access, listed_by}
use Rattle.entry_additions.specs.Cells.{number_in, variable_of, written_by}
use Rattle.entry_additions.specs.Others.{IsAlone, IsOnlyAdded, IsOtherAt}
use Rattle.entry_additions.specs.Sums.{adds}
use Rattle.entry_additions.proofs.Kept.{kept_only}
use Rattle.entry_additions.proofs.Summing.{AddsOf, adds_are, are_adds}

-- an access to a variable, and one to a field

record OfVariable (number : ℕ) (a : Access) : Type 0 where
  write : Bool
  is : a ≡ Variable write number

of_variable : (a : Access) (number : ℕ) → variable_of a ≡ Some number → OfVariable number a
of_variable (Variable write n) number is = record { write = write; is = ap (Variable write) (same_Some n number is) }
of_variable _ number is = absurd (none-some number is)

record OfField (number : ℕ) (a : Access) : Type 0 where
  write : Bool
  selector : Value
  is : a ≡ Field write number selector

of_field : (a : Access) (number : ℕ) → field_of a ≡ Some number → OfField number a
of_field (Field write n v) number is = record { write = write; selector = v; is = ap (λ m. Field write m v) (same_Some n number is) }
of_field _ number is = absurd (none-some number is)

writes_it : (a : Access) (number : ℕ) → written_by a ≡ Some number → a ≡ Variable true number
writes_it (Variable true n) number is = ap (Variable true) (same_Some n number is)
writes_it _ number is = absurd (none-some number is)

is_cell : (k : CellKind) (a : Access) (number : ℕ) → number_in k a ≡ Some number → is_cell_access a ≡ true
is_cell kind.Variable a number is = (let v = of_variable a number is in ap is_cell_access v.is)
is_cell kind.Field a number is = (let f = of_field a number is in ap is_cell_access f.is)

listed_is : (k : CellKind) (a : Access) (number : ℕ) → listed_by k a ≡ Some number → number_in k a ≡ Some number
listed_is kind.Variable a number is = ap variable_of (writes_it a number is)
listed_is kind.Field a number is = is

record Found (k : CellKind) (accesses : List Access) (i number : ℕ) : Type 0 where
  access : Access
  there : slice_get accesses i ≡ Some access
  of : number_in k access ≡ Some number

found : (k : CellKind) (o : Option Access) (accesses : List Access) (i number : ℕ) → slice_get accesses i ≡ o
    → option_and_then (number_in k) o ≡ Some number → Found k accesses i number
found k None accesses i number at is = absurd (none-some number is)
found k (Some a) accesses i number at is = record { access = a; there = at; of = is }

-- at each place where a job of the entry may access it, the statement adds to it

abbrev pub OnlyAdds : Exchange → Facts → ℕ → CellKind → ℕ → Type 0
OnlyAdds x P e k number = (at : Place) (point : ℕ) → StandsAt x point at → Reached P e point → (a : Access)
    → number_in k a ≡ Some number → Accesses x P e at.block point at.layer a → AddsOf x at.block k number at.layer

only_variable : (x : Exchange) (P : Facts) (e number : ℕ) → OnlyAddsTo x P e number → OnlyAdds x P e kind.Variable number
only_variable x P e number only at point stands reached a is access =
    (let v = of_variable a number is in only at point stands reached v.write (subst (Accesses x P e at.block point at.layer) v.is access))

only_field : (x : Exchange) (P : Facts) (e number : ℕ) → AddsAtField x P e number → OnlyAdds x P e kind.Field number
only_field x P e number only at point stands reached a is access =
    (let f = of_field a number is in only at point stands reached f.write f.selector (subst (Accesses x P e at.block point at.layer) f.is access))

abbrev pub IsAddedOf : Exchange → Facts → ℕ → CellKind → ℕ → Type 0
IsAddedOf x P e kind.Variable number = IsAdded x P e number
IsAddedOf x P e kind.Field number = IsAddedField x P e number

-- some access of the entry puts it into the list
abbrev pub IsListed : Exchange → Facts → ℕ → CellKind → ℕ → Type 0
IsListed x P e k number = (a : Access) × IsAccess x P e a × (listed_by k a ≡ Some number)

pub added_from : (x : Exchange) (P : Facts) (e : ℕ) (k : CellKind) (number : ℕ) → IsListed x P e k number → OnlyAdds x P e k number → IsAddedOf x P e k number
added_from x P e kind.Variable number listed only = record {
  written = subst (IsAccess x P e) (writes_it listed.0 number listed.2) listed.1;
  only = λ at point stands reached write access. only at point stands reached (Variable write number) refl access;
}
added_from x P e kind.Field number listed only =
    let f = of_field listed.0 number listed.2 in
    record {
      write = f.write;
      selector = f.selector;
      accessed = subst (IsAccess x P e) f.is listed.1;
      only = λ at point stands reached write selector access. only at point stands reached (Field write number selector) refl access;
    }

pub added_to : (x : Exchange) (P : Facts) (e : ℕ) (k : CellKind) (number : ℕ) → IsAddedOf x P e k number → IsListed x P e k number × OnlyAdds x P e k number
added_to x P e kind.Variable number h = ((Variable true number, h.written, refl), only_variable x P e number h.only)
added_to x P e kind.Field number h = ((Field h.write number h.selector, h.accessed, refl), only_field x P e number h.only)

module _ (x : Exchange) (P : Facts) (e : ℕ) (places : List Place) (s : Summary) (rows : List GivenAt)
    (are : ArePlaces x places) (sums : AreCells x P e s.accesses) (given : AreGiven x P e s rows) where
  -- some row is of an access to this variable or field by a statement that does not add to it
  abbrev pub SomeOther : CellKind → ℕ → Type 0
  SomeOther k number = GivenBy (IsOtherAt x places s.accesses k) rows number

  gives : (r : GivenAt) (a : Access) → slice_get s.accesses r.number ≡ Some a → IsGiven x P e s r → GivesAccess x P e a r.point
  gives r a there (inl h) = subst (λ b. GivesAccess x P e b r.point) (same_Some h.access a (sym h.there ∙ there)) h.gives
  gives r a there (inr h) = absurd (let low = slice_get_within s.accesses r.number a there in let at = h.number in omega (arith, low, at))

  -- such a row means that some access is no addition
  other_breaks : (k : CellKind) (number : ℕ) → SomeOther k number → OnlyAdds x P e k number → ⊥
  other_breaks k number o only =
      let h = o.gives in
      let f = found k (slice_get s.accesses o.item.number) s.accesses o.item.number number refl h.is in
      let g = gives o.item f.access f.there ((given.exact o.item).0 (contained rows o.place o.item o.there)) in
      let same : g.at ≡ h.at = same_Some g.at h.at (sym (are.listed o.item.point g.at g.stands) ∙ h.stands) in
      let added = only g.at o.item.point g.stands g.reached f.access f.of g.access in
      let so = are_adds x g.at.block number k g.at.layer added in
      true≢false (sym so ∙ ap (λ (p : Place). adds x p.block k number p.layer) same ∙ h.adds_not)

  -- without such a row, each access is an addition
  only_adds : (k : CellKind) (number : ℕ) → (SomeOther k number → ⊥) → OnlyAdds x P e k number
  only_adds k number none at point stands reached a of access = by (adds x at.block k number at.layer) refl
    where
      gives_it : GivesAccess x P e a point
      gives_it = record { at = at; stands = stands; reached = reached; access = access }

      listed : Contains s.accesses a
      listed = (sums a (is_cell k a number of)).1 (record { at = at; point = point; stands = stands; reached = reached; access = access })

      place : (i : ℕ) × (slice_get s.accesses i ≡ Some a)
      place = stands_at s.accesses a listed

      row : GivenAt
      row = record { number = place.0; point = point }

      in_rows : (i : ℕ) × (slice_get rows i ≡ Some row)
      in_rows = stands_at rows row ((given.exact row).1 (inl (record { access = a; there = place.1; gives = gives_it })))

      by : (b : Bool) → adds x at.block k number at.layer ≡ b → AddsOf x at.block k number at.layer
      by true so = adds_are x at.block number k at.layer so
      by false never = absurd (none (record {
        place = in_rows.0;
        item = row;
        there = in_rows.1;
        gives = record { is = ap (λ o. option_and_then (number_in k) o) place.1 ∙ of; at = at; stands = are.listed point at stands; adds_not = never };
      }))

  only_is : (k : CellKind) (number : ℕ) → IsOnlyAdded x places s.accesses rows k number → IsAddedOf x P e k number
  only_is k number h = added_from x P e k number
      (h.access, (sums h.access (is_cell k h.access number (listed_is k h.access number h.lists))).0 h.there, h.lists)
      (only_adds k number h.none)

  is_only : (k : CellKind) (number : ℕ) → IsAddedOf x P e k number → IsOnlyAdded x places s.accesses rows k number
  is_only k number h =
      let t = added_to x P e k number h in
      record {
        access = t.0.0;
        there = (sums t.0.0 (is_cell k t.0.0 number (listed_is k t.0.0 number t.0.2))).1 t.0.1;
        lists = t.0.2;
        none = λ o. other_breaks k number o t.1;
      }

  are_found : (k : CellKind) (added : List ℕ) → AreNumbers (IsOnlyAdded x places s.accesses rows k) added → (number : ℕ)
      → Contains added number ↔ IsAddedOf x P e k number
  are_found k added h number = ((λ c. only_is k number (h.each number c)), (λ a. h.listed number (is_only k number a)))

-- so the lists have what the entry's jobs only add to
pub are_added : (x : Exchange) (P : Facts) (e : ℕ) (places : List Place) (s : Summary) (rows given : List GivenAt)
    (accesses : List Access) (variables fields : List ℕ) → ArePlaces x places → AreCells x P e s.accesses
    → AreGiven x P e s rows → accesses ≡ s.accesses → given ≡ rows
    → AreNumbers (IsOnlyAdded x places accesses given kind.Variable) variables
    → AreNumbers (IsOnlyAdded x places accesses given kind.Field) fields
    → AddsExactly x P e (record { variables = variables; fields = fields })
are_added x P e places s rows given accesses variables fields are sums rows_are same slice some others =
    let moved : (k : CellKind) (l : List ℕ) → AreNumbers (IsOnlyAdded x places accesses given k) l → AreNumbers (IsOnlyAdded x places s.accesses rows k) l =
    λ k l h. subst (λ g. AreNumbers (IsOnlyAdded x places s.accesses g k) l) slice (subst (λ a. AreNumbers (IsOnlyAdded x places a given k) l) same h) in
    let ones = moved kind.Variable variables some in
    let twos = moved kind.Field fields others in
    record {
      are = record {
        variables = are_found x P e places s rows are sums rows_are kind.Variable variables ones;
        fields = are_found x P e places s rows are sums rows_are kind.Field fields twos;
      };
      rising = record { variables = ones.rising; fields = twos.rising };
    }

-- a list that is built from an empty one
from_none : (old new : List ℕ) (G : ℕ → Type 0) → old ≡ [] → Adds old new G → (n : ℕ) → (Contains new n → G n) × (G n → Contains new n)
from_none old new G none h n = (
  λ c. ⊎_elim (λ was. absurd (none_in n (subst (λ l. Contains l n) none was))) (λ g. g) (h.each n c),
  λ g. h.added n g,
)

-- the listed numbers without any other row
pub are_only : (x : Exchange) (places : List Place) (rows : List GivenAt) (k : CellKind)
    (start found others given begun added result : List ℕ) (taken : List Access)
    → start ≡ [] → Adds start found (GivenBy (IsOtherAt x places taken k) rows) → AreNumbers (Contains found) others → given ≡ others
    → begun ≡ [] → Adds begun added (GivenBy (IsAlone given k) taken) → AreNumbers (Contains added) result
    → AreNumbers (IsOnlyAdded x places taken rows k) result
are_only x places rows k start found others given begun added result taken none adds sorted slice empty more ordered =
    let both = from_none start found (GivenBy (IsOtherAt x places taken k) rows) none adds in
    let lists = from_none begun added (GivenBy (IsAlone others k) taken) empty (subst (λ l. Adds begun added (GivenBy (IsAlone l k) taken)) slice more) in
    record {
      rising = ordered.rising;
      each = λ n c. (let o = (lists n).0 (ordered.each n c) in record {
        access = o.item;
        there = contained taken o.place o.item o.there;
        lists = o.gives.lists;
        none = λ h. o.gives.none (sorted.listed n ((both n).1 h));
      });
      listed = λ n h. (let at = stands_at taken h.access h.there in
          ordered.listed n ((lists n).1 (record {
            place = at.0;
            item = h.access;
            there = at.1;
            gives = record { lists = h.lists; none = λ c. h.none ((both n).0 (sorted.each n c)) };
          })));
    }

-- accesses to variables and fields only

pub has_cells : (all some : List Access) → some ≡ filter is_cell_access all → HasCells all some
has_cells all some is a cell = (
  λ c. (kept_only is_cell_access all a (subst (λ l. Contains l a) is c)).0,
  λ c. subst (λ l. Contains l a) (sym is) (in_filter is_cell_access all a cell c),
)

pub cells_rising : (all some : List Access) → IsStrictlySortedBy access_order all → some ≡ filter is_cell_access all → IsStrictlySortedBy access_order some
cells_rising all some up is = subst (IsStrictlySortedBy access_order) (sym is) (IsStrictlySortedBy-filter access_order is_cell_access all up)

pub are_cells : (x : Exchange) (P : Facts) (e : ℕ) (s t : Summary) → IsSummary x P e s → HasCells s.accesses t.accesses → AreCells x P e t.accesses
are_cells x P e s t sums has a cell = (
  λ c. (sums.accesses a).0 ((has a cell).0 c),
  λ h. (has a cell).1 ((sums.accesses a).1 h),
)
