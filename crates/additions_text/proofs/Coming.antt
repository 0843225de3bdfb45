-- The text of the additions exists.
use Rattle.std.proofs.Common.{◌≡◌, ◌↔◌, ℕ, Bool, true, false, List, [], ◌∷◌, ◌++◌, length, Option}
use Rattle.std.proofs.Common.{Some, None, IsTrue, refl, sym, ◌∙◌, subst}
use Rattle.std.specs.List.{Contains}
use Rattle.std.specs.List.Sorted.{IsStrictlySortedBy}
use Rattle.std.specs.Ordering.{nat_cmp}
use Rattle.std.proofs.lemmas.Bool.{true≢false}
use Rattle.std.proofs.lemmas.Cmp.{nat_cmp_total}
use Rattle.plex_num.proofs.Lists.{some_at}
use Rattle.plex_num.proofs.Members.{first_is, later_is}
use Rattle.plex_num.proofs.Numbers.{nat_same}
use Rattle.exchange_model.specs.declared.exchange.Exchange.{Exchange}
use Rattle.flow_points.specs.declared.fact.Fact.{Fact}
use Rattle.flow_points.specs.Facts.{Facts, IsLeast, Reached, fact}
use Rattle.flow_points.specs.Places.{IsPlace, Place}
use Rattle.finite_facts.proofs.Facts.{least_facts}
use Rattle.finite_facts.proofs.Finite.{Decided, Listed, decided_as, each_case, listed_as, listed_if}
use Rattle.finite_facts.proofs.Finite.{listed_some, listed_then, no, same_number, same_option, yes}
use Rattle.finite_facts.proofs.Giving.{is_reached}
use Rattle.finite_facts.proofs.Places.{places}
use Rattle.finite_facts.proofs.Rising.{in_order}
use Rattle.entry_summary.specs.declared.summary.Access.{Access}
use Rattle.entry_summary.specs.declared.summary.Summary.{Summary}
use Rattle.entry_summary.specs.Accesses.{Accesses, IsAccess}
use Rattle.pair_tests.specs.declared.pair.Conflict.{Conflict}
use Rattle.pair_tests.specs.Clashes.{IsLeastConflict}
use Rattle.pair_tests.specs.Pairs.{IsConflict}
use Rattle.analysis_text.specs.Names.{names_of}
use Rattle.analysis_existence.proofs.Accessing.{accesses, does}
use Rattle.analysis_existence.proofs.Pairing.{first_conflict, tests}
use Rattle.analysis_existence.proofs.Summaries.{all_summaries}
use Rattle.additions_meaning.specs.Additions.{Targets}
use Rattle.conflicts_meaning.specs.declared.rows.EntryPair.{EntryPair}
use Rattle.conflicts_meaning.specs.declared.rows.Section.{Section}
use Rattle.conflicts_meaning.specs.declared.rows.Section.TheVariants.{Entry, Pair}
use Rattle.conflicts_meaning.specs.Told.{sections}
use Rattle.conflicts_text.specs.Within.{IsWithin}
use Rattle.conflicts_text.proofs.Within.{sections_within}
use Rattle.entry_additions.specs.declared.added.Added.{Added}
use Rattle.entry_additions.specs.declared.cells.CellKind.{CellKind}
use Rattle.entry_additions.specs.declared.cells.CellKind.TheVariants as kind
use Rattle.entry_additions.specs.Added.{AddsExactly, targets}
use Rattle.entry_additions.specs.Cells.{listed_by, number_in}
use Rattle.entry_additions.specs.Sums.{adds}
use Rattle.entry_additions.proofs.Exact.{IsAddedOf, IsListed, OnlyAdds, added_from, added_to}
use Rattle.entry_additions.proofs.Summing.{AddsOf, adds_are, are_adds}
use Rattle.addition_pairs.specs.declared.told.Told.{Told}
use Rattle.addition_pairs.specs.declared.told.Told.TheVariants.{Never, Asks}
use Rattle.addition_pairs.specs.Adding.{AreSparing, IsTold, TellsAdding}
use Rattle.addition_pairs.proofs.Same.{told_eq, told_is}
use Rattle.addition_pairs.proofs.Sparing.{are_sparing, of_both, spared}
use Rattle.addition_pairs.proofs.Telling.{other_told, same_told}
use Rattle.additions_text.specs.Additions.{AreAdditions, InTurn, IsSectionText, nothing, then}
use Rattle.additions_text.specs.Lines.{adding_text, adds_text, first_line, last_line}
use Rattle.additions_text.proofs.Listing.{of_on}

-- the variables and fields that an entry's jobs only add to

module _ (x : Exchange) (known : List Fact) (e : ℕ) where
  abbrev P : Facts
  P = Contains known

  -- an access at this place to the cell with this number adds to it

  abbrev AddsIf : CellKind → ℕ → Place → Access → Type 0
  AddsIf k n at a = number_in k a ≡ Some n → AddsOf x at.block k n at.layer

  abbrev OnlyAddsAt : CellKind → ℕ → Place → Type 0
  OnlyAddsAt k n at = Reached P e at.point → (a : Access) → Accesses x P e at.block at.point at.layer a → AddsIf k n at a

  at_place : (k : CellKind) (n : ℕ) (at : Place) → Decided (OnlyAddsAt k n at)
  at_place k n at = by (adds x at.block k n at.layer) refl (is_reached known e at.point)
    where
      access : (a : Access) → adds x at.block k n at.layer ≡ false → Decided (number_in k a ≡ Some n) → Decided (AddsIf k n at a)
      access a never (yes is) = no (λ f. true≢false (sym (are_adds x at.block n k at.layer (f is)) ∙ never))
      access a never (no not) = yes (λ is. absurd (not is))

      by : (b : Bool) → adds x at.block k n at.layer ≡ b → Decided (Reached P e at.point) → Decided (OnlyAddsAt k n at)
      by true so r = yes (λ reached a d is. adds_are x at.block n k at.layer so)
      by false never (no r) = yes (λ reached. absurd (r reached))
      by false never (yes r) =
          decided_as (λ each reached. each) (λ only. only r)
          (each_case (Accesses x P e at.block at.point at.layer) (AddsIf k n at)
          (does x known e at.block at.point at.layer)
          (λ a d. access a never (same_option same_number (number_in k a) n)))

  only_adds : (k : CellKind) (n : ℕ) → Decided (OnlyAdds x P e k n)
  only_adds k n =
      decided_as
      (λ each at point stands reached a is d. each at stands.place (subst (Reached P e) (sym stands.here) reached) a
      (subst (λ p. Accesses x P e at.block p at.layer a) (sym stands.here) d) is)
      (λ only at is reached a d of. only at at.point (record { place = is; here = refl }) reached a of d)
      (each_case (IsPlace x) (OnlyAddsAt k n) (places x) (λ at is. at_place k n at))

  added : (k : CellKind) → Listed (IsAddedOf x P e k)
  added k =
      listed_as (λ n. IsListed x P e k n × OnlyAdds x P e k n) (IsAddedOf x P e k) (λ n h. added_from x P e k n h.0 h.1) (added_to x P e k)
      (listed_if (IsListed x P e k) (OnlyAdds x P e k)
      (listed_then (IsAccess x P e) (λ a n. listed_by k a ≡ Some n) (accesses x known e)
      (λ a is. listed_some (listed_by k a))) (λ n h. only_adds k n))

-- by the least fixed point, in order

record AreInOrder (x : Exchange) (e : ℕ) (k : CellKind) : Type 0 where
  numbers : List ℕ
  are : (n : ℕ) → Contains numbers n ↔ IsAddedOf x (IsLeast x) e k n
  rising : IsStrictlySortedBy nat_cmp numbers

numbers_in_order : (x : Exchange) (e : ℕ) (k : CellKind) → AreInOrder x e k
numbers_in_order x e k =
    let l = least_facts x in
    let all : Listed (IsAddedOf x (IsLeast x) e k) =
    listed_as (IsAddedOf x (Contains l.items) e k) (IsAddedOf x (IsLeast x) e k)
    (of_on x (Contains l.items) (IsLeast x) e (λ p t v f. l.each (fact e p t v) f) (λ p t v f. l.all (fact e p t v) f) k)
    (of_on x (IsLeast x) (Contains l.items) e (λ p t v f. l.all (fact e p t v) f) (λ p t v f. l.each (fact e p t v) f) k)
    (added x l.items e k) in
    let r = in_order nat_cmp nat_cmp_total nat_same (IsAddedOf x (IsLeast x) e k) all in
    record { numbers = r.listed.items; are = λ n. (r.listed.each n, r.listed.all n); rising = r.rising }

added_list : (x : Exchange) (e : ℕ) → (a : Added) × AddsExactly x (IsLeast x) e a
added_list x e =
    let v = numbers_in_order x e kind.Variable in
    let f = numbers_in_order x e kind.Field in (
      record { variables = v.numbers; fields = f.numbers },
      record {
        are = record { variables = v.are; fields = f.are };
        rising = record { variables = v.rising; fields = f.rising };
      },
    )

-- the verdict of a pair

abbrev Verdict : Summary → Summary → Type 0
Verdict one other = (r : Option Conflict) × IsLeastConflict (IsConflict one other) r

told_by : (one other : Summary) → Verdict one other → (t : Told) × IsTold one other t
unfolding IsLeastConflict
told_by one other (None, none) = (Asks (tests one other).0, (none, (tests one other).1))
told_by one other (Some c, least) = (Never c, record { conflict = least.0; none_before = least.1 })

told : (one other : Summary) → (t : Told) × IsTold one other t
told one other = told_by one other (first_conflict one other)

module _ (first later : Summary) (d e : Targets) where
  abbrev one : Summary
  one = spared (of_both d e) first

  abbrev other : Summary
  other = spared (of_both d e) later

  abbrev sparing : AreSparing first later d e one other
  sparing = are_sparing first later d e

  by_both : (whole part : Told) → IsTold first later whole → IsTold one other part → (b : Bool)
      → IsTrue b ↔ whole ≡ part → (o : Option Told) × TellsAdding first later d e o
  by_both whole part is also true same = (
    None,
    same_told first later d e sparing.shared whole part sparing.are is
        (record { one = one; other = other; of_first = sparing.of_first; of_later = sparing.of_later; told = also })
        true same refl,
  )
  by_both whole part is also false same = (
    Some part,
    other_told first later d e sparing.shared whole part sparing.are is
        (record { one = one; other = other; of_first = sparing.of_first; of_later = sparing.of_later; told = also })
        false same refl,
  )

  adding : (o : Option Told) × TellsAdding first later d e o
  adding =
      let whole = told first later in
      let part = told one other in
      by_both whole.0 part.0 whole.1 part.1 (told_eq whole.0 part.0) (told_is whole.0 part.0)

-- the text of a section
section_text : (x : Exchange) (ss : List Summary) (s : Section) → IsWithin (length ss) s → (text : List ℕ) × IsSectionText x ss s text
section_text x ss (Entry e) there = (let l = added_list x e in
    (adds_text (names_of x.blocks) e (targets l.0), record { added = l.0; exactly = l.1; is = refl }))
section_text x ss (Pair p) there =
    let one = some_at ss p.first there.0 in
    let other = some_at ss p.later there.1 in
    let d = added_list x p.first in
    let e = added_list x p.later in
    let a = adding one.0 other.0 (targets d.0) (targets e.0) in (
      adding_text (names_of x.blocks) p a.0,
      record {
        first = one.0;
        later = other.0;
        of_first = one.1;
        of_later = other.1;
        first_adds = d.0;
        later_adds = e.0;
        first_exactly = d.1;
        later_exactly = e.1;
        told = a.0;
        tells = a.1;
        is = refl;
      },
    )

all_texts : (T : Section → List ℕ → Type 0) (all : List Section)
    → ((s : Section) → Contains all s → (part : List ℕ) × T s part) → (text : List ℕ) × InTurn T all text
all_texts T [] each = ([], nothing)
all_texts T (s ∷ rest) each =
    let part = each s (first_is s rest) in
    let more = all_texts T rest (λ q c. each q (later_is s q rest c)) in
    (part.0 ++ more.0, then s rest part.0 more.0 part.1 more.1)

pub text_comes : (x : Exchange) (asked : Option EntryPair) → (text : List ℕ) × AreAdditions x asked text
text_comes x asked =
    let ss = all_summaries x in
    let n = length x.entries in
    let t = all_texts (IsSectionText x ss.0) (sections n asked)
    (λ s c. section_text x ss.0 s (subst (λ m. IsWithin m s) (sym ss.1.each_entry) (sections_within n asked s c)))
    in
    (first_line ++ (t.0 ++ last_line), record { summaries = ss.0; are = ss.1; parts = t.0; tells = t.1; is = refl })
