-- All that clashes of two summaries is found by an access of the first, by a field of the later, or
-- by a level.
use Rattle.std.proofs.Common.{◌≡◌, ◌↔◌, ◌⊎◌, inl, inr, ⊎_elim, ℕ, Bool, true, false, ◌&&◌, nat_eq}
use Rattle.std.proofs.Common.{List, [], Option, Some, None, refl, sym, ap, subst}
use Rattle.std.specs.Prelude.{slice_get}
use Rattle.std.specs.Option.{option_map}
use Rattle.std.specs.List.{Contains}
use Rattle.std.specs.List.Sorted.{IsStrictlySortedBy}
use Rattle.std.proofs.lemmas.Bool.{and_parts, eqb-true}
use Rattle.std.proofs.lemmas.Option.{none-some}
use Rattle.plex_num.specs.declared.level.Level.{Level}
use Rattle.plex_num.proofs.Members.{none_in}
use Rattle.flow_points.specs.declared.fact.Value.{Value}
use Rattle.flow_points.specs.declared.fact.Value.TheVariants.{Arg, Const, Any}
use Rattle.entry_summary.specs.declared.summary.Access.{Access}
use Rattle.entry_summary.specs.declared.summary.Access.TheVariants.{Variable, Field, Seizes, Frees}
use Rattle.entry_summary.specs.declared.summary.Summary.{Summary}
use Rattle.entry_accesses.specs.Adding.{Adds}
use Rattle.pair_tests.specs.declared.pair.Conflict.{Conflict}
use Rattle.pair_tests.specs.declared.pair.Conflict.TheVariants as conflict
use Rattle.pair_tests.specs.Asked.{asks}
use Rattle.pair_tests.specs.Clashes.{clash_of, meet, share}
use Rattle.pair_tests.specs.Nearby.{near_access}
use Rattle.pair_tests.proofs.Conflicting.{chosen, shared}
use Rattle.conflicts_meaning.specs.declared.rows.Clash.{Clash}
use Rattle.conflicts_meaning.specs.declared.rows.ClashRow.{ClashRow}
use Rattle.conflicts_meaning.specs.Rows.{AccessesClash, AreClashRows, IsClashRow, LevelClashes}
use Rattle.conflicts_meaning.specs.Rows.{listed, row_order}
use Rattle.conflict_rows.specs.Items.{GivenBy}
use Rattle.conflict_rows.specs.Near.{IsOfFirst, IsOfLater, IsOfLevel, NearLater, selector_of}

-- how two accesses that clash are found
data Covered (a b : Access) : Type 0 where
  By_any : (v : Bool) → b ≡ near_access a v Any → Covered a b
  By_own : (v : Bool) → b ≡ near_access a v (selector_of a) → Covered a b
  By_field : (w : Bool) → asks b ≡ true → a ≡ near_access b w Any → Covered a b

by_selectors : (w v : Bool) (n m : ℕ) (u z : Value) → n ≡ m → meet u z ≡ true → Covered (Field w n u) (Field v m z)
by_selectors w v n m Any z same e = By_field w refl (ap (λ k. Field w k Any) same)
by_selectors w v n m (Arg k) Any same e = By_any v (ap (λ j. Field v j Any) (sym same))
by_selectors w v n m (Const c) Any same e = By_any v (ap (λ j. Field v j Any) (sym same))
by_selectors w v n m (Const c) (Const d) same e = (let one : c ≡ d = eqb-true c d e in By_own v (λ i. Field v (sym same i) (Const (sym one i))))
by_selectors w v n m (Arg k) (Arg l) same e = cc
by_selectors w v n m (Arg k) (Const d) same e = cc
by_selectors w v n m (Const c) (Arg l) same e = cc

covered : (a b : Access) (c : Conflict) → clash_of a b ≡ Some c → Covered a b
covered (Variable w n) (Variable v m) c e = By_any v (ap (Variable v) (sym (shared n m w v (chosen (share n m w v) (conflict.Variable n) c e).0).number))
covered (Field w n u) (Field v m z) c e =
    let h = and_parts (share n m w v) (meet u z) (chosen (share n m w v && meet u z) (conflict.Field n u z) c e).0 in
    by_selectors w v n m u z (shared n m w v h.0).number h.1
covered (Seizes f) (Seizes g) c e = By_any false (ap Seizes (sym (eqb-true f g (chosen (nat_eq f g) (conflict.Seizing f) c e).0)))
covered (Seizes f) (Frees g) c e = By_any true (ap Frees (sym (eqb-true f g (chosen (nat_eq f g) (conflict.Seizing f) c e).0)))
covered (Frees f) (Seizes g) c e = By_any false (ap Seizes (sym (eqb-true f g (chosen (nat_eq f g) (conflict.Seizing f) c e).0)))
covered _ _ c e = absurd (none-some c e)

pub some_of : (o : Option Conflict) (y : Clash) → option_map listed o ≡ Some y → (c : Conflict) × (o ≡ Some c)
some_of (Some c) y e = (c, refl)
some_of None y e = absurd (none-some y e)

module _ (first later : Summary) where
  of_near : (place : ℕ) (one : Access) (selector : Value) (r : ClashRow) → slice_get first.accesses place ≡ Some one
      → NearLater later.accesses selector place one r → AccessesClash first later r
  of_near place one selector r there n = record {
    one = one;
    other = near_access one n.write selector;
    of_first = subst (λ k. slice_get first.accesses k ≡ Some one) (sym n.clashes.first) there;
    of_later = n.clashes.there;
    clash = n.clashes.clash;
  }

  of_first : (r : ClashRow) → GivenBy (IsOfFirst later.accesses) first.accesses r → AccessesClash first later r
  of_first r g = ⊎_elim (of_near g.place g.item Any r g.there) (of_near g.place g.item (selector_of g.item) r g.there) g.gives

  of_later : (r : ClashRow) → GivenBy (IsOfLater first.accesses) later.accesses r → AccessesClash first later r
  of_later r g = (let n = g.gives.near in record {
    one = near_access g.item n.write Any;
    other = g.item;
    of_first = n.clashes.there;
    of_later = subst (λ k. slice_get later.accesses k ≡ Some g.item) (sym n.clashes.later) g.there;
    clash = n.clashes.clash;
  })

  of_level : (r : ClashRow) → GivenBy (IsOfLevel first.accesses later.level) first.levels r → LevelClashes first later r
  of_level r g = record {
    level = g.item;
    place = g.place;
    of_first = g.there;
    number = g.gives.number;
    alone = g.gives.alone;
    clash = g.gives.clash;
    below = g.gives.below;
  }

  to_level : (r : ClashRow) → LevelClashes first later r → GivenBy (IsOfLevel first.accesses later.level) first.levels r
  to_level r h = record {
    place = h.place;
    item = h.level;
    there = h.of_first;
    gives = record { number = h.number; alone = h.alone; clash = h.clash; below = h.below };
  }

  near : (r : ClashRow) (h : AccessesClash first later r) (selector : Value) (v : Bool)
      → h.other ≡ near_access h.one v selector → NearLater later.accesses selector r.first h.one r
  near r h selector v same = record {
    write = v;
    clashes = record {
      first = refl;
      there = subst (λ b. slice_get later.accesses r.later ≡ Some b) same h.of_later;
      clash = subst (λ b. option_map listed (clash_of h.one b) ≡ Some r.clash) same h.clash;
    };
  }

  found : (r : ClashRow) (h : AccessesClash first later r) → Covered h.one h.other
      → GivenBy (IsOfFirst later.accesses) first.accesses r ⊎ GivenBy (IsOfLater first.accesses) later.accesses r
  found r h (By_any v same) = inl (record { place = r.first; item = h.one; there = h.of_first; gives = inl (near r h Any v same) })
  found r h (By_own v same) = inl (record { place = r.first; item = h.one; there = h.of_first; gives = inr (near r h (selector_of h.one) v same) })
  found r h (By_field w field same) = inr (record {
    place = r.later;
    item = h.other;
    there = h.of_later;
    gives = record {
      field = field;
      near = record {
        write = w;
        clashes = record {
          later = refl;
          there = subst (λ a. slice_get first.accesses r.first ≡ Some a) same h.of_first;
          clash = subst (λ a. option_map listed (clash_of a h.other) ≡ Some r.clash) same h.clash;
        };
      };
    };
  })

  to_access : (r : ClashRow) → AccessesClash first later r
      → GivenBy (IsOfFirst later.accesses) first.accesses r ⊎ GivenBy (IsOfLater first.accesses) later.accesses r
  to_access r h = (let s = some_of (clash_of h.one h.other) r.clash h.clash in found r h (covered h.one h.other s.0 s.1))

  exact : (none ones others levels made : List ClashRow) → none ≡ [] → Adds none ones (GivenBy (IsOfFirst later.accesses) first.accesses)
      → Adds ones others (GivenBy (IsOfLater first.accesses) later.accesses) → Adds others levels (GivenBy (IsOfLevel first.accesses later.level) first.levels)
      → ((r : ClashRow) → Contains made r ↔ Contains levels r) → (r : ClashRow) → Contains made r ↔ IsClashRow first later r
  exact none ones others levels made empty a b l same r = (
    λ c. ⊎_elim (λ in_others. ⊎_elim (λ in_ones. ⊎_elim
        (λ old. absurd (none_in r (subst (λ k. Contains k r) empty old))) (λ g. inl (of_first r g)) (a.each r in_ones))
        (λ g. inl (of_later r g)) (b.each r in_others)) (λ g. inr (of_level r g)) (l.each r ((same r).0 c)),
    λ h. (same r).1 (⊎_elim (λ k. l.kept r (⊎_elim (λ g. b.kept r (a.added r g)) (λ g. b.added r g) (to_access r k))) (λ k. l.added r (to_level r k)) h),
  )

pub all_rows : (first later : Summary) (ones others : List Access) (levels : List Level) (none a b c made : List ClashRow)
    → ones ≡ first.accesses → others ≡ later.accesses → levels ≡ first.levels → none ≡ []
    → Adds none a (GivenBy (IsOfFirst others) ones) → Adds a b (GivenBy (IsOfLater ones) others) → Adds b c (GivenBy (IsOfLevel ones later.level) levels)
    → ((r : ClashRow) → Contains made r ↔ Contains c r) → IsStrictlySortedBy row_order made → AreClashRows first later made
all_rows first later ones others levels none a b c made is_ones is_others is_levels empty f g h same up = record {
  exact = exact first later none a b c made empty
      (subst (λ xs. Adds none a (GivenBy (IsOfFirst xs) first.accesses)) is_others (subst (λ xs. Adds none a (GivenBy (IsOfFirst others) xs)) is_ones f))
      (subst (λ xs. Adds a b (GivenBy (IsOfLater first.accesses) xs)) is_others (subst (λ xs. Adds a b (GivenBy (IsOfLater xs) others)) is_ones g))
      (subst (λ xs. Adds b c (GivenBy (IsOfLevel first.accesses later.level) xs)) is_levels
      (subst (λ xs. Adds b c (GivenBy (IsOfLevel xs later.level) levels)) is_ones h))
      same;
  rising = up;
}
