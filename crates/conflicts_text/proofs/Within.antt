-- The sections written are those of existing entries.
use Rattle.std.proofs.Common.{◌≡◌, ◌⊎◌, ⊎_elim, ℕ, ◌<◌, Bool, true, false, nat_eq, nat_lt, ◌&&◌}
use Rattle.std.proofs.Common.{List, [], ◌∷◌, map, Option, Some, None, refl, sym, ◌∙◌, subst, arith}
use Rattle.std.specs.Prelude.{if◌then◌else◌}
use Rattle.std.specs.List.{Contains, range_with_len}
use Rattle.std.proofs.lemmas.Bool.{and_parts, ltb-true}
use Rattle.std.proofs.lemmas.List.Elements.{Contains-append_cases}
use Rattle.std.proofs.lemmas.List.FromFn.{get_or-range_with_len, length-range_with_len}
use Rattle.exchange_model.specs.Inside.{joined}
use Rattle.plex_num.proofs.Members.{first_is, first_or_later, later_is, none_in}
use Rattle.conflicts_meaning.specs.declared.rows.EntryPair.{EntryPair}
use Rattle.conflicts_meaning.specs.declared.rows.Section.TheVariants.{Entry, Pair}
use Rattle.conflicts_meaning.specs.Told.{all_sections, pair_at, pair_row, pair_sections, sections}
use Rattle.conflicts_text.specs.Within.{AllWithin, IsWithin}

in_range : (n i : ℕ) → Contains (range_with_len 0 n) i → i < n
in_range n i (k, lt, is) =
    let l = length-range_with_len 0 n in
    let inside : k < n = omega (arith, lt, l) in
    let same = sym (get_or-range_with_len 0 n k i inside) ∙ is in
    omega (arith, inside, same)

record Mapped {A B : Type 0} (f : A → B) (xs : List A) (y : B) : Type 0 where
  item : A
  there : Contains xs item
  is : f item ≡ y

mapped : {A B : Type 0} (f : A → B) (xs : List A) (y : B) → Contains (map f xs) y → Mapped f xs y
mapped f [] y c = absurd (none_in y c)
mapped f (x ∷ xs) y c =
    ⊎_elim
    (λ same. record { item = x; there = first_is x xs; is = same })
    (λ later. (let m = mapped f xs y later in record { item = m.item; there = later_is x m.item xs m.there; is = m.is }))
    (first_or_later (f x) y (map f xs) c)

record Joined {A : Type 0} (xss : List (List A)) (y : A) : Type 0 where
  list : List A
  one : Contains xss list
  there : Contains list y

of_joined : {A : Type 0} (xss : List (List A)) (y : A) → Contains (joined xss) y → Joined xss y
of_joined [] y c = absurd (none_in y c)
of_joined (xs ∷ xss) y c =
    ⊎_elim
    (λ here. record { list = xs; one = first_is xs xss; there = here })
    (λ later. (let j = of_joined xss y later in record { list = j.list; one = later_is xs j.list xss j.one; there = j.there }))
    (Contains-append_cases xs (joined xss) y c)

all_within : (n : ℕ) → AllWithin n (all_sections n)
all_within n s c = ⊎_elim entry row (Contains-append_cases (map Entry (range_with_len 0 n)) (joined (map (pair_row n) (range_with_len 0 n))) s c)
  where
    entry : Contains (map Entry (range_with_len 0 n)) s → IsWithin n s
    entry h = (let m = mapped Entry (range_with_len 0 n) s h in subst (IsWithin n) m.is (in_range n m.item m.there))

    row : Contains (joined (map (pair_row n) (range_with_len 0 n))) s → IsWithin n s
    row h =
        let j = of_joined (map (pair_row n) (range_with_len 0 n)) s h in
        let r = mapped (pair_row n) (range_with_len 0 n) j.list j.one in
        let m = mapped (pair_at r.item) (range_with_len 0 n) s (subst (λ l. Contains l s) (sym r.is) j.there) in
        subst (IsWithin n) m.is (in_range n r.item r.there, in_range n m.item m.there)

pair_within : (n : ℕ) (p : EntryPair) → p.first < n → p.later < n → AllWithin n (pair_sections p)
pair_within n p first later s c = by (nat_eq p.first p.later) c
  where
    last : Contains (Pair p ∷ []) s → IsWithin n s
    last h = ⊎_elim (λ same. subst (IsWithin n) same (first, later)) (λ none. absurd (none_in s none)) (first_or_later (Pair p) s [] h)

    by : (b : Bool) → Contains (if b then Entry p.first ∷ Pair p ∷ [] else Entry p.first ∷ Entry p.later ∷ Pair p ∷ []) s → IsWithin n s
    by true h = ⊎_elim (λ same. subst (IsWithin n) same first) last (first_or_later (Entry p.first) s (Pair p ∷ []) h)
    by false h =
        ⊎_elim
        (λ same. subst (IsWithin n) same first)
        (λ rest. ⊎_elim (λ same. subst (IsWithin n) same later) last (first_or_later (Entry p.later) s (Pair p ∷ []) rest))
        (first_or_later (Entry p.first) s (Entry p.later ∷ Pair p ∷ []) h)

pub sections_within : (n : ℕ) (asked : Option EntryPair) → AllWithin n (sections n asked)
sections_within n None s c = all_within n s c
sections_within n (Some p) s c = by (nat_lt p.first n && nat_lt p.later n) refl c
  where
    by : (b : Bool) → (nat_lt p.first n && nat_lt p.later n) ≡ b → Contains (if b then pair_sections p else []) s → IsWithin n s
    by true is h = (let a = and_parts (nat_lt p.first n) (nat_lt p.later n) is in pair_within n p (ltb-true p.first n a.0) (ltb-true p.later n a.1) s h)
    by false is h = absurd (none_in s h)
