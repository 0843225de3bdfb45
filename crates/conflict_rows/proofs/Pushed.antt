-- One row more, or none.
use Rattle.std.proofs.Common.{◌≡◌, ◌⊎◌, inl, inr, ℕ, ◌<◌, ◌≤◌, Bool, true, false, List, [], ◌∷◌}
use Rattle.std.proofs.Common.{◌++◌, Option, Some, None, refl, sym, ◌∙◌, subst, arith}
use Rattle.std.specs.Prelude.{slice_get}
use Rattle.std.specs.Option.{option_map}
use Rattle.std.specs.List.{Contains}
use Rattle.std.specs.List.Sorted.{IsStrictlySortedBy}
use Rattle.std.proofs.lemmas.Option.{none-some, same_Some}
use Rattle.plex_num.specs.declared.level.Level.{Level}
use Rattle.entry_summary.specs.declared.summary.Access.{Access}
use Rattle.entry_summary.specs.Orders.{access_order, level_number}
use Rattle.entry_accesses.specs.Adding.{Adds}
use Rattle.entry_accesses.proofs.Adding.{push_adds}
use Rattle.pair_tests.specs.declared.pair.Conflict.TheVariants as conflict
use Rattle.pair_tests.specs.Asked.{asks}
use Rattle.pair_tests.specs.Clashes.{clash_of}
use Rattle.conflicts_meaning.specs.declared.rows.Clash.{Clash}
use Rattle.conflicts_meaning.specs.declared.rows.ClashRow.{ClashRow}
use Rattle.conflicts_meaning.specs.Rows.{listed}
use Rattle.conflict_rows.specs.Items.{StandsThere}
use Rattle.conflict_rows.specs.Near.{ClashesFirst, ClashesLater, IsOfLater, IsOfLevelAt, NearFirst}
use Rattle.conflict_rows.proofs.Finding.{contained, place_once}
use Rattle.conflict_rows.proofs.Loops.{adds_nothing}

stands_nowhere : (xs : List Access) (a : Access) (p : Option ℕ) → StandsThere xs a p → p ≡ None → Contains xs a → ⊥
stands_nowhere xs a p there is = subst (StandsThere xs a) is there

stands_here : (xs : List Access) (a : Access) (p : Option ℕ) (i : ℕ) → StandsThere xs a p → p ≡ Some i → slice_get xs i ≡ Some a
stands_here xs a p i there is = subst (StandsThere xs a) is there

module _ (one other : Access) (o : Option Clash) (is : o ≡ option_map listed (clash_of one other)) where
  apart : o ≡ None → (c : Clash) → option_map listed (clash_of one other) ≡ Some c → ⊥
  apart none c e = none-some c (sym none ∙ is ∙ e)

  alike : (x c : Clash) → o ≡ Some x → option_map listed (clash_of one other) ≡ Some c → x ≡ c
  alike x c some e = same_Some x c (sym some ∙ is ∙ e)

-- with one of the later

pub later_apart : (others : List Access) (other : Access) (place : ℕ) (one : Access) (o : Option Clash) (old : List ClashRow)
    → o ≡ option_map listed (clash_of one other) → o ≡ None → Adds old old (ClashesLater others other place one)
later_apart others other place one o old is none = adds_nothing (ClashesLater others other place one) old (λ r g. apart one other o is none r.clash g.clash)

pub later_missing : (others : List Access) (other : Access) (place : ℕ) (one : Access) (p : Option ℕ) (old : List ClashRow)
    → StandsThere others other p → p ≡ None → Adds old old (ClashesLater others other place one)
later_missing others other place one p old there none =
    adds_nothing (ClashesLater others other place one) old (λ r g. stands_nowhere others other p there none (contained others r.later other g.there))

pub later_pushed : (others : List Access) (other : Access) (place : ℕ) (one : Access) (o : Option Clash) (p : Option ℕ)
    (clash : Clash) (later : ℕ) (old new : List ClashRow)
    → IsStrictlySortedBy access_order others → o ≡ option_map listed (clash_of one other) → o ≡ Some clash → StandsThere others other p → p ≡ Some later
    → new ≡ old ++ record { clash = clash; first = place; later = later } ∷ [] → Adds old new (ClashesLater others other place one)
later_pushed others other place one o p clash later old new up is some there found made =
    push_adds old new row (ClashesLater others other place one) made
    (λ r same. subst (ClashesLater others other place one) same (record { first = refl; there = at; clash = sym is ∙ some }))
    only
  where
    row : ClashRow
    row = record { clash = clash; first = place; later = later }

    at : slice_get others later ≡ Some other
    at = stands_here others other p later there found

    only : (r : ClashRow) → ClashesLater others other place one r → row ≡ r
    only r g = λ i. record {
      clash = alike one other o is clash r.clash some g.clash i;
      first = sym g.first i;
      later = place_once others up later r.later other at g.there i;
    }

-- with one of the first

pub first_apart : (ones : List Access) (one : Access) (place : ℕ) (other : Access) (o : Option Clash) (old : List ClashRow)
    → o ≡ option_map listed (clash_of one other) → o ≡ None → Adds old old (ClashesFirst ones one place other)
first_apart ones one place other o old is none = adds_nothing (ClashesFirst ones one place other) old (λ r g. apart one other o is none r.clash g.clash)

pub first_missing : (ones : List Access) (one : Access) (place : ℕ) (other : Access) (p : Option ℕ) (old : List ClashRow)
    → StandsThere ones one p → p ≡ None → Adds old old (ClashesFirst ones one place other)
first_missing ones one place other p old there none =
    adds_nothing (ClashesFirst ones one place other) old (λ r g. stands_nowhere ones one p there none (contained ones r.first one g.there))

pub first_pushed : (ones : List Access) (one : Access) (place : ℕ) (other : Access) (o : Option Clash) (p : Option ℕ)
    (clash : Clash) (first : ℕ) (old new : List ClashRow)
    → IsStrictlySortedBy access_order ones → o ≡ option_map listed (clash_of one other) → o ≡ Some clash → StandsThere ones one p → p ≡ Some first
    → new ≡ old ++ record { clash = clash; first = first; later = place } ∷ [] → Adds old new (ClashesFirst ones one place other)
first_pushed ones one place other o p clash first old new up is some there found made =
    push_adds old new row (ClashesFirst ones one place other) made
    (λ r same. subst (ClashesFirst ones one place other) same (record { later = refl; there = at; clash = sym is ∙ some }))
    only
  where
    row : ClashRow
    row = record { clash = clash; first = first; later = place }

    at : slice_get ones first ≡ Some one
    at = stands_here ones one p first there found

    only : (r : ClashRow) → ClashesFirst ones one place other r → row ≡ r
    only r g = λ i. record {
      clash = alike one other o is clash r.clash some g.clash i;
      first = place_once ones up first r.first one at g.there i;
      later = sym g.later i;
    }

-- of a field or not

pub no_field : (ones : List Access) (place : ℕ) (other : Access) (b : Bool) (old : List ClashRow) → b ≡ asks other
    → b ≡ false → Adds old old (IsOfLater ones place other)
no_field ones place other b old is off = adds_nothing (IsOfLater ones place other) old (λ r g. (let e : false ≡ true = sym off ∙ is ∙ g.field in cc))

pub of_field : (ones : List Access) (place : ℕ) (other : Access) (b : Bool) (old new : List ClashRow) → b ≡ asks other
    → b ≡ true → Adds old new (NearFirst ones place other) → Adds old new (IsOfLater ones place other)
of_field ones place other b old new is on h = record {
  each = λ r c. ⊎_map (h.each r c);
  kept = h.kept;
  added = λ r g. h.added r g.near;
}
  where
    ⊎_map : {r : ClashRow} → Contains old r ⊎ NearFirst ones place other r → Contains old r ⊎ IsOfLater ones place other r
    ⊎_map (inl o) = inl o
    ⊎_map (inr g) = inr (record { field = sym is ∙ on; near = g })

-- of a level

pub level_below : (later : Level) (number : ℕ) (level : Level) (m n : ℕ) (old : List ClashRow) → m ≡ level_number level
    → n ≡ level_number later → n ≤ m → Adds old old (IsOfLevelAt later number level)
level_below later number level m n old one other low = adds_nothing (IsOfLevelAt later number level) old
    (λ r g. (let b = g.below in absurd (omega (arith, one, other, low, b))))

pub level_pushed : (later : Level) (number : ℕ) (level : Level) (m n : ℕ) (clash : Clash) (old new : List ClashRow)
    → m ≡ level_number level → n ≡ level_number later → m < n
    → clash ≡ listed (conflict.Above level) → new ≡ old ++ record { clash = clash; first = number; later = 0 } ∷ []
    → Adds old new (IsOfLevelAt later number level)
level_pushed later number level m n clash old new one other high is made =
    push_adds old new row (IsOfLevelAt later number level) made
    (λ r same. subst (IsOfLevelAt later number level) same (record { number = refl; alone = refl; clash = is; below = omega (arith, one, other, high) }))
    (λ r g. λ i. record { clash = (is ∙ sym g.clash) i; first = sym g.number i; later = sym g.alone i })
  where
    row : ClashRow
    row = record { clash = clash; first = number; later = 0 }
