-- One row of a point more, or none.
use Rattle.std.proofs.Common.{◌≡◌, ◌↔◌, ℕ, ◌+◌, Bool, true, false, List, [], ◌∷◌, ◌++◌, Option}
use Rattle.std.proofs.Common.{Some, None, refl, sym, ap, ◌∙◌, subst, rules, IsPermutation, IsSorted}
use Rattle.std.specs.Prelude.{slice_get}
use Rattle.std.specs.List.{Contains, dedup}
use Rattle.std.specs.List.Sorted.{IsStrictlySortedBy}
use Rattle.std.specs.Ordering.{is_eq}
use Rattle.std.specs.declared.cmp.Ordering.TheVariants.{Equal}
use Rattle.std.proofs.lemmas.List.Kept.{IsStrictlySortedBy-dedup}
use Rattle.plex_num.specs.declared.level.Level.{Level}
use Rattle.plex_num.specs.declared.level.Level.TheVariants.{A, B, C, D}
use Rattle.entry_summary.specs.declared.summary.Access.{Access}
use Rattle.entry_summary.specs.Orders.{access_order, level_number}
use Rattle.entry_summary.proofs.Sorting.{same_items}
use Rattle.entry_accesses.specs.Adding.{Adds}
use Rattle.entry_accesses.specs.Levels.{is_sent}
use Rattle.entry_accesses.proofs.Adding.{push_adds}
use Rattle.entry_accesses.proofs.Leveling.{found_is, is_found}
use Rattle.conflicts_meaning.specs.declared.rows.GivenAt.{GivenAt}
use Rattle.conflicts_meaning.specs.contracts.rows.GivenAtPartialEq.TheImpl as equal
use Rattle.conflicts_meaning.specs.contracts.rows.GivenAtEq.TheImpl.Laws as equal_laws
use Rattle.conflicts_meaning.specs.contracts.rows.GivenAtOrd.TheImpl.Laws as order_laws
use Rattle.conflicts_meaning.specs.Points.{given_order}
use Rattle.conflict_rows.specs.Items.{StandsThere}
use Rattle.conflict_rows.specs.Points.{AccessAt, LevelAt}
use Rattle.conflict_rows.proofs.Finding.{contained, place_once}
use Rattle.conflict_rows.proofs.Loops.{adds_nothing}

-- an access

pub access_missing : (all : List Access) (access : Access) (point : ℕ) (p : Option ℕ) (old : List GivenAt) → StandsThere all access p → p ≡ None
    → (place : ℕ) → Adds old old (AccessAt all point place access)
access_missing all access point p old there none place =
    adds_nothing (AccessAt all point place access) old
    (λ r g. (let nowhere : Contains all access
    → ⊥ = subst (StandsThere all access) none there in nowhere (contained all r.number access g.number)))

pub access_pushed : (all : List Access) (access : Access) (point : ℕ) (p : Option ℕ) (number : ℕ) (old new : List GivenAt) → IsStrictlySortedBy access_order all
    → StandsThere all access p → p ≡ Some number → new ≡ old ++ record { number = number; point = point } ∷ []
    → (place : ℕ) → Adds old new (AccessAt all point place access)
access_pushed all access point p number old new up there found made place =
    push_adds old new row (AccessAt all point place access) made
    (λ r same. subst (AccessAt all point place access) same (record { number = at; point_is = refl }))
    (λ r g. λ i. record { number = place_once all up number r.number access at g.number i; point = sym g.point_is i })
  where
    row : GivenAt
    row = record { number = number; point = point }

    at : slice_get all number ≡ Some access
    at = subst (StandsThere all access) found there

-- a level

pub same_level : (l m : Level) → level_number l ≡ level_number m → l ≡ m
same_level A A e = refl
same_level B B e = refl
same_level C C e = refl
same_level D D e = refl
same_level _ _ e = cc

pub level_missing : (sent : List Level) (level : Level) (point : ℕ) (b : Bool) (old : List GivenAt) → b ≡ is_sent sent level → b ≡ false
    → (number count place : ℕ) → number ≡ count + place → Adds old old (LevelAt count sent point place level)
level_missing sent level point b old is off number count place same =
    adds_nothing (LevelAt count sent point place level) old (λ r g. (let clash : false ≡ true = sym off ∙ is ∙ is_found sent level g.sends in cc))

pub level_pushed : (sent : List Level) (level : Level) (point number : ℕ) (b : Bool) (old new : List GivenAt) → b ≡ is_sent sent level → b ≡ true
    → new ≡ old ++ record { number = number; point = point } ∷ [] → (count place : ℕ) → number ≡ count + place
    → Adds old new (LevelAt count sent point place level)
level_pushed sent level point number b old new is on made count place same =
    push_adds old new row (LevelAt count sent point place level) made
    (λ r e. subst (LevelAt count sent point place level) e (record { sends = found_is sent level (sym is ∙ on); number = same; point_is = refl }))
    (λ r g. λ i. record { number = (same ∙ sym g.number) i; point = sym g.point_is i })
  where
    row : GivenAt
    row = record { number = number; point = point }

-- in order, each once

abbrev pub alike : GivenAt → GivenAt → Bool
alike = equal.ghosts.eq

same_given : (a b : GivenAt) → alike a b ≡ true → a ≡ b
same_given a b is = search (rules, is)

pub given_tied : (a b : GivenAt) → given_order a b ≡ Equal → a ≡ b
given_tied a b tied = same_given a b (order_laws.matches_eq-law a b ∙ ap is_eq tied)

pub given_rising : (sorted new result : List GivenAt) → IsSorted given_order sorted → new ≡ dedup alike sorted
    → result ≡ new → IsStrictlySortedBy given_order result
given_rising sorted new result h is same = subst (IsStrictlySortedBy given_order) (sym (same ∙ is))
    (IsStrictlySortedBy-dedup order_laws.total-law order_laws.matches_eq-law sorted h)

pub given_same : (found items sorted new result : List GivenAt) → items ≡ found → IsPermutation items sorted
    → new ≡ dedup alike sorted → result ≡ new → (r : GivenAt) → Contains result r ↔ Contains found r
given_same = same_items alike equal_laws.laws-law same_given
