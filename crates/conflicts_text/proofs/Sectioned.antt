-- The sections of one pair.
use Rattle.std.proofs.Common.{◌≡◌, ℕ, Bool, true, false, nat_eq, nat_lt, ◌&&◌, List, [], ◌∷◌, ◌++◌}
use Rattle.std.proofs.Common.{Some, sym, ap, ◌∙◌}
use Rattle.std.specs.Prelude.{if◌then◌else◌}
use Rattle.conflicts_meaning.specs.declared.rows.EntryPair.{EntryPair}
use Rattle.conflicts_meaning.specs.declared.rows.Section.{Section}
use Rattle.conflicts_meaning.specs.declared.rows.Section.TheVariants.{Entry, Pair}
use Rattle.conflicts_meaning.specs.Told.{pair_sections, sections}

pub pair_told : (n : ℕ) (p : EntryPair) (b : Bool) (made : List Section) → b ≡ (nat_lt p.first n && nat_lt p.later n)
    → b ≡ true → made ≡ pair_sections p → made ≡ sections n (Some p)
pair_told n p b made is on all = all ∙ ap (λ t. if t then pair_sections p else []) (sym on ∙ is)

pub none_told : (n : ℕ) (p : EntryPair) (b : Bool) (made : List Section) → b ≡ (nat_lt p.first n && nat_lt p.later n)
    → b ≡ false → made ≡ [] → made ≡ sections n (Some p)
none_told n p b made is off none = none ∙ ap (λ t. if t then pair_sections p else []) (sym off ∙ is)

module _ (p : EntryPair) (b : Bool) (is : b ≡ nat_eq p.first p.later) where
  abbrev either : Bool → List Section
  either t = if t then Entry p.first ∷ Pair p ∷ [] else Entry p.first ∷ Entry p.later ∷ Pair p ∷ []

  pub one_told : (none first made : List Section) → b ≡ true → none ≡ [] → first ≡ none ++ Entry p.first ∷ []
      → made ≡ first ++ Pair p ∷ [] → made ≡ pair_sections p
  one_told none first made on empty begun ended =
      ended ∙ ap (λ l. l ++ Pair p ∷ []) (begun ∙ ap (λ l. l ++ Entry p.first ∷ []) empty) ∙ ap either (sym on ∙ is)

  pub two_told : (none first later made : List Section) → b ≡ false → none ≡ [] → first ≡ none ++ Entry p.first ∷ []
      → later ≡ first ++ Entry p.later ∷ [] → made ≡ later ++ Pair p ∷ [] → made ≡ pair_sections p
  two_told none first later made off empty begun more ended =
      ended ∙ ap (λ l. l ++ Pair p ∷ []) (more ∙ ap (λ l. l ++ Entry p.later ∷ []) (begun ∙ ap (λ l. l ++ Entry p.first ∷ []) empty)) ∙ ap either (sym off ∙ is)
