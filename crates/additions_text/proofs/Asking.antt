-- The sections written are those of requested entries.
use Rattle.std.proofs.Common.{◌≡◌, ◌⊎◌, ⊎_elim, ℕ, Bool, true, false, nat_eq, nat_lt, ◌&&◌, ◌||◌}
use Rattle.std.proofs.Common.{List, [], ◌∷◌, Option, Some, None, refl, sym, ◌∙◌, subst}
use Rattle.std.specs.Prelude.{if◌then◌else◌}
use Rattle.std.specs.List.{Contains}
use Rattle.std.proofs.lemmas.Bool.{eq-eqb, or_left, or_right}
use Rattle.plex_num.proofs.Members.{first_or_later, none_in}
use Rattle.conflicts_meaning.specs.declared.rows.EntryPair.{EntryPair}
use Rattle.conflicts_meaning.specs.declared.rows.Section.{Section}
use Rattle.conflicts_meaning.specs.declared.rows.Section.TheVariants.{Entry, Pair}
use Rattle.conflicts_meaning.specs.Told.{pair_sections, sections}
use Rattle.additions_text.specs.Lists.{AllAsked, AsksFor, is_asked}

all_asked : (s : Section) → AsksFor None s
all_asked (Entry e) = refl
all_asked (Pair p) = (refl, refl)

module _ (p : EntryPair) where
  first_asked : is_asked (Some p) p.first ≡ true
  first_asked = or_left (nat_eq p.first p.first) (nat_eq p.first p.later) (eq-eqb p.first p.first refl)

  later_asked : is_asked (Some p) p.later ≡ true
  later_asked = or_right (nat_eq p.later p.first) (nat_eq p.later p.later) (eq-eqb p.later p.later refl)

  pair_asked : AllAsked (Some p) (pair_sections p)
  pair_asked s c = by (nat_eq p.first p.later) c
    where
      last : Contains (Pair p ∷ []) s → AsksFor (Some p) s
      last h = ⊎_elim (λ same. subst (AsksFor (Some p)) same (first_asked, later_asked)) (λ none. absurd (none_in s none)) (first_or_later (Pair p) s [] h)

      by : (b : Bool) → Contains (if b then Entry p.first ∷ Pair p ∷ [] else Entry p.first ∷ Entry p.later ∷ Pair p ∷ []) s → AsksFor (Some p) s
      by true h = ⊎_elim (λ same. subst (AsksFor (Some p)) same first_asked) last (first_or_later (Entry p.first) s (Pair p ∷ []) h)
      by false h =
          ⊎_elim
          (λ same. subst (AsksFor (Some p)) same first_asked)
          (λ rest. ⊎_elim (λ same. subst (AsksFor (Some p)) same later_asked) last (first_or_later (Entry p.later) s (Pair p ∷ []) rest))
          (first_or_later (Entry p.first) s (Entry p.later ∷ Pair p ∷ []) h)

pub sections_asked : (n : ℕ) (asked : Option EntryPair) → AllAsked asked (sections n asked)
sections_asked n None s c = all_asked s
sections_asked n (Some p) s c = by (nat_lt p.first n && nat_lt p.later n) c
  where
    by : (b : Bool) → Contains (if b then pair_sections p else []) s → AsksFor (Some p) s
    by true h = pair_asked p s h
    by false h = absurd (none_in s h)

pub slice_asked : (n : ℕ) (asked : Option EntryPair) (made slice : List Section) → made ≡ sections n asked → slice ≡ made → AllAsked asked slice
slice_asked n asked made slice is same = subst (AllAsked asked) (sym (same ∙ is)) (sections_asked n asked)
