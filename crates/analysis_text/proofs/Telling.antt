-- What is told at places: nothing at first, and of a pair once it is kept.
use Rattle.std.proofs.Common.{◌≡◌, ◌<◌, ⊎_elim, ℕ, Bool, true, false, eqb, List, [], ◌∷◌, ◌++◌}
use Rattle.std.proofs.Common.{length, Option, Some, None, slice_get, slice_set, refl, sym, ap, ◌∙◌}
use Rattle.std.proofs.Common.{subst}
use Rattle.std.proofs.lemmas.Bool.{eqb-true, eq-eqb, both_ways}
use Rattle.std.proofs.lemmas.Option.{none-some, same_Some}
use Rattle.plex_num.proofs.Lists.{get_push, get_set_same, get_set_other}
use Rattle.entry_summary.specs.declared.summary.Summary.{Summary}
use Rattle.analysis_text.specs.declared.told.ToldPair.{ToldPair}
use Rattle.analysis_text.specs.Telling.{AreTold, IsToldPair}

abbrev pub IsBlank : List (Option ToldPair) → Type 0
IsBlank pairs = (place : ℕ) (pair : ToldPair) → slice_get pairs place ≡ Some (Some pair) → ⊥

pub blank_begin : (pairs : List (Option ToldPair)) → pairs ≡ [] → IsBlank pairs
blank_begin pairs none place pair there = none-some (Some pair) (ap (λ (l : List (Option ToldPair)). slice_get l place) (sym none) ∙ there)

pub blank_more : (pairs new : List (Option ToldPair)) → new ≡ pairs ++ None ∷ [] → IsBlank pairs → IsBlank new
blank_more pairs new grown blank place pair there =
    ⊎_elim
    (λ old. blank place pair old)
    (λ last. none-some pair last.1)
    (get_push pairs None (Some pair) place (ap (λ (l : List (Option ToldPair)). slice_get l place) (sym grown) ∙ there))

pub blank_told : (pairs shown : List (Option ToldPair)) → shown ≡ pairs → IsBlank pairs → (summaries : List Summary) → AreTold summaries shown
blank_told pairs shown same blank summaries place pair there = absurd
    (blank place pair (ap (λ (l : List (Option ToldPair)). slice_get l place) (sym same) ∙ there))

pub kept_told : (summaries : List Summary) (pairs : List (Option ToldPair)) (i : ℕ) (one : ToldPair) → i < length pairs
    → AreTold summaries pairs → IsToldPair summaries one → AreTold summaries (slice_set pairs i (Some one))
kept_told summaries pairs i one inside all told place pair there = by (eqb place i) refl
  where
    by : (b : Bool) → eqb place i ≡ b → IsToldPair summaries pair
    by true same =
        let is : Some (Some pair) ≡ Some (Some one) = sym there
        ∙ ap (slice_get (slice_set pairs i (Some one))) (eqb-true place i same)
        ∙ get_set_same pairs i (Some one) inside in
        subst (IsToldPair summaries) (sym (same_Some pair one (same_Some (Some pair) (Some one) is))) told
    by false other = all place pair (sym (get_set_other pairs i place (Some one) (λ e. both_ways (eqb place i) other (eq-eqb place i e))) ∙ there)
