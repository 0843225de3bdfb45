-- Summaries that are told to be equal are.
use Rattle.std.proofs.Common.{◌≡◌, Bool, true, List, [], ◌∷◌, ◌&&◌, IsTrue, refl, sym, ap, ◌∙◌}
use Rattle.std.proofs.Common.{rules}
use Rattle.std.specs.Cmp.Lexicographic.{pointwise}
use Rattle.std.proofs.lemmas.Bool.{and_parts}
use Rattle.plex_num.specs.declared.level.Level.{Level}
use Rattle.plex_num.specs.contracts.level.LevelPartialEq.TheImpl as levels
use Rattle.entry_summary.specs.declared.summary.Access.{Access}
use Rattle.entry_summary.specs.declared.summary.Summary.{Summary}
use Rattle.entry_summary.specs.contracts.summary.AccessPartialEq.TheImpl as accesses
use Rattle.entry_summary.proofs.Equal.{same_summary}

same_items : {A : Type 0} (alike : A → A → Bool) → ((a b : A) → alike a b ≡ true → a ≡ b) → (some others : List A)
    → pointwise alike some others ≡ true → some ≡ others
same_items alike one [] [] is = refl
same_items alike one [] (b ∷ others) is = cc
same_items alike one (a ∷ some) [] is = cc
same_items alike one (a ∷ some) (b ∷ others) is =
    let both = and_parts (alike a b) (pointwise alike some others) is in
    ap (λ c. c ∷ some) (one a b both.0) ∙ ap (λ l. b ∷ l) (same_items alike one some others both.1)

same_level : (l m : Level) → levels.ghosts.eq l m ≡ true → l ≡ m
same_level l m is = search (rules, is)

same_access : (a b : Access) → accesses.ghosts.eq a b ≡ true → a ≡ b
same_access a b is = search (rules, is)

pub same_levels : (some others shown other_shown : List Level) (r : Bool) → shown ≡ some → other_shown ≡ others
    → r ≡ pointwise levels.ghosts.eq shown other_shown → IsTrue r → some ≡ others
same_levels some others shown other_shown r here there is told = sym here ∙ same_items levels.ghosts.eq same_level shown other_shown (sym is ∙ told) ∙ there

pub same_accesses : (some others shown other_shown : List Access) (r : Bool) → shown ≡ some → other_shown ≡ others
    → r ≡ pointwise accesses.ghosts.eq shown other_shown → IsTrue r → some ≡ others
same_accesses some others shown other_shown r here there is told =
    sym here ∙ same_items accesses.ghosts.eq same_access shown other_shown (sym is ∙ told) ∙ there

pub same_summaries : (s t : Summary) (a b c d : Bool) → (IsTrue a → s.level ≡ t.level) → (IsTrue b → s.fault ≡ t.fault)
    → (IsTrue c → s.levels ≡ t.levels) → (IsTrue d → s.accesses ≡ t.accesses)
    → IsTrue (((a && b) && c) && d) → s ≡ t
same_summaries s t a b c d level fault levels accesses told =
    let last = and_parts ((a && b) && c) d told in
    let third = and_parts (a && b) c last.0 in
    let first = and_parts a b third.0 in
    same_summary s t (level first.0) (accesses last.1) (levels third.1) (fault first.1)
