-- What is told with additions is that of the whole summaries, or another thing.
use Rattle.std.proofs.Common.{◌≡◌, ◌↔◌, Bool, true, false, nat_eq, List, [], ◌∷◌, length, None}
use Rattle.std.proofs.Common.{Some, IsTrue, refl, sym, ap, ◌∙◌, subst, arith}
use Rattle.std.specs.List.{Contains}
use Rattle.std.proofs.lemmas.Bool.{and_parts, eqb-true, true≢false}
use Rattle.plex_num.proofs.Members.{none_in}
use Rattle.entry_summary.specs.declared.summary.Access.{Access}
use Rattle.entry_summary.specs.declared.summary.Access.TheVariants.{Variable, Field, Own, Seizes}
use Rattle.entry_summary.specs.declared.summary.Access.TheVariants.{Frees}
use Rattle.entry_summary.specs.declared.summary.Summary.{Summary}
use Rattle.pair_tests.proofs.Conflicting.{first_is_one}
use Rattle.analysis_laws.proofs.Telling.{tests_once}
use Rattle.additions_meaning.specs.Additions.{Targets}
use Rattle.additions_meaning.specs.Lists.{AreOfBoth}
use Rattle.additions_meaning.specs.Sparing.{IsSpared, IsSparing}
use Rattle.addition_pairs.specs.declared.told.Told.{Told}
use Rattle.addition_pairs.specs.declared.told.Told.TheVariants.{Never, Asks}
use Rattle.addition_pairs.specs.Adding.{IsTold, TellsAdding, TellsSparing}
use Rattle.addition_pairs.specs.Sparing.{is_nothing}

pub told_once : (one other : Summary) (a b : Told) → IsTold one other a → IsTold one other b → a ≡ b
told_once one other (Never c) (Never d) p q = ap Never (first_is_one one other c d p q)
told_once one other (Never c) (Asks tests) p q = absurd (q.0 c p.conflict)
told_once one other (Asks tests) (Never c) p q = absurd (p.0 c q.conflict)
told_once one other (Asks a) (Asks b) p q = ap Asks (tests_once one other a b p.1 q.1)

-- nothing is shared

nothing_there : {A : Type 0} (xs : List A) → length xs ≡ 0 → (a : A) → Contains xs a → ⊥
nothing_there [] is a c = none_in a c
nothing_there (x ∷ xs) is a c = absurd (omega (arith, is))

none_spared : (d : Targets) → is_nothing d ≡ true → (a : Access) → IsSpared d a → ⊥
none_spared d none (Variable write n) c =
    (let both = and_parts (nat_eq (length d.variables) 0) (nat_eq (length d.fields) 0) none in nothing_there d.variables
    (eqb-true (length d.variables) 0 both.0) n c)
none_spared d none (Field write n v) c =
    (let both = and_parts (nat_eq (length d.variables) 0) (nat_eq (length d.fields) 0) none in nothing_there d.fields (eqb-true (length d.fields) 0 both.1) n c)
none_spared d none (Own write n) c = c
none_spared d none (Seizes file) c = c
none_spared d none (Frees file) c = c

spares_itself : (d : Targets) (s : Summary) → is_nothing d ≡ true → IsSparing d s s
spares_itself d s none = record { level = refl; accesses = λ a. ((λ c. (c, none_spared d none a)), (λ h. h.0)); levels = refl; fault = refl }

pub nothing_shared : (first later : Summary) (d e shared : Targets) (b : Bool) → AreOfBoth d e shared
    → b ≡ is_nothing shared → b ≡ true → TellsAdding first later d e None
nothing_shared first later d e shared b are is so =
    let none : is_nothing shared ≡ true = sym is ∙ so in
    record {
      one = first;
      other = later;
      sparing = record { shared = shared; are = are; of_first = spares_itself shared first none; of_later = spares_itself shared later none };
      tells = λ t told. told;
    }

-- the same is told, or another thing

module _ (first later : Summary) (d e shared : Targets) (whole told : Told) (are : AreOfBoth d e shared)
    (is : IsTold first later whole) (spared : TellsSparing first later shared told) (b : Bool)
    (same : IsTrue b ↔ whole ≡ told) where
  pub same_told : b ≡ true → TellsAdding first later d e None
  same_told so = record {
    one = spared.one;
    other = spared.other;
    sparing = record { shared = shared; are = are; of_first = spared.of_first; of_later = spared.of_later };
    tells = λ t h. subst (IsTold first later) (same.0 so ∙ told_once spared.one spared.other told t spared.told h) is;
  }

  pub other_told : b ≡ false → TellsAdding first later d e (Some told)
  other_told never = record {
    one = spared.one;
    other = spared.other;
    sparing = record { shared = shared; are = are; of_first = spared.of_first; of_later = spared.of_later };
    tells = (spared.told, λ h. true≢false (sym (same.1 (told_once first later whole told is h)) ∙ never));
  }
