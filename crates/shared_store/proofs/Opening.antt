-- A table in which nothing is lent meets the rule.
use Rattle.std.proofs.Common.{◌≡◌, ℕ, zero, suc, ◌<◌, ◌^◌, List, [], ◌∷◌, length, get_or, flat_map}
use Rattle.std.proofs.Common.{sym, refl, ◌∙◌, subst, lit<}
use Rattle.std.proofs.lemmas.List.{length-map}
use mathlib.Core.Option.{some, some-ne-none}
use lib.ListN.{get_elem?}
use Rattle.atomic_table.specs.Table.{opening}
use Rattle.shared_store.specs.declared.view.Top.{Top}
use Rattle.shared_store.specs.declared.view.Hold.{Hold}
use Rattle.shared_store.specs.declared.view.View.TheVariants.{Root, Loan}
use Rattle.shared_store.specs.Places.{line}
use Rattle.shared_store.specs.Rule.{Holds, AreShared, Lending}
use Rattle.shared_store.proofs.Places.{row_wide, row_read, row_small}
use Rattle.shared_store.proofs.Views.{loan-not-root}

-- the table at the start
pub opens : (words values : List ℕ) (slots : List (Unit {0})) (free : ℕ) → words ≡ flat_map (line free) (0 ∷ values)
    → length slots ≡ free → ((w : ℕ) → get_or values w 0 < 2 ^ 32)
    → Lending (opening words slots (Root (record { values = values; loans = [] })))
opens words values slots free is counted small = subst
    (λ (ws : List ℕ). Lending (opening ws slots (Root (record { values = values; loans = [] })))) (sym is) record {
      top = record { values = values; loans = [] };
      listing = record {
        differ = tt;
        distinct = λ a b s. absurd s;
        apart = λ a b s. absurd s;
        long = λ a s. absurd s;
        based = λ a s. absurd s;
        small = small;
        small_base = λ a s. absurd s;
      };
      seats = record {
        root = 0;
        at_root = refl;
        one_root = first_only;
        listed = λ j i e. absurd (no_loan j i e);
        one_seat = λ j k a b ja kb n. absurd (no_loan j a ja);
        live = λ a s. absurd s;
        sound = λ j i e. absurd (no_loan j i e);
      };
      words = subst (λ (n : ℕ). AreShared n (record { values = values; loans = [] })
          (Root (record { values = values; loans = [] }) ∷ []) (flat_map (line free) (0 ∷ values)))
          (sym (length-map slots some ∙ counted)) record {
            wide = row_wide free values;
            first = refl;
            fit = row_small free (0 ∷ values) zero_first;
            mine = λ j i e. absurd (no_loan j i e);
            others = λ w out lt. row_read free values w;
          };
    }
  where
    first_only : (j : ℕ) (u : Top) → get_elem? (Root (record { values = values; loans = [] }) ∷ []) j ≡ some (Root u) → j ≡ 0
    first_only zero u e = refl
    first_only (suc j) u e = absurd (some-ne-none (Root u) (sym e))

    no_loan : (j : ℕ) (i : Hold) → Holds (Root (record { values = values; loans = [] }) ∷ []) j i → ⊥
    no_loan zero i e = loan-not-root i (record { values = values; loans = [] }) (sym e)
    no_loan (suc j) i e = some-ne-none (Loan i) (sym e)

    zero_first : (i : ℕ) → get_or (0 ∷ values) i 0 < 2 ^ 32
    zero_first zero = lit< tt
    zero_first (suc i) = small i
