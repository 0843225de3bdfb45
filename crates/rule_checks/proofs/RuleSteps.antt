-- The rules of a set are asked one after the other.
use Rattle.std.proofs.Common.{◌≡◌, ℕ, ◌+◌, ◌<◌, ◌≤◌, Bool, true, false, List, length, take, drop}
use Rattle.std.proofs.Common.{get_or, Some, None, sym, ◌∙◌, ap}
use Rattle.std.specs.Prelude.{if◌then◌else◌}
use Rattle.std.proofs.Math.ListN.{drop_of_length-le}
use Rattle.plex_num.proofs.Lists.{opens}
use Rattle.first_fault.specs.First.{first_broken}
use Rattle.first_fault.specs.Told.{told, told_parts}
use Rattle.first_fault.proofs.Told.{PartsPassed, part_told}
use Rattle.text_rules.specs.declared.fault.Fault.{Fault}
use Rattle.text_rules.specs.declared.fault.Fault.TheVariants as fault
use Rattle.rule_checks.specs.Tables.{IsTold}

module _ {E K R : Type 0} (broken : R → K → E → Bool) (all : List R) (k : K) (e : E) where
  -- the first broken rule is that of the rules from here on
  pub record Left (rs : List R) (i : ℕ) : Type 0 where
    pub same : first_broken broken all k e ≡ first_broken broken (drop i rs) k e

  pub rules_begin : (rs : List R) → rs ≡ all → Left rs 0
  rules_begin rs is = record { same = ap (λ l. first_broken broken l k e) (sym is) }

  here : (rs : List R) (i : ℕ) (r : R) (b : Bool) → i < length rs → r ≡ get_or rs i r → broken r k e ≡ b → Left rs i
      → first_broken broken all k e ≡ (if b then Some r else first_broken broken (drop (i + 1) rs) k e)
  here rs i r b inside is h w = w.same ∙ ap (λ l. first_broken broken l k e) (opens rs i r inside is)
      ∙ ap (λ c. if c then Some r else first_broken broken (drop (i + 1) rs) k e) h

  pub rules_step : (rs : List R) (i : ℕ) (r : R) → i < length rs → r ≡ get_or rs i r → broken r k e ≡ false → Left rs i → Left rs (i + 1)
  rules_step rs i r inside is h w = record { same = here rs i r false inside is h w }

  pub rules_hit : (rs : List R) (i : ℕ) (r : R) → i < length rs → r ≡ get_or rs i r → broken r k e ≡ true → Left rs i → Some r ≡ first_broken broken all k e
  rules_hit rs i r inside is h w = sym (here rs i r true inside is h w)

  pub rules_end : (rs : List R) (i : ℕ) → length rs ≤ i → Left rs i → None ≡ first_broken broken all k e
  rules_end rs i past w = sym (w.same ∙ ap (λ l. first_broken broken l k e) (drop_of_length-le rs past))

-- the fault of a part is that of the text, where those before it have none
pub part_fault : {E K R : Type 0} (broken : R → K → E → Bool) (rules : List R) (line : E → ℕ)
    (known : List (List E) → List E → List E → K) (parts : List (List E)) (i : ℕ) (own : List E) (f : Fault R)
    → i < length parts → own ≡ get_or parts i own → IsTold (told broken rules line (known (take i parts) own) own) f
    → PartsPassed broken rules line known parts i → IsTold (told_parts broken rules line known parts) f
part_fault broken rules line known parts i own (fault.Rule rule on) inside is h p = part_told broken rules line known parts i own (rule, on) inside is h p
part_fault broken rules line known parts i own fault.Memory inside is h p = tt
