-- The choice of a CASE stands at the first place that has its number.
use Rattle.std.proofs.Common.{◌≡◌, ℕ, suc, ◌+◌, ◌≤◌, Bool, true, false, not, nat_eq, List, [], ◌∷◌}
use Rattle.std.proofs.Common.{length, map, Option, Some, refl, ap, ◌∙◌, sym, subst, arith}
use Rattle.std.specs.Prelude.{if◌then◌else◌, cond, slice_get, IfSome}
use Rattle.std.specs.List.{AllByRecursion, position_or_len}
use Rattle.std.specs.Option.{option_map_or}
use Rattle.std.proofs.lemmas.Option.{slice_get_past}
use Rattle.case_lookup.specs.Tables.{IsTable}
use Rattle.exchange_model.specs.declared.stmt.Stmt.{Stmt}
use Rattle.exchange_model.specs.declared.stmt.When.{When, out-When}
use Rattle.source_meaning.specs.Changes.{chosen}
use Rattle.source_interpreter.specs.declared.cases.Cases.{Cases}
use Rattle.source_interpreter.specs.Cases.{FindsOwn, numbers_of, table_at}
use Rattle.source_interpreter.specs.Kept.{AreOfText, AreWhensOfText}

abbrev pub body_of : When → List Stmt
body_of w = (out-When w).body

pub chosen_at : (whens : List When) (v : ℕ) (otherwise : List Stmt)
    → chosen whens v otherwise ≡ option_map_or body_of
    (slice_get whens (position_or_len (λ n. nat_eq n v) (numbers_of whens))) otherwise
chosen_at [] v otherwise = refl
chosen_at (w ∷ ws) v otherwise = by (nat_eq (out-When w).number v) (chosen_at ws v otherwise)
  where
    place : ℕ
    place = position_or_len (λ n. nat_eq n v) (numbers_of ws)

    next : suc place ≡ 1 + place
    next = omega arith

    by : (b : Bool) → chosen ws v otherwise ≡ option_map_or body_of (slice_get ws place) otherwise
        → (if b then (out-When w).body else chosen ws v otherwise)
        ≡ option_map_or body_of (slice_get (w ∷ ws) (cond (not b) (1 + place) 0)) otherwise
    by true h = refl
    by false h = h ∙ ap (λ i. option_map_or body_of (slice_get (w ∷ ws) i) otherwise) next

-- what stands at a place that a table tells
module _ (whens : List When) (v : ℕ) (otherwise : List Stmt) (place : ℕ) (is : place ≡ position_or_len (λ n. nat_eq n v) (numbers_of whens)) where
  at_place : chosen whens v otherwise ≡ option_map_or body_of (slice_get whens place) otherwise
  at_place = chosen_at whens v otherwise ∙ ap (λ i. option_map_or body_of (slice_get whens i) otherwise) (sym is)

  pub chosen_there : (w : When) (body : List Stmt) → slice_get whens place ≡ Some w → body ≡ (out-When w).body → body ≡ chosen whens v otherwise
  chosen_there w body there same = same ∙ sym (at_place ∙ ap (λ o. option_map_or body_of o otherwise) there)

  pub chosen_nowhere : length whens ≤ place → otherwise ≡ chosen whens v otherwise
  chosen_nowhere past = sym (at_place ∙ ap (λ o. option_map_or body_of o otherwise) (slice_get_past whens place past))

-- the table that is found is the CASE's own
pub table_own : (cases : Cases) (point : ℕ) (whens : List When) (keys : List ℕ) → FindsOwn cases point whens
    → Some keys ≡ table_at cases point → IsTable (numbers_of whens) keys
table_own cases point whens keys own is = subst (λ o. IfSome o (λ ks. IsTable (numbers_of whens) ks)) (sym is) own.table

-- what is chosen is of the text
pub of_chosen : (cases : Cases) (whens : List When) (v : ℕ) (otherwise body : List Stmt)
    → body ≡ chosen whens v otherwise → AreWhensOfText cases whens → AreOfText cases otherwise → AreOfText cases body
of_chosen cases whens v otherwise body is choices other = subst (AreOfText cases) (sym is) (by whens choices)
  where
    by : (ws : List When) → AreWhensOfText cases ws → AreOfText cases (chosen ws v otherwise)
    by [] h = other
    by (w ∷ ws) h = one (nat_eq (out-When w).number v) h.0 (by ws h.1)
      where
        one : (b : Bool) → AreOfText cases (out-When w).body → AreOfText cases (chosen ws v otherwise)
            → AreOfText cases (if b then (out-When w).body else chosen ws v otherwise)
        one true here later = here
        one false here later = later
