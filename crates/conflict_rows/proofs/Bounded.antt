-- Rows that are found one place after the other, of which so many may be found.
use Rattle.std.proofs.Common.{◌≡◌, ◌↔◌, ⊎_elim, ℕ, Bool, true, false, List, [], length, Option}
use Rattle.std.proofs.Common.{None, sym, ap, ◌∙◌, subst}
use Rattle.std.specs.List.{Contains}
use Rattle.std.specs.List.Sorted.{IsStrictlySortedBy}
use Rattle.plex_num.proofs.Members.{none_in}
use Rattle.exchange_model.specs.declared.exchange.Exchange.{Exchange}
use Rattle.flow_points.specs.Facts.{Facts}
use Rattle.flow_table.specs.declared.place.PlaceAt.{PlaceAt}
use Rattle.entry_summary.specs.declared.summary.Summary.{Summary}
use Rattle.entry_accesses.specs.Adding.{Adds}
use Rattle.conflicts_meaning.specs.declared.rows.GivenAt.{GivenAt}
use Rattle.conflicts_meaning.specs.Points.{AreSomeGiven, given_order}
use Rattle.conflict_rows.specs.declared.found.GivenRows.{GivenRows}
use Rattle.conflict_rows.specs.declared.found.GivenRows.TheVariants.{Whole, Over}
use Rattle.conflict_rows.specs.Found.{FindsWithin, is_past}
use Rattle.conflict_rows.proofs.Loops.{GivenBelow}
use Rattle.conflict_rows.proofs.Rowing.{ByPlace}

-- what is compared with the bound
pub past_or_not : (most : Option ℕ) (rows : List GivenAt) (count : ℕ) (b t : Bool) → b ≡ is_past most count
    → count ≡ length rows → b ≡ t → is_past most (length rows) ≡ t
past_or_not most rows count b t is counted on = ap (is_past most) (sym counted) ∙ sym is ∙ on

-- what is not past the bound need not rise
pub few_rise : (most : Option ℕ) (rows : List GivenAt) (count : ℕ) (b : Bool) → b ≡ is_past most count → count ≡ length rows → b ≡ false
    → is_past most (length rows) ≡ true → IsStrictlySortedBy given_order rows
few_rise most rows count b is counted off on = absurd (let clash : false ≡ true = sym (past_or_not most rows count b false is counted off) ∙ on in cc)

-- rows of the first so many places are some of all
pub some_given : (x : Exchange) (P : Facts) (e : ℕ) (s : Summary) (places : List PlaceAt) (n : ℕ)
    (rows made : List GivenAt) → Adds [] rows (GivenBelow (ByPlace x P e s) places n)
    → ((r : GivenAt) → Contains made r ↔ Contains rows r) → IsStrictlySortedBy given_order made → AreSomeGiven x P e s made
some_given x P e s places n rows made h same up = record {
  each = λ r c. ⊎_elim (λ old. absurd (none_in r old)) (λ g. g.given.gives.given) (h.each r ((same r).0 c));
  rising = up;
}

-- where there is no bound, all come
pub found_all : (All Few : List GivenAt → Type 0) (found : GivenRows) (rows : List GivenAt) → FindsWithin None All Few found → found ≡ Whole rows → All rows
found_all All Few found rows h is = (subst (FindsWithin None All Few) is h).0

pub never_over : (All Few : List GivenAt → Type 0) (found : GivenRows) (rows : List GivenAt) → FindsWithin None All Few found → found ≡ Over rows → ⊥
never_over All Few found rows h is = (let on : false ≡ true = (subst (FindsWithin None All Few) is h).1 in cc)
