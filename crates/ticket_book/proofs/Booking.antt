-- Each step of the book keeps its rule.
use Rattle.std.proofs.Common.{◌≡◌, ◌≢◌, ℕ, zero, suc, true, false, List, [], ◌∷◌, ◌++◌, length, set}
use Rattle.std.proofs.Common.{sym, refl, ap, ◌∙◌, subst, ⊎_elim, arith, length-append}
use Rattle.std.proofs.lemmas.Bool.{cases_Bool, both_ways}
use mathlib.Core.Option.{none, some, some-injective, some-ne-none}
use lib.ListN.{get_elem?}
use lib.Seq.{set-get_or}
use Rattle.atomic_table.specs.Table.{Allows, Splits, Joins, opening, step, keeps}
use Rattle.atomic_table.proofs.Lists.{at_set, set_again, at_longer, at_last}
use Rattle.shared_store.specs.declared.view.Lent.{Lent}
use Rattle.shared_store.proofs.Views.{snoc_at}
use Rattle.ticket_book.specs.declared.page.Claim.{Claim}
use Rattle.ticket_book.specs.declared.page.Page.{Page}
use Rattle.ticket_book.specs.declared.page.Page.TheVariants.{Writes, Claims, Meets, Spent}
use Rattle.ticket_book.specs.Pages.{claim}
use Rattle.ticket_book.specs.Rule.{St, Sat, IsSo, is_pen, Booked, compared, pen_after, ticket_after}
use Rattle.ticket_book.specs.Rule.{both}

-- what a page says that is no pen stays so
so_longer : (loans : List Lent) (loan : Lent) (v : Page) → is_pen v ≡ false → IsSo loans v → IsSo (loans ++ loan ∷ []) v
so_longer loans loan (Writes n) bare so = absurd (both_ways true bare refl)
so_longer loans loan (Claims c) bare so = at_longer loans (loan ∷ []) c.number c.loan so
so_longer loans loan (Meets c d) bare so = (at_longer loans (loan ∷ []) c.number c.loan so.0, at_longer loans (loan ∷ []) d.number d.loan so.1)
so_longer loans loan Spent bare so = tt

-- the table at the start
pub opens : (words : List ℕ) → Booked (opening words [] (Writes 0))
opens words = record { loans = []; so = only; one_pen = λ j k v w a b p q. first j v a ∙ sym (first k w b) }
  where
    only : (j : ℕ) (v : Page) → get_elem? (Writes 0 ∷ []) j ≡ some v → IsSo [] v
    only zero v e = subst (λ (z : Page). IsSo [] z) (some-injective (Writes 0) v e) refl
    only (suc j) v e = absurd (some-ne-none v (sym e))

    first : (j : ℕ) (v : Page) → get_elem? (Writes 0 ∷ []) j ≡ some v → j ≡ 0
    first zero v e = refl
    first (suc j) v e = absurd (some-ne-none v (sym e))

-- where a page comes last that is no pen, each pen was there before
pen_before : (views : List Page) (last : Page) → is_pen last ≡ false → (j : ℕ) (w : Page)
    → get_elem? (views ++ last ∷ []) j ≡ some w → is_pen w ≡ true → get_elem? views j ≡ some w
pen_before views last bare j w e pen = ⊎_elim (λ (c : get_elem? views j ≡ some w). c)
    (λ (c : (j ≡ length views) × (last ≡ w)). absurd (both_ways (is_pen w) (subst (λ (z : Page). is_pen z ≡ false) c.1 bare) pen)) (snoc_at views last w j e)

-- a new ticket
pub writes : (id n : ℕ) (v : Page) (loan : Lent) → v ≡ Writes n → Splits Booked id v (pen_after v) (ticket_after loan v)
writes id n v loan is s r at =
    subst (λ (z : Page). Booked record { words = s.words; homes = s.homes; views = set s.views id (pen_after z) ++ ticket_after loan z ∷ [] }) (sym is) record {
      loans = more;
      so = λ j w e. ⊎_elim
          (λ (c : get_elem? left j ≡ some w). ⊎_elim (λ (d : (j ≡ id) × (pen ≡ w)). subst (λ (z : Page). IsSo more z) d.1 counted)
          (λ (d : (j ≢ id) × (get_elem? s.views j ≡ some w)). so_longer r.loans loan w (bare j w d.0 d.1) (r.so j w d.1)) (at_set s.views id j pen w c))
          (λ (c : (j ≡ length left) × (ticket ≡ w)). subst (λ (z : Page). IsSo more z) c.1 (at_last r.loans loan n (sym count))) (snoc_at left ticket w j e);
      one_pen = λ j k w u a b p q. at_pen j w a p ∙ sym (at_pen k u b q);
    }
  where
    pen : Page
    pen = Writes (suc n)

    ticket : Page
    ticket = Claims (claim n loan)

    left : List Page
    left = set s.views id pen

    more : List Lent
    more = r.loans ++ loan ∷ []

    here : get_elem? s.views id ≡ some (Writes n)
    here = at ∙ ap (λ (z : Page). some z) is

    count : n ≡ length r.loans
    count = r.so id (Writes n) here

    counted : suc n ≡ length more
    counted = omega (arith, count, length-append r.loans (loan ∷ []))

    bare : (j : ℕ) (w : Page) → j ≢ id → get_elem? s.views j ≡ some w → is_pen w ≡ false
    bare j w other e = ⊎_elim (λ (p : is_pen w ≡ true). absurd (other (r.one_pen j id w (Writes n) e here p refl)))
        (λ (p : is_pen w ≡ false). p) (cases_Bool (is_pen w))

    at_pen : (j : ℕ) (w : Page) → get_elem? (left ++ ticket ∷ []) j ≡ some w → is_pen w ≡ true → j ≡ id
    at_pen j w e p = ⊎_elim (λ (d : (j ≡ id) × (pen ≡ w)). d.0)
        (λ (d : (j ≢ id) × (get_elem? s.views j ≡ some w)). absurd (both_ways (is_pen w) (bare j w d.0 d.1) p))
        (at_set s.views id j pen w (pen_before left ticket refl j w e p))

-- the same ticket again
pub copies : (id : ℕ) (c : Claim) (v : Page) → v ≡ Claims c → Splits Booked id v v v
copies id c v is s r at =
    subst (λ (vs : List Page). Booked record { words = s.words; homes = s.homes; views = vs ++ v ∷ [] }) (sym (set_again s.views id v at)) record {
      loans = r.loans;
      so = λ j w e. ⊎_elim (λ (c : get_elem? s.views j ≡ some w). r.so j w c)
          (λ (c : (j ≡ length s.views) × (v ≡ w)). subst (λ (z : Page). IsSo r.loans z) c.1 (r.so id v at))
          (snoc_at s.views v w j e);
      one_pen = λ j k w u a b p q. r.one_pen j k w u (pen_before s.views v (ap is_pen is) j w a p) (pen_before s.views v (ap is_pen is) k u b q) p q;
    }

-- where a seat's page becomes one that is no pen and says what is so, the rule stays
turned : (s : St) (r : Booked s) (id : ℕ) (v : Page) → is_pen v ≡ false → IsSo r.loans v
    → Booked record { words = s.words; homes = s.homes; views = set s.views id v }
turned s r id v bare so = record {
  loans = r.loans;
  so = λ j w e. ⊎_elim (λ (d : (j ≡ id) × (v ≡ w)). subst (λ (z : Page). IsSo r.loans z) d.1 so)
      (λ (d : (j ≢ id) × (get_elem? s.views j ≡ some w)). r.so j w d.1) (at_set s.views id j v w e);
  one_pen = λ j k w u a b p q. r.one_pen j k w u (was j w a p) (was k u b q) p q;
}
  where
    was : (j : ℕ) (w : Page) → get_elem? (set s.views id v) j ≡ some w → is_pen w ≡ true → get_elem? s.views j ≡ some w
    was j w e p = ⊎_elim (λ (d : (j ≡ id) × (v ≡ w)). absurd (both_ways (is_pen w) (subst (λ (z : Page). is_pen z ≡ false) d.1 bare) p))
        (λ (d : (j ≢ id) × (get_elem? s.views j ≡ some w)). d.1) (at_set s.views id j v w e)

-- two tickets come into one seat
pub meets : (id : ℕ) (c d : Claim) (v : Page) (other : ℕ) (u : Page) → v ≡ Claims c → u ≡ Claims d → Joins Booked id v other u (both v u) Spent
meets id c d v other u is is' s r at ne at' =
    let met : both v u ≡ Meets c d = (λ i. both (is i) (is' i)) in
    let before : get_elem? s.views other ≡ some u = ⊎_elim (λ (d : (other ≡ id) × (both v u ≡ u)). absurd (ne d.0))
    (λ (d : (other ≢ id) × (get_elem? s.views other ≡ some u)). d.1)
    (at_set s.views id other (both v u) u at') in
    let so : IsSo r.loans (both v u) = subst (λ (z : Page). IsSo r.loans z) (sym met) (
      subst (λ (z : Page). IsSo r.loans z) is (r.so id v at),
      subst (λ (z : Page). IsSo r.loans z) is'
          (r.so other u before),
    ) in
    turned record { words = s.words; homes = s.homes; views = set s.views id (both v u) } (turned s r id (both v u) (ap is_pen met) so) other Spent refl tt

-- a seat with two tickets looks at the table's word
pub compares : (slots id : ℕ) (me : Sat) (c d : Claim) → me.0 ≡ Meets c d → Allows Booked slots id me 0 (λ n. n) (compared (step slots 0 0 0 none) me)
compares slots id me c d is s r _ at _ = (
  me.0,
  keeps,
  tt,
  subst (λ (z : List ℕ × List Page). Booked record { words = z.0; homes = s.homes; views = z.1 })
      (λ i. (sym (set-get_or s.words 0 0) i, sym (set_again s.views id me.0 at) i)) r,
  (λ e f is' same. let so : IsSo r.loans (Meets e f) = subst (λ (z : Page). IsSo r.loans z) is' (r.so id me.0 at) in
      some-injective e.loan f.loan (sym so.0 ∙ (ap (λ (n : ℕ). get_elem? r.loans n) same ∙ so.1))),
)
