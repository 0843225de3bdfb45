-- Lists that have more, item by item.
use Rattle.std.proofs.Common.{◌≡◌, ◌⊎◌, inl, inr, ⊎_elim, ℕ, ◌+◌, ◌<◌, ◌≤◌, List, length, Some}
use Rattle.std.proofs.Common.{slice_get, sym, ap, ◌∙◌, subst, arith}
use Rattle.std.proofs.lemmas.Bool.{cases_lt}
use Rattle.std.proofs.lemmas.Option.{same_Some, slice_get_within}
use Rattle.entry_accesses.specs.Adding.{Adds}
use Rattle.conflict_rows.specs.Items.{GivenBy}

-- one of the first so many items gives it
pub record GivenBelow {A B : Type 0} (G : ℕ → B → A → Type 0) (items : List B) (n : ℕ) (a : A) : Type 0 where
  pub given : GivenBy G items a
  pub low : given.place < n

pub items_begin : {A B : Type 0} (G : ℕ → B → A → Type 0) (items : List B) (old : List A) → Adds old old (GivenBelow G items 0)
items_begin G items old = record { each = λ a c. inl c; kept = λ a c. c; added = λ a g. absurd (let l = g.low in omega (arith, l)) }

pub items_more : {A B : Type 0} (G : ℕ → B → A → Type 0) (items : List B) (n : ℕ) (item : B) (old now new : List A)
    → slice_get items n ≡ Some item → Adds now new (G n item) → Adds old now (GivenBelow G items n) → Adds old new (GivenBelow G items (n + 1))
items_more {A} {B} G items n item old now new there h before = record {
  each = λ a c. ⊎_elim
      (λ was. ⊎_elim (λ o. inl o) (λ g. inr (record { given = g.given; low = (let l = g.low in omega (arith, l)) })) (before.each a was))
      (λ g. inr (record { given = record { place = n; item = item; there = there; gives = g }; low = omega arith }))
      (h.each a c);
  kept = λ a c. h.kept a (before.kept a c);
  added = λ a g. ⊎_elim
      (λ low. h.kept a (before.added a (record { given = g.given; low = low })))
      (λ past. h.added a (here a g past))
      (cases_lt g.given.place n);
}
  where
    here : (a : A) (g : GivenBelow G items (n + 1) a) → n ≤ g.given.place → G n item a
    here a g past =
        let l = g.low in
        let same : g.given.place ≡ n = omega (arith, l, past) in
        let it : g.given.item ≡ item = same_Some g.given.item item (sym g.given.there ∙ ap (slice_get items) same ∙ there) in
        subst (λ i. G i item a) same (subst (λ b. G g.given.place b a) it g.given.gives)

-- items that give nothing are passed
pub items_passed : {A B : Type 0} (G : ℕ → B → A → Type 0) (items : List B) (n m : ℕ) (old now : List A) → n ≤ m
    → ((k : ℕ) (b : B) (a : A) → n ≤ k → k < m → slice_get items k ≡ Some b → G k b a → ⊥)
    → Adds old now (GivenBelow G items n) → Adds old now (GivenBelow G items m)
items_passed G items n m old now up none h = record {
  each = λ a c. ⊎_elim (λ o. inl o) (λ g. inr (record { given = g.given; low = (let l = g.low in omega (arith, l, up)) })) (h.each a c);
  kept = h.kept;
  added = λ a g. ⊎_elim
      (λ low. h.added a (record { given = g.given; low = low }))
      (λ past. absurd (none g.given.place g.given.item a past g.low g.given.there g.given.gives))
      (cases_lt g.given.place n);
}

pub items_end : {A B : Type 0} (G : ℕ → B → A → Type 0) (items : List B) (n : ℕ) (old new : List A)
    → length items ≤ n → Adds old new (GivenBelow G items n) → Adds old new (GivenBy G items)
items_end G items n old new past h = record {
  each = λ a c. ⊎_elim (λ o. inl o) (λ g. inr g.given) (h.each a c);
  kept = h.kept;
  added = λ a g. h.added a (record { given = g; low = (let l = slice_get_within items g.place g.item g.there in omega (arith, past, l)) });
}

-- nothing more, and two lots one after the other

pub adds_nothing : {A : Type 0} (G : A → Type 0) (old : List A) → ((a : A) → G a → ⊥) → Adds old old G
adds_nothing G old none = record { each = λ a c. inl c; kept = λ a c. c; added = λ a g. absurd (none a g) }

pub adds_two : {A : Type 0} (F G H : A → Type 0) (old now new : List A) → ((a : A) → F a → H a) → ((a : A) → G a → H a) → ((a : A) → H a → F a ⊎ G a)
    → Adds old now F → Adds now new G → Adds old new H
adds_two F G H old now new from_first from_then cases f g = record {
  each = λ a c. ⊎_elim (λ was. ⊎_elim (λ o. inl o) (λ h. inr (from_first a h)) (f.each a was)) (λ h. inr (from_then a h)) (g.each a c);
  kept = λ a c. g.kept a (f.kept a c);
  added = λ a h. ⊎_elim (λ k. g.kept a (f.added a k)) (λ k. g.added a k) (cases a h);
}
