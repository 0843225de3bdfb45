-- Lists that have more, item by item.
use Rattle.std.proofs.Common.{◌≡◌, ◌⊎◌, inl, inr, ⊎_elim, ℕ, ◌+◌, ◌<◌, ◌≤◌, List, [], ◌∷◌, ◌++◌}
use Rattle.std.proofs.Common.{length, drop, get_or, sym, subst}
use Rattle.std.specs.Prelude.{◌↔◌}
use Rattle.std.specs.List.{Contains}
use Rattle.std.proofs.Math.ListN.{drop_of_length-le}
use Rattle.std.proofs.lemmas.List.Elements.{Contains-append_left, Contains-push}
use Rattle.std.proofs.lemmas.List.Elements.{Contains-push_cases}
use Rattle.std.proofs.lemmas.List.{get_or_default}
use Rattle.plex_num.proofs.Members.{first_or_later, none_in}
use Rattle.plex_num.proofs.Lists.{opens}
use Rattle.entry_accesses.specs.Adding.{Adds, OneGives}

-- one item more, or none
pub push_adds : {A : Type 0} (old new : List A) (x : A) (G : A → Type 0) → new ≡ old ++ x ∷ [] → ((a : A) → x ≡ a → G a)
    → ((a : A) → G a → x ≡ a) → Adds old new G
push_adds old new x G is gives only = record {
  each = λ a c. ⊎_elim (λ was. inl was) (λ same. inr (gives a same)) (Contains-push_cases old x a (subst (λ l. Contains l a) is c));
  kept = λ a c. subst (λ l. Contains l a) (sym is) (Contains-append_left old (x ∷ []) a c);
  added = λ a g. subst (λ l. Contains l a) (sym is) (subst (Contains (old ++ x ∷ [])) (only a g) (Contains-push old x));
}

pub adds_as : {A : Type 0} (old new : List A) (G H : A → Type 0) → ((a : A) → G a → H a) → ((a : A) → H a → G a) → Adds old new G → Adds old new H
adds_as old new G H there back h = record {
  each = λ a c. ⊎_elim (λ was. inl was) (λ g. inr (there a g)) (h.each a c);
  kept = h.kept;
  added = λ a g. h.added a (back a g);
}

-- another list of the same items
pub adds_alike : {A : Type 0} (old new other : List A) (G : A → Type 0) → ((a : A) → Contains other a ↔ Contains new a) → Adds old new G → Adds old other G
adds_alike old new other G same h = record {
  each = λ a c. h.each a ((same a).0 c);
  kept = λ a c. (same a).1 (h.kept a c);
  added = λ a g. (same a).1 (h.added a g);
}

-- what one of these items gives, one of the same items gives
pub gives_alike : {A B : Type 0} (G : B → A → Type 0) (items others : List B)
    → ((b : B) → Contains others b ↔ Contains items b) → (a : A) → OneGives G others a ↔ OneGives G items a
gives_alike G items others same a = (
  λ o. record { item = o.item; one = (same o.item).0 o.one; gives = o.gives },
  λ o. record { item = o.item; one = (same o.item).1 o.one; gives = o.gives },
)

-- item by item

pub record AddsGo {A B : Type 0} (G : B → A → Type 0) (items : List B) (i : ℕ) (old now : List A) : Type 0 where
  pub each : (a : A) → Contains now a → Contains old a ⊎ OneGives G items a
  pub kept : (a : A) → Contains old a → Contains now a
  pub added : (a : A) → OneGives G items a → Contains now a ⊎ OneGives G (drop i items) a

pub go_begin : {A B : Type 0} (G : B → A → Type 0) (items : List B) (old : List A) → AddsGo G items 0 old old
go_begin G items old = record { each = λ a c. inl c; kept = λ a c. c; added = λ a o. inr o }

pub go_more : {A B : Type 0} (G : B → A → Type 0) (items : List B) (i : ℕ) (x : B) (old now new : List A)
    → i < length items → x ≡ get_or items i x → Adds now new (G x) → AddsGo G items i old now
    → AddsGo G items (i + 1) old new
go_more {A} G items i x old now new lt is h g = record {
  each = λ a c. ⊎_elim (λ was. g.each a was) (λ given. inr (record { item = x; one = (i, lt, sym is); gives = given })) (h.each a c);
  kept = λ a c. h.kept a (g.kept a c);
  added = λ a o. ⊎_elim (λ c. inl (h.kept a c))
      (λ rest. split a rest (first_or_later x rest.item (drop (i + 1) items)
      (subst (λ l. Contains l rest.item) (opens items i x lt is) rest.one))) (g.added a o);
}
  where
    split : (a : A) (rest : OneGives G (drop i items) a) → (x ≡ rest.item) ⊎ Contains (drop (i + 1) items) rest.item
        → Contains new a ⊎ OneGives G (drop (i + 1) items) a
    split a rest (inl same) = inl (h.added a (subst (λ y. G y a) (sym same) rest.gives))
    split a rest (inr later) = inr (record { item = rest.item; one = later; gives = rest.gives })

pub go_end : {A B : Type 0} (G : B → A → Type 0) (items : List B) (i : ℕ) (old now : List A) → length items ≤ i
    → AddsGo G items i old now → Adds old now (OneGives G items)
go_end G items i old now past g = record {
  each = g.each;
  kept = g.kept;
  added = λ a o. ⊎_elim (λ c. c) (λ rest. absurd (none_in rest.item (subst (λ l. Contains l rest.item) (drop_of_length-le items past) rest.one))) (g.added a o);
}

-- the same of an item that is told with a default
pub go_item : {A B : Type 0} (G : B → A → Type 0) (items : List B) (i : ℕ) (d : B) (old now new : List A)
    → i < length items → Adds now new (G (get_or items i d)) → AddsGo G items i old now → AddsGo G items (i + 1) old new
go_item G items i d old now new lt h g = go_more G items i (get_or items i d) old now new lt (get_or_default items i d (get_or items i d) lt) h g

pub go_new : {A B : Type 0} (G : B → A → Type 0) (items : List B) (now : List A) → now ≡ [] → AddsGo G items 0 [] now
go_new G items now none = record { each = λ a c. inl (subst (λ l. Contains l a) none c); kept = λ a c. absurd (none_in a c); added = λ a o. inr o }
