-- Steps of the loops that make lists.
use Rattle.std.proofs.Common.{◌≡◌, ℕ, ◌+◌, ◌<◌, ◌≤◌, List, [], ◌∷◌, ◌++◌, length, map, drop, get_or}
use Rattle.std.proofs.Common.{refl, sym, ◌∙◌, ap, append_assoc}
use Rattle.std.proofs.lemmas.List.{drop_all, append-nil}
use Rattle.plex_num.proofs.Lists.{opens}
use Rattle.resolved_block.specs.Statements.{Made, in_turn}

-- after `start` stands what was made of each item
pub record Making {A B : Type 0} (f : A → B) (xs : List A) (start : List B) (i : ℕ) (made : List B) : Type 0 where
  pub same : made ++ map f (drop i xs) ≡ start ++ map f xs

pub made_begin : {A B : Type 0} (f : A → B) (xs : List A) (start : List B) → Making f xs start 0 start
made_begin f xs start = record { same = refl }

pub made_step : {A B : Type 0} (f : A → B) (xs : List A) (start : List B) (i : ℕ) (x : A) (y : B) (made new : List B)
    → i < length xs → x ≡ get_or xs i x → y ≡ f x → new ≡ made ++ y ∷ [] → Making f xs start i made
    → Making f xs start (i + 1) new
made_step f xs start i x y made new inside is of more w =
    record { same = rw (more, of, append_assoc) (ap (λ l. made ++ map f l) (sym (opens xs i x inside is)) ∙ w.same) }

pub made_end : {A B : Type 0} (f : A → B) (xs : List A) (start : List B) (i : ℕ) (made : List B) → length xs ≤ i
    → Making f xs start i made → made ≡ start ++ map f xs
made_end f xs start i made past w = sym (append-nil made) ∙ ap (λ l. made ++ map f l) (sym (drop_all i xs past)) ∙ w.same

-- the same where each is made after the one before
pub record Turns {A B : Type 0} (f : A → Made B) (xs : List A) (i : ℕ) (made : List B) (now first : ℕ) : Type 0 where
  pub items : made ++ (in_turn (map f (drop i xs)) now).0 ≡ (in_turn (map f xs) first).0
  pub next : (in_turn (map f (drop i xs)) now).1 ≡ (in_turn (map f xs) first).1

pub turns_begin : {A B : Type 0} (f : A → Made B) (xs : List A) (now : ℕ) → Turns f xs 0 [] now now
turns_begin f xs now = record { items = refl; next = refl }

pub turns_step : {A B : Type 0} (f : A → Made B) (xs : List A) (i : ℕ) (x : A) (y : B) (made new : List B)
    (now next first : ℕ) → i < length xs → x ≡ get_or xs i x → y ≡ (f x now).0 → next ≡ (f x now).1
    → new ≡ made ++ y ∷ [] → Turns f xs i made now first → Turns f xs (i + 1) new next first
turns_step f xs i x y made new now next first inside is of p more w =
    let cut = opens xs i x inside is in
    record {
      items = rw (more, of, p, append_assoc) (ap (λ l. made ++ (in_turn (map f l) now).0) (sym cut) ∙ w.items);
      next = rw p (ap (λ l. (in_turn (map f l) now).1) (sym cut) ∙ w.next);
    }

pub turns_end : {A B : Type 0} (f : A → Made B) (xs : List A) (i : ℕ) (made : List B) (now first : ℕ) → length xs ≤ i
    → Turns f xs i made now first → made ≡ (in_turn (map f xs) first).0
turns_end f xs i made now first past w = sym (append-nil made) ∙ ap (λ l. made ++ (in_turn (map f l) now).0) (sym (drop_all i xs past)) ∙ w.items

pub turns_next : {A B : Type 0} (f : A → Made B) (xs : List A) (i : ℕ) (made : List B) (now first : ℕ) → length xs ≤ i
    → Turns f xs i made now first → now ≡ (in_turn (map f xs) first).1
turns_next f xs i made now first past w = ap (λ l. (in_turn (map f l) now).1) (sym (drop_all i xs past)) ∙ w.next

pub ruleset list_made = (made_begin, made_step, made_end)

pub ruleset turns_made = (turns_begin, turns_step, turns_end, turns_next)
