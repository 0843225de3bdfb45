-- The first place of a name among signals, as the list grows.
use Rattle.std.proofs.Common.{◌≡◌, ℕ, ◌+◌, ◌<◌, ◌≤◌, Bool, true, false, cond, nat_lt, List, [], ◌∷◌}
use Rattle.std.proofs.Common.{◌++◌, length, take, get_or, position, Option, Some, None, is_some}
use Rattle.std.proofs.Common.{refl, sym, ◌∙◌, ap, arith, length-append}
use Rattle.std.specs.Prelude.{if◌then◌else◌}
use Rattle.std.specs.Str.{bytes_eq}
use Rattle.std.specs.List.{position_or_len}
use Rattle.std.proofs.lemmas.List.{take_all, length-take-le}
use Rattle.std.proofs.lemmas.List.Folds.{position_or_len_push}
use Rattle.std.proofs.lemmas.List.Sums.{prefix_len-le-length}
use Rattle.std.proofs.lemmas.Slice.Eq.{bytes_eq-Decides}
use Rattle.std.proofs.Math.Dec.{eqb}
use Rattle.first_fault.specs.First.{or_else}
use Rattle.first_fault.proofs.First.{more_events}
use Rattle.exchange_model.specs.declared.signal.SignalKind.{SignalKind}
use Rattle.exchange_model.specs.Kept.{signal_name}
use Rattle.signal_types.specs.Found.{number_in}

at_end : (a n : ℕ) (b : Bool) → a ≤ n → cond (nat_lt (cond (eqb a n) (n + cond b 0 1) a) (n + 1))
    (Some (cond (eqb a n) (n + cond b 0 1) a)) None ≡ or_else (cond (nat_lt a n) (Some a) None) (cond b (Some n) None)
at_end a n b le = grind arith

-- one item more is found at the end, where none is found before
pub position_push : {X : Type 0} (p : X → Bool) (xs : List X) (x : X)
    → position p (xs ++ x ∷ []) ≡ or_else (position p xs) (if p x then Some (length xs) else None)
position_push p xs x =
    rw (position_or_len_push p xs x, length-append xs (x ∷ []))
    (at_end (position_or_len p xs) (length xs) (p x) (prefix_len-le-length _ xs))

-- what a map finds after one name more: `found` before, `after` then

pub or_none : (o : Option ℕ) → o ≡ or_else o None
or_none (Some n) = refl
or_none None = refl

pub note_kept : (found : List ℕ → Option ℕ) (name : List ℕ) (number : ℕ) → is_some (found name) ≡ true → (n : List ℕ)
    → found n ≡ or_else (found n) (if bytes_eq name n then Some number else None)
note_kept found name number there n = here (bytes_eq name n) refl
  where
    kept : (o : Option ℕ) → is_some o ≡ true → o ≡ or_else o (Some number)
    kept (Some m) is = refl
    kept None is = cc

    here : (b : Bool) → bytes_eq name n ≡ b → found n ≡ or_else (found n) (if b then Some number else None)
    here true is = kept (found n) (ap (λ k. is_some (found k)) (sym ((bytes_eq-Decides name n).0 is)) ∙ there)
    here false is = or_none (found n)

pub note_new : (found after : List ℕ → Option ℕ) (name : List ℕ) (number : ℕ) → is_some (found name) ≡ false
    → ((n : List ℕ) → after n ≡ (if bytes_eq name n then Some number else found n)) → (n : List ℕ)
    → after n ≡ or_else (found n) (if bytes_eq name n then Some number else None)
note_new found after name number absent is n = is n ∙ here (bytes_eq name n) refl
  where
    first : (o : Option ℕ) → is_some o ≡ false → Some number ≡ or_else o (Some number)
    first (Some m) is = cc
    first None is = refl

    here : (b : Bool) → bytes_eq name n ≡ b → (if b then Some number else found n) ≡ or_else (found n) (if b then Some number else None)
    here true is = first (found n) (ap (λ k. is_some (found k)) (sym ((bytes_eq-Decides name n).0 is)) ∙ absent)
    here false is = or_none (found n)

-- the map of the first signals
pub record Tabled (found : List ℕ → Option ℕ) (kinds : List SignalKind) (number i : ℕ) : Type 0 where
  pub each : (n : List ℕ) → found n ≡ number_in (take i kinds) n
  pub counted : number ≡ i

pub table_begin : (found : List ℕ → Option ℕ) (kinds : List SignalKind) → ((n : List ℕ) → found n ≡ None) → Tabled found kinds 0 0
table_begin found kinds none = record { each = none; counted = refl }

pub table_more : (found after : List ℕ → Option ℕ) (kinds : List SignalKind) (number next i : ℕ) (kind : SignalKind)
    (name : List ℕ) → i < length kinds → kind ≡ get_or kinds i kind → name ≡ signal_name kind
    → ((n : List ℕ) → after n ≡ or_else (found n) (if bytes_eq name n then Some number else None)) → next ≡ number + 1
    → Tabled found kinds number i → Tabled after kinds next (i + 1)
table_more found after kinds number next i kind name inside is named noted up t = record {
  each = λ n. noted n ∙ ap (λ o. or_else o (if bytes_eq name n then Some number else None)) (t.each n)
      ∙ ap (λ m. or_else (number_in (take i kinds) n) (if bytes_eq m n then Some number else None)) named
      ∙ ap (λ k. or_else (number_in (take i kinds) n) (if bytes_eq (signal_name kind) n then Some k else None))
      (t.counted ∙ sym (length-take-le i kinds (omega arith)))
      ∙ sym (position_push (λ s. bytes_eq (signal_name s) n) (take i kinds) kind)
      ∙ ap (λ l. number_in l n) (sym (more_events kinds i kind inside is));
  counted = up ∙ ap (λ k. k + 1) t.counted;
}

pub table_end : (found : List ℕ → Option ℕ) (kinds : List SignalKind) (number i : ℕ) → length kinds ≤ i
    → Tabled found kinds number i → (n : List ℕ) → found n ≡ number_in kinds n
table_end found kinds number i past t n = t.each n ∙ ap (λ l. number_in l n) (take_all i kinds past)
