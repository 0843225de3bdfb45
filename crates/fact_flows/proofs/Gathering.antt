-- What several give, one after the other.
use Rattle.std.proofs.Common.{◌≡◌, ◌⊎◌, inl, inr, ⊎_elim, ℕ, ◌+◌, ◌<◌, ◌≤◌, List, [], ◌++◌, length}
use Rattle.std.proofs.Common.{drop, get_or, sym, ap, ◌∙◌, subst, append-nil, append_assoc}
use Rattle.std.proofs.Math.ListN.{drop_of_length-le}
use Rattle.std.proofs.lemmas.List.Elements.{Contains-append_left, Contains-append_right}
use Rattle.std.proofs.lemmas.List.Elements.{Contains-append_cases}
use Rattle.std.specs.List.{Contains}
use Rattle.std.proofs.lemmas.List.{get_or_default, drop_more}
use Rattle.plex_num.proofs.Members.{first_or_later, none_in}
use Rattle.flow_points.specs.declared.fact.Fact.{Fact}
use Rattle.flow_table.specs.Giving.{HasGiven}
use Rattle.fact_flows.specs.Flows.{OneGives}

pub record Gathers {A : Type 0} (G : A → Fact → Type 0) (xs : List A) (old : List Fact) (i : ℕ) (now : List Fact) : Type 0 where
  pub added : List Fact
  pub is : now ≡ old ++ added
  pub each : (f : Fact) → Contains added f → OneGives G xs f
  pub listed : (f : Fact) → OneGives G xs f → Contains added f ⊎ OneGives G (drop i xs) f

pub gather_begin : {A : Type 0} (G : A → Fact → Type 0) (xs : List A) (old : List Fact) → Gathers G xs old 0 old
gather_begin G xs old = record { added = []; is = sym (append-nil old); each = λ f c. absurd (none_in f c); listed = λ f h. inr h }

pub gather_more : {A : Type 0} (G : A → Fact → Type 0) (xs : List A) (i : ℕ) (d : A) (old now new : List Fact)
    → i < length xs → HasGiven now new (G (get_or xs i d)) → Gathers G xs old i now → Gathers G xs old (i + 1) new
gather_more {A} G xs i d old now new lt h g = record {
  added = g.added ++ h.added;
  is = h.is ∙ ap (λ l. l ++ h.added) g.is ∙ append_assoc old g.added h.added;
  each = λ f c. ⊎_elim (g.each f) (λ at. own f (h.each f at)) (Contains-append_cases g.added h.added f c);
  listed = λ f k. ⊎_elim (λ c. inl (Contains-append_left g.added h.added f c)) (λ o. later f o) (g.listed f k);
}
  where
    own : (f : Fact) → G (get_or xs i d) f → OneGives G xs f
    own f k = record { one = get_or xs i d; among = (i, lt, get_or_default xs i (get_or xs i d) d lt); gives = k }

    later : (f : Fact) → OneGives G (drop i xs) f → Contains (g.added ++ h.added) f ⊎ OneGives G (drop (i + 1) xs) f
    later f o =
        ⊎_elim
        (λ same. inl (Contains-append_right g.added h.added f (h.listed f (subst (λ a. G a f) (sym same) o.gives))))
        (λ more. inr (record { one = o.one; among = more; gives = o.gives }))
        (first_or_later (get_or xs i d) o.one (drop (i + 1) xs) (subst (λ l. Contains l o.one) (drop_more xs i d lt) o.among))

pub gather_end : {A : Type 0} (G : A → Fact → Type 0) (xs : List A) (i : ℕ) (old now : List Fact) → length xs ≤ i
    → Gathers G xs old i now → HasGiven old now (OneGives G xs)
gather_end G xs i old now past g = record {
  added = g.added;
  is = g.is;
  each = g.each;
  listed = λ f h. ⊎_elim (λ c. c) (λ o. absurd (none_in o.one (subst (λ l. Contains l o.one) (drop_of_length-le xs past) o.among))) (g.listed f h);
}

-- the same facts, said otherwise
pub given_as : (G H : Fact → Type 0) (old new : List Fact) → ((f : Fact) → G f → H f) → ((f : Fact) → H f → G f) → HasGiven old new G → HasGiven old new H
given_as G H old new to from h = record { added = h.added; is = h.is; each = λ f c. to f (h.each f c); listed = λ f k. h.listed f (from f k) }

pub given_none : (G : Fact → Type 0) (old : List Fact) → ((f : Fact) → G f → ⊥) → HasGiven old old G
given_none G old none = record { added = []; is = sym (append-nil old); each = λ f c. absurd (none_in f c); listed = λ f h. absurd (none f h) }
