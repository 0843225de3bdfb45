-- What names stand for after the first events.
use Rattle.std.proofs.Common.{◌≡◌, ℕ, ◌+◌, ◌<◌, ◌≤◌, Bool, true, false, cond, List, length, take}
use Rattle.std.proofs.Common.{get_or, Option, Some, None, refl, sym, ◌∙◌, ap}
use Rattle.std.specs.Prelude.{if◌then◌else◌}
use Rattle.std.specs.Str.{bytes_eq}
use Rattle.std.proofs.lemmas.List.{take_all}
use mathlib.Core.Path.{fun_ext}
use Rattle.first_fault.specs.First.{or_else, last_of}
use Rattle.first_fault.proofs.First.{last_push, more_events}
use Rattle.text_events.specs.Note.{Event, Note, Declares}
use Rattle.text_events.specs.declared.role.Meaning.{Meaning}
use Rattle.text_events.specs.Named.{meaning_in, meaning_of_note}
use Rattle.resolved_block.specs.Names.{Naming, counted_on, meanings_of, with_first}

-- what was there, or what one event declares
pub see_declared : (first : ℕ) (n m : List ℕ) (meaning counted : Meaning) (note : Note) (old new : Option Meaning)
    → note ≡ Declares m meaning → counted ≡ with_first first meaning → new ≡ cond (bytes_eq m n) (Some counted) old
    → new ≡ or_else (counted_on first (meaning_of_note n note)) old
see_declared first n m meaning counted note old new is one h = rw is (h ∙ ap (λ c. cond (bytes_eq m n) (Some c) old) one ∙ choice (bytes_eq m n))
  where
    choice : (b : Bool) → cond b (Some (with_first first meaning)) old ≡ or_else (counted_on first (if b then Some meaning else None)) old
    choice true = refl
    choice false = refl

counted_else : (first : ℕ) (a b : Option Meaning) → counted_on first (or_else a b) ≡ or_else (counted_on first a) (counted_on first b)
counted_else first (Some m) b = refl
counted_else first None b = refl

pub record Meant (first : ℕ) (events : List Event) (i : ℕ) (now : Naming Meaning) : Type 0 where
  pub each : (n : List ℕ) → now n ≡ meanings_of first (take i events) n

pub declared_begin : (first : ℕ) (events : List Event) (now : Naming Meaning) → ((n : List ℕ) → now n ≡ None) → Meant first events 0 now
declared_begin first events now none = record { each = none }

pub declared_step : (first : ℕ) (events : List Event) (i : ℕ) (e : Event) (old new : Naming Meaning) → i < length events
    → e ≡ get_or events i e → ((n : List ℕ) → new n ≡ or_else (counted_on first (meaning_in n e)) (old n))
    → Meant first events i old → Meant first events (i + 1) new
declared_step first events i e old new inside is more m = record {
  each = λ n.
      more n ∙ ap (or_else (counted_on first (meaning_in n e))) (m.each n)
      ∙ sym (counted_else first (meaning_in n e) (last_of (meaning_in n) (take i events)))
      ∙ ap (counted_on first) (sym (last_push (meaning_in n) (take i events) e))
      ∙ ap (λ l. counted_on first (last_of (meaning_in n) l)) (sym (more_events events i e inside is));
}

pub declared_end : (first : ℕ) (events : List Event) (i : ℕ) (now : Naming Meaning) → length events ≤ i
    → Meant first events i now → now ≡ meanings_of first events
declared_end first events i now past m = fun_ext λ n. m.each n ∙ ap (λ l. meanings_of first l n) (take_all i events past)

pub ruleset names_declared = (declared_begin, declared_step, declared_end)
