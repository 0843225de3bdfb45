-- What events declare, in their order, and what a walk adds to it.
use Rattle.std.proofs.Common.{◌≡◌, ℕ, List, [], ◌∷◌, ◌++◌, map, Some, None, Option, refl, sym, ◌∙◌}
use Rattle.std.proofs.Common.{ap}
use Rattle.std.specs.Prelude.{if◌then◌else◌}
use Rattle.std.specs.List.{cons_option}
use Rattle.std.specs.Str.{bytes_eq}
use Rattle.std.proofs.lemmas.List.{append-nil, append_assoc}
use Rattle.first_fault.specs.First.{or_else, last_of}
use Rattle.text_events.specs.Note.{Event}
use Rattle.text_events.specs.declared.role.Meaning.{Meaning}
use Rattle.text_events.specs.Note.{Note}
use Rattle.text_events.specs.Note.{Declares}
use Rattle.text_events.specs.Named.{meaning_of_note, naming_of}
use Rattle.text_events.specs.Walk.{EventWalk, OwnWalk, add, in_turn, each_walk}

-- a name with what it is declared to stand for
pub record Said : Type 0 where
  pub name : List ℕ
  pub meaning : Meaning

abbrev pub said_note : Note → Option Said
said_note (Declares n m) = Some (record { name = n; meaning = m })
said_note _ = None

unfoldable pub said_of : List Event → List Said
said_of [] = []
said_of (e ∷ rest) = cons_option (said_note e.note) (said_of rest)

abbrev pub meant_by : List ℕ → Said → Option Meaning
meant_by n s = if bytes_eq s.name n then Some s.meaning else None

or_none : {X : Type 0} (o : Option X) → or_else o None ≡ o
or_none (Some x) = refl
or_none None = refl

naming_step : (n : List ℕ) (note : Note) (o : Option Meaning) (saids : List Said) → o ≡ last_of (meant_by n) saids
    → or_else o (meaning_of_note n note) ≡ last_of (meant_by n) (cons_option (said_note note) saids)
naming_step n (Declares m meaning) o saids h = ap (λ x. or_else x (if bytes_eq m n then Some meaning else None)) h
naming_step n _ o saids h = or_none o ∙ h

-- a name stands for what is said of it last
pub naming_said : (out : List Event) (n : List ℕ) → naming_of out n ≡ last_of (meant_by n) (said_of out)
unfolding said_of
naming_said [] n = refl
naming_said (e ∷ rest) n = naming_step n e.note (naming_of rest n) (said_of rest) (naming_said rest n)

append_option : {X : Type 0} (o : Option X) (xs ys : List X) → cons_option o (xs ++ ys) ≡ cons_option o xs ++ ys
append_option (Some x) xs ys = refl
append_option None xs ys = refl

pub said_append : (xs ys : List Event) → said_of (xs ++ ys) ≡ said_of xs ++ said_of ys
unfolding said_of
said_append [] ys = refl
said_append (e ∷ rest) ys = ap (cons_option (said_note e.note)) (said_append rest ys) ∙ append_option (said_note e.note) (said_of rest) (said_of ys)

-- events that come after others, and what these say
pub record Adds (out new : List Event) (saids : List Said) : Type 0 where
  pub more : List Event
  pub same : new ≡ out ++ more
  pub says : said_of more ≡ saids

pub adds_none : (out : List Event) → Adds out out []
unfolding said_of
adds_none out = record { more = []; same = sym (append-nil out); says = refl }

pub adds_one : (line : ℕ) (note : Note) (out : List Event) → Adds out (add line note out) (cons_option (said_note note) [])
unfolding said_of
adds_one line note out = record { more = record { line = line; note = note } ∷ []; same = refl; says = refl }

pub adds_then : (a b c : List Event) (s t : List Said) → Adds a b s → Adds b c t → Adds a c (s ++ t)
adds_then a b c s t g h = record {
  more = g.more ++ h.more;
  same = h.same ∙ ap (λ x. x ++ h.more) g.same ∙ append_assoc a g.more h.more;
  says = said_append g.more h.more ∙ ap (λ x. x ++ said_of h.more) g.says ∙ ap (λ x. s ++ x) h.says;
}

-- a walk that declares nothing

abbrev pub Quiet : EventWalk → Type 0
Quiet w = (out : List Event) → Adds out (w out) []

abbrev pub QuietOwn : OwnWalk → Type 0
QuietOwn w = (owner : ℕ) → Quiet (w owner)

pub quiet_none : Quiet (λ out. out)
quiet_none out = adds_none out

pub quiet_then : (w v : EventWalk) → Quiet w → Quiet v → Quiet (λ out. v (w out))
quiet_then w v g h out = adds_then out (w out) (v (w out)) [] [] (g out) (h (w out))

pub each_quiet : {X : Type 0} (f : X → OwnWalk) (xs : List ((x : X) × QuietOwn (f x)))
    → QuietOwn (each_walk (map f (map (λ (p : (x : X) × QuietOwn (f x)). p.0) xs)))
each_quiet f [] owner = quiet_none
each_quiet {X = X} f (p ∷ rest) owner = quiet_then (f p.0 owner)
    (each_walk (map f (map (λ (q : (x : X) × QuietOwn (f x)). q.0) rest)) owner) (p.1 owner) (each_quiet f rest owner)

pub all_each_quiet : {X : Type 0} (f : X → OwnWalk) → ((x : X) → QuietOwn (f x)) → (xs : List X) → QuietOwn (each_walk (map f xs))
all_each_quiet f h [] owner = quiet_none
all_each_quiet f h (x ∷ rest) owner = quiet_then (f x owner) (each_walk (map f rest) owner) (h x owner) (all_each_quiet f h rest owner)

pub in_turn_quiet : {X : Type 0} (f : X → EventWalk) → ((x : X) → Quiet (f x)) → (xs : List X) → Quiet (in_turn (map f xs))
in_turn_quiet f h [] = quiet_none
in_turn_quiet f h (x ∷ rest) = quiet_then (f x) (in_turn (map f rest)) (h x) (in_turn_quiet f h rest)
