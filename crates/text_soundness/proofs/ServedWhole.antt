-- In a block that breaks no rule, what an event needs of a name is so by what the names of the
-- whole block stand for.
use Rattle.std.proofs.Common.{◌≡◌, ℕ, ◌+◌, ◌-◌, ◌<◌, ◌≤◌, Bool, true, false, not, ◌||◌, List, []}
use Rattle.std.proofs.Common.{◌∷◌, ◌++◌, length, take, get_or, Some, None, Option, refl, sym, ◌∙◌}
use Rattle.std.proofs.Common.{ap, subst, rules, arith, suc, zero}
use Rattle.std.specs.Prelude.{is_some, if◌then◌else◌}
use Rattle.std.specs.Str.{bytes_eq}
use Rattle.std.proofs.lemmas.Slice.Eq.{bytes_eq-Decides}
use Rattle.std.proofs.lemmas.Bool.{false≢true, not-false}
use Rattle.std.proofs.lemmas.List.{take_more, take_all}
use Rattle.std.proofs.lemmas.Option.{slice_get-get_or}
use Rattle.first_fault.specs.First.{any, last_of, or_else}
use Rattle.first_fault.proofs.First.{last_push, any_push}
use Rattle.text_events.specs.declared.role.Meaning.{Meaning}
use Rattle.text_events.specs.declared.role.Meaning.TheVariants.{Variable, Temporary, File, Field}
use Rattle.text_events.specs.declared.role.Meaning.TheVariants.{Label}
use Rattle.text_events.specs.Note.{Event, Note, Declares, Signals, Signal, Carries, Block}
use Rattle.text_events.specs.Note.{BlockName, Cells, Width, Init, Size, Receives, Names, Begins}
use Rattle.text_events.specs.Note.{Uses, Reads, Counts, Refers, Goes, Searches, Compares, Holds}
use Rattle.text_events.specs.Note.{Chooses, Ends}
use Rattle.text_events.specs.Named.{meaning_in, meaning_of_note, naming_of}
use Rattle.text_rules.specs.declared.rule.BlockRule.TheVariants as rule
use Rattle.text_rules.specs.Blocks.{KnownInBlock, declared_twice, labels, labels_note}
use Rattle.text_soundness.specs.Served.{IsLabelled}
use Rattle.text_soundness.specs.Fine.{Text, known_of, IsFineText}

twice_is : (k : KnownInBlock) (note : Note) (n : List ℕ) (m : Meaning) → meaning_of_note n note ≡ Some m → declared_twice k note ≡ is_some (k.declared n)
twice_is k (Declares x meaning) n m h = here (bytes_eq x n) refl h
  where
    here : (b : Bool) → bytes_eq x n ≡ b → (if b then Some meaning else None) ≡ Some m → is_some (k.declared x) ≡ is_some (k.declared n)
    here true e g = ap (λ y. is_some (k.declared y)) ((bytes_eq-Decides x n).0 e)
    here false e g = cc
twice_is k (Signals a) n m h = cc
twice_is k (Signal a) n m h = cc
twice_is k (Carries a) n m h = cc
twice_is k Block n m h = cc
twice_is k (BlockName a) n m h = cc
twice_is k (Cells a) n m h = cc
twice_is k (Width a) n m h = cc
twice_is k (Init a b) n m h = cc
twice_is k (Size a) n m h = cc
twice_is k (Receives a) n m h = cc
twice_is k (Names a b) n m h = cc
twice_is k (Begins a b c) n m h = cc
twice_is k (Uses a b) n m h = cc
twice_is k (Reads a b c) n m h = cc
twice_is k (Counts a) n m h = cc
twice_is k (Refers a b) n m h = cc
twice_is k (Goes a) n m h = cc
twice_is k (Searches a) n m h = cc
twice_is k (Compares a b) n m h = cc
twice_is k (Holds a) n m h = cc
twice_is k (Chooses a b) n m h = cc
twice_is k Ends n m h = cc

record Labels (n : List ℕ) (note : Note) : Type 0 where
  pub number : ℕ
  pub says : meaning_of_note n note ≡ Some (Label number)

label_says : (n : List ℕ) (note : Note) → labels_note n note ≡ true → Labels n note
label_says n (Declares m (Label k)) h = record { number = k; says = rw h refl }
label_says n (Declares m (Variable k)) h = absurd cc
label_says n (Declares m (Temporary k)) h = absurd cc
label_says n (Declares m (File k a)) h = absurd cc
label_says n (Declares m (Field k a)) h = absurd cc
label_says n (Signals a) h = absurd cc
label_says n (Signal a) h = absurd cc
label_says n (Carries a) h = absurd cc
label_says n Block h = absurd cc
label_says n (BlockName a) h = absurd cc
label_says n (Cells a) h = absurd cc
label_says n (Width a) h = absurd cc
label_says n (Init a b) h = absurd cc
label_says n (Size a) h = absurd cc
label_says n (Receives a) h = absurd cc
label_says n (Names a b) h = absurd cc
label_says n (Begins a b c) h = absurd cc
label_says n (Uses a b) h = absurd cc
label_says n (Reads a b c) h = absurd cc
label_says n (Counts a) h = absurd cc
label_says n (Refers a b) h = absurd cc
label_says n (Goes a) h = absurd cc
label_says n (Searches a) h = absurd cc
label_says n (Compares a b) h = absurd cc
label_says n (Holds a) h = absurd cc
label_says n (Chooses a b) h = absurd cc
label_says n Ends h = absurd cc

module _ (text : Text) (f : IsFineText text) where
  no_event : Event
  no_event = record { line = 0; note = Counts 0 }

  -- one event more
  more_at : (i : ℕ) → i < length text.whole → take (i + 1) text.whole ≡ take i text.whole ++ get_or text.whole i no_event ∷ []
  more_at i inside = take_more text.whole i no_event inside

  -- what a name stands for stays where one event is added
  stays_once : (n : List ℕ) (m : Meaning) (i : ℕ) → i < length text.whole → naming_of (take i text.whole) n ≡ Some m
      → naming_of (take (i + 1) text.whole) n ≡ Some m
  stays_once n m i inside before =
      let e : Event = get_or text.whole i no_event in
      let fine : declared_twice (known_of text (take i text.whole)) e.note ≡ false =
      f.each i e rule.DeclaredTwice (slice_get-get_or text.whole i no_event inside) in
      ap (last_of (meaning_in n)) (more_at i inside) ∙ last_push (meaning_in n) (take i text.whole) e
      ∙ here e (take i text.whole) (meaning_in n e) refl fine before
    where
      here : (e : Event) (b : List Event) (o : Option Meaning) → meaning_in n e ≡ o
          → declared_twice (known_of text b) e.note ≡ false → last_of (meaning_in n) b ≡ Some m
          → or_else o (last_of (meaning_in n) b) ≡ Some m
      here e b (Some x) is fine before =
          let t : is_some (last_of (meaning_in n) b) ≡ false = sym (twice_is (known_of text b) e.note n x is) ∙ fine in
          let u : is_some (last_of (meaning_in n) b) ≡ true = ap is_some before in
          cc
      here e b None is fine before = before

  -- a meaning stays: nothing is declared twice
  stays : (n : List ℕ) (m : Meaning) (k d : ℕ) → k + d ≤ length text.whole → naming_of (take k text.whole) n ≡ Some m
      → naming_of (take (k + d) text.whole) n ≡ Some m
  stays n m k zero low h = subst (λ j. naming_of (take j text.whole) n ≡ Some m) (omega arith) h
  stays n m k (suc d) low h =
      let next : k + d + 1 ≡ k + suc d = omega arith in
      subst (λ j. naming_of (take j text.whole) n ≡ Some m) next (stays_once n m (k + d) (omega arith) (stays n m k d (omega arith) h))

  pub stays_whole : (n : List ℕ) (m : Meaning) (i : ℕ) → i ≤ length text.whole → naming_of (take i text.whole) n ≡ Some m → naming_of text.whole n ≡ Some m
  stays_whole n m i inside h =
      let rest : i + (length text.whole - i) ≡ length text.whole = omega arith in
      let kept : naming_of (take (i + (length text.whole - i)) text.whole) n ≡ Some m = stays n m i (length text.whole - i) (omega arith) h in
      ap (λ l. naming_of l n) (sym (take_all (i + (length text.whole - i)) text.whole (omega arith))) ∙ kept

  labelled_below : (n : List ℕ) (i : ℕ) → i ≤ length text.whole → any (labels n) (take i text.whole) ≡ true → IsLabelled (naming_of (take i text.whole)) n
  labelled_below n zero low h = absurd (none (take zero text.whole) (search rules) h)
    where
      none : (l : List Event) → l ≡ [] → any (labels n) l ≡ true → ⊥
      none [] e h = cc
      none (x ∷ xs) e h = cc
  labelled_below n (suc i) low h =
      let e : Event = get_or text.whole i no_event in
      let next : suc i ≡ i + 1 = omega arith in
      let now : any (labels n) (take (i + 1) text.whole) ≡ true = subst (λ j. any (labels n) (take j text.whole) ≡ true) next h in
      let parts : (any (labels n) (take i text.whole) || labels n e)
      ≡ true = sym (any_push (labels n) (take i text.whole) e) ∙ sym (ap (any (labels n)) (more_at i (omega arith)))
      ∙ now in
      subst (λ j. IsLabelled (naming_of (take j text.whole)) n) (sym next)
      (here (any (labels n) (take i text.whole)) refl parts (labelled_below n i (omega arith)))
    where
      here : (b : Bool) → any (labels n) (take i text.whole) ≡ b → (b || labels n (get_or text.whole i no_event)) ≡ true
          → (any (labels n) (take i text.whole) ≡ true → IsLabelled (naming_of (take i text.whole)) n)
          → IsLabelled (naming_of (take (i + 1) text.whole)) n
      here true is h below =
          let b = below is in
          record { number = b.number; stands = stays_once n (Label b.number) i (omega arith) b.stands }
      here false is h below =
          let e : Event = get_or text.whole i no_event in
          let says = label_says n e.note h in
          record {
            number = says.number;
            stands = ap (last_of (meaning_in n)) (more_at i (omega arith))
                ∙ last_push (meaning_in n) (take i text.whole) e
                ∙ ap (λ o. or_else o (naming_of (take i text.whole) n)) says.says;
          }

  pub labelled_whole : (n : List ℕ) → any (labels n) text.whole ≡ true → IsLabelled (naming_of text.whole) n
  labelled_whole n h =
      let all : take (length text.whole) text.whole ≡ text.whole = take_all (length text.whole) text.whole (omega arith) in
      subst (λ l. IsLabelled (naming_of l) n) all (labelled_below n (length text.whole) (omega arith) (ap (any (labels n)) all ∙ h))

  -- a test that a meaning has to pass is passed by what the whole block declares
  pub passes : (test : Option Meaning → Bool) → test None ≡ false → (n : List ℕ) (i : ℕ) → i ≤ length text.whole
      → not (test (naming_of (take i text.whole) n)) ≡ false → test (naming_of text.whole n) ≡ true
  passes test none n i low h = here (naming_of (take i text.whole) n) refl (not-false (test (naming_of (take i text.whole) n)) h)
    where
      here : (o : Option Meaning) → naming_of (take i text.whole) n ≡ o → test (naming_of (take i text.whole) n) ≡ true → test (naming_of text.whole n) ≡ true
      here (Some m) is t = ap test (stays_whole n m i low is) ∙ sym (ap test is) ∙ t
      here None is t = absurd (false≢true (sym none ∙ sym (ap test is) ∙ t))
