-- What is known in a block after one event more, and its labels.
use Rattle.std.proofs.Common.{◌≡◌, ℕ, ◌+◌, ◌<◌, ◌≤◌, Bool, true, false, cond, ◌||◌, inl, inr, List}
use Rattle.std.proofs.Common.{[], ◌∷◌, ◌++◌, length, take, get_or, Option, Some, None, refl, sym}
use Rattle.std.proofs.Common.{◌∙◌, ap, rules}
use Rattle.std.specs.Prelude.{if◌then◌else◌, is_some}
use Rattle.std.specs.Str.{bytes_eq}
use mathlib.Core.Path.{fun_ext}
use Rattle.std.proofs.lemmas.List.{take_all}
use Rattle.first_fault.specs.First.{any, or_else}
use Rattle.first_fault.specs.Told.{Among, Rising, HasAll}
use Rattle.first_fault.proofs.First.{any_push, count_push, last_push, more_events}
use Rattle.exchange_model.specs.declared.signal.SignalKind.{SignalKind}
use Rattle.plex_ast.specs.declared.block.Block.{Block}
use Rattle.signal_types.specs.Found.{number_in, kind_in}
use Rattle.text_events.specs.declared.role.Meaning.{Meaning}
use Rattle.text_events.specs.Note.{Event, Note, Declares}
use Rattle.text_events.specs.Named.{meaning_of_note, meaning_in}
use Rattle.text_rules.specs.declared.rule.BlockRule.{BlockRule}
use Rattle.text_rules.specs.declared.rule.BlockRule.TheVariants as rule
use Rattle.text_rules.specs.Surveys.{block_named}
use Rattle.text_rules.specs.Blocks.{labels, labels_note, counts_for, chooses, KnownInBlock}
use Rattle.text_rules.specs.Blocks.{known_of, number_of, all_rules, KnowsNothing, Sees}

among_all : (q : BlockRule) → Among q all_rules
among_all rule.DeclaredTwice = inl refl
among_all rule.Width = inr (inl refl)
among_all rule.Init = inr (inr (inl refl))
among_all rule.Size = inr (inr (inr (inl refl)))
among_all rule.Temporaries = inr (inr (inr (inr (inl refl))))
among_all rule.WrongName = inr (inr (inr (inr (inr (inl refl)))))
among_all rule.NoLabel = inr (inr (inr (inr (inr (inr (inl refl))))))
among_all rule.NotSearched = inr (inr (inr (inr (inr (inr (inr (inl refl)))))))
among_all rule.NotHeld = inr (inr (inr (inr (inr (inr (inr (inr (inl refl))))))))
among_all rule.WrongSignal = inr (inr (inr (inr (inr (inr (inr (inr (inr (inl refl)))))))))
among_all rule.WrongCount = inr (inr (inr (inr (inr (inr (inr (inr (inr (inr (inl refl))))))))))
among_all rule.Apart = inr (inr (inr (inr (inr (inr (inr (inr (inr (inr (inr (inl refl)))))))))))
among_all rule.Operands = inr (inr (inr (inr (inr (inr (inr (inr (inr (inr (inr (inr (inl refl))))))))))))
among_all rule.WrongFresh = inr (inr (inr (inr (inr (inr (inr (inr (inr (inr (inr (inr (inr (inl refl)))))))))))))
among_all rule.ChosenTwice = inr (inr (inr (inr (inr (inr (inr (inr (inr (inr (inr (inr (inr (inr (inl refl))))))))))))))
among_all rule.NoBlock = inr (inr (inr (inr (inr (inr (inr (inr (inr (inr (inr (inr (inr (inr (inr (inl refl)))))))))))))))

rising_all : Rising number_of all_rules
rising_all = search rules depth 24

pub every_rule : HasAll number_of all_rules
every_rule = record { all = among_all; rising = rising_all }

pub see_declared : (n m : List ℕ) (meaning : Meaning) (note : Note) (old new : Option Meaning)
    → note ≡ Declares m meaning → new ≡ cond (bytes_eq m n) (Some meaning) old
    → new ≡ or_else (meaning_of_note n note) old
see_declared n m meaning note old new is h = rw is (h ∙ choice (bytes_eq m n))
  where
    choice : (b : Bool) → cond b (Some meaning) old ≡ or_else (if b then Some meaning else None) old
    choice true = refl
    choice false = refl

-- the labels of the first events
pub record Labelled (events : List Event) (i : ℕ) (has : List ℕ → Bool) : Type 0 where
  pub same : (n : List ℕ) → has n ≡ any (labels n) (take i events)

pub labels_begin : (events : List Event) (has : List ℕ → Bool) → ((n : List ℕ) → has n ≡ false) → Labelled events 0 has
labels_begin events has none = record { same = none }

pub labels_step : (events : List Event) (i : ℕ) (e : Event) (note : Note) (old new : List ℕ → Bool) → i < length events
    → e ≡ get_or events i e → note ≡ e.note → ((n : List ℕ) → new n ≡ (old n || labels_note n note))
    → Labelled events i old → Labelled events (i + 1) new
labels_step events i e note old new inside is at more g = record {
  same = λ n. more n ∙ ap (λ m. old n || labels_note n m) at ∙ ap (λ a. a || labels n e) (g.same n)
      ∙ sym (any_push (labels n) (take i events) e) ∙ ap (any (labels n)) (sym (more_events events i e inside is));
}

pub labels_end : (events : List Event) (i : ℕ) (has : List ℕ → Bool) → length events ≤ i → Labelled events i has → (n : List ℕ) → has n ≡ any (labels n) events
labels_end events i has past g n = g.same n ∙ ap (any (labels n)) (take_all i events past)

-- what is known

known_is : (k : KnownInBlock) {d : List ℕ → Option Meaning} {c : ℕ → ℕ} {x : ℕ → ℕ → Bool} {b : List ℕ → Bool}
    {g : List ℕ → Option ℕ} {w : List ℕ → Option SignalKind} {o : List ℕ → Bool} → k.declared ≡ d → k.counted ≡ c
    → k.chosen ≡ x → k.label ≡ b → k.number ≡ g → k.kind ≡ w → k.block ≡ o
    → k ≡ record { declared = d; counted = c; chosen = x; label = b; number = g; kind = w; block = o }
known_is k pd pc px pb pg pw po = λ i. record { declared = pd i; counted = pc i; chosen = px i; label = pb i; number = pg i; kind = pw i; block = po i }

module _ (signals : List SignalKind) (blocks : List Block) (own : List Event) where
  pub known_nothing : (k : KnownInBlock) → KnowsNothing k → ((n : List ℕ) → k.label n ≡ any (labels n) own)
      → k.number ≡ number_in signals → k.kind ≡ kind_in signals → k.block ≡ (λ n. is_some (block_named blocks n))
      → k ≡ known_of signals blocks own []
  known_nothing k h l s a o = known_is k (fun_ext λ n. h.declared n) (fun_ext λ o. h.counted o) (fun_ext λ o. fun_ext λ n. h.chosen o n) (fun_ext l) s a o

  pub known_more : (k l : KnownInBlock) (before : List Event) (e : Event) → k ≡ known_of signals blocks own before
      → Sees k e.note l → l ≡ known_of signals blocks own (before ++ e ∷ [])
  known_more k l before e t s = known_is l
      (fun_ext λ n. s.declared n ∙ ap (λ a. or_else (meaning_in n e) (a.declared n)) t ∙ sym (last_push (meaning_in n) before e))
      (fun_ext λ o. s.counted o ∙ ap (λ a. a.counted o + (if counts_for o e then 1 else 0)) t ∙ sym (count_push (counts_for o) before e))
      (fun_ext λ o. fun_ext λ n. s.chosen o n ∙ ap (λ a. a.chosen o n || chooses o n e) t ∙ sym (any_push (chooses o n) before e))
      (s.label ∙ ap (λ a. a.label) t)
      (s.number ∙ ap (λ a. a.number) t)
      (s.kind ∙ ap (λ a. a.kind) t)
      (s.block ∙ ap (λ a. a.block) t)
