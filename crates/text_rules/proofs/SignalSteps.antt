-- What is known of the names of signals and of blocks after one event more.
use Rattle.std.proofs.Common.{◌≡◌, ℕ, ◌||◌, inl, inr, List, [], ◌∷◌, ◌++◌, refl, sym, ◌∙◌, ap}
use Rattle.std.proofs.Common.{rules}
use mathlib.Core.Path.{fun_ext}
use Rattle.first_fault.specs.Told.{Among, Rising, HasAll}
use Rattle.first_fault.proofs.First.{any_push}
use Rattle.text_events.specs.Note.{Event}
use Rattle.text_rules.specs.declared.rule.SignalRule.{SignalRule}
use Rattle.text_rules.specs.declared.rule.SignalRule.TheVariants as rule
use Rattle.text_rules.specs.Signals.{KnownNames, known_of, names_signal, names_block, signal_note}
use Rattle.text_rules.specs.Signals.{block_note, number_of, all_rules, KnowsNothing, Sees}

among_all : (q : SignalRule) → Among q all_rules
among_all rule.Once = inl refl
among_all rule.FewValues = inr (inl refl)

rising_all : Rising number_of all_rules
rising_all = search rules depth 8

pub every_rule : HasAll number_of all_rules
every_rule = record { all = among_all; rising = rising_all }

known_is : (k l : KnownNames) → ((n : List ℕ) → k.signal n ≡ l.signal n) → ((n : List ℕ) → k.block n ≡ l.block n) → k ≡ l
known_is k l s b = λ i. record { signal = fun_ext s i; block = fun_ext b i }

pub known_nothing : (k : KnownNames) → KnowsNothing k → k ≡ known_of []
known_nothing k h = known_is k (known_of []) h.signal h.block

pub known_more : (k l : KnownNames) (before : List Event) (e : Event) → k ≡ known_of before → Sees k e.note l → l ≡ known_of (before ++ e ∷ [])
known_more k l before e t s = known_is l (known_of (before ++ e ∷ []))
    (λ n. s.signal n ∙ ap (λ a. a.signal n || signal_note n e.note) t ∙ sym (any_push (names_signal n) before e))
    (λ n. s.block n ∙ ap (λ a. a.block n || block_note n e.note) t ∙ sym (any_push (names_block n) before e))
