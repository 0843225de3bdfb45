-- The signals of the first declarations.
use Rattle.std.proofs.Common.{◌≡◌, ℕ, ◌+◌, ◌<◌, ◌≤◌, List, [], ◌∷◌, ◌++◌, length, take, get_or, sym}
use Rattle.std.proofs.Common.{◌∙◌, ap, arith, length-append}
use Rattle.std.proofs.Math.Nat.{add-zero, zero-add}
use Rattle.std.proofs.lemmas.List.{append_assoc, append-nil, take_all}
use Rattle.first_fault.proofs.First.{more_events}
use Rattle.exchange_model.specs.declared.signal.SignalKind.{SignalKind}
use Rattle.exchange_model.specs.declared.signal.SignalKind.TheVariants as signal
use Rattle.plex_ast.specs.declared.tree.Signal.{Signal}
use Rattle.signal_types.specs.Signals.{shape_kinds, kinds_of, signals_from}

-- a combined signal and its answer
pub combined_more : (old first new : List SignalKind) (name : List ℕ) (values : ℕ) (answer : List ℕ)
    (answer_values number : ℕ) (x y : SignalKind) → number ≡ length old → x ≡ signal.Combined name values (number + 1)
    → y ≡ signal.Answer answer answer_values number → first ≡ old ++ x ∷ [] → new ≡ first ++ y ∷ []
    → new ≡ old ++ signal.Combined name values (length old + 1) ∷ signal.Answer answer answer_values (length old) ∷ []
combined_more old first new name values answer answer_values number x y n p q a b =
    b ∙ ap (λ l. l ++ y ∷ []) a ∙ append_assoc old (x ∷ []) (y ∷ []) ∙ ap (λ k. old ++ k ∷ y ∷ []) p
    ∙ ap (λ k. old ++ signal.Combined name values (number + 1) ∷ k ∷ []) q
    ∙ ap (λ m. old ++ signal.Combined name values (m + 1) ∷ signal.Answer answer answer_values m ∷ []) n

-- one declaration more takes the next number
signals_push : (number : ℕ) (signals : List Signal) (s : Signal)
    → signals_from number (signals ++ s ∷ []) ≡ signals_from number signals
    ++ kinds_of (number + length (signals_from number signals)) s
unfolding signals_from
signals_push number [] s = append-nil (kinds_of number s) ∙ ap (λ n. kinds_of n s) (sym (add-zero number))
signals_push number (t ∷ rest) s =
    let own = kinds_of number t in
    let after = signals_from (number + length own) rest in
    ap (λ l. own ++ l) (signals_push (number + length own) rest s) ∙ sym (append_assoc own after (kinds_of (number + length own + length after) s))
    ∙ ap (λ n. (own ++ after) ++ kinds_of n s) (counted number (length own) (length after) (length (own ++ after)) (length-append own after))
  where
    counted : (n a b c : ℕ) → c ≡ a + b → n + a + b ≡ n + c
    counted n a b c e = omega arith

-- the list has the signals of the first declarations
pub record Listed (signals : List Signal) (i : ℕ) (list : List SignalKind) : Type 0 where
  pub same : list ≡ signals_from 0 (take i signals)

pub kinds_begin : (signals : List Signal) (list : List SignalKind) → list ≡ [] → Listed signals 0 list
unfolding signals_from
kinds_begin signals list none = record { same = none }

pub kinds_step : (signals : List Signal) (i : ℕ) (s : Signal) (old new : List SignalKind) → i < length signals
    → s ≡ get_or signals i s → new ≡ old ++ shape_kinds (length old) s.name.name s.shape.kind → Listed signals i old
    → Listed signals (i + 1) new
kinds_step signals i s old new inside is e g = record {
  same = e ∙ ap (λ l. l ++ kinds_of (length l) s) g.same
      ∙ ap (λ n. signals_from 0 (take i signals) ++ kinds_of n s)
      (sym (zero-add (length (signals_from 0 (take i signals))))) ∙ sym (signals_push 0 (take i signals) s)
      ∙ ap (signals_from 0) (sym (more_events signals i s inside is));
}

pub kinds_end : (signals : List Signal) (i : ℕ) (list : List SignalKind) → length signals ≤ i → Listed signals i list → list ≡ signals_from 0 signals
kinds_end signals i list past g = g.same ∙ ap (signals_from 0) (take_all i signals past)
