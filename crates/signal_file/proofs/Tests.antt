-- What is known of a line that names a signal and a block, and of its rules.
use Rattle.std.proofs.Common.{◌≡◌, ℕ, Bool, true, false, List, [], ◌∷◌, Option, Some, None, Result}
use Rattle.std.proofs.Common.{Ok, refl, ap, ◌∙◌}
use Rattle.std.specs.Prelude.{if◌then◌else◌}
use Rattle.exchange_model.specs.declared.exchange.Exchange.{Exchange}
use Rattle.signal_file.specs.declared.directory.Signal.{Signal}
use Rattle.signal_file.specs.Rules.{entry_of, need, rule_broken, signal_of, unless}

-- ---- rules in a row

-- each rule is kept
abbrev pub AllHold : {R : Type 0} → List (R × Bool) → Type 0
AllHold [] = Unit {0}
AllHold (test ∷ rest) = (test.1 ≡ true) × AllHold rest

kept_here : {R : Type 0} (rule : R) (holds : Bool) (rest : List (R × Bool)) → (rule_broken rest ≡ None → AllHold rest)
    → (if holds then rule_broken rest else Some rule) ≡ None → (holds ≡ true) × AllHold rest
kept_here rule true rest later e = (refl, later e)
kept_here rule false rest later e = absurd (cc)

pub none_broken : {R : Type 0} (tests : List (R × Bool)) → rule_broken tests ≡ None → AllHold tests
none_broken [] e = tt
none_broken (test ∷ rest) e = kept_here test.0 test.1 rest (λ none. none_broken rest none) e

pub all_kept : {R : Type 0} (tests : List (R × Bool)) → AllHold tests → rule_broken tests ≡ None
all_kept [] all = refl
all_kept (test ∷ rest) all = ap (λ b. if b then rule_broken rest else Some test.0) all.0 ∙ all_kept rest all.1

-- ---- a line as it is looked at

-- the fault of a rule that it breaks, first of all for want of the signal and of the block; their
-- names, the rules that come then, and what the line is, by its entry, where it keeps them
pub record Looked (A F R : Type 0) : Type 0 where
  pub fault : R → F
  pub no_signal : R
  pub no_block : R
  pub exchange : Exchange
  pub signal : List ℕ
  pub block : List ℕ
  pub tests : Signal → List (R × Bool)
  pub line : ℕ → A

-- what the line is, or its first fault

abbrev pub at_block : {A F R : Type 0} → Looked A F R → Signal → ℕ → Result A F
at_block l signal entry = unless l.fault (rule_broken (l.tests signal)) (l.line entry)

abbrev pub at_signal : {A F R : Type 0} → Looked A F R → Signal → Result A F
at_signal l signal = need (l.fault l.no_block) (entry_of l.exchange signal.number l.block) (λ entry. at_block l signal entry)

abbrev pub judged : {A F R : Type 0} → Looked A F R → Result A F
judged l = need (l.fault l.no_signal) (signal_of l.exchange l.signal) (λ signal. at_signal l signal)

-- what decides

pub by_signal : {A F R : Type 0} (l : Looked A F R) (o : Option Signal) → o ≡ signal_of l.exchange l.signal
    → need (l.fault l.no_signal) o (λ signal. at_signal l signal) ≡ judged l
by_signal l o is = ap (λ p. need (l.fault l.no_signal) p (λ signal. at_signal l signal)) is

pub by_block : {A F R : Type 0} (l : Looked A F R) (signal : Signal) (o : Option ℕ)
    → Some signal ≡ signal_of l.exchange l.signal → o ≡ entry_of l.exchange signal.number l.block
    → need (l.fault l.no_block) o (λ entry. at_block l signal entry) ≡ judged l
by_block l signal o named is = ap (λ p. need (l.fault l.no_block) p (λ entry. at_block l signal entry)) is ∙ by_signal l (Some signal) named

pub by_rules : {A F R : Type 0} (l : Looked A F R) (signal : Signal) (entry : ℕ) (o : Option R)
    → Some signal ≡ signal_of l.exchange l.signal → Some entry ≡ entry_of l.exchange signal.number l.block
    → o ≡ rule_broken (l.tests signal) → unless l.fault o (l.line entry) ≡ judged l
by_rules l signal entry o named received is = ap (λ p. unless l.fault p (l.line entry)) is ∙ by_block l signal (Some entry) named received

-- ---- a line without fault

-- its signal and its block are there, and it keeps each rule
pub record IsTaken {A F R : Type 0} (l : Looked A F R) (line : A) : Type 0 where
  pub signal : Signal
  pub entry : ℕ
  pub named : signal_of l.exchange l.signal ≡ Some signal
  pub received : entry_of l.exchange signal.number l.block ≡ Some entry
  pub holds : AllHold (l.tests signal)
  pub same : l.line entry ≡ line

needed : {A B F : Type 0} (f : F) (o : Option A) (go : A → Result B F) (b : B) → need f o go ≡ Ok b → (a : A) × (o ≡ Some a) × (go a ≡ Ok b)
needed f None go b e = absurd (cc)
needed f (Some a) go b e = (a, refl, e)

kept : {A F R : Type 0} (fault : R → F) (o : Option R) (a b : A) → unless fault o a ≡ Ok b → (o ≡ None) × (a ≡ b)
kept fault None a b e = let same : a ≡ b = cc in (refl, same)
kept fault (Some rule) a b e = absurd (cc)

pub taken : {A F R : Type 0} (l : Looked A F R) (line : A) → judged l ≡ Ok line → IsTaken l line
taken l line e =
    let signal = needed (l.fault l.no_signal) (signal_of l.exchange l.signal) (λ (q : Signal). at_signal l q) line e in
    let entry = needed (l.fault l.no_block) (entry_of l.exchange signal.0.number l.block) (λ i. at_block l signal.0 i) line signal.2 in
    let none = kept l.fault (rule_broken (l.tests signal.0)) (l.line entry.0) line entry.2 in
    record { signal = signal.0; entry = entry.0; named = signal.1; received = entry.1; holds = none_broken (l.tests signal.0) none.0; same = none.1 }
