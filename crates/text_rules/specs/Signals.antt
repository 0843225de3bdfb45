-- The rules of signals and of names of blocks, each a condition on one event and those before it.
use Rattle.std.specs.Prelude.{◌≡◌, ℕ, Bool, false, ◌||◌, List, [], ◌∷◌, ◌++◌, nat_lt}
use Rattle.std.specs.Str.{bytes_eq}
use Rattle.first_fault.specs.First.{any}
use Rattle.exchange_model.specs.Inside.{joined}
use Rattle.plex_limits.specs.declared.limits.TheConstants.{MOST_VALUES}
use Rattle.text_events.specs.Note.{Event, Note, Signal, Carries, BlockName}
use Rattle.text_rules.specs.declared.rule.SignalRule.{SignalRule}
use Rattle.text_rules.specs.declared.rule.SignalRule.TheVariants.{Once, FewValues}

-- whether an event is that of a signal or an answer of this name, and whether it is that of a block
-- of this name

abbrev pub signal_note : List ℕ → Note → Bool
signal_note n (Signal m) = bytes_eq m n
signal_note n _ = false

abbrev pub names_signal : List ℕ → Event → Bool
names_signal n e = signal_note n e.note

abbrev pub block_note : List ℕ → Note → Bool
block_note n (BlockName m) = bytes_eq m n
block_note n _ = false

abbrev pub names_block : List ℕ → Event → Bool
names_block n e = block_note n e.note

-- what a rule may look at besides its event: the names of signals with their answers, and those of
-- blocks, that stand before
pub record KnownNames : Type 0 where
  pub signal : List ℕ → Bool
  pub block : List ℕ → Bool

abbrev pub known_of : List Event → KnownNames
known_of before = record {
  signal = λ n. any (names_signal n) before;
  block = λ n. any (names_block n) before;
}

-- the parts before and what stands before in the own part
abbrev pub known_in_part : List (List Event) → List Event → List Event → KnownNames
known_in_part done own before = known_of (joined done ++ before)

-- a name that stands before
abbrev pub twice : KnownNames → Note → Bool
twice k (Signal n) = k.signal n
twice k (BlockName n) = k.block n
twice k _ = false

-- more values than a signal may carry
abbrev pub many_values : Note → Bool
many_values (Carries count) = nat_lt MOST_VALUES count
many_values _ = false

abbrev pub broken : SignalRule → KnownNames → Note → Bool
broken Once k note = twice k note
broken FewValues k note = many_values note

abbrev pub number_of : SignalRule → ℕ
number_of Once = 1
number_of FewValues = 16

abbrev pub all_rules : List SignalRule
all_rules = Once ∷ FewValues ∷ []

-- before the first event
pub record KnowsNothing (k : KnownNames) : Type 0 where
  pub signal : (n : List ℕ) → k.signal n ≡ false
  pub block : (n : List ℕ) → k.block n ≡ false

-- after one event more
pub record Sees (k : KnownNames) (note : Note) (l : KnownNames) : Type 0 where
  pub signal : (n : List ℕ) → l.signal n ≡ (k.signal n || signal_note n note)
  pub block : (n : List ℕ) → l.block n ≡ (k.block n || block_note n note)
