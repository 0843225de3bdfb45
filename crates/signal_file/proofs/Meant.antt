-- What a signal line means.
use Rattle.std.proofs.Common.{◌≡◌, ℕ, ◌≤◌, Bool, true, false, List, length, Option, Some, None}
use Rattle.std.proofs.Common.{Result, Ok, Err, refl, sym, ap, ◌∙◌, arith}
use Rattle.std.specs.Prelude.{if◌then◌else◌}
use Rattle.std.proofs.lemmas.List.{take_all}
use Rattle.std.proofs.lemmas.Bool.{eqb-true, leb-true}
use Rattle.plex_limits.specs.declared.limits.TheConstants.{MOST_VALUES}
use Rattle.exchange_model.specs.declared.exchange.Exchange.{Exchange}
use Rattle.signal_file.specs.declared.before.Before.{Before}
use Rattle.signal_file.specs.declared.directory.Directory.{Directory}
use Rattle.signal_file.specs.declared.directory.Signal.{Signal}
use Rattle.signal_file.specs.declared.fault.SignalsFault.{SignalsFault}
use Rattle.signal_file.specs.declared.fault.SignalsRule.{SignalsRule}
use Rattle.signal_file.specs.declared.fault.SignalsRule.TheVariants.{UnknownBlock, UnknownSignal}
use Rattle.signal_file.specs.declared.form.Said.{Said}
use Rattle.signal_file.specs.declared.line.Line.{Line}
use Rattle.signal_file.specs.Form.{IsRead, Saying, said_in}
use Rattle.text_lines.specs.Words.{is_skipped, words}
use Rattle.signal_file.specs.Rules.{IsDirectory, added, and_then, breach, entry_of, has_origin}
use Rattle.signal_file.specs.Rules.{line_of, meaning, next_number, rule_broken, says, signal_of}
use Rattle.signal_file.specs.Rules.{tests, tests_on, told}
use Rattle.signal_file.proofs.Tests.{AllHold, Looked, all_kept, by_block, by_rules, by_signal}
use Rattle.signal_file.proofs.Tests.{none_broken, taken}

-- a signal line as it is looked at
abbrev looked : Exchange → Before → Saying → Looked Line SignalsFault SignalsRule
looked x b s = record {
  fault = λ rule. breach rule (next_number b);
  no_signal = UnknownSignal;
  no_block = UnknownBlock;
  exchange = x;
  signal = s.signal;
  block = s.block;
  tests = λ signal. tests_on b s signal;
  line = λ entry. line_of b s entry;
}

-- ---- what its rules say, one by one

values_right : (b : Before) (s : Saying) (signal : Signal) → AllHold (tests_on b s signal) → length s.values ≡ signal.count
values_right b s signal holds = eqb-true (length s.values) signal.count holds.0

count_right : (b : Before) (s : Saying) (signal : Signal) → AllHold (tests_on b s signal) → b.last ≤ s.after
count_right b s signal holds = leb-true b.last s.after holds.1.0

origin_right : (b : Before) (s : Saying) (signal : Signal) → AllHold (tests_on b s signal) → has_origin b s.kind ≡ true
origin_right b s signal holds = holds.1.1.0

-- ---- as it is read

-- what must hold of a line is that of what it says
same_tests : (b : Before) (signal : Signal) (said : Said) (s : Saying) → IsRead s said → tests b signal said.after said.count said.kind ≡ tests_on b s signal
same_tests b signal said s r = λ i. tests b signal (r.after i) (r.values.counted i) (r.kind i)

-- there is no such signal
pub no_signal : (x : Exchange) (b : Before) (said : Said) (s : Saying) (number : ℕ) → IsRead s said
    → number ≡ next_number b → None ≡ signal_of x said.signal.now → Err (breach UnknownSignal number) ≡ meaning x b s
unfolding meaning
no_signal x b said s number r n none = ap (λ m. Err (breach UnknownSignal m)) n ∙ by_signal (looked x b s) None (none ∙ ap (signal_of x) r.signal)

-- it has no entry at the block
pub no_block : (x : Exchange) (b : Before) (said : Said) (s : Saying) (signal : Signal) (number : ℕ) → IsRead s said
    → number ≡ next_number b → Some signal ≡ signal_of x said.signal.now
    → None ≡ entry_of x signal.number said.block.now → Err (breach UnknownBlock number) ≡ meaning x b s
unfolding meaning
no_block x b said s signal number r n named none =
    ap (λ m. Err (breach UnknownBlock m)) n ∙ by_block (looked x b s) signal None (named ∙ ap (signal_of x) r.signal)
    (none ∙ ap (entry_of x signal.number) r.block)

-- it breaks a rule
pub breaks : (x : Exchange) (b : Before) (said : Said) (s : Saying) (signal : Signal) (entry number : ℕ)
    (rule : SignalsRule) → IsRead s said → number ≡ next_number b → Some signal ≡ signal_of x said.signal.now
    → Some entry ≡ entry_of x signal.number said.block.now
    → Some rule ≡ rule_broken (tests b signal said.after said.count said.kind) → Err (breach rule number) ≡ meaning x b s
unfolding meaning
breaks x b said s signal entry number rule r n named received broken =
    ap (λ m. Err (breach rule m)) n
    ∙ by_rules (looked x b s) signal entry (Some rule) (named ∙ ap (signal_of x) r.signal)
    (received ∙ ap (entry_of x signal.number) r.block)
    (broken ∙ ap (λ ts. rule_broken ts) (same_tests b signal said s r))

-- it keeps all rules
pub right : (x : Exchange) (d : Directory) (b : Before) (said : Said) (s : Saying) (signal : Signal) (entry number : ℕ)
    (values : List ℕ) → IsDirectory x d → IsRead s said → number ≡ next_number b
    → Some signal ≡ signal_of x said.signal.now → Some entry ≡ entry_of x signal.number said.block.now
    → None ≡ rule_broken (tests b signal said.after said.count said.kind) → values ≡ said.values
    → Ok (record { number = number; after = said.after; entry = entry; values = values; kind = said.kind })
    ≡ meaning x b s
unfolding meaning
right x d b said s signal entry number values dir r n named received none copied =
    let few : signal.count ≤ MOST_VALUES = dir.few said.signal.now signal (sym named) in
    let none_said : None ≡ rule_broken (tests_on b s signal) = none ∙ ap (λ ts. rule_broken ts) (same_tests b signal said s r) in
    let as_many : length s.values ≡ signal.count = values_right b s signal (none_broken (tests_on b s signal) (sym none_said)) in
    let all : values ≡ s.values = copied ∙ r.values.first ∙ take_all MOST_VALUES s.values (omega (arith, few, as_many)) in
    (λ i. Ok (record { number = n i; after = r.after i; entry = entry; values = all i; kind = r.kind i }))
    ∙ by_rules (looked x b s) signal entry None (named ∙ ap (signal_of x) r.signal) (received ∙ ap (entry_of x signal.number) r.block) none_said

-- for `search`
pub ruleset line_meant = (no_signal, no_block, breaks, right)

-- ---- as it is meant

-- a line without fault: what its rules say of it, and what it is
pub record IsMeant (x : Exchange) (b : Before) (s : Saying) (l : Line) : Type 0 where
  pub signal : Signal
  pub entry : ℕ
  pub named : signal_of x s.signal ≡ Some signal
  pub received : entry_of x signal.number s.block ≡ Some entry
  pub as_many : length s.values ≡ signal.count
  pub no_less : b.last ≤ s.after
  pub origin : has_origin b s.kind ≡ true
  pub same : line_of b s entry ≡ l

meant : (x : Exchange) (b : Before) (s : Saying) (l : Line) → meaning x b s ≡ Ok l → IsMeant x b s l
unfolding meaning
meant x b s l e =
    let t = taken (looked x b s) l e in
    record {
      signal = t.signal;
      entry = t.entry;
      named = t.named;
      received = t.received;
      as_many = values_right b s t.signal t.holds;
      no_less = count_right b s t.signal t.holds;
      origin = origin_right b s t.signal t.holds;
      same = t.same;
    }

-- a line that names its signal and its block, and keeps its rules, is meant
pub keeps : (x : Exchange) (b : Before) (s : Saying) (signal : Signal) (entry : ℕ) → signal_of x s.signal ≡ Some signal
    → entry_of x signal.number s.block ≡ Some entry → AllHold (tests_on b s signal)
    → meaning x b s ≡ Ok (line_of b s entry)
unfolding meaning
keeps x b s signal entry named received holds = sym
    (by_rules (looked x b s) signal entry None (sym named) (sym received) (sym (all_kept (tests_on b s signal) holds)))

-- ---- what a line adds

-- nothing where it says nothing, else the line that it says
abbrev pub Adds : Exchange → Before → Option Saying → Option Line → Type 0
Adds x b None r = r ≡ None
Adds x b (Some s) r = (l : Line) × (r ≡ Some l) × IsMeant x b s l

adds_line : (x : Exchange) (b : Before) (s : Saying) (m : Result Line SignalsFault) (r : Option Line)
    → m ≡ meaning x b s → and_then m (λ l. Ok (Some l)) ≡ Ok r → Adds x b (Some s) r
adds_line x b s (Ok l) r is e = let same : Some l ≡ r = cc in (l, sym same, meant x b s l (sym is))
adds_line x b s (Err f) r is e = absurd (cc)

adds_that : (x : Exchange) (b : Before) (t : Bool) (o : Option Saying) (r : Option Line)
    → (if t then Ok None else told x b o) ≡ Ok r → Adds x b (if t then None else o) r
adds_that x b true o r e = let same : None ≡ r = cc in sym same
adds_that x b false None r e = absurd (cc)
adds_that x b false (Some s) r e = adds_line x b s (meaning x b s) r refl e

pub adds : (x : Exchange) (b : Before) (line : List ℕ) (r : Option Line) → added x b line ≡ Ok r → Adds x b (says line) r
unfolding added
adds x b line r e = adds_that x b (is_skipped line) (said_in (words line)) r e
