-- What a line of a table means.
use Rattle.std.proofs.Common.{◌≡◌, ℕ, ◌+◌, ◌<◌, ◌≤◌, ◌^◌, ◌&&◌, true, List, length, Some, None, Ok}
use Rattle.std.proofs.Common.{Err, refl, sym, ap, subst, ◌∙◌, arith}
use Rattle.std.specs.Prelude.{nat_lt}
use Rattle.std.proofs.lemmas.List.{take_all}
use Rattle.std.proofs.lemmas.Bool.{and_parts, eqb-true, leb-true, ltb-true}
use Rattle.plex_limits.specs.declared.limits.TheConstants.{MOST_VALUES}
use Rattle.exchange_model.specs.declared.exchange.Exchange.{Exchange}
use Rattle.signal_file.specs.declared.directory.Directory.{Directory}
use Rattle.signal_file.specs.declared.directory.Signal.{Signal}
use Rattle.signal_file.specs.Rules.{IsDirectory, entry_of, rule_broken, signal_of}
use Rattle.signal_file.proofs.Tests.{AllHold, Looked, by_block, by_rules, by_signal, none_broken}
use Rattle.signal_file.proofs.Tests.{taken}
use Rattle.job_table.specs.declared.fault.TableFault.{TableFault}
use Rattle.job_table.specs.declared.fault.TableRule.{TableRule}
use Rattle.job_table.specs.declared.fault.TableRule.TheVariants.{UnknownBlock, UnknownSignal}
use Rattle.job_table.specs.declared.form.Said.{Said}
use Rattle.job_table.specs.declared.meaning.Before.{Before}
use Rattle.job_table.specs.declared.period.Period.{Period}
use Rattle.job_table.specs.declared.period.TheConstants.{MOST_LINES}
use Rattle.job_table.specs.Form.{IsRead, Saying}
use Rattle.job_table.specs.Rules.{breach, is_in_range, last_count, meaning, period_of, tests}
use Rattle.job_table.specs.Rules.{tests_on}

-- a line of a table as it is looked at
abbrev looked : Exchange → Before → Saying → Looked Period TableFault TableRule
looked x b s = record {
  fault = λ rule. breach rule (b.lines + 1);
  no_signal = UnknownSignal;
  no_block = UnknownBlock;
  exchange = x;
  signal = s.signal;
  block = s.block;
  tests = λ signal. tests_on b s signal;
  line = λ entry. period_of b s entry;
}

-- ---- what its rules say, one by one

values_right : (b : Before) (s : Saying) (signal : Signal) → AllHold (tests_on b s signal) → length s.values ≡ signal.count
values_right b s signal holds = eqb-true (length s.values) signal.count holds.0

range_small : (every from times : ℕ) → is_in_range every from times ≡ true → last_count every from times < 2 ^ 32
range_small every from times is =
    let more = and_parts (nat_lt 0 every) (nat_lt 0 times && nat_lt (last_count every from times) (2 ^ 32)) is in
    let last = and_parts (nat_lt 0 times) (nat_lt (last_count every from times) (2 ^ 32)) more.1 in
    ltb-true (last_count every from times) (2 ^ 32) last.1

range_right : (b : Before) (s : Saying) (signal : Signal) → AllHold (tests_on b s signal) → last_count s.every s.from s.times < 2 ^ 32
range_right b s signal holds = range_small s.every s.from s.times holds.1.0

number_right : (b : Before) (s : Saying) (signal : Signal) → AllHold (tests_on b s signal) → b.signals + s.times ≤ MOST_LINES
number_right b s signal holds = leb-true (b.signals + s.times) MOST_LINES holds.1.1.0

-- ---- as it is read

-- what must hold of a line is that of what it says
same_tests : (b : Before) (signal : Signal) (said : Said) (s : Saying) → IsRead s said
    → tests b signal said.count said.every said.from said.times ≡ tests_on b s signal
same_tests b signal said s r = λ i. tests b signal (r.values.counted i) (r.every i) (r.from i) (r.times i)

-- there is no such signal
pub no_signal : (x : Exchange) (b : Before) (said : Said) (s : Saying) → IsRead s said
    → None ≡ signal_of x said.signal.now → Err (breach UnknownSignal (b.lines + 1)) ≡ meaning x b s
unfolding meaning
no_signal x b said s r none = by_signal (looked x b s) None (none ∙ ap (signal_of x) r.signal)

-- it has no entry at the block
pub no_block : (x : Exchange) (b : Before) (said : Said) (s : Saying) (signal : Signal) → IsRead s said
    → Some signal ≡ signal_of x said.signal.now → None ≡ entry_of x signal.number said.block.now
    → Err (breach UnknownBlock (b.lines + 1)) ≡ meaning x b s
unfolding meaning
no_block x b said s signal r named none = by_block (looked x b s) signal None (named ∙ ap (signal_of x) r.signal) (none ∙ ap (entry_of x signal.number) r.block)

-- it breaks a rule
pub breaks : (x : Exchange) (b : Before) (said : Said) (s : Saying) (signal : Signal) (entry : ℕ) (rule : TableRule)
    → IsRead s said → Some signal ≡ signal_of x said.signal.now → Some entry ≡ entry_of x signal.number said.block.now
    → Some rule ≡ rule_broken (tests b signal said.count said.every said.from said.times) → Err (breach rule (b.lines + 1)) ≡ meaning x b s
unfolding meaning
breaks x b said s signal entry rule r named received broken =
    by_rules (looked x b s) signal entry (Some rule) (named ∙ ap (signal_of x) r.signal)
    (received ∙ ap (entry_of x signal.number) r.block)
    (broken ∙ ap (λ ts. rule_broken ts) (same_tests b signal said s r))

-- it keeps all rules
pub right : (x : Exchange) (d : Directory) (b : Before) (said : Said) (s : Saying) (signal : Signal) (entry : ℕ)
    (values : List ℕ) → IsDirectory x d → IsRead s said → Some signal ≡ signal_of x said.signal.now
    → Some entry ≡ entry_of x signal.number said.block.now
    → None ≡ rule_broken (tests b signal said.count said.every said.from said.times) → values ≡ said.values
    → Ok (record {
      number = b.lines + 1;
      every = said.every;
      from = said.from;
      times = said.times;
      entry = entry;
      values = values;
      fresh = said.fresh;
    }) ≡ meaning x b s
unfolding meaning
right x d b said s signal entry values dir r named received none copied =
    let few : signal.count ≤ MOST_VALUES = dir.few said.signal.now signal (sym named) in
    let none_said : None ≡ rule_broken (tests_on b s signal) = none ∙ ap (λ ts. rule_broken ts) (same_tests b signal said s r) in
    let as_many : length s.values ≡ signal.count = values_right b s signal (none_broken (tests_on b s signal) (sym none_said)) in
    let all : values ≡ s.values = copied ∙ r.values.first ∙ take_all MOST_VALUES s.values (omega (arith, few, as_many)) in
    (λ i. Ok (record { number = b.lines + 1; every = r.every i; from = r.from i; times = r.times i; entry = entry; values = all i; fresh = r.fresh i }))
    ∙ by_rules (looked x b s) signal entry None (named ∙ ap (signal_of x) r.signal) (received ∙ ap (entry_of x signal.number) r.block) none_said

-- for `search`
pub ruleset line_meant = (no_signal, no_block, breaks, right)

-- ---- as it is meant

-- the period that a line says, behind those before
pub record IsMeant (x : Exchange) (b : Before) (s : Saying) (p : Period) : Type 0 where
  pub signal : Signal
  pub named : signal_of x s.signal ≡ Some signal
  pub received : entry_of x signal.number s.block ≡ Some p.entry
  pub values : p.values ≡ s.values
  pub as_many : length s.values ≡ signal.count
  pub in_range : last_count p.every p.from p.times < 2 ^ 32
  pub few : b.signals + p.times ≤ MOST_LINES

pub meant : (x : Exchange) (b : Before) (s : Saying) (p : Period) → meaning x b s ≡ Ok p → IsMeant x b s p
unfolding meaning
meant x b s p e =
    let t = taken (looked x b s) p e in
    subst (IsMeant x b s) t.same (record {
      signal = t.signal;
      named = t.named;
      received = t.received;
      values = refl;
      as_many = values_right b s t.signal t.holds;
      in_range = range_right b s t.signal t.holds;
      few = number_right b s t.signal t.holds;
    })
