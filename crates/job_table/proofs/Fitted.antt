-- What is known of each period of a table.
use Rattle.std.proofs.Common.{◌≡◌, ℕ, ◌+◌, ◌<◌, ◌^◌, Bool, List, [], ◌∷◌, length, sum_by, Option}
use Rattle.std.proofs.Common.{Some, None, Ok, refl, sym, ap, subst, ◌∙◌, arith}
use Rattle.std.specs.List.{AllByRecursion, cons_option}
use Rattle.std.specs.Str.Lines.{lines}
use Rattle.std.proofs.lemmas.List.Sums.{sum_by-cons}
use Rattle.std.proofs.lemmas.Option.{same_Some}
use Rattle.std.specs.Prelude.{codes}
use Rattle.exchange_model.specs.declared.exchange.Exchange.{Exchange}
use Rattle.signal_file.specs.declared.line.Line.{Line}
use Rattle.signal_file.specs.Form.{Closing, closing, with}
use Rattle.text_lines.specs.Words.{words}
use Rattle.source_meaning.specs.Valid.{IsWord, entry_count}
use Rattle.run_books.proofs.Fitting.{closing_words, entry_there, went}
use Rattle.job_table.specs.declared.meaning.Before.{Before}
use Rattle.job_table.specs.declared.period.Period.{Period}
use Rattle.job_table.specs.Form.{Numbered, Saying, fresh_of, numbered, said_in, signal_in}
use Rattle.job_table.specs.Merged.{IsInRange, line_count}
use Rattle.signal_file.specs.Rules.{and_then}
use Rattle.signal_file.proofs.Behind.{ok_first}
use Rattle.job_table.specs.Rules.{added, behind, signals_in}
use Rattle.job_table.specs.Table.{periods_behind, table_periods}
use Rattle.job_table.proofs.Meant.{IsMeant}
use Rattle.job_table.proofs.Told.{Adds, says, skips, added_few, adds}

-- the values of a line are numbers of 32 bits

said_values : (every from times : ℕ) (signal block : List ℕ) (o : Option Closing) (s : Saying) → ((c : Closing) → o ≡ Some c → AllByRecursion IsWord c.values)
    → with o (λ c. with (fresh_of c.kind) (λ fresh. Some
    (record {
      every = every;
      from = from;
      times = times;
      signal = signal;
      block = block;
      values = c.values;
      fresh = fresh;
    }))) ≡ Some s → AllByRecursion IsWord s.values
said_values every from times signal block None s all e = absurd (cc)
said_values every from times signal block (Some c) s all e = drawn (fresh_of c.kind) e
  where
    drawn : (o : Option Bool) → with o (λ fresh. Some
        (record {
          every = every;
          from = from;
          times = times;
          signal = signal;
          block = block;
          values = c.values;
          fresh = fresh;
        })) ≡ Some s → AllByRecursion IsWord s.values
    drawn None e = absurd (cc)
    drawn (Some fresh) e = subst (λ (q : Saying). AllByRecursion IsWord q.values) (same_Some _ s e) (all c refl)

signal_values : (every from times : ℕ) (ws : List (List ℕ)) (s : Saying) → signal_in every from times ws ≡ Some s → AllByRecursion IsWord s.values
signal_values every from times [] s e = absurd (cc)
signal_values every from times (signal ∷ []) s e = absurd (cc)
signal_values every from times (signal ∷ block ∷ rest) s e = said_values every from times signal block (closing rest) s (λ c is. closing_words rest c is) e

line_words : (line : List ℕ) (s : Saying) → said_in (words line) ≡ Some s → AllByRecursion IsWord s.values
unfolding said_in
line_words line s e =
    let from_of : Numbered → Numbered → Option Saying = λ every from. with (numbered (codes "TIMES") from.rest)
    (λ times. signal_in every.number from.number times.number times.rest) in
    let every = went (numbered (codes "EVERY") (words line)) (λ every. with (numbered (codes "FROM") every.rest) (from_of every)) s e in
    let from = went (numbered (codes "FROM") every.0.rest) (from_of every.0) s every.1 in
    let times = went (numbered (codes "TIMES") from.0.rest) (λ times. signal_in every.0.number from.0.number times.number times.rest) s from.1 in
    signal_values every.0.number from.0.number times.0.number times.0.rest s times.1

-- a period fits an exchange
pub record PeriodFits (x : Exchange) (p : Period) : Type 0 where
  pub in_range : IsInRange p
  pub entry : p.entry < length x.entries
  pub values : length p.values ≡ entry_count x p.entry
  pub words : AllByRecursion IsWord p.values

meant_fits : (x : Exchange) (b : Before) (s : Saying) (p : Period) → AllByRecursion IsWord s.values → IsMeant x b s p → PeriodFits x p
meant_fits x b s p all m =
    let there = entry_there x m.signal s.signal s.block p.entry m.named m.received in
    record {
      in_range = m.in_range;
      entry = there.0;
      values = ap length m.values ∙ m.as_many ∙ sym there.1;
      words = subst (AllByRecursion IsWord) (sym m.values) all;
    }

joined : {x : Exchange} {b : Before} {line : List ℕ} {first : Option Period} (ps : List Period) → Adds x b line first
    → AllByRecursion (PeriodFits x) ps → AllByRecursion (PeriodFits x) (cons_option first ps)
joined ps skips all = all
joined {x = x} {b = b} {line = line} ps (says s p said m) all = (meant_fits x b s p (line_words line s said) m, all)

periods_behind_fit : (x : Exchange) (b : Before) (rest : List (List ℕ)) (list : List Period)
    → periods_behind x b rest ≡ Ok list → AllByRecursion (PeriodFits x) list
unfolding periods_behind
periods_behind_fit x b [] list e = let same : [] ≡ list = cc in subst (AllByRecursion (PeriodFits x)) same tt
periods_behind_fit x b (line ∷ rest) list e =
    let here = ok_first (added x b line) (λ first. and_then (periods_behind x (behind b first) rest) (λ ps. Ok (cons_option first ps))) list e in
    let more = ok_first (periods_behind x (behind b here.0) rest) (λ ps. Ok (cons_option here.0 ps)) list here.2 in
    let told_all : Ok (cons_option here.0 more.0) ≡ Ok list = more.2 in
    let same : cons_option here.0 more.0 ≡ list = cc in
    subst (AllByRecursion (PeriodFits x)) same (joined more.0 (adds x b line here.0 here.1) (periods_behind_fit x (behind b here.0) rest more.0 more.1))

abbrev pub times_in : List Period → ℕ
times_in periods = sum_by (λ (p : Period). p.times) periods

pub times_joined : (first : Option Period) (ps : List Period) → times_in (cons_option first ps) ≡ signals_in first + times_in ps
times_joined None ps = omega arith
times_joined (Some p) ps = sum_by-cons (λ (q : Period). q.times) p ps

periods_behind_few : (x : Exchange) (b : Before) (rest : List (List ℕ)) (list : List Period)
    → periods_behind x b rest ≡ Ok list → b.signals < 2 ^ 32 → b.signals + times_in list < 2 ^ 32
unfolding periods_behind
periods_behind_few x b [] list e small = let same : [] ≡ list = cc in subst (λ (ps : List Period). b.signals + times_in ps < 2 ^ 32) same (omega (arith, small))
periods_behind_few x b (line ∷ rest) list e small =
    let here = ok_first (added x b line) (λ first. and_then (periods_behind x (behind b first) rest) (λ ps. Ok (cons_option first ps))) list e in
    let more = ok_first (periods_behind x (behind b here.0) rest) (λ ps. Ok (cons_option here.0 ps)) list here.2 in
    let told_all : Ok (cons_option here.0 more.0) ≡ Ok list = more.2 in
    let same : cons_option here.0 more.0 ≡ list = cc in
    let later = periods_behind_few x (behind b here.0) rest more.0 more.1 (added_few x b line here.0 here.1 small) in
    let times = times_joined here.0 more.0 in
    subst (λ (ps : List Period). b.signals + times_in ps < 2 ^ 32) same (omega (arith, later, times))

pub periods_fit : (x : Exchange) (signals : ℕ) (text : List ℕ) (list : List Period)
    → table_periods x signals text ≡ Ok list → AllByRecursion (PeriodFits x) list
periods_fit x signals text list e = periods_behind_fit x (record { lines = 0; signals = signals }) (lines text) list e

ranges_from : (x : Exchange) (list : List Period) → AllByRecursion (PeriodFits x) list → AllByRecursion IsInRange list
ranges_from x [] all = tt
ranges_from x (p ∷ list) all = (all.0.in_range, ranges_from x list all.1)

-- the periods of a table can be merged

pub table_ranges : (x : Exchange) (signals : ℕ) (text : List ℕ) (list : List Period) → Ok list ≡ table_periods x signals text → AllByRecursion IsInRange list
table_ranges x signals text list e = ranges_from x list (periods_fit x signals text list (sym e))

pub table_few : (x : Exchange) (lines_before : List Line) (text : List ℕ) (list : List Period)
    → Ok list ≡ table_periods x (length lines_before) text → length lines_before < 2 ^ 32
    → line_count lines_before list < 2 ^ 32
table_few x lines_before text list e small = periods_behind_few x (record { lines = 0; signals = length lines_before }) (lines text) list (sym e) small

-- for `search`
pub ruleset table_fits = (table_ranges, table_few)
