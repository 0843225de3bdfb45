-- The lines of a table, one after the other.
use Rattle.std.proofs.Common.{◌≡◌, ℕ, ◌+◌, ◌<◌, ◌≤◌, ◌^◌, List, [], ◌∷◌, ◌++◌, length, Option, Some}
use Rattle.std.proofs.Common.{None, Result, Ok, Err, refl, sym, ap, ◌∙◌, append_assoc, append-nil}
use Rattle.std.proofs.Common.{arith}
use Rattle.std.specs.List.{cons_option}
use Rattle.std.specs.Option.{option_to_list}
use Rattle.std.specs.Str.Lines.{lines}
use Rattle.exchange_model.specs.declared.exchange.Exchange.{Exchange}
use Rattle.job_table.specs.declared.fault.TableFault.{TableFault}
use Rattle.job_table.specs.declared.meaning.Before.{Before}
use Rattle.job_table.specs.declared.period.Period.{Period}
use Rattle.signal_file.specs.Rules.{and_then}
use Rattle.job_table.specs.Rules.{added, behind}
use Rattle.job_table.specs.Table.{periods_behind, table_periods}
use Rattle.job_table.proofs.Told.{added_few}

-- the periods so far, in front of the others
abbrev fronted : List Period → Result (List Period) TableFault → Result (List Period) TableFault
fronted front rest = and_then rest (λ ps. Ok (front ++ ps))

-- the periods of a text are these, and those of the rest
pub record Reads (x : Exchange) (signals : ℕ) (text rest : List ℕ) (b : Before) (list : List Period) : Type 0 where
  pub so : table_periods x signals text ≡ fronted list (periods_behind x b (lines rest))
  pub few : b.lines + length rest ≤ length text
  pub small : b.signals < 2 ^ 32

fronted_none : (o : Result (List Period) TableFault) → o ≡ fronted [] o
fronted_none (Ok ps) = refl
fronted_none (Err f) = refl

pub read_begin : (x : Exchange) (signals : ℕ) (text : List ℕ) → signals < 2 ^ 32 → Reads x signals text text (record { lines = 0; signals = signals }) []
read_begin x signals text small = record { so = fronted_none (table_periods x signals text); few = omega arith; small = small }

-- the periods of the rest, from its first line
next : (x : Exchange) (rest line after : List ℕ) (b : Before) → lines rest ≡ line ∷ lines after
    → periods_behind x b (lines rest) ≡ and_then (added x b line)
    (λ first. and_then (periods_behind x (behind b first) (lines after)) (λ ps. Ok (cons_option first ps)))
unfolding periods_behind
next x rest line after b is = ap (periods_behind x b) is

more_front : (list : List Period) (first : Option Period) (o : Result (List Period) TableFault)
    → fronted list (and_then o (λ ps. Ok (cons_option first ps))) ≡ fronted (list ++ option_to_list first) o
more_front list None (Ok ps) = ap (λ (l : List Period). Ok (l ++ ps)) (sym (append-nil list))
more_front list None (Err f) = refl
more_front list (Some p) (Ok ps) = ap Ok (sym (append_assoc list (p ∷ []) ps))
more_front list (Some p) (Err f) = refl

pub read_more : (x : Exchange) (signals : ℕ) (text rest line after : List ℕ) (b new : Before)
    (list longer : List Period) (first : Option Period) → Reads x signals text rest b list
    → lines rest ≡ line ∷ lines after → length after < length rest
    → Ok first ≡ added x b line → new ≡ behind b first → longer ≡ list ++ option_to_list first → Reads x signals text after new longer
read_more x signals text rest line after b new list longer first r is shorter e counted pushed =
    let few = r.few in
    let lines_are : new.lines ≡ b.lines + 1 = ap (λ (k : Before). k.lines) counted in
    let signals_are : new.signals ≡ (behind b first).signals = ap (λ (k : Before). k.signals) counted in
    let small : (behind b first).signals < 2 ^ 32 = added_few x b line first (sym e) r.small in
    record {
      so =
          r.so
          ∙ ap (fronted list) (next x rest line after b is
          ∙ ap (λ a. and_then a (λ first. and_then (periods_behind x (behind b first) (lines after))
          (λ ps. Ok (cons_option first ps)))) (sym e))
          ∙ more_front list first (periods_behind x (behind b first) (lines after))
          ∙ ap (λ l. fronted l (periods_behind x (behind b first) (lines after))) (sym pushed)
          ∙ ap (λ k. fronted longer (periods_behind x k (lines after))) (sym counted);
      few = omega (arith, few, lines_are, shorter);
      small = omega (arith, signals_are, small);
    }

pub read_stop : (x : Exchange) (signals : ℕ) (text rest line after : List ℕ) (b : Before) (list : List Period)
    (f : TableFault) → Reads x signals text rest b list → lines rest ≡ line ∷ lines after → Err f ≡ added x b line
    → Err f ≡ table_periods x signals text
read_stop x signals text rest line after b list f r is e =
    sym (r.so ∙ ap (fronted list) (next x rest line after b is
    ∙ ap (λ a. and_then a (λ first. and_then (periods_behind x (behind b first) (lines after))
    (λ ps. Ok (cons_option first ps)))) (sym e)))

pub read_end : (x : Exchange) (signals : ℕ) (text rest : List ℕ) (b : Before) (list : List Period)
    → Reads x signals text rest b list → lines rest ≡ [] → Ok list ≡ table_periods x signals text
unfolding periods_behind
read_end x signals text rest b list r none = sym (r.so ∙ ap (λ ls. fronted list (periods_behind x b ls)) none ∙ ap Ok (append-nil list))

-- the next line's number is small
pub read_few : (x : Exchange) (signals : ℕ) (text rest after : List ℕ) (b : Before) (list : List Period)
    → Reads x signals text rest b list → length after < length rest → length text ≤ 2 ^ 24 → b.lines < 2 ^ 24
read_few x signals text rest after b list r shorter short = let few = r.few in omega (arith, few, shorter, short)

-- for `search`
pub ruleset table_read = (read_begin, read_more, read_stop, read_end, read_few)
