-- Merged lines are those of both files, each once, ordered by their counts.
use Rattle.std.proofs.Common.{◌≡◌, ℕ, zero, suc, ◌+◌, ◌≤◌, ◌⊎◌, inl, inr, Bool, true, false, cond}
use Rattle.std.proofs.Common.{nat_eq, List, [], ◌∷◌, length, map, slice_get, Option, Some, refl}
use Rattle.std.proofs.Common.{sym, ap, subst, ◌∙◌, append-nil, arith}
use Rattle.std.specs.Prelude.{nat_le, Ok}
use Rattle.std.specs.List.{AllByRecursion, flat_map}
use Rattle.std.proofs.lemmas.Bool.{cases_Bool, eqb-true, eq-eqb}
use Rattle.std.proofs.lemmas.Bool.Decides.{same_from_decides}
use Rattle.std.proofs.lemmas.List.Elements.{filter-append, filter_agree}
use Rattle.std.proofs.lemmas.Option.{none-some, same_Some}
use Rattle.exchange_model.specs.declared.exchange.Exchange.{Exchange}
use Rattle.signal_file.specs.declared.line.Line.{Line}
use Rattle.signal_file.specs.declared.line.LineKind.TheVariants.{Bare}
use Rattle.signal_file.specs.Lines.{signal_lines}
use Rattle.job_table.specs.declared.period.Period.{Period}
use Rattle.job_table.specs.Fit.{IsNamed, Rises, StandOnce, naming, new_number, of_count, unnumbered}
use Rattle.job_table.specs.Merged.{all_lines, by_count, lines_of, merged, number_in, numbered_from}
use Rattle.job_table.specs.Merged.{placed_in, renumbered}
use Rattle.job_table.specs.Table.{table_periods}
use Rattle.job_table.proofs.Fit.{First, Has, all_got, all_numbered, first_from, got_numbered}
use Rattle.job_table.proofs.Fit.{had_front, number_is, only_all}
use Rattle.job_table.proofs.Numbering.{numbered-cons, numbered-nil}
use Rattle.job_table.proofs.Sorting.{all_by_count, by_count-cons, filter-by_count, placed_alone}
use Rattle.job_table.proofs.Sorting.{placed_first, placed_later, rises-by_count, same_count}
use Rattle.job_table.proofs.Sorting.{same_count-true, same_count_from}

-- no count falls

rises_numbered : (new : ℕ → Option ℕ) (from : ℕ) (ls : List Line) → Rises ls → Rises (numbered_from new from ls)
rises_numbered new from [] r = subst Rises (sym (numbered-nil new from)) tt
rises_numbered new from (l ∷ ls) r =
    subst Rises (sym (numbered-cons new from l ls)) (
      all_numbered (λ (m : Line). l.after ≤ m.after) new (from + 1) ls (λ m n le. le) r.0,
      rises_numbered new
          (from + 1) ls r.1,
    )

pub merged_rises : (lines : List Line) (periods : List Period) → Rises (merged lines periods)
merged_rises lines periods = rises_numbered (new_number lines periods) 1 (by_count (all_lines lines periods)) (rises-by_count (all_lines lines periods))

-- each line stands there once, and those of one count in their order

abbrev some_line : ℕ → Line
some_line n = record { number = 0; after = n; entry = 0; values = []; kind = Bare }

abbrev has_count : ℕ → Line → Bool
has_count n l = nat_eq l.after n

same_test : (n : ℕ) (l : Line) → same_count (some_line n) l ≡ has_count n l
same_test n l =
    same_from_decides {P = n ≡ l.after} (same_count (some_line n) l) (nat_eq l.after n) (same_count-true (some_line n) l, same_count_from (some_line n) l)
    (λ t. sym (eqb-true l.after n t), λ e. eq-eqb l.after n (sym e))

of_count_sorted : (n : ℕ) (ls : List Line) → of_count n (by_count ls) ≡ of_count n ls
of_count_sorted n ls =
    filter_agree (has_count n) (same_count (some_line n)) (λ l. sym (same_test n l)) (by_count ls)
    ∙ filter-by_count (some_line n) ls
    ∙ filter_agree (same_count (some_line n)) (has_count n) (same_test n) ls

kept_one : (new : ℕ → Option ℕ) (t : Bool) (l m : Line) (ls ms : List Line) → unnumbered l ≡ naming new m → map unnumbered ls ≡ map (naming new) ms
    → map unnumbered (cond t (l ∷ ls) ls) ≡ map (naming new) (cond t (m ∷ ms) ms)
kept_one new true l m ls ms first rest = λ i. first i ∷ rest i
kept_one new false l m ls ms first rest = rest

kept_count : (n : ℕ) (new : ℕ → Option ℕ) (from : ℕ) (ls : List Line)
    → map unnumbered (of_count n (numbered_from new from ls)) ≡ map (naming new) (of_count n ls)
kept_count n new from [] = ap (λ ms. map unnumbered (of_count n ms)) (numbered-nil new from)
kept_count n new from (l ∷ ls) =
    ap (λ ms. map unnumbered (of_count n ms)) (numbered-cons new from l ls)
    ∙ kept_one new (has_count n l) (renumbered new from l) l (of_count n (numbered_from new (from + 1) ls))
    (of_count n ls) refl (kept_count n new (from + 1) ls)

pub stand_once : (lines : List Line) (periods : List Period) → StandOnce lines periods
stand_once lines periods n =
    let new = new_number lines periods in
    let all = all_lines lines periods in
    kept_count n new 1 (by_count all) ∙ ap (map (naming new)) (of_count_sorted n all ∙ filter-append (has_count n) lines (flat_map lines_of periods))

-- a line of the signal file stands where others name it

had_at : (ls : List Line) (i : ℕ) (g : Line) → slice_get ls i ≡ Some g → Has g ls
had_at [] i g is = absurd (none-some g is)
had_at (l ∷ ls) zero g is = inl (sym (same_Some l g is))
had_at (l ∷ ls) (suc i) g is = inr (had_at ls i g is)

had_behind : (g l m : Line) (rest placed : List Line) → ((g ≡ l) ⊎ Has g rest → Has g placed) → (g ≡ l) ⊎ Has g (m ∷ rest) → Has g (m ∷ placed)
had_behind g l m rest placed more (inl is) = inr (more (inl is))
had_behind g l m rest placed more (inr (inl is)) = inl is
had_behind g l m rest placed more (inr (inr has)) = inr (more (inr has))

had_placed : (g l : Line) (ls : List Line) → (g ≡ l) ⊎ Has g ls → Has g (placed_in l ls)
had_placed g l [] has = subst (Has g) (sym (placed_alone l)) has
had_placed g l (m ∷ rest) has = elim (cases_Bool (nat_le l.after m.after)) [
  | inl up ↦ subst (Has g) (sym (placed_first l m rest up)) has
  | inr down ↦ subst (Has g) (sym (placed_later l m rest down)) (had_behind g l m rest (placed_in l rest) (λ h. had_placed g l rest h) has)
]

had_sorted : (g : Line) (ls : List Line) → Has g ls → Has g (by_count ls)
had_sorted g [] has = absurd has
had_sorted g (l ∷ ls) (inl is) = subst (Has g) (sym (by_count-cons l ls)) (had_placed g l (by_count ls) (inl is))
had_sorted g (l ∷ ls) (inr has) = subst (Has g) (sym (by_count-cons l ls)) (had_placed g l (by_count ls) (inr (had_sorted g ls has)))

pub line_named : (x : Exchange) (signals table : List ℕ) (lines : List Line) (periods : List Period)
    → signal_lines x signals ≡ Ok lines → table_periods x (length lines) table ≡ Ok periods
    → (i : ℕ) (g : Line) → slice_get lines i ≡ Some g → IsNamed lines periods g
line_named x signals table lines periods lines_read table_read i g there =
    let all : List Line = all_lines lines periods in
    let sorted : List Line = by_count all in
    let new : ℕ → Option ℕ = number_in sorted in
    let has : Has g lines = had_at lines i g there in
    let only : AllByRecursion (λ (m : Line). m.number ≡ g.number → m ≡ g) sorted =
    all_by_count (λ (m : Line). m.number ≡ g.number → m ≡ g) all
    (only_all x signals table lines periods lines_read table_read (λ (m : Line). m ≡ g) g has refl) in
    let f : First g.number sorted [] = first_from g.number sorted [] g (had_sorted g all (had_front g lines (flat_map lines_of periods) has)) refl in
    let same : f.line ≡ g = all_got (λ (m : Line). m.number ≡ g.number → m ≡ g) sorted f.place f.line only f.there f.is in
    record {
      place = f.place;
      number = subst (λ ls. number_in ls g.number ≡ Some (f.place + 1)) (append-nil sorted) (number_is g.number sorted [] f);
      there = got_numbered new 1 sorted f.place f.line (f.place + 1) f.there (omega arith) ∙ ap (λ (q : Line). Some (renumbered new (f.place + 1) q)) same;
    }
