-- The signals of the periods, one after the other.
use Rattle.std.proofs.Common.{◌≡◌, ℕ, zero, suc, ◌+◌, ◌*◌, ◌-◌, ◌<◌, ◌≤◌, ◌^◌, List, [], ◌∷◌, ◌++◌}
use Rattle.std.proofs.Common.{length, take, get_or, map, sum_by, refl, sym, ap, ◌∙◌, append_assoc}
use Rattle.std.proofs.Common.{append-nil, length-append, arith}
use Rattle.std.specs.List.{AllByRecursion, flat_map, range_with_len}
use Rattle.std.proofs.lemmas.Nat.{mul-le}
use Rattle.std.proofs.lemmas.List.{flat_map_more, take_more, take_all}
use Rattle.std.proofs.lemmas.List.Concat.{length-flat_map}
use Rattle.std.proofs.lemmas.List.Sums.{sum_by-cons}
use Rattle.std.proofs.lemmas.List.FromFn.{length-map-range_with_len, map-range_with_len_more}
use Rattle.signal_file.specs.declared.line.Line.{Line}
use Rattle.job_table.specs.declared.period.Period.{Period}
use Rattle.job_table.specs.Merged.{IsInRange, all_lines, by_count, line_at, line_count, lines_of}
use Rattle.job_table.specs.Merged.{merged, numbered}
use Rattle.job_table.proofs.Sorting.{length-by_count}

-- the count of each turn is below 2^32
pub turn_small : (p : Period) (turn : ℕ) → IsInRange p → turn < p.times → p.from + p.every * turn < 2 ^ 32
turn_small p turn range before = let le = mul-le p.every turn p.every (p.times - 1) (omega arith) (omega (arith, before)) in omega (arith, le, range)

pub turn_product : (p : Period) (turn : ℕ) → IsInRange p → turn < p.times → p.every * turn < 2 ^ 32
turn_product p turn range before = let small = turn_small p turn range before in omega (arith, small)

pub in_range_at : (periods : List Period) (i : ℕ) (p : Period) → AllByRecursion IsInRange periods → i < length periods → p ≡ get_or periods i p → IsInRange p
in_range_at [] i p all inside is = absurd (omega arith)
in_range_at (q ∷ periods) zero p all inside is = rw is all.0
in_range_at (q ∷ periods) (suc i) p all inside is = in_range_at periods i p all.1 (omega arith) is

-- the signals of a period, up to a turn
pub record Turned (p : Period) (before all : List Line) (turn : ℕ) : Type 0 where
  pub so : all ≡ before ++ map (line_at p) (range_with_len 0 turn)

pub turned_begin : (p : Period) (before : List Line) → Turned p before before 0
turned_begin p before = record { so = sym (append-nil before) }

pub turned_more : (p : Period) (before all pushed : List Line) (turn : ℕ) (made : Line) → Turned p before all turn
    → made ≡ line_at p turn → pushed ≡ all ++ made ∷ [] → Turned p before pushed (turn + 1)
turned_more p before all pushed turn made r is added = record {
  so =
      added ∙ ap (λ ls. ls ++ made ∷ []) r.so ∙ append_assoc before (map (line_at p) (range_with_len 0 turn)) (made ∷ [])
      ∙ ap (λ l. before ++ (map (line_at p) (range_with_len 0 turn) ++ l ∷ [])) is
      ∙ ap (λ ls. before ++ ls) (sym (map-range_with_len_more (line_at p) 0 turn turn (omega arith)));
}

pub turned_end : (p : Period) (before all : List Line) (turn : ℕ) → turn ≡ p.times → Turned p before all turn → all ≡ before ++ lines_of p
turned_end p before all turn is r = r.so ∙ ap (λ n. before ++ map (line_at p) (range_with_len 0 n)) is

-- the signals of the periods up to one
pub record Joined (lines : List Line) (periods : List Period) (i : ℕ) (all : List Line) : Type 0 where
  pub so : all ≡ lines ++ flat_map lines_of (take i periods)

pub joined_begin : (lines : List Line) (periods : List Period) (all : List Line) → all ≡ lines → Joined lines periods 0 all
joined_begin lines periods all is = record { so = is ∙ sym (append-nil lines) }

pub joined_more : (lines : List Line) (periods : List Period) (i : ℕ) (p : Period) (all pushed : List Line)
    → i < length periods → p ≡ get_or periods i p → Joined lines periods i all → pushed ≡ all ++ lines_of p
    → Joined lines periods (i + 1) pushed
joined_more lines periods i p all pushed inside is r added = record {
  so =
      added ∙ ap (λ ls. ls ++ lines_of p) r.so ∙ flat_map_more lines_of lines (take i periods) p
      ∙ ap (λ q. lines ++ flat_map lines_of (take i periods ++ q ∷ [])) is
      ∙ ap (λ ps. lines ++ flat_map lines_of ps) (sym (take_more periods i p inside));
}

pub joined_end : (lines : List Line) (periods : List Period) (i : ℕ) (all : List Line) → length periods ≤ i
    → Joined lines periods i all → all ≡ all_lines lines periods
joined_end lines periods i all past r = r.so ∙ ap (λ ps. lines ++ flat_map lines_of ps) (take_all i periods past)

pub ruleset period_pushed = (turn_small, turn_product, turned_begin, turned_more, turned_end)

pub ruleset all_listed = (in_range_at, joined_begin, joined_more, joined_end)

-- there are as many lines as there are signals

times_counted : (periods : List Period) → sum_by (λ p. length (lines_of p)) periods ≡ sum_by (λ (p : Period). p.times) periods
times_counted [] = refl
times_counted (p ∷ periods) =
    sum_by-cons (λ q. length (lines_of q)) p periods
    ∙ ap (λ n. n + sum_by (λ q. length (lines_of q)) periods) (length-map-range_with_len (line_at p) 0 p.times)
    ∙ ap (λ n. p.times + n) (times_counted periods)
    ∙ sym (sum_by-cons (λ (q : Period). q.times) p periods)

pub length-all_lines : (lines : List Line) (periods : List Period) → length (all_lines lines periods) ≡ line_count lines periods
length-all_lines lines periods =
    length-append lines (flat_map lines_of periods) ∙ ap (λ n. length lines + n) (length-flat_map lines_of periods ∙ times_counted periods)

-- the sorted lines are few
pub few_sorted : (lines : List Line) (periods : List Period) (all sorted : List Line) → all ≡ all_lines lines periods
    → sorted ≡ by_count all → line_count lines periods < 2 ^ 32 → length sorted < 2 ^ 32
few_sorted lines periods all sorted all_is sorted_is few =
    let same : length sorted ≡ line_count lines periods = ap length sorted_is ∙ length-by_count all ∙ ap length all_is ∙ length-all_lines lines periods in
    omega (arith, same, few)

pub merged_is : (lines : List Line) (periods : List Period) (all sorted list : List Line)
    → all ≡ all_lines lines periods → sorted ≡ by_count all → list ≡ numbered sorted → list ≡ merged lines periods
merged_is lines periods all sorted list all_is sorted_is is = is ∙ ap numbered_list (sorted_is ∙ ap by_count all_is)
  where
    numbered_list : List Line → List Line
    numbered_list ls = numbered ls

pub ruleset lines_merged = (few_sorted, merged_is)
