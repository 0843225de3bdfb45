-- A row of sets that share their bits: what it becomes where a set is laid out, kept or changed.
use Rattle.std.proofs.Common.{◌≡◌, ◌⊎◌, inl, inr, ℕ, ◌+◌, ◌-◌, ◌*◌, ◌^◌, ◌<◌, ◌≤◌, Bool, true}
use Rattle.std.proofs.Common.{false, List, [], ◌++◌, length, get_or, set, take, drop, replicate}
use Rattle.std.proofs.Common.{Contains, ◌↔◌, refl, sym, subst, ap, ◌∙◌, arith, append-nil}
use Rattle.std.proofs.Common.{length-append, length-set, get_or-set_same, get_or-set_other}
use Rattle.std.specs.Prelude.{nat_eq, nat_lt, IsTrue}
use Rattle.std.specs.Bool.{MatchBool}
use Rattle.std.specs.List.{All}
use Rattle.std.proofs.lemmas.Bool.{cases_eq, cases_lt, cond-true, cond-false, eq-eqb, ne_eqb}
use Rattle.std.proofs.lemmas.Bool.{lt-ltb, le-ltb, false≢true}
use Rattle.std.proofs.lemmas.List.{ext_get_or, get_or_default, length-drop, length-replicate}
use Rattle.std.proofs.lemmas.List.{length-take-le, drop-append-le, take-append-le, take_all}
use Rattle.std.proofs.lemmas.List.FromFn.{length-map-range_with_len, get_or-map-range_with_len}
use Rattle.std.proofs.lemmas.List.Elements.{All-get_or, All-replicate, All-set, All-weaker}
use Rattle.std.proofs.Math.Seq.{drop-append_seam}
use Rattle.fact_rows.specs.declared.sets.Sets.{Sets}
use Rattle.fact_rows.specs.declared.planes.Planes.{Planes}
use Rattle.fact_rows.specs.Numbers.{AreNumbers, numbers}
use Rattle.fact_rows.specs.Grids.{IsSetAt}
use Rattle.fact_rows.specs.Spread.{words_at, set_in, shown_at, row_of, AreWordsAt, HasSet, IsAlike}
use Rattle.fact_rows.specs.Spread.{IsGrown, IsLonger, IsPassed, IsSound, IsWordsOf, KeepsRow}
use Rattle.fact_rows.proofs.Numbering.{numbers_zero}

-- ---- the words of a set

words_before : (words rest : List ℕ) (width o : ℕ) → o + width ≤ length words → words_at (words ++ rest) width o ≡ words_at words width o
words_before words rest width o le =
    ap (take width) (drop-append-le o words rest (omega arith))
    ∙ take-append-le width (drop o words) rest (let long = length-drop o words in omega (arith, le, long))

words_last : (words own : List ℕ) (width : ℕ) → length own ≡ width → words_at (words ++ own) width (length words) ≡ own
words_last words own width long = ap (take width) (drop-append_seam words own) ∙ take_all width own (omega arith)

pub words_long : (words : List ℕ) (width o : ℕ) → o + width ≤ length words → length (words_at words width o) ≡ width
words_long words width o le = length-take-le width (drop o words) (let long = length-drop o words in omega (arith, le, long))

-- a list of which all items were written
pub written_over : (count : ℕ) (old new : List ℕ) → count ≡ length old → length new ≡ length old → take count (new ++ drop (length new) old) ≡ new
written_over count old new long same = take-append-le count new (drop (length new) old) (omega (arith, long, same))
    ∙ take_all count new (omega (arith, long, same))

-- a set is kept behind the others
pub set_kept : (s new : Sets) (n : ℕ) (own : List ℕ) → length own ≡ s.width → new.first ≡ s.first → new.width ≡ s.width
    → n ≡ s.first + length s.words.items → new.words.items ≡ s.words.items ++ own → HasSet new n own
set_kept s new n own long first width is words = record {
  from = omega (arith, first, is);
  within = omega (arith, first, width, is, long, ap length words, length-append s.words.items own);
  is =
      (let place : n - new.first ≡ length s.words.items = omega (arith, first, is) in
      sym ((λ i. words_at (words i) (width i) (place i)) ∙ words_last s.words.items own s.width long));
}

pub set_longer : (s new : Sets) (own : List ℕ) → new.first ≡ s.first → new.width ≡ s.width → new.words.items ≡ s.words.items ++ own → IsLonger s new
set_longer s new own first width words = record { same_first = first; same_width = width; rest = own; all = words }

pub as_long : (words : List ℕ) (first width : ℕ) → IsGrown words first width words first width
as_long words first width = record { same_first = refl; same_width = refl; rest = []; all = sym (append-nil words) }

-- a number that has the words of a set is its number
pub set_found : (s : Sets) (n : ℕ) (kept own : List ℕ) → n + s.width ≤ s.first + length s.words.items
    → IsWordsOf s.words.items s.first s.width n kept → kept ≡ own → HasSet s n own
set_found s n kept own within h same = record { from = h.from; within = within; is = sym same ∙ h.is }

-- ---- the set of a number

pub set_below : (words : List ℕ) (first width n : ℕ) → n < first → set_in words first width n ≡ []
set_below words first width n lt = cond-true (nat_lt n first) [] (numbers (words_at words width (n - first))) (lt-ltb n first lt)

pub set_there : (words : List ℕ) (first width n : ℕ) → first ≤ n → set_in words first width n ≡ numbers (words_at words width (n - first))
set_there words first width n le = cond-false (nat_lt n first) [] (numbers (words_at words width (n - first))) (le-ltb n first le)

set_before : (words rest : List ℕ) (first width n : ℕ) → n + width ≤ first + length words → set_in (words ++ rest) first width n ≡ set_in words first width n
set_before words rest first width n le = elim (cases_lt n first) as (λ _. set_in (words ++ rest) first width n ≡ set_in words first width n) [
  | inl lt ↦ set_below (words ++ rest) first width n lt ∙ sym (set_below words first width n lt)
  | inr ge ↦ set_there (words ++ rest) first width n ge
      ∙ ap numbers (words_before words rest width (n - first) (omega arith)) ∙ sym (set_there words first width n ge)
]

-- ---- the row

-- the set that is kept of the i-th
abbrev kept_at : Planes → ℕ → List ℕ
kept_at p i = set_in p.sets.words.items p.sets.first p.sets.width (get_or p.set_numbers i 0)

pub shown_own : (p : Planes) (i : ℕ) → i ≡ p.own → shown_at p i ≡ numbers p.laid.items
shown_own p i own = cond-true (nat_eq i p.own) (numbers p.laid.items) (kept_at p i) (eq-eqb i p.own own)

pub shown_kept : (p : Planes) (i : ℕ) → (i ≡ p.own → ⊥) → shown_at p i ≡ kept_at p i
shown_kept p i apart = cond-false (nat_eq i p.own) (numbers p.laid.items) (kept_at p i) (ne_eqb i p.own apart)

pub row_long : (p : Planes) → length (row_of p) ≡ length p.set_numbers
unfolding row_of
row_long p = length-map-range_with_len (shown_at p) 0 (length p.set_numbers)

pub row_at : (p : Planes) (i : ℕ) → i < length p.set_numbers → get_or (row_of p) i [] ≡ shown_at p i
unfolding row_of
row_at p i lt = get_or-map-range_with_len (shown_at p) 0 (length p.set_numbers) i i [] lt (omega arith)

row_same : (old new : Planes) → length new.set_numbers ≡ length old.set_numbers
    → ((j : ℕ) → j < length old.set_numbers → shown_at new j ≡ shown_at old j) → row_of new ≡ row_of old
row_same old new long each = ext_get_or [] (row_of new) (row_of old) (row_long new ∙ long ∙ sym (row_long old)) at
  where
    at : (j : ℕ) → j < length (row_of new) → get_or (row_of new) j [] ≡ get_or (row_of old) j []
    at j lt =
        let whole = row_long new in
        let inside : j < length new.set_numbers = omega (arith, whole, lt) in
        let before : j < length old.set_numbers = omega (arith, long, inside) in
        row_at new j inside ∙ each j before ∙ sym (row_at old j before)

-- the number of a set is that of one that stands, or stood there
in_list : (p : Planes) → IsSound p → (i : ℕ) → i < length p.set_numbers → get_or p.set_numbers i 0 + p.sets.width ≤ p.sets.first + length p.sets.words.items
in_list p sound i lt = All-get_or (λ n. n + p.sets.width ≤ p.sets.first + length p.sets.words.items) p.set_numbers i 0 lt sound.within

pub number_inside : (p : Planes) (i n : ℕ) → IsSound p → i < length p.set_numbers → n ≡ get_or p.set_numbers i 0
    → n + p.sets.width ≤ p.sets.first + length p.sets.words.items
number_inside p i n sound lt is =
    subst (λ m. m + p.sets.width ≤ p.sets.first + length p.sets.words.items) (sym is) (in_list p sound i lt)

-- ---- what is read

pub open_words : (p : Planes) (i : ℕ) → IsSound p → i < length p.set_numbers → i ≡ p.own → AreWordsAt p i p.laid.items
open_words p i sound lt own = record { long = sound.laid_so; is = sym (row_at p i lt ∙ shown_own p i own) }

pub kept_words : (p : Planes) (i n : ℕ) (words : List ℕ) → IsSound p → i < length p.set_numbers → (i ≡ p.own → ⊥)
    → n ≡ get_or p.set_numbers i 0 → IsWordsOf p.sets.words.items p.sets.first p.sets.width n words
    → AreWordsAt p i words
kept_words p i n words sound lt apart is h =
    let from = h.from in
    let inside = number_inside p i n sound lt is in
    let read : get_or p.set_numbers i 0 ≡ n = sym is in
    record {
      long = ap length h.is ∙ words_long p.sets.words.items p.sets.width (n - p.sets.first) (omega (arith, from, inside));
      is =
          ap numbers h.is
          ∙ sym (row_at p i lt ∙ shown_kept p i apart ∙ ap (set_in p.sets.words.items p.sets.first p.sets.width) read
          ∙ set_there p.sets.words.items p.sets.first p.sets.width n from);
    }

pub no_words : (p : Planes) (i n : ℕ) → i < length p.set_numbers → (i ≡ p.own → ⊥) → n ≡ get_or p.set_numbers i 0
    → n < p.sets.first → [] ≡ get_or (row_of p) i []
no_words p i n lt apart is below =
    let read : get_or p.set_numbers i 0 ≡ n = sym is in
    sym (row_at p i lt ∙ shown_kept p i apart ∙ ap (set_in p.sets.words.items p.sets.first p.sets.width) read
    ∙ set_below p.sets.words.items p.sets.first p.sets.width n below)

pub words_blank : (p : Planes) (i : ℕ) (words : List ℕ) (b : Bool) → AreWordsAt p i words
    → (IsTrue b ↔ (numbers words ≡ [])) → IsTrue b ↔ (get_or (row_of p) i [] ≡ [])
words_blank p i words b h are = subst (λ l. IsTrue b ↔ (l ≡ [])) h.is are

pub none_blank : (p : Planes) (i : ℕ) → [] ≡ get_or (row_of p) i [] → IsTrue true ↔ (get_or (row_of p) i [] ≡ [])
none_blank p i none = (λ t. sym none, λ e. refl)

pub words_fit : (p : Planes) (i : ℕ) (words : List ℕ) → IsSound p → AreWordsAt p i words → 64 * length words ≤ 2 ^ 32
words_fit p i words sound h = subst (λ n. 64 * n ≤ 2 ^ 32) (sym h.long) sound.fits

-- ---- the same row, kept otherwise

pub keeps_itself : (p : Planes) → IsSound p → KeepsRow p p
keeps_itself p sound = record { sound = sound; long = refl; width = refl }

-- another set is laid out, or this one is changed
pub keeps_same : (old new : Planes) → IsSound old → new.sets ≡ old.sets → new.set_numbers ≡ old.set_numbers
    → length new.laid.items ≡ new.sets.width → KeepsRow old new
keeps_same old new sound sets_so numbers_so wide_so = record {
  sound = record {
    wide = subst (λ (s : Sets). 0 < s.width) (sym sets_so) sound.wide;
    fits = subst (λ (s : Sets). 64 * s.width ≤ 2 ^ 32) (sym sets_so) sound.fits;
    laid_so = wide_so;
    within = subst (λ l. All (λ m. m + new.sets.width ≤ new.sets.first + length new.sets.words.items) l)
        (sym numbers_so) (subst (λ (s : Sets). All (λ m. m + s.width ≤ s.first + length s.words.items) old.set_numbers)
        (sym sets_so) sound.within);
  };
  long = ap length numbers_so;
  width = ap (λ (s : Sets). s.width) sets_so;
}

pub keeps_then : (a b c : Planes) → KeepsRow a b → KeepsRow b c → KeepsRow a c
keeps_then a b c h k = record { sound = k.sound; long = k.long ∙ h.long; width = k.width ∙ h.width }

pub alike_itself : (p : Planes) → IsSound p → IsAlike p p
alike_itself p sound = record { keeps = keeps_itself p sound; same = refl }

pub alike_then : (a b c : Planes) → IsAlike a b → IsAlike b c → IsAlike a c
alike_then a b c h k = record { keeps = keeps_then a b c h.keeps k.keeps; same = k.same ∙ h.same }

module _ (old new : Planes) (sound : IsSound old) (longer : IsLonger old.sets new.sets) where
  abbrev InOld : ℕ → Type 0
  InOld n = n + old.sets.width ≤ old.sets.first + length old.sets.words.items

  abbrev InNew : ℕ → Type 0
  InNew n = n + new.sets.width ≤ new.sets.first + length new.sets.words.items

  still_inside : (n : ℕ) → InOld n → InNew n
  still_inside n h = omega (arith, h, longer.same_first, longer.same_width, ap length longer.all, length-append old.sets.words.items longer.rest)

  all_inside : All InNew old.set_numbers
  all_inside = All-weaker InOld InNew still_inside old.set_numbers sound.within

  still_set : (n : ℕ) → InOld n → set_in new.sets.words.items new.sets.first new.sets.width n ≡ set_in old.sets.words.items old.sets.first old.sets.width n
  still_set n h =
      (λ i. set_in (longer.all i) (longer.same_first i) (longer.same_width i) n)
      ∙ set_before old.sets.words.items longer.rest old.sets.first old.sets.width n h

  -- other sets are kept beside those
  pub longer_alike : new.set_numbers ≡ old.set_numbers → new.own ≡ old.own → new.laid.items ≡ old.laid.items → IsAlike old new
  longer_alike numbers_so own_so open_so = record {
    keeps = record {
      sound = record {
        wide = omega (arith, longer.same_width, sound.wide);
        fits = subst (λ n. 64 * n ≤ 2 ^ 32) (sym longer.same_width) sound.fits;
        laid_so = ap length open_so ∙ sound.laid_so ∙ sym longer.same_width;
        within = subst (All InNew) (sym numbers_so) all_inside;
      };
      long = ap length numbers_so;
      width = longer.same_width;
    };
    same = row_same old new (ap length numbers_so) each;
  }
    where
      each : (j : ℕ) → j < length old.set_numbers → shown_at new j ≡ shown_at old j
      each j lt = elim (cases_eq j old.own) as (λ _. shown_at new j ≡ shown_at old j) [
        | inl own ↦ shown_own new j (own ∙ sym own_so) ∙ ap numbers open_so ∙ sym (shown_own old j own)
        | inr apart ↦
            (shown_kept new j (λ e. apart (e ∙ own_so))
            ∙ ap (λ l. set_in new.sets.words.items new.sets.first new.sets.width (get_or l j 0)) numbers_so
            ∙ still_set (get_or old.set_numbers j 0) (in_list old sound j lt) ∙ sym (shown_kept old j apart))
      ]

  -- the set that was laid out is kept
  pub away_alike : (n : ℕ) → old.own < length old.set_numbers → HasSet new.sets n old.laid.items → new.set_numbers ≡ set old.set_numbers old.own n
      → length old.set_numbers ≤ new.own → new.laid.items ≡ old.laid.items → IsAlike old new
  away_alike n inside has numbers_so past open_so = record {
    keeps = record {
      sound = record {
        wide = omega (arith, longer.same_width, sound.wide);
        fits = subst (λ m. 64 * m ≤ 2 ^ 32) (sym longer.same_width) sound.fits;
        laid_so = ap length open_so ∙ sound.laid_so ∙ sym longer.same_width;
        within = subst (All InNew) (sym numbers_so) (All-set InNew old.set_numbers old.own n has.within all_inside);
      };
      long = long_so;
      width = longer.same_width;
    };
    same = row_same old new long_so each;
  }
    where
      long_so : length new.set_numbers ≡ length old.set_numbers
      long_so = ap length numbers_so ∙ length-set old.set_numbers old.own n

      each : (j : ℕ) → j < length old.set_numbers → shown_at new j ≡ shown_at old j
      each j lt =
          let out = shown_kept new j (λ e. omega (arith, e, lt, past)) in
          elim (cases_eq j old.own) as (λ _. shown_at new j ≡ shown_at old j) [
            | inl own ↦
                (let read : get_or new.set_numbers j 0 ≡ n = (λ i. get_or (numbers_so i) (own i) 0) ∙ get_or-set_same old.set_numbers old.own n 0 inside in
                out ∙ ap (set_in new.sets.words.items new.sets.first new.sets.width) read
                ∙ set_there new.sets.words.items new.sets.first new.sets.width n has.from
                ∙ ap numbers (sym has.is) ∙ sym (shown_own old j own))
            | inr apart ↦
                (let read : get_or new.set_numbers j 0 ≡ get_or old.set_numbers j 0 = ap (λ l. get_or l j 0) numbers_so
                ∙ get_or-set_other old.set_numbers old.own j n 0 apart in
                out ∙ ap (set_in new.sets.words.items new.sets.first new.sets.width) read
                ∙ still_set (get_or old.set_numbers j 0) (in_list old sound j lt) ∙ sym (shown_kept old j apart))
          ]

-- a set is laid out where none was
module _ (old new : Planes) (i n : ℕ) (sound : IsSound old) (past : length old.set_numbers ≤ old.own)
    (lt : i < length old.set_numbers) (is : n ≡ get_or old.set_numbers i 0)
    (sets_so : new.sets ≡ old.sets) (numbers_so : new.set_numbers ≡ old.set_numbers) (own_so : new.own ≡ i) where
  out_alike : length new.laid.items ≡ new.sets.width → numbers new.laid.items ≡ set_in old.sets.words.items old.sets.first old.sets.width n → IsAlike old new
  out_alike wide_so open_so = record {
    keeps = keeps_same old new sound sets_so numbers_so wide_so;
    same = row_same old new (ap length numbers_so) each;
  }
    where
      read : n ≡ get_or old.set_numbers i 0
      read = is

      each : (j : ℕ) → j < length old.set_numbers → shown_at new j ≡ shown_at old j
      each j inside =
          let in_old = sym (shown_kept old j (λ e. omega (arith, e, inside, past))) in
          elim (cases_eq j new.own) as (λ _. shown_at new j ≡ shown_at old j) [
            | inl own ↦
                (shown_own new j own ∙ open_so
                ∙ ap (set_in old.sets.words.items old.sets.first old.sets.width) (read ∙ ap (λ k. get_or old.set_numbers k 0) (sym (own ∙ own_so)))
                ∙ in_old)
            | inr apart ↦ shown_kept new j apart
                ∙ (λ k. set_in (sets_so k).words.items (sets_so k).first (sets_so k).width (get_or (numbers_so k) j 0))
                ∙ in_old
          ]

  pub some_out : (words : List ℕ) → IsWordsOf old.sets.words.items old.sets.first old.sets.width n words → new.laid.items ≡ words → IsAlike old new
  some_out words h same =
      let from = h.from in
      let inside = number_inside old i n sound lt is in
      out_alike
      (ap length (same ∙ h.is) ∙ words_long old.sets.words.items old.sets.width (n - old.sets.first)
      (omega (arith, from, inside)) ∙ sym (ap (λ (s : Sets). s.width) sets_so))
      (ap numbers (same ∙ h.is) ∙ sym (set_there old.sets.words.items old.sets.first old.sets.width n from))

  pub none_out : n < old.sets.first → (count : ℕ) → count ≡ old.sets.width → new.laid.items ≡ replicate count 0 → IsAlike old new
  none_out below count wide same =
      out_alike
      (ap length same ∙ length-replicate {A = ℕ} count 0 ∙ wide ∙ sym (ap (λ (s : Sets). s.width) sets_so))
      (ap numbers same ∙ numbers_zero count ∙ sym (set_below old.sets.words.items old.sets.first old.sets.width n below))

-- ---- the set that is laid out is changed

pub row_changed : (mid new : Planes) (i : ℕ) (words : List ℕ) → mid.own ≡ i → new.sets ≡ mid.sets
    → new.set_numbers ≡ mid.set_numbers → new.own ≡ mid.own → new.laid.items ≡ words → i < length mid.set_numbers
    → row_of new ≡ set (row_of mid) i (numbers words)
row_changed mid new i words own sets_so numbers_so own_so words_so inside = ext_get_or [] (row_of new)
    (set (row_of mid) i (numbers words)) (row_long new ∙ ap length numbers_so
    ∙ sym (length-set (row_of mid) i (numbers words) ∙ row_long mid)) each
  where
    each : (j : ℕ) → j < length (row_of new) → get_or (row_of new) j [] ≡ get_or (set (row_of mid) i (numbers words)) j []
    each j below =
        let whole = row_long new in
        let in_new : j < length new.set_numbers = omega (arith, whole, below) in
        let in_mid : j < length mid.set_numbers = omega (arith, in_new, ap length numbers_so) in
        let in_row : i < length (row_of mid) = (let w = row_long mid in omega (arith, w, inside)) in
        elim (cases_eq j i) as (λ _. get_or (row_of new) j [] ≡ get_or (set (row_of mid) i (numbers words)) j []) [
          | inl here ↦
              (row_at new j in_new ∙ shown_own new j (here ∙ sym own ∙ sym own_so) ∙ ap numbers words_so
              ∙ sym (ap (λ k. get_or (set (row_of mid) i (numbers words)) k []) here ∙ get_or-set_same (row_of mid) i (numbers words) [] in_row))
          | inr apart ↦
              (row_at new j in_new ∙ shown_kept new j (λ e. apart (e ∙ own_so ∙ own))
              ∙ (λ k. set_in (sets_so k).words.items (sets_so k).first (sets_so k).width (get_or (numbers_so k) j 0))
              ∙ sym (shown_kept mid j (λ e. apart (e ∙ own))) ∙ sym (row_at mid j in_mid)
              ∙ sym (get_or-set_other (row_of mid) i j (numbers words) [] apart))
        ]

-- ---- a number more in the set that is laid out

module _ (old mid new : Planes) (i n : ℕ) (added : Bool) (alike : IsAlike old mid) (own : mid.own ≡ i) (lt : i < length old.set_numbers)
    (sets_so : new.sets ≡ mid.sets) (numbers_so : new.set_numbers ≡ mid.set_numbers) (own_so : new.own ≡ mid.own)
    (long_so : length new.laid.items ≡ length mid.laid.items) where
  inside : i < length mid.set_numbers
  inside = omega (arith, lt, alike.keeps.long)

  pub more_set : (seen words : List ℕ) → seen ≡ mid.laid.items → new.laid.items ≡ words
      → AreNumbers (λ m. (m ≡ n) ⊎ Contains (numbers seen) m) (numbers words)
      → (IsTrue added ↔ (Contains (numbers seen) n → ⊥))
      → MatchBool added (length (numbers words) ≡ length (numbers seen) + 1) (numbers words ≡ numbers seen)
      → IsSetAt (row_of old) i n added (row_of new)
  more_set seen words seen_so words_so are fresh counted = subst (λ r. IsSetAt r i n added (row_of new)) alike.same (record {
    within = (let whole = row_long mid in omega (arith, whole, inside));
    list = numbers words;
    is = row_changed mid new i words own sets_so numbers_so own_so words_so inside;
    numbers = subst (λ l. AreNumbers (λ m. (m ≡ n) ⊎ Contains l m) (numbers words)) was are;
    fresh = subst (λ l. IsTrue added ↔ (Contains l n → ⊥)) was fresh;
    counted = subst (λ l. MatchBool added (length (numbers words) ≡ length l + 1) (numbers words ≡ l)) was counted;
  })
    where
      was : numbers seen ≡ get_or (row_of mid) i []
      was = ap numbers seen_so ∙ sym (row_at mid i inside ∙ shown_own mid i (sym own))

  pub more_keeps : KeepsRow old new
  more_keeps = keeps_then old mid new alike.keeps
      (keeps_same mid new alike.keeps.sound sets_so numbers_so
      (long_so ∙ alike.keeps.sound.laid_so ∙ sym (ap (λ (s : Sets). s.width) sets_so)))

pub open_wide : (old mid : Planes) (n : ℕ) → IsAlike old mid → n < 64 * old.sets.width → n < 64 * length mid.laid.items
open_wide old mid n alike lt = subst (λ w. n < 64 * w) (sym (alike.keeps.sound.laid_so ∙ alike.keeps.width)) lt

-- ---- no set has a number

blank_row : (p : Planes) → length p.set_numbers ≤ p.own → All (λ n. n < p.sets.first) p.set_numbers → All (λ ns. ns ≡ []) (row_of p)
blank_row p past all = λ k d lt.
    let whole = row_long p in
    let inside : k < length p.set_numbers = omega (arith, whole, lt) in
    get_or_default (row_of p) k d [] lt ∙ row_at p k inside ∙ shown_kept p k (λ e. omega (arith, e, inside, past))
    ∙ set_below p.sets.words.items p.sets.first p.sets.width (get_or p.set_numbers k 0) (All-get_or (λ n. n < p.sets.first) p.set_numbers k 0 inside all)

-- all sets of a row that is made, or begun anew, have the number 0
module _ (p : Planes) (count : ℕ) (wide : 0 < p.sets.width) (first_so : p.sets.first ≡ p.sets.width) (numbers_so : p.set_numbers ≡ replicate count 0) where
  pub zeros_sound : 64 * p.sets.width ≤ 2 ^ 32 → length p.laid.items ≡ p.sets.width → IsSound p
  zeros_sound fits open_so = record {
    wide = wide;
    fits = fits;
    laid_so = open_so;
    within = subst (All (λ n. n + p.sets.width ≤ p.sets.first + length p.sets.words.items)) (sym numbers_so)
        (All-replicate (λ n. n + p.sets.width ≤ p.sets.first + length p.sets.words.items) count 0
        (omega (arith, first_so)));
  }

  pub zeros_blank : length p.set_numbers ≤ p.own → All (λ ns. ns ≡ []) (row_of p)
  zeros_blank past = blank_row p past (subst (All (λ n. n < p.sets.first)) (sym numbers_so)
      (All-replicate (λ n. n < p.sets.first) count 0 (omega (arith, first_so, wide))))

-- a row begins anew
module _ (old new : Planes) (mid : Sets) (done : Bool) (count : ℕ) (sound : IsSound old)
    (passed : IsPassed old.sets mid done) (width_so : new.sets.width ≡ mid.width)
    (first_so : new.sets.first ≡ mid.width) (numbers_so : new.set_numbers ≡ replicate count 0) where
  pub anew_keeps : count ≡ length old.set_numbers → new.laid.items ≡ old.laid.items → KeepsRow old new
  anew_keeps many open_so = record {
    sound =
        zeros_sound new count (omega (arith, width_so, passed.width, sound.wide)) (first_so ∙ sym width_so) numbers_so
        (subst (λ n. 64 * n ≤ 2 ^ 32) (sym (width_so ∙ passed.width)) sound.fits) (ap length open_so ∙ sound.laid_so ∙ sym (width_so ∙ passed.width));
    long = ap length numbers_so ∙ length-replicate {A = ℕ} count 0 ∙ many;
    width = width_so ∙ passed.width;
  }

  pub anew_blank : length new.set_numbers ≤ new.own → All (λ ns. ns ≡ []) (row_of new)
  anew_blank past = zeros_blank new count (omega (arith, width_so, passed.width, sound.wide)) (first_so ∙ sym width_so) numbers_so past

-- a row is cleared by counting on
module _ (old new : Planes) (done : Bool) (sound : IsSound old) (passed : IsPassed old.sets new.sets done)
    (so : done ≡ true) (numbers_so : new.set_numbers ≡ old.set_numbers) where
  pub passed_keeps : new.laid.items ≡ old.laid.items → KeepsRow old new
  passed_keeps open_so = record {
    sound = record {
      wide = omega (arith, passed.width, sound.wide);
      fits = subst (λ n. 64 * n ≤ 2 ^ 32) (sym passed.width) sound.fits;
      laid_so = ap length open_so ∙ sound.laid_so ∙ sym passed.width;
      within = subst (All (λ n. n + new.sets.width ≤ new.sets.first + length new.sets.words.items)) (sym numbers_so)
          (All-weaker (λ n. n + old.sets.width ≤ old.sets.first + length old.sets.words.items)
          (λ n. n + new.sets.width ≤ new.sets.first + length new.sets.words.items)
          (λ n h. omega (arith, h, passed.width, passed.first so)) old.set_numbers sound.within);
    };
    long = ap length numbers_so;
    width = passed.width;
  }

  pub passed_blank : length old.set_numbers ≤ new.own → All (λ ns. ns ≡ []) (row_of new)
  passed_blank past =
      blank_row new (omega (arith, past, ap length numbers_so)) (subst (All (λ n. n < new.sets.first)) (sym numbers_so)
      (All-weaker (λ n. n + old.sets.width ≤ old.sets.first + length old.sets.words.items) (λ n. n < new.sets.first)
      (λ n h. omega (arith, h, sound.wide, passed.first so)) old.set_numbers sound.within))

pub passed_on : (old new : Sets) → new.width ≡ old.width → new.words.items ≡ [] → new.first ≡ old.first + length old.words.items → IsPassed old new true
passed_on old new width words first = record { width = width; words = λ t. words; first = λ t. first }

pub not_passed : (old : Sets) → IsPassed old old false
not_passed old = record { width = refl; words = λ t. absurd (false≢true t); first = λ t. absurd (false≢true t) }
