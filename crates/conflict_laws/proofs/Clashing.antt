-- The list of the conflicting accesses of two summaries exists, in order.
use Rattle.std.proofs.Common.{◌≡◌, ℕ, ◌+◌, ◌<◌, List, length, Some, slice_get, refl, sym, subst}
use Rattle.std.specs.Option.{option_map}
use Rattle.std.proofs.lemmas.Option.{slice_get_within}
use Rattle.plex_num.specs.declared.level.Level.{Level}
use Rattle.finite_facts.proofs.Finite.{Listed, below, less, listed_as, listed_map, listed_one}
use Rattle.finite_facts.proofs.Finite.{listed_or, listed_some, listed_then, listed_when}
use Rattle.finite_facts.proofs.Rising.{in_order}
use Rattle.entry_summary.specs.declared.summary.Access.{Access}
use Rattle.entry_summary.specs.declared.summary.Summary.{Summary}
use Rattle.entry_summary.specs.Orders.{level_number}
use Rattle.pair_tests.specs.declared.pair.Conflict.TheVariants as conflict
use Rattle.pair_tests.specs.Clashes.{clash_of}
use Rattle.conflicts_meaning.specs.declared.rows.Clash.{Clash}
use Rattle.conflicts_meaning.specs.declared.rows.ClashRow.{ClashRow}
use Rattle.conflicts_meaning.specs.contracts.rows.ClashRowOrd.TheImpl.Laws as row_laws
use Rattle.conflicts_meaning.specs.Rows.{AccessesClash, AreClashRows, IsClashRow, LevelClashes}
use Rattle.conflicts_meaning.specs.Rows.{listed, row_order}
use Rattle.conflict_rows.proofs.Ordering.{row_tied}

module _ (first later : Summary) where
  abbrev row : ℕ → ℕ → Clash → ClashRow
  row i j c = record { clash = c; first = i; later = j }

  -- accesses of both, by their numbers

  abbrev Clashes : ℕ → ℕ → Access → Access → ClashRow → Type 0
  Clashes i j one other r = (c : Clash) × (option_map listed (clash_of one other) ≡ Some c) × (r ≡ row i j c)

  abbrev OfOther : ℕ → Access → ℕ → ClashRow → Type 0
  OfOther i one j r = (other : Access) × (slice_get later.accesses j ≡ Some other) × Clashes i j one other r

  abbrev OfOne : ℕ → Access → ClashRow → Type 0
  OfOne i one r = (j : ℕ) × (j < length later.accesses) × OfOther i one j r

  abbrev OfNumber : ℕ → ClashRow → Type 0
  OfNumber i r = (one : Access) × (slice_get first.accesses i ≡ Some one) × OfOne i one r

  access_rows : Listed (AccessesClash first later)
  access_rows =
      listed_as (λ r. (i : ℕ) × (i < length first.accesses) × OfNumber i r) (AccessesClash first later)
      (λ r h. subst (AccessesClash first later) (sym h.2.2.2.2.2)
      (record { one = h.2.0; other = h.2.2.2.0; of_first = h.2.1; of_later = h.2.2.2.1; clash = h.2.2.2.2.1 }))
      (λ r h. (
        r.first,
        slice_get_within first.accesses r.first h.one h.of_first,
        (
          h.one,
          h.of_first,
          (r.later, slice_get_within later.accesses r.later h.other h.of_later, (h.other, h.of_later, (r.clash, h.clash, refl))),
        ),
      ))
      (listed_then (λ i. i < length first.accesses) OfNumber (below (length first.accesses))
      (λ i lt. listed_then (λ one. slice_get first.accesses i ≡ Some one) (OfOne i) (listed_some (slice_get first.accesses i))
      (λ one at. listed_then (λ j. j < length later.accesses) (OfOther i one) (below (length later.accesses))
      (λ j less_than. listed_then (λ other. slice_get later.accesses j ≡ Some other) (Clashes i j one) (listed_some (slice_get later.accesses j))
      (λ other there. listed_map (λ c. option_map listed (clash_of one other) ≡ Some c) (row i j) (listed_some (option_map listed (clash_of one other))))))))

  -- levels of the first

  abbrev level_row : ℕ → Level → ClashRow
  level_row n l = row (length first.accesses + n) 0 (listed (conflict.Above l))

  abbrev IsAbove : ℕ → Level → ClashRow → Type 0
  IsAbove n l r = (level_number l < level_number later.level) × (r ≡ level_row n l)

  abbrev OfPlace : ℕ → ClashRow → Type 0
  OfPlace n r = (l : Level) × (slice_get first.levels n ≡ Some l) × IsAbove n l r

  level_rows : Listed (LevelClashes first later)
  level_rows =
      listed_as (λ r. (n : ℕ) × (n < length first.levels) × OfPlace n r) (LevelClashes first later)
      (λ r h. subst (LevelClashes first later) (sym h.2.2.1)
      (record {
        level = h.2.0;
        place = h.0;
        of_first = h.2.1;
        number = refl;
        alone = refl;
        clash = refl;
        below = h.2.2.0;
      }))
      (λ r h. (
        h.place,
        slice_get_within first.levels h.place h.level h.of_first,
        (h.level, h.of_first, (h.below, (λ i. row (h.number i) (h.alone i) (h.clash i)))),
      ))
      (listed_then (λ n. n < length first.levels) OfPlace (below (length first.levels))
      (λ n lt. listed_then (λ l. slice_get first.levels n ≡ Some l) (IsAbove n) (listed_some (slice_get first.levels n))
      (λ l at. listed_when (level_number l < level_number later.level) (λ r. r ≡ level_row n l)
      (less (level_number l) (level_number later.level)) (λ lower. listed_one (level_row n l)))))

  pub clash_rows : (rows : List ClashRow) × AreClashRows first later rows
  clash_rows =
      let all : Listed (IsClashRow first later) = listed_or (AccessesClash first later) (LevelClashes first later) access_rows level_rows in
      let r = in_order row_order row_laws.total-law row_tied (IsClashRow first later) all in
      (r.listed.items, record { exact = λ q. (r.listed.each q, r.listed.all q); rising = r.rising })
