-- The text: an analysis, and behind it which statements give what it tells, and all that clashes.
use Rattle.std.specs.Prelude.{◌≡◌, ℕ, ◌-◌, ◌<◌, ◌≤◌, nat_eq, nat_lt, ◌&&◌, List, [], ◌∷◌, ◌++◌}
use Rattle.std.specs.Prelude.{length, flat_map, map, Option, Some, None, slice_get, if◌then◌else◌}
use Rattle.std.specs.List.{range_with_len}
use Rattle.exchange_model.specs.declared.exchange.Exchange.{Exchange}
use Rattle.exchange_model.specs.Inside.{joined}
use Rattle.flow_points.specs.Facts.{IsLeast}
use Rattle.entry_summary.specs.declared.summary.Summary.{Summary}
use Rattle.certificate_meaning.specs.Summaries.{AreSummaries}
use Rattle.analysis_text.specs.Analysis.{IsAnalysis}
use Rattle.conflicts_meaning.specs.declared.rows.ClashRow.{ClashRow}
use Rattle.conflicts_meaning.specs.declared.rows.EntryPair.{EntryPair}
use Rattle.conflicts_meaning.specs.declared.rows.GivenAt.{GivenAt}
use Rattle.conflicts_meaning.specs.declared.rows.Section.{Section}
use Rattle.conflicts_meaning.specs.declared.rows.Section.TheVariants.{Entry, Pair}
use Rattle.conflicts_meaning.specs.declared.rows.TheConstants.{MOST_TOLD}
use Rattle.conflicts_meaning.specs.Points.{AreGiven, AreSomeGiven}
use Rattle.conflicts_meaning.specs.Rows.{AreClashRows, AreSomeClashRows}
use Rattle.conflicts_meaning.specs.Lines.{clash_text, first_line, last_line, limit_line, point_text}

-- all points of the entry of this number
pub record IsEntryText (x : Exchange) (summaries : List Summary) (e : ℕ) (text : List ℕ) : Type
    0 where
  pub summary : Summary
  pub there : slice_get summaries e ≡ Some summary
  pub rows : List GivenAt
  pub given : AreGiven x (IsLeast x) e summary rows
  pub is : text ≡ flat_map (point_text x e) rows

-- all that clashes of the entries of a pair
pub record IsPairText (summaries : List Summary) (p : EntryPair) (text : List ℕ) : Type 0 where
  pub first : Summary
  pub later : Summary
  pub of_first : slice_get summaries p.first ≡ Some first
  pub of_later : slice_get summaries p.later ≡ Some later
  pub rows : List ClashRow
  pub clash : AreClashRows first later rows
  pub is : text ≡ flat_map (clash_text p) rows

abbrev pub IsSectionText : Exchange → List Summary → Section → List ℕ → Type 0
IsSectionText x summaries (Entry e) text = IsEntryText x summaries e text
IsSectionText x summaries (Pair p) text = IsPairText summaries p text

-- lines of these, some or all, in order, each once

pub record HasEntryLines (x : Exchange) (summaries : List Summary) (e : ℕ) (lines : List ℕ) : Type
    0 where
  pub summary : Summary
  pub there : slice_get summaries e ≡ Some summary
  pub rows : List GivenAt
  pub given : AreSomeGiven x (IsLeast x) e summary rows
  pub are : lines ≡ flat_map (point_text x e) rows

pub record HasPairLines (summaries : List Summary) (p : EntryPair) (lines : List ℕ) : Type 0 where
  pub first : Summary
  pub later : Summary
  pub of_first : slice_get summaries p.first ≡ Some first
  pub of_later : slice_get summaries p.later ≡ Some later
  pub rows : List ClashRow
  pub clash : AreSomeClashRows first later rows
  pub are : lines ≡ flat_map (clash_text p) rows

abbrev pub HasSectionLines : Exchange → List Summary → Section → List ℕ → Type 0
HasSectionLines x summaries (Entry e) lines = HasEntryLines x summaries e lines
HasSectionLines x summaries (Pair p) lines = HasPairLines summaries p lines

-- the texts of these sections, one after the other, and the last line, where there is room for so
-- many bytes of the most that are told: the first section of which some lines take more than that
-- is not told, nor is anything behind it
pub data Told (IsText HasLines : Section → List ℕ → Type 0) (most : ℕ) : List Section → ℕ → List ℕ
    → Type 0 where
  all_told : (room : ℕ) → Told IsText HasLines most [] room last_line
  no_room : (s : Section) (rest : List Section) (room : ℕ) (lines : List ℕ) → HasLines s lines
      → room < length lines
      → Told IsText HasLines most (s ∷ rest) room (limit_line most)
  told : (s : Section) (rest : List Section) (room : ℕ) (part text : List ℕ) → IsText s part
      → length part ≤ room
      → Told IsText HasLines most rest (room - length part) text
      → Told IsText HasLines most (s ∷ rest) room (part ++ text)

-- a pair of these numbers
abbrev pub pair : ℕ → ℕ → EntryPair
pair i j = record { first = i; later = j }

-- the sections of so many entries: each entry, and then each ordered pair

abbrev pub pair_at : ℕ → ℕ → Section
pair_at i j = Pair (pair i j)

abbrev pub pair_row : ℕ → ℕ → List Section
pair_row n i = map (pair_at i) (range_with_len 0 n)

abbrev pub all_sections : ℕ → List Section
all_sections n = map Entry (range_with_len 0 n) ++ joined (map (pair_row n) (range_with_len 0 n))

-- those of one pair: its entries, and the pair
abbrev pub pair_sections : EntryPair → List Section
pair_sections p = if nat_eq p.first p.later then Entry p.first ∷ Pair p ∷ []
    else Entry p.first ∷ Entry p.later ∷ Pair p ∷ []

-- those that are asked for; none where an entry of the pair is not there
abbrev pub sections : ℕ → Option EntryPair → List Section
sections n None = all_sections n
sections n (Some p) = if nat_lt p.first n && nat_lt p.later n then pair_sections p else []

-- the text of the exchange
pub record AreConflicts (x : Exchange) (asked : Option EntryPair) (text : List ℕ) : Type 0 where
  pub summaries : List Summary
  pub are : AreSummaries x summaries
  pub analysis : List ℕ
  pub analysed : IsAnalysis x summaries analysis
  pub rest : List ℕ
  pub tells : Told (IsSectionText x summaries) (HasSectionLines x summaries) MOST_TOLD
      (sections (length x.entries) asked) MOST_TOLD rest
  pub is : text ≡ analysis ++ (first_line ++ rest)
