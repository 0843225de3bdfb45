-- The text of the additions of an exchange.
use Rattle.std.specs.Prelude.{◌≡◌, ℕ, List, [], ◌∷◌, ◌++◌, Option, Some, length, slice_get}
use Rattle.exchange_model.specs.declared.exchange.Exchange.{Exchange}
use Rattle.flow_points.specs.Facts.{IsLeast}
use Rattle.entry_summary.specs.declared.summary.Summary.{Summary}
use Rattle.certificate_meaning.specs.Summaries.{AreSummaries}
use Rattle.analysis_text.specs.Names.{names_of}
use Rattle.conflicts_meaning.specs.declared.rows.EntryPair.{EntryPair}
use Rattle.conflicts_meaning.specs.declared.rows.Section.{Section}
use Rattle.conflicts_meaning.specs.declared.rows.Section.TheVariants.{Entry, Pair}
use Rattle.conflicts_meaning.specs.Told.{sections}
use Rattle.entry_additions.specs.declared.added.Added.{Added}
use Rattle.entry_additions.specs.Added.{AddsExactly, targets}
use Rattle.addition_pairs.specs.declared.told.Told.{Told}
use Rattle.addition_pairs.specs.Adding.{TellsAdding}
use Rattle.additions_text.specs.Lines.{adding_text, adds_text, first_line, last_line}

-- the text of an entry: the variables and fields that its jobs only add to
pub record IsEntryText (x : Exchange) (e : ℕ) (text : List ℕ) : Type 0 where
  pub added : Added
  pub exactly : AddsExactly x (IsLeast x) e added
  pub is : text ≡ adds_text (names_of x.blocks) e (targets added)

-- the text of a pair: its verdict with additions
pub record IsPairText (x : Exchange) (summaries : List Summary) (p : EntryPair) (text : List ℕ)
    : Type 0 where
  pub first : Summary
  pub later : Summary
  pub of_first : slice_get summaries p.first ≡ Some first
  pub of_later : slice_get summaries p.later ≡ Some later
  pub first_adds : Added
  pub later_adds : Added
  pub first_exactly : AddsExactly x (IsLeast x) p.first first_adds
  pub later_exactly : AddsExactly x (IsLeast x) p.later later_adds
  pub told : Option Told
  pub tells : TellsAdding first later (targets first_adds) (targets later_adds) told
  pub is : text ≡ adding_text (names_of x.blocks) p told

abbrev pub IsSectionText : Exchange → List Summary → Section → List ℕ → Type 0
IsSectionText x summaries (Entry e) text = IsEntryText x e text
IsSectionText x summaries (Pair p) text = IsPairText x summaries p text

-- the texts of these sections, one after the other
pub data InTurn (IsText : Section → List ℕ → Type 0) : List Section → List ℕ → Type 0 where
  nothing : InTurn IsText [] []
  then : (s : Section) (rest : List Section) (part text : List ℕ) → IsText s part
      → InTurn IsText rest text → InTurn IsText (s ∷ rest) (part ++ text)

-- the text of an exchange, of all entries and pairs or of the requested ones
pub record AreAdditions (x : Exchange) (asked : Option EntryPair) (text : List ℕ) : Type 0 where
  pub summaries : List Summary
  pub are : AreSummaries x summaries
  pub parts : List ℕ
  pub tells : InTurn (IsSectionText x summaries) (sections (length x.entries) asked) parts
  pub is : text ≡ first_line ++ (parts ++ last_line)
