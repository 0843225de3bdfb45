-- What fits into the room left, and what does not.
use Rattle.std.proofs.Common.{◌≡◌, ℕ, ◌<◌, ◌≤◌, List, length, Option, Some, None, sym, subst}
use Rattle.exchange_model.specs.declared.exchange.Exchange.{Exchange}
use Rattle.entry_summary.specs.declared.summary.Summary.{Summary}
use Rattle.conflicts_meaning.specs.declared.rows.EntryPair.{EntryPair}
use Rattle.conflicts_meaning.specs.Told.{HasEntryLines, HasPairLines, IsEntryText, IsPairText}
use Rattle.conflicts_text.specs.Fits.{RowsWithin, TextWithin}

module _ (T L : List ℕ → Type 0) (room : ℕ) (o : Option (List ℕ)) (within : TextWithin T L room o) where
  pub text_fits : (text : List ℕ) → o ≡ Some text → T text × (length text ≤ room)
  text_fits text is = subst (TextWithin T L room) is within

  pub lines_are_more : o ≡ None → (lines : List ℕ) × L lines × (room < length lines)
  lines_are_more is = subst (TextWithin T L room) is within

-- a text that fits, or does not
pub whole_within : (T L : List ℕ → Type 0) (room : ℕ) (text : List ℕ) (o : Option (List ℕ)) → T text
    → ((t : List ℕ) → T t → L t) → TextWithin (λ t. t ≡ text) (λ t. t ≡ text) room o → TextWithin T L room o
whole_within T L room text (Some t) is lines h = (subst T (sym h.0) is, h.1)
whole_within T L room text None is lines h = (h.0, subst L (sym h.1) (lines text is), h.2)

module _ {R : Type 0} (All Few : List R → Type 0) (lines : List R → List ℕ) (room : ℕ) (o : Option (List R)) (within : RowsWithin All Few lines room o) where
  pub rows_are_all : (rows : List R) → o ≡ Some rows → All rows
  rows_are_all rows is = subst (RowsWithin All Few lines room) is within

  pub rows_are_more : o ≡ None → (rows : List R) × Few rows × (room < length (lines rows))
  rows_are_more is = subst (RowsWithin All Few lines room) is within

-- a whole text consists of its lines

pub entry_lines : (x : Exchange) (summaries : List Summary) (e : ℕ) (text : List ℕ) → IsEntryText x summaries e text → HasEntryLines x summaries e text
entry_lines x summaries e text h = record {
  summary = h.summary;
  there = h.there;
  rows = h.rows;
  given = record { each = λ r c. (h.given.exact r).0 c; rising = h.given.rising };
  are = h.is;
}

pub pair_lines : (summaries : List Summary) (p : EntryPair) (text : List ℕ) → IsPairText summaries p text → HasPairLines summaries p text
pair_lines summaries p text h = record {
  first = h.first;
  later = h.later;
  of_first = h.of_first;
  of_later = h.of_later;
  rows = h.rows;
  clash = record { each = λ r c. (h.clash.exact r).0 c; rising = h.clash.rising };
  are = h.is;
}
