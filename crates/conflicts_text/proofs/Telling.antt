-- The texts of sections, one after the other.
use Rattle.std.proofs.Common.{◌≡◌, ℕ, ◌+◌, ◌-◌, ◌<◌, ◌≤◌, List, [], ◌∷◌, ◌++◌, length, drop, Option}
use Rattle.std.proofs.Common.{None, Some, sym, ap, ◌∙◌, subst, append_assoc, append-nil}
use Rattle.std.specs.Prelude.{slice_get}
use Rattle.std.proofs.Math.ListN.{drop_of_length-le}
use Rattle.std.proofs.lemmas.Option.{get_or_from_slice_get, slice_get_within}
use Rattle.plex_num.proofs.Lists.{opens}
use Rattle.exchange_model.specs.declared.exchange.Exchange.{Exchange}
use Rattle.entry_summary.specs.declared.summary.Summary.{Summary}
use Rattle.certificate_meaning.specs.Summaries.{AreSummaries}
use Rattle.analysis_text.specs.Analysis.{IsAnalysis}
use Rattle.analysis_text.specs.Pairs.{GainsText}
use Rattle.conflicts_meaning.specs.declared.rows.EntryPair.{EntryPair}
use Rattle.conflicts_meaning.specs.declared.rows.Section.{Section}
use Rattle.conflicts_meaning.specs.declared.rows.TheConstants.{MOST_TOLD}
use Rattle.conflicts_meaning.specs.Lines.{first_line, last_line, limit_line}
use Rattle.conflicts_meaning.specs.Told.{AreConflicts, HasSectionLines, IsSectionText, Told}
use Rattle.conflicts_meaning.specs.Told.{all_told, no_room, sections, told}
use Rattle.conflicts_text.specs.Fits.{TextWithin}
use Rattle.conflicts_text.specs.Within.{AllWithin}
use Rattle.conflicts_text.proofs.Fitting.{lines_are_more, text_fits}
use Rattle.conflicts_text.proofs.Within.{sections_within}

module _ (T L : Section → List ℕ → Type 0) (most : ℕ) (all : List Section) where
  -- the sections before an index are written, and this much room is left
  pub record Goes (place room : ℕ) (old now : List ℕ) : Type 0 where
    pub added : List ℕ
    pub is : now ≡ old ++ added
    pub on : (rest : List ℕ) → Told T L most (drop place all) room rest → Told T L most all most (added ++ rest)

  pub goes_begin : (old : List ℕ) → Goes 0 most old old
  goes_begin old = record { added = []; is = sym (append-nil old); on = λ rest t. t }

  opened : (place : ℕ) (s : Section) → slice_get all place ≡ Some s → drop place all ≡ s ∷ drop (place + 1) all
  opened place s there = opens all place s (slice_get_within all place s there) (sym (get_or_from_slice_get all place s s there))

  pub goes_more : (place room size : ℕ) (s : Section) (found : Option (List ℕ)) (part bytes old now new : List ℕ) → slice_get all place ≡ Some s
      → TextWithin (T s) (L s) room found → found ≡ Some part → size ≡ length part → bytes ≡ part → new ≡ now ++ bytes
      → Goes place room old now → Goes (place + 1) (room - size) old new
  goes_more place room size s found part bytes old now new there within is_part sized same made g = record {
    added = g.added ++ part;
    is = made ∙ ap (λ l. l ++ bytes) g.is ∙ append_assoc old g.added bytes ∙ ap (λ l. old ++ (g.added ++ l)) same;
    on = λ rest t. (let fits = text_fits (T s) (L s) room found within part is_part in
        subst (Told T L most all most) (sym (append_assoc g.added part rest))
        (g.on (part ++ rest) (subst (λ l. Told T L most l room (part ++ rest)) (sym (opened place s there))
        (told s (drop (place + 1) all) room part rest fits.0 fits.1 (subst (λ n. Told T L most (drop (place + 1) all) (room - n) rest) sized t)))));
  }

  finished : (place room : ℕ) (line old now new : List ℕ) → Told T L most (drop place all) room line → new ≡ now ++ line
      → Goes place room old now → GainsText (Told T L most all most) old new
  finished place room line old now new t made g = record {
    added = g.added ++ line;
    is = made ∙ ap (λ l. l ++ line) g.is ∙ append_assoc old g.added line;
    tells = g.on line t;
  }

  pub goes_stop : (place room : ℕ) (s : Section) (found : Option (List ℕ)) (old now new : List ℕ)
      → slice_get all place ≡ Some s → TextWithin (T s) (L s) room found → found ≡ None
      → new ≡ now ++ limit_line most → Goes place room old now → GainsText (Told T L most all most) old new
  goes_stop place room s found old now new there within none made g =
      let more = lines_are_more (T s) (L s) room found within none in
      finished place room (limit_line most) old now new
      (subst (λ l. Told T L most l room (limit_line most)) (sym (opened place s there)) (no_room s (drop (place + 1) all) room more.0 more.1 more.2))
      made g

  pub goes_end : (place room : ℕ) (old now new : List ℕ) → length all ≤ place → new ≡ now ++ last_line
      → Goes place room old now → GainsText (Told T L most all most) old new
  goes_end place room old now new past made g =
      finished place room last_line old now new (subst (λ l. Told T L most l room last_line) (sym (drop_of_length-le all past)) (all_told room)) made g

-- the whole text

pub slice_within : (summaries : List Summary) (asked : Option EntryPair) (count : ℕ) (made slice : List Section)
    → count ≡ length summaries → made ≡ sections count asked → slice ≡ made → AllWithin (length summaries) slice
slice_within summaries asked count made slice counted is same = subst (AllWithin (length summaries))
    (sym (same ∙ is ∙ ap (λ n. sections n asked) counted)) (sections_within (length summaries) asked)

pub whole : (x : Exchange) (asked : Option EntryPair) (summaries : List Summary) (count : ℕ) (made slice : List Section) (analysed headed result : List ℕ)
    → AreSummaries x summaries → count ≡ length summaries → made ≡ sections count asked → slice ≡ made
    → IsAnalysis x summaries analysed → headed ≡ analysed ++ first_line
    → GainsText (Told (IsSectionText x summaries) (HasSectionLines x summaries) MOST_TOLD slice MOST_TOLD) headed result → AreConflicts x asked result
whole x asked summaries count made slice analysed headed result are counted is same analysis head g = record {
  summaries = summaries;
  are = are;
  analysis = analysed;
  analysed = analysis;
  rest = g.added;
  tells = subst (λ l. Told (IsSectionText x summaries) (HasSectionLines x summaries) MOST_TOLD l MOST_TOLD g.added)
      (same ∙ is ∙ ap (λ n. sections n asked) (counted ∙ are.each_entry)) g.tells;
  is = g.is ∙ ap (λ h. h ++ g.added) head ∙ append_assoc analysed first_line g.added;
}
