-- The text of the conflicts exists.
use Rattle.std.proofs.Common.{◌⊎◌, inl, inr, ℕ, ◌-◌, ◌<◌, ◌≤◌, List, [], ◌∷◌, ◌++◌, length, Option}
use Rattle.std.proofs.Common.{refl, sym, subst}
use Rattle.std.specs.List.{Contains, flat_map}
use Rattle.std.proofs.lemmas.Bool.{cases_lt}
use Rattle.plex_num.proofs.Lists.{some_at}
use Rattle.plex_num.proofs.Members.{first_is, later_is}
use Rattle.exchange_model.specs.declared.exchange.Exchange.{Exchange}
use Rattle.entry_summary.specs.declared.summary.Summary.{Summary}
use Rattle.analysis_existence.proofs.Pairing.{analysis}
use Rattle.analysis_existence.proofs.Summaries.{all_summaries}
use Rattle.conflicts_meaning.specs.declared.rows.EntryPair.{EntryPair}
use Rattle.conflicts_meaning.specs.declared.rows.Section.{Section}
use Rattle.conflicts_meaning.specs.declared.rows.Section.TheVariants.{Entry, Pair}
use Rattle.conflicts_meaning.specs.declared.rows.TheConstants.{MOST_TOLD}
use Rattle.conflicts_meaning.specs.Lines.{clash_text, first_line, last_line, limit_line, point_text}
use Rattle.conflicts_meaning.specs.Told.{AreConflicts, HasSectionLines, IsSectionText, Told}
use Rattle.conflicts_meaning.specs.Told.{all_told, no_room, sections, told}
use Rattle.conflicts_text.specs.Within.{IsWithin}
use Rattle.conflicts_text.proofs.Fitting.{entry_lines, pair_lines}
use Rattle.conflicts_text.proofs.Within.{sections_within}
use Rattle.conflict_laws.proofs.Clashing.{clash_rows}
use Rattle.conflict_laws.proofs.Given.{given_rows}

-- the text of a section
section_text : (x : Exchange) (ss : List Summary) (s : Section) → IsWithin (length ss) s → (text : List ℕ) × IsSectionText x ss s text
section_text x ss (Entry e) there =
    let s = some_at ss e there in
    let r = given_rows x e s.0 in
    (flat_map (point_text x e) r.0, record { summary = s.0; there = s.1; rows = r.0; given = r.1; is = refl })
section_text x ss (Pair p) there =
    let one = some_at ss p.first there.0 in
    let other = some_at ss p.later there.1 in
    let r = clash_rows one.0 other.0 in
    (flat_map (clash_text p) r.0, record { first = one.0; later = other.0; of_first = one.1; of_later = other.1; rows = r.0; clash = r.1; is = refl })

-- each of its lines is a line of the section
all_lines : (x : Exchange) (ss : List Summary) (s : Section) (text : List ℕ) → IsSectionText x ss s text → HasSectionLines x ss s text
all_lines x ss (Entry e) text h = entry_lines x ss e text h
all_lines x ss (Pair p) text h = pair_lines ss p text h

module _ (T L : Section → List ℕ → Type 0) (most : ℕ) (lines : (s : Section) (text : List ℕ) → T s text → L s text) where
  abbrev Comes : List Section → ℕ → Type 0
  Comes all room = (text : List ℕ) × Told T L most all room text

  -- the first section is written, or there is no room for it
  with_first : (s : Section) (rest : List Section) (room : ℕ) (part : List ℕ) → T s part
      → ((left : ℕ) → Comes rest left) → (room < length part) ⊎ (length part ≤ room) → Comes (s ∷ rest) room
  with_first s rest room part is more (inl over) = (limit_line most, no_room s rest room part (lines s part is) over)
  with_first s rest room part is more (inr fits) = (let t = more (room - length part) in (part ++ t.0, told s rest room part t.0 is fits t.1))

  all_texts : (all : List Section) → ((s : Section) → Contains all s → (part : List ℕ) × T s part) → (room : ℕ) → Comes all room
  all_texts [] each room = (last_line, all_told room)
  all_texts (s ∷ rest) each room =
      let part = each s (first_is s rest) in
      with_first s rest room part.0 part.1 (all_texts rest (λ q c. each q (later_is s q rest c))) (cases_lt room (length part.0))

pub text_comes : (x : Exchange) (asked : Option EntryPair) → (text : List ℕ) × AreConflicts x asked text
text_comes x asked =
    let ss = all_summaries x in
    let a = analysis x ss.0 in
    let n = length x.entries in
    let t = all_texts (IsSectionText x ss.0) (HasSectionLines x ss.0) MOST_TOLD (all_lines x ss.0) (sections n asked)
    (λ s c. section_text x ss.0 s (subst (λ m. IsWithin m s) (sym ss.1.each_entry) (sections_within n asked s c))) MOST_TOLD in
    (a.0 ++ (first_line ++ t.0), record { summaries = ss.0; are = ss.1; analysis = a.0; analysed = a.1; rest = t.0; tells = t.1; is = refl })
