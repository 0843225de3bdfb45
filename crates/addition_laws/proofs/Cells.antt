-- The cells of added words.
use Rattle.std.proofs.Common.{◌≡◌, ◌⊎◌, inl, inr, ⊎_elim, ℕ, ◌+◌, ◌<◌, true, List, [], ◌∷◌, length}
use Rattle.std.proofs.Common.{Some, refl, sym, ◌∙◌, subst, slice_get}
use Rattle.std.proofs.lemmas.Bool.{cases_eq}
use Rattle.std.specs.List.{Contains}
use Rattle.plex_num.proofs.Members.{none_in, first_is, later_is, first_or_later}
use Rattle.exchange_model.specs.declared.block.Block.{Block}
use Rattle.exchange_model.specs.declared.entry.Cell.{Cell}
use Rattle.exchange_model.specs.declared.entry.Cell.TheVariants as cell
use Rattle.exchange_model.specs.declared.exchange.Exchange.{Exchange}
use Rattle.exchange_model.specs.Cells.{IsCell, Placed, cell_number, field_cell, mark_cell}
use Rattle.exchange_model.proofs.Numbers.{there_from, variable_is_cell, field_is_cell, mark_is_cell}
use Rattle.exchange_model.proofs.Numbers.{cell_number-field, cell_number-mark, cell_number-once}
use Rattle.source_meaning.specs.Config.{base_of, files_of}
use Rattle.source_meaning.specs.Deeds.{IsFileAt}
use Rattle.entry_summary.specs.Numbers.{field_number, variable_number}
use Rattle.start_permit.specs.Granted.{IsVariableWord, OneOf}
use Rattle.permit_laws.proofs.Words.{field_word, variable_word}
use Rattle.additions_meaning.specs.Additions.{IsAddedWord, IsFieldWord, Targets}

-- a number is listed or not
pub is_listed : (n : ℕ) (ns : List ℕ) → Contains ns n ⊎ (Contains ns n → ⊥)
is_listed n [] = inr (none_in n)
is_listed n (m ∷ ns) = ⊎_elim
    (λ same. inl (subst (Contains (m ∷ ns)) same (first_is m ns)))
    (λ other. ⊎_elim (λ there. inl (later_is m n ns there)) (λ none. inr (λ at. ⊎_elim other none (first_or_later m n ns at))) (is_listed n ns))
    (cases_eq m n)

module _ (x : Exchange) (d : Targets) where
  abbrev pub IsAddedCell : Cell → Type 0
  IsAddedCell (cell.Variable b v) = Contains d.variables (variable_number x b v)
  IsAddedCell (cell.Field file number field) = Contains d.fields (field_number x file field)
  IsAddedCell (cell.Mark file number) = ⊥

  of_variable : (w : ℕ) (c : Cell) → IsCell x.blocks c → cell_number x.blocks c ≡ w → OneOf (IsVariableWord x) d.variables w → IsAddedCell c
  of_variable w c there same o =
      let h = o.gives in
      let at : cell.Variable h.block h.index ≡ c =
      cell_number-once x.blocks (cell.Variable h.block h.index) c
      (variable_is_cell x.blocks h.block h.index h.owner h.there h.within) there (sym h.is ∙ sym same) in
      let own : IsAddedCell (cell.Variable h.block h.index) = subst (Contains d.variables) h.numbered o.there in
      subst IsAddedCell at own

  of_field : (w : ℕ) (c : Cell) → IsCell x.blocks c → cell_number x.blocks c ≡ w → OneOf (IsFieldWord x) d.fields w → IsAddedCell c
  unfolding files_of
  of_field w c there same o =
      let h = o.gives in
      let r = h.of_record in
      let at : cell.Field h.file r.number h.field ≡ c =
      cell_number-once x.blocks (cell.Field h.file r.number h.field) c
      (field_is_cell x.blocks h.file r.number h.field h.at.placed h.at.there r.below h.at.within) there
      (cell_number-field x.blocks h.file r.number h.field h.at.placed h.at.there ∙ sym r.is ∙ sym same) in
      let own : IsAddedCell (cell.Field h.file r.number h.field) = subst (Contains d.fields) h.at.numbered o.there in
      subst IsAddedCell at own

  -- the cell of an added word is an added one
  pub added_cell : (w : ℕ) (c : Cell) → IsCell x.blocks c → cell_number x.blocks c ≡ w → IsAddedWord x d w → IsAddedCell c
  added_cell w c there same (inl o) = of_variable w c there same o
  added_cell w c there same (inr o) = of_field w c there same o

  -- a word is added or not, by its cell
  pub added_by : (w : ℕ) (c : Cell) → IsCell x.blocks c → cell_number x.blocks c ≡ w → IsAddedWord x d w ⊎ (IsAddedWord x d w → ⊥)
  unfolding base_of files_of
  added_by w (cell.Variable b v) is same =
      let t = there_from (slice_get x.blocks b) (λ (k : Block). v < length k.variables) is in
      let word : IsVariableWord x (variable_number x b v) w = subst (IsVariableWord x (variable_number x b v)) same
      (variable_word x b v t.value t.is t.holds) in
      ⊎_elim (λ there. inl (inl (record { item = variable_number x b v; there = there; gives = word })))
      (λ none. inr (λ added. none (added_cell w (cell.Variable b v) is same added)))
      (is_listed (variable_number x b v) d.variables)
  added_by w (cell.Field file number field) is same =
      let t = there_from (slice_get (files_of x) file) (λ (p : Placed). (number < p.file.size) × (field < length p.file.fields)) is in
      let here : field_cell t.value number field ≡ w = sym (cell_number-field x.blocks file number field t.value t.is) ∙ same in
      let word : IsFieldWord x (field_number x file field) w =
      subst (IsFieldWord x (field_number x file field)) here
      (field_word x (λ f n. Unit {0}) file number field t.value (record { there = t.is; within = t.holds.0 })
      t.holds.1 tt) in
      ⊎_elim (λ there. inl (inr (record { item = field_number x file field; there = there; gives = word })))
      (λ none. inr (λ added. none (added_cell w (cell.Field file number field) is same added)))
      (is_listed (field_number x file field) d.fields)
  added_by w (cell.Mark file number) is same = inr (λ added. added_cell w (cell.Mark file number) is same added)

  -- an added variable, an added field, and no mark

  pub variable_added : (b v : ℕ) (k : Block) → slice_get x.blocks b ≡ Some k → v < length k.variables
      → IsAddedWord x d (base_of x b + v) → Contains d.variables (variable_number x b v)
  unfolding base_of
  variable_added b v k there lt added = added_cell (base_of x b + v) (cell.Variable b v) (variable_is_cell x.blocks b v k there lt) refl added

  pub field_added : (file number field : ℕ) (p : Placed) → IsFileAt x file p → number < p.file.size
      → field < length p.file.fields → IsAddedWord x d (field_cell p number field)
      → Contains d.fields (field_number x file field)
  unfolding files_of
  field_added file number field p there below lt added =
      added_cell (field_cell p number field) (cell.Field file number field)
      (field_is_cell x.blocks file number field p there below lt)
      (cell_number-field x.blocks file number field p there) added

  pub mark_added : (file number : ℕ) (p : Placed) → IsFileAt x file p → number < p.file.size → p.file.forlopp ≡ true → IsAddedWord x d (mark_cell p number) → ⊥
  unfolding files_of
  mark_added file number p there below kind added =
      added_cell (mark_cell p number) (cell.Mark file number) (mark_is_cell x.blocks file number p there below kind)
      (cell_number-mark x.blocks file number p there) added

  -- and the words of these are added
  pub variable_is_added : (b v : ℕ) (k : Block) → slice_get x.blocks b ≡ Some k → v < length k.variables
      → Contains d.variables (variable_number x b v) → IsAddedWord x d (base_of x b + v)
  variable_is_added b v k there lt listed = inl (record { item = variable_number x b v; there = listed; gives = variable_word x b v k there lt })

  pub field_is_added : (file number field : ℕ) (p : Placed) → IsFileAt x file p → number < p.file.size
      → field < length p.file.fields → Contains d.fields (field_number x file field)
      → IsAddedWord x d (field_cell p number field)
  field_is_added file number field p there below lt listed = inr (record {
    item = field_number x file field;
    there = listed;
    gives = field_word x (λ f n. Unit {0}) file number field p (record { there = there; within = below }) lt tt;
  })
