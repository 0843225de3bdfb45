-- The words of fields and marks, by the rows of their files.
use Rattle.std.proofs.Common.{◌≡◌, inl, inr, ⊎_elim, ℕ, ◌+◌, ◌*◌, ◌<◌, ◌≤◌, Bool, true, false, ◌||◌}
use Rattle.std.proofs.Common.{List, [], ◌∷◌, ◌++◌, length, get_or, Option, Some, None, MatchOption}
use Rattle.std.proofs.Common.{slice_get, refl, sym, ap, ◌∙◌, subst, arith}
use Rattle.std.specs.Prelude.{◌↔◌, IsTrue}
use Rattle.std.specs.Option.{option_map}
use Rattle.std.proofs.lemmas.List.Elements.{Contains-get_or}
use Rattle.std.proofs.lemmas.Bool.{false≢true, or_left, or_right}
use Rattle.std.proofs.lemmas.Option.{none-some, same_Some, slice_get-map}
use Rattle.plex_limits.specs.declared.limits.TheConstants.{MOST_CELLS}
use Rattle.job_types.specs.declared.chain.Held.{Held}
use Rattle.job_types.specs.declared.job.JobStart.{JobStart}
use Rattle.job_types.specs.Forlopps.{ChainMap, all_records}
use Rattle.exchange_model.specs.declared.exchange.Exchange.{Exchange}
use Rattle.exchange_model.specs.Cells.{Placed, cell_count, file_cells, placed_files, record_cells}
use Rattle.exchange_model.proofs.Places.{file_below}
use Rattle.source_meaning.specs.Config.{files_of}
use Rattle.source_meaning.specs.Deeds.{IsFileAt}
use Rattle.store_layout.specs.declared.row.FileRow.{FileRow}
use Rattle.store_layout.specs.Laid.{IsLayout, file_row}
use Rattle.store_layout.specs.Rows.{Rows}
use Rattle.machine_code.specs.declared.permit.Span.{Span}
use Rattle.machine_code.specs.Permits.{spans}
use Rattle.machine_code.proofs.Spanned.{spans_in, spans_out}
use Rattle.flow_points.specs.declared.fact.Value.{Value}
use Rattle.entry_summary.specs.declared.summary.Access.{Access}
use Rattle.entry_summary.specs.declared.summary.Access.TheVariants.{Field}
use Rattle.entry_summary.specs.declared.summary.Summary.{Summary}
use Rattle.start_permit.specs.declared.runs.Run.{Run}
use Rattle.start_permit.specs.declared.table.CellTable.{CellTable}
use Rattle.start_permit.specs.declared.table.FieldPlace.{FieldPlace}
use Rattle.start_permit.specs.Granted.{Does, HasWord, IsFieldNumber, IsOfField, IsOfMark}
use Rattle.start_permit.specs.Granted.{IsOfRecord, IsCellTable, IsVariableWord, Lets, MayRead}
use Rattle.start_permit.specs.Granted.{MayWrite, OneOf, Selects}
use Rattle.start_permit.specs.Recorded.{AreBelow, AreRuns, Gains, InRow, IsBelow, IsRowOf, IsRunOf}
use Rattle.start_permit.specs.Recorded.{RowFits, spanned}
use Rattle.start_permit.proofs.Gaining.{gains_as, none_gained, push_gains}

-- rows

files_are : (x : Exchange) (file : ℕ) → slice_get (files_of x) file ≡ slice_get (placed_files x.blocks) file
unfolding files_of
files_are x file = refl

told : (x : Exchange) (file : ℕ) (q : Option Placed) (o : Option FileRow) → slice_get (files_of x) file ≡ q
    → o ≡ option_map file_row q → MatchOption o (slice_get (files_of x) file ≡ None) (λ row. IsRowOf x file row)
told x file None o at is = subst (λ r. MatchOption r (slice_get (files_of x) file ≡ None) (λ row. IsRowOf x file row)) (sym is) at
told x file (Some p) o at is = subst (λ r. MatchOption r (slice_get (files_of x) file ≡ None)
    (λ row. IsRowOf x file row)) (sym is) (record { placed = p; there = at; is = refl })

pub row_told : (x : Exchange) (l : Rows) (file : ℕ) (o : Option FileRow) → IsLayout x.blocks l
    → o ≡ slice_get l.files file → MatchOption o (slice_get (files_of x) file ≡ None) (λ row. IsRowOf x file row)
row_told x l file o laid is =
    told x file (slice_get (files_of x) file) o refl
    (is ∙ ap (λ fs. slice_get fs file) laid.files ∙ slice_get-map file_row (placed_files x.blocks) file ∙ ap (option_map file_row) (sym (files_are x file)))

few_words : (x : Exchange) (l : Rows) (file : ℕ) (p : Placed) → IsLayout x.blocks l → IsFileAt x file p
    → p.first + p.file.size * record_cells p.file ≤ MOST_CELLS
few_words x l file p laid there =
    let below : p.first + file_cells p.file ≤ cell_count x.blocks = file_below x.blocks file p (sym (files_are x file) ∙ there) in
    let few = laid.few in
    omega (arith, below, few)

fits_at : (x : Exchange) (l : Rows) (file place : ℕ) (p : Placed) (row : FileRow) → IsLayout x.blocks l
    → IsFileAt x file p → row ≡ file_row p → place ≤ length p.file.fields → RowFits row place
fits_at x l file place p row laid there is le = subst (λ (r : FileRow). RowFits r place) (sym is)
    (record { within = omega (arith, le); few = few_words x l file p laid there })

-- a mark stands behind the fields
pub mark_fits : (x : Exchange) (l : Rows) (file : ℕ) (row : FileRow) → IsLayout x.blocks l → IsRowOf x file row → RowFits row row.fields
mark_fits x l file row laid r =
    let same : row.fields ≡ length r.placed.file.fields = ap (λ (q : FileRow). q.fields) r.is in
    fits_at x l file row.fields r.placed row laid r.there r.is (omega (arith, same))

module _ (x : Exchange) (t : CellTable) (table : IsCellTable x t) (number : ℕ) (at : FieldPlace) (found : Some at ≡ slice_get t.fields number) where
  is_field : IsFieldNumber x number at.file at.field
  is_field = (table.fields number at).0 (sym found)

  same_place : (file field : ℕ) → IsFieldNumber x number file field → record { file = file; field = field } ≡ at
  same_place file field f = same_Some (record { file = file; field = field }) at
      (sym ((table.fields number (record { file = file; field = field })).1 f) ∙ sym found)

  row_is : (row : FileRow) → IsRowOf x at.file row → row ≡ file_row is_field.placed
  row_is row r = r.is ∙ ap file_row (same_Some r.placed is_field.placed (sym r.there ∙ is_field.there))

  pub field_fits : (l : Rows) (row : FileRow) → IsLayout x.blocks l → IsRowOf x at.file row → RowFits row at.field
  field_fits l row laid r = (let lt = is_field.within in fits_at x l at.file at.field is_field.placed row laid
      is_field.there (row_is row r) (omega (arith, lt)))

  field_gained : (Chosen : ℕ → ℕ → Type 0) (old new : List Span)
      → Gains (IsOfRecord is_field.placed at.field (Chosen at.file)) old new → Gains (IsOfField x number Chosen) old new
  field_gained Chosen old new g = gains_as (IsOfRecord is_field.placed at.field (Chosen at.file)) (IsOfField x number Chosen) old new
      (λ w r. record { file = at.file; field = at.field; at = is_field; of_record = r })
      (λ w k. from w (record { file = k.file; field = k.field }) (sym (same_place k.file k.field k.at)) k.at k.of_record) g
    where
      placed_same : (f : IsFieldNumber x number at.file at.field) → f.placed ≡ is_field.placed
      placed_same f = same_Some f.placed is_field.placed (sym f.there ∙ is_field.there)

      base : (w : ℕ) (f : IsFieldNumber x number at.file at.field) → IsOfRecord f.placed at.field (Chosen at.file) w
          → IsOfRecord is_field.placed at.field (Chosen at.file) w
      base w f r = subst (λ p. IsOfRecord p at.field (Chosen at.file) w) (placed_same f) r

      from : (w : ℕ) (k : FieldPlace) → at ≡ k → (f : IsFieldNumber x number k.file k.field)
          → IsOfRecord f.placed k.field (Chosen k.file) w → IsOfRecord is_field.placed at.field (Chosen at.file) w
      from w k e = subst (λ (q : FieldPlace). (f : IsFieldNumber x number q.file q.field)
          → IsOfRecord f.placed q.field (Chosen q.file) w → IsOfRecord is_field.placed at.field (Chosen at.file) w) e
          (base w)

-- no such field
pub no_field : (x : Exchange) (t : CellTable) (number : ℕ) (Chosen : ℕ → ℕ → Type 0) (old : List Span) → IsCellTable x t
    → None ≡ slice_get t.fields number → Gains (IsOfField x number Chosen) old old
no_field x t number Chosen old table none = none_gained (IsOfField x number Chosen) old
    (λ w k. none-some (record { file = k.file; field = k.field }) (none ∙ (table.fields number (record { file = k.file; field = k.field })).1 k.at))

-- a field that is there has a file
pub no_row : (x : Exchange) (t : CellTable) (number : ℕ) (at : FieldPlace) (Chosen : ℕ → ℕ → Type 0) (old : List Span)
    → IsCellTable x t → Some at ≡ slice_get t.fields number → slice_get (files_of x) at.file ≡ None
    → Gains (IsOfField x number Chosen) old old
no_row x t number at Chosen old table found none = (let f = (table.fields number at).0 (sym found) in absurd (none-some f.placed (sym none ∙ f.there)))

pub no_mark : (x : Exchange) (file : ℕ) (Chosen : ℕ → Type 0) (old : List Span) → slice_get (files_of x) file ≡ None → Gains (IsOfMark x file Chosen) old old
no_mark x file Chosen old none = none_gained (IsOfMark x file Chosen) old (λ w k. none-some k.placed (sym none ∙ k.there))

pub mark_gained : (x : Exchange) (file : ℕ) (row : FileRow) (r : IsRowOf x file row) (Chosen : ℕ → Type 0)
    (old new : List Span) → Gains (IsOfRecord r.placed (length r.placed.file.fields) Chosen) old new
    → Gains (IsOfMark x file Chosen) old new
mark_gained x file row r Chosen old new g = gains_as (IsOfRecord r.placed (length r.placed.file.fields) Chosen) (IsOfMark x file Chosen) old new
    (λ w k. record { placed = r.placed; there = r.there; of_record = k })
    (λ w k. subst (λ (p : Placed). IsOfRecord p (length p.file.fields) Chosen w) (same_Some k.placed r.placed (sym k.there ∙ r.there)) k.of_record) g

-- records of runs

pub run_in : (size : ℕ) (runs : List Run) (i : ℕ) (d : Run) → i < length runs → AreBelow size runs → IsBelow size (get_or runs i d)
run_in size runs i d lt below = record { below = λ n h. below.below n (record { item = get_or runs i d; there = Contains-get_or runs i d lt; gives = h }) }

pub run_below : (size : ℕ) (Chosen : ℕ → Type 0) (run : Run) → IsRunOf size Chosen run → IsBelow size run
run_below size Chosen run is = record { below = λ n h. (is.each n h).0 }

pub runs_below_read : (size : ℕ) (runs list : List Run) → list ≡ runs → AreBelow size runs → AreBelow size list
runs_below_read size runs list read below = subst (AreBelow size) (sym read) below

pub run_records : (p : Placed) (row : FileRow) (place : ℕ) (Chosen : ℕ → Type 0) (run : Run) (old new : List Span)
    → row ≡ file_row p → IsRunOf row.size Chosen run → Gains (InRow row place run) old new
    → Gains (IsOfRecord p place Chosen) old new
run_records p row place Chosen run old new is = subst
    (λ (r : FileRow). IsRunOf r.size Chosen run → Gains (InRow r place run) old new
    → Gains (IsOfRecord p place Chosen) old new) (sym is)
    (λ are g. gains_as (InRow (file_row p) place run) (IsOfRecord p place Chosen) old new
    (λ w k. (let m = are.each k.number k.inside in record { number = k.number; below = m.0; chosen = m.1; is = k.is }))
    (λ w k. record { number = k.number; inside = are.back k.number k.below k.chosen; is = k.is }) g)

pub runs_records : (p : Placed) (row : FileRow) (place : ℕ) (Chosen : ℕ → Type 0) (runs : List Run)
    (old new : List Span) → row ≡ file_row p → AreRuns row.size Chosen runs
    → Gains (OneOf (InRow row place) runs) old new → Gains (IsOfRecord p place Chosen) old new
runs_records p row place Chosen runs old new is = subst
    (λ (r : FileRow). AreRuns r.size Chosen runs → Gains (OneOf (InRow r place) runs) old new
    → Gains (IsOfRecord p place Chosen) old new) (sym is)
    (λ are g. gains_as (OneOf (InRow (file_row p) place) runs) (IsOfRecord p place Chosen) old new
    (λ w o. (let k = o.gives in let m = are.each k.number (record { item = o.item; there = o.there; gives = k.inside })
    in record { number = k.number; below = m.0; chosen = m.1; is = k.is }))
    (λ w k. (let o = are.back k.number k.below k.chosen in record
    { item = o.item; there = o.there; gives = record { number = k.number; inside = o.gives; is = k.is } })) g)

-- what the calls append

pub selected_field : (x : Exchange) (t : CellTable) (number : ℕ) (at : FieldPlace) (row : FileRow)
    (Chosen : ℕ → ℕ → Type 0) (run : Run) (old new : List Span) → IsCellTable x t → Some at ≡ slice_get t.fields number
    → IsRowOf x at.file row
    → IsRunOf row.size (Chosen at.file) run → Gains (InRow row at.field run) old new → Gains (IsOfField x number Chosen) old new
selected_field x t number at row Chosen run old new table found r are g =
    field_gained x t table number at found Chosen old new
    (run_records (is_field x t table number at found).placed row at.field (Chosen at.file) run old new
    (row_is x t table number at found row r) are g)

pub own_field : (x : Exchange) (t : CellTable) (number : ℕ) (at : FieldPlace) (row : FileRow) (Chosen : ℕ → ℕ → Type 0)
    (runs list : List Run) (old new : List Span) → IsCellTable x t → Some at ≡ slice_get t.fields number
    → IsRowOf x at.file row
    → list ≡ runs → AreRuns row.size (Chosen at.file) runs → Gains (OneOf (InRow row at.field) list) old new → Gains (IsOfField x number Chosen) old new
own_field x t number at row Chosen runs list old new table found r read are g =
    field_gained x t table number at found Chosen old new
    (runs_records (is_field x t table number at found).placed row at.field (Chosen at.file) list old new
    (row_is x t table number at found row r) (subst (AreRuns row.size (Chosen at.file)) (sym read) are) g)

pub marks_of : (x : Exchange) (file : ℕ) (row : FileRow) (Chosen : ℕ → Type 0) (runs list : List Run)
    (old new : List Span) → IsRowOf x file row → list ≡ runs → AreRuns row.size Chosen runs
    → Gains (OneOf (InRow row row.fields) list) old new → Gains (IsOfMark x file Chosen) old new
marks_of x file row Chosen runs list old new r read are g =
    mark_gained x file row r Chosen old new (runs_records r.placed row (length r.placed.file.fields) Chosen list old new
    r.is (subst (AreRuns row.size Chosen) (sym read) are)
    (subst (λ n. Gains (OneOf (InRow row n) list) old new) (ap (λ (q : FileRow). q.fields) r.is) g))

pub mark_of : (x : Exchange) (file : ℕ) (row : FileRow) (Chosen : ℕ → Type 0) (run : Run) (old new : List Span)
    → IsRowOf x file row → IsRunOf row.size Chosen run → Gains (InRow row row.fields run) old new
    → Gains (IsOfMark x file Chosen) old new
mark_of x file row Chosen run old new r are g =
    mark_gained x file row r Chosen old new (run_records r.placed row (length r.placed.file.fields) Chosen run old new r.is are
    (subst (λ n. Gains (InRow row n run) old new) (ap (λ (q : FileRow). q.fields) r.is) g))

-- the word of a variable

one_word : (word : ℕ) (w : ℕ) → spans (record { first = word; count = 1; stride = 1 }) w ≡ true → word ≡ w
one_word word w h = (let s = spans_out (record { first = word; count = 1; stride = 1 }) w h in let lt : s.0
    < 1 = s.1 in let at : word + s.0 * 1 ≡ w = s.2 in omega (arith, lt, at))

its_word : (word : ℕ) → spans (record { first = word; count = 1; stride = 1 }) word ≡ true
its_word word = (let at : word + 0 * 1 ≡ word = omega arith in subst
    (λ v. spans (record { first = word; count = 1; stride = 1 }) v ≡ true) at
    (spans_in (record { first = word; count = 1; stride = 1 }) 0 (omega arith)))

pub variable_gained : (x : Exchange) (t : CellTable) (number word : ℕ) (old new : List Span) → IsCellTable x t
    → Some word ≡ slice_get t.variables number → new ≡ old ++ record { first = word; count = 1; stride = 1 } ∷ []
    → Gains (IsVariableWord x number) old new
variable_gained x t number word old new table found made = push_gains (IsVariableWord x number) old new (record { first = word; count = 1; stride = 1 }) made
    (λ w h. subst (IsVariableWord x number) (one_word word w h) ((table.variables number word).0 (sym found)))
    (λ w v. subst (λ u. spans (record { first = word; count = 1; stride = 1 }) u ≡ true)
    (same_Some word w (found ∙ (table.variables number w).1 v)) (its_word word))

pub no_variable : (x : Exchange) (t : CellTable) (number : ℕ) (old : List Span) → IsCellTable x t
    → None ≡ slice_get t.variables number → Gains (IsVariableWord x number) old old
no_variable x t number old table none = none_gained (IsVariableWord x number) old (λ w v. none-some w (none ∙ (table.variables number w).1 v))

-- accesses

pub does_not : (x : Exchange) (all : List Access) (start : JobStart) (chains : ChainMap) (write : Bool)
    (access : Access) (r : Bool) (old : List Span) → IsTrue r ↔ Does write access → r ≡ false
    → Gains (Lets x all start chains write access) old old
does_not x all start chains write access r old is fails = none_gained (Lets x all start chains write access) old
    (λ w k. false≢true (subst IsTrue fails (is.1 k.does)))

pub does_so : (x : Exchange) (all : List Access) (start : JobStart) (chains : ChainMap) (write : Bool) (access : Access)
    (r : Bool) (old new : List Span) → IsTrue r ↔ Does write access → r ≡ true
    → Gains (HasWord x all start chains write access) old new → Gains (Lets x all start chains write access) old new
does_so x all start chains write access r old new is holds_it g = gains_as (HasWord x all start chains write access)
    (Lets x all start chains write access) old new
    (λ w k. record { does = is.0 holds_it; has = k }) (λ w k. k.has) g

pub field_words : (x : Exchange) (all : List Access) (start : JobStart) (chains : ChainMap) (write writes : Bool)
    (number : ℕ) (selector : Value) (access : Access) (values : List ℕ) (old new : List Span)
    → access ≡ Field writes number selector → values ≡ start.job.values
    → Gains (IsOfField x number (λ file. Selects values selector)) old new → Gains (HasWord x all start chains write access) old new
field_words x all start chains write writes number selector access values old new is read g =
    subst (λ a. Gains (HasWord x all start chains write a) old new) (sym is)
    (subst (λ vs. Gains (IsOfField x number (λ file. Selects vs selector)) old new) read g)

-- the whole permit

module _ (x : Exchange) (s : Summary) (start : JobStart) (chains : ChainMap) (held : List Held) (all : List Access)
    (same : held ≡ all_records chains) (read : all ≡ s.accesses) where
  abbrev pub Told : Bool → List Span → Type 0
  Told write ss = (m : ChainMap) → held ≡ all_records m → (w : ℕ) → IsTrue (spanned ss w) ↔ OneOf (Lets x all start m write) all w

  of_all : (write : Bool) (ss : List Span) → Told write ss → (w : ℕ) → IsTrue (spanned ss w) ↔ OneOf (Lets x s.accesses start chains write) s.accesses w
  of_all write ss t w = subst (λ l. IsTrue (spanned ss w) ↔ OneOf (Lets x l start chains write) l w) read (t chains same w)

  pub writes_told : (writes : List Span) → Told true writes → (w : ℕ) → (spanned writes w ≡ true) ↔ MayWrite x s start chains w
  writes_told writes t w = of_all true writes t w

  pub reads_told : (reads writes : List Span) → Told false reads → Told true writes → (w : ℕ)
      → ((spanned reads w || spanned writes w) ≡ true) ↔ MayRead x s start chains w
  reads_told reads writes t u w = (
    λ h. by_case (spanned reads w) (of_all false reads t w).0 h,
    λ h. ⊎_elim
        (λ o. or_left (spanned reads w) (spanned writes w) ((of_all false reads t w).1 o))
        (λ o. or_right (spanned reads w) (spanned writes w) ((of_all true writes u w).1 o)) h,
  )
    where
      by_case : (b : Bool) → (IsTrue b → OneOf (Lets x s.accesses start chains false) s.accesses w)
          → (b || spanned writes w) ≡ true → MayRead x s start chains w
      by_case true go h = inl (go refl)
      by_case false go h = inr ((of_all true writes u w).0 h)
