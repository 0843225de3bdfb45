-- The numbers of blocks, entries, statements and cells of an exchange are no more than its text
-- says.
use Rattle.std.proofs.Common.{◌≡◌, ℕ, ◌+◌, ◌*◌, ◌≤◌, List, [], ◌∷◌, length, map, sum_by, refl, ap}
use Rattle.std.proofs.Common.{arith, length-append, filter_map}
use Rattle.std.specs.List.{cons_option, AllByRecursion}
use Rattle.std.proofs.lemmas.List.{length-map}
use Rattle.std.proofs.lemmas.List.Sums.{sum_by-cons}
use Rattle.first_fault.specs.First.{total}
use Rattle.first_fault.proofs.First.{total_push}
use Rattle.exchange_model.specs.declared.signal.SignalKind.{SignalKind}
use Rattle.exchange_model.specs.declared.block.Block.{Block}
use Rattle.exchange_model.specs.declared.block.File.{File}
use Rattle.exchange_model.specs.declared.block.Variable.{Variable}
use Rattle.exchange_model.specs.declared.entry.PointInfo.{PointInfo}
use Rattle.exchange_model.specs.Cells.{block_cells, file_cells, cell_count, marks}
use Rattle.exchange_model.specs.Fits.{Scope}
use Rattle.exchange_model.specs.Inside.{spots, PointLine, joined}
use Rattle.exchange_model.specs.Kept.{entries_in, entries_from, points_from}
use Rattle.plex_ast.specs.declared.block.Block.{Block as TreeBlock}
use Rattle.plex_ast.specs.declared.block.Decl.{Decl}
use Rattle.plex_ast.specs.declared.block.DeclKind.{DeclKind}
use Rattle.plex_ast.specs.declared.block.DeclKind.TheVariants as decl
use Rattle.kept_trees.specs.Keeps.{KeepsBlock}
use Rattle.signal_types.specs.Found.{kind_in}
use Rattle.text_events.specs.Note.{Event}
use Rattle.text_events.specs.Note as note
use Rattle.text_events.specs.Walk.{add, in_turn}
use Rattle.text_events.specs.Blocks.{variables_of, temporaries_of, files_of, cells_of, decl_walk}
use Rattle.text_events.specs.Blocks.{decls_walk, survey_walk, block_head, block_body, block_events}
use Rattle.text_rules.specs.Links.{Amounts, adds, amounts_in, blocks_note, cells_note}
use Rattle.resolved_block.specs.Texts.{typed_from}
use Rattle.resolved_block.specs.declared.parts.First.{First}
use Rattle.resolved_block.specs.Blocks.{variable_in, kind_variable, kind_files, files_from}
use Rattle.resolved_block.specs.Blocks.{typed_of, field_of}
use Rattle.text_soundness.specs.Fine.{IsFineBlock}
use Rattle.text_soundness.proofs.BuiltText.{Begin, begin_then, begin_add, begin_total, total_append}
use Rattle.text_soundness.proofs.BuiltText.{statement_in}
use Rattle.text_soundness.proofs.BuiltBody.{block_made, body_is, body_is_sound}
use Rattle.text_soundness.proofs.MeaningsSaid.{Adds, Said}
use Rattle.text_soundness.proofs.MeaningsBlocks.{decl_adds, surveys_quiet, items_add, block_begins}

begins : {out new : List Event} {saids : List Said} → Adds out new saids → Begin out new
begins a = record { more = a.more; same = a.same }

-- cells

abbrev cell_in : Event → ℕ
cell_in e = cells_note e.note

abbrev decl_cells : Decl → ℕ
decl_cells d = cells_of d.kind

decls_told : (ds : List Decl) (v t f : ℕ) (out : List Event) → total cell_in out + total decl_cells ds ≤ total cell_in (decls_walk ds v t f out)
decls_told [] v t f out = omega arith
decls_told (d ∷ rest) v t f out =
    let counted = add d.line (note.Cells (cells_of d.kind)) out in
    let after = decl_walk d.kind v t f counted in
    omega (
      arith,
      total_push cell_in out (record { line = d.line; note = note.Cells (cells_of d.kind) }),
      begin_total
          cell_in counted after (begins (decl_adds d.kind v t f counted)),
      decls_told rest (v + variables_of d.kind)
          (t + temporaries_of d.kind) (f + files_of d.kind) after,
    )

kind_cells : (k : DeclKind) (n : ℕ) (variables : List Variable) (rest : ℕ → List File) (more : ℕ)
    → ((m : ℕ) → length variables + sum_by file_cells (rest m) ≡ more)
    → length (cons_option (kind_variable k) variables) + sum_by file_cells (kind_files k n rest) ≡ cells_of k + more
kind_cells (decl.Variable name width init clear) n variables rest more h = omega (arith, h n)
kind_cells (decl.Temporary name) n variables rest more h = omega (arith, h n)
kind_cells (decl.File forlopp name size fields) n variables rest more h =
    let f : File = record { name = name.name; number = n; forlopp = forlopp; size = size.value; fields = map field_of fields } in
    let own : file_cells f ≡ size.value * (length fields + marks forlopp) = ap (λ m. size.value * (m + marks forlopp)) (length-map fields field_of) in
    rw (sum_by-cons file_cells f (rest (n + 1)), own) (omega (arith, h (n + 1)))

decls_cells : (decls : List Decl) (n : ℕ) → length (filter_map variable_in decls) + sum_by file_cells (files_from decls n) ≡ total decl_cells decls
unfolding files_from
decls_cells [] n = refl
decls_cells (d ∷ rest) n = kind_cells d.kind n (filter_map variable_in rest) (files_from rest) (total decl_cells rest) (decls_cells rest)

-- what is told of one block

module _ (signals : List SignalKind) (blocks : List TreeBlock) (first : First) (b : TreeBlock)
    (fine : IsFineBlock signals blocks b) (keeps : KeepsBlock 6 12 b) where
  abbrev made_of : Block
  made_of = (typed_of signals blocks first b).block

  abbrev around : Scope
  around = record { signals = signals; blocks = []; files = []; number = 0; block = made_of }

  abbrev told_in : Amounts
  told_in = amounts_in (kind_in signals) (block_events b)

  abbrev surveyed : List Event
  surveyed = in_turn (map survey_walk b.surveys) (decls_walk b.decls 0 0 0 (block_head b))

  one_block : 1 ≤ told_in.blocks
  one_block = begin_total (λ (e : Event). blocks_note e.note) (block_head b) (block_events b) (block_begins b)

  has_cells : block_cells made_of ≤ told_in.cells
  unfolding typed_of
  has_cells =
      let declared = decls_walk b.decls 0 0 0 (block_head b) in
      let after = begin_add declared (block_body b) b.end_line note.Ends
      (begin_then declared surveyed (block_body b) (begins (surveys_quiet b.surveys declared))
      (begins (items_add b.items 0 note.Nothing surveyed))) in
      omega (arith, decls_cells b.decls first.file, decls_told b.decls 0 0 0 (block_head b), begin_total cell_in declared (block_events b) after)

  has_statements : length (spots made_of.body) ≤ told_in.statements
  has_statements =
      let made = block_made around blocks first b keeps in
      omega (
        arith,
        ap (λ (ms : _). length (spots ms)) (body_is signals blocks first b),
        made.told 0 note.Nothing
            surveyed,
        total_push statement_in (block_body b) (record { line = b.end_line; note = note.Ends }),
      )

  has_entries : (number : ℕ) → length (entries_in signals number made_of.body) ≤ told_in.entries
  has_entries number =
      let made = block_made around blocks first b keeps in
      omega (
        arith,
        ap (λ (ms : _). length (entries_in signals number ms)) (body_is signals blocks first b),
        made.entries number 0 note.Nothing surveyed (body_is_sound signals blocks b fine),
        total_push
            (λ (e : Event). (adds (kind_in signals) e.note).entries) (block_body b)
            (record { line = b.end_line; note = note.Ends }),
      )

-- all blocks

module _ (signals : List SignalKind) (blocks : List TreeBlock) where
  abbrev pub Kept : TreeBlock → Type 0
  Kept b = IsFineBlock signals blocks b × KeepsBlock 6 12 b

  abbrev pub all_told : List TreeBlock → Amounts
  all_told list = amounts_in (kind_in signals) (joined (map block_events list))

  pub all_blocks : (first : First) (list : List TreeBlock) → AllByRecursion Kept list → length (typed_from signals blocks first list) ≤ (all_told list).blocks
  unfolding typed_from
  all_blocks first [] kept = omega arith
  all_blocks first (b ∷ rest) kept =
      omega (
        arith,
        one_block signals blocks first b kept.0.0 kept.0.1,
        all_blocks
            (typed_of signals blocks first b).next rest kept.1,
        total_append (λ (e : Event). blocks_note e.note)
            (block_events b) (joined (map block_events rest)),
      )

  pub all_cells : (first : First) (list : List TreeBlock) → AllByRecursion Kept list → cell_count (typed_from signals blocks first list) ≤ (all_told list).cells
  unfolding typed_from
  all_cells first [] kept = omega arith
  all_cells first (b ∷ rest) kept =
      let t = typed_of signals blocks first b in
      omega (
        arith,
        sum_by-cons block_cells t.block (typed_from signals blocks t.next rest),
        has_cells signals blocks
            first b kept.0.0 kept.0.1,
        all_cells t.next rest kept.1,
        total_append cell_in (block_events b)
            (joined (map block_events rest)),
      )

  pub all_statements : (first : First) (list : List TreeBlock) (number : ℕ) → AllByRecursion Kept list
      → length (points_from number (typed_from signals blocks first list)) ≤ (all_told list).statements
  unfolding typed_from points_from
  all_statements first [] number kept = omega arith
  all_statements first (b ∷ rest) number kept =
      let t = typed_of signals blocks first b in
      let point : PointLine → PointInfo = λ s. record { block = number; line = s.line } in
      omega (
        arith,
        length-append (map point (spots t.block.body))
            (points_from (number + 1) (typed_from signals blocks t.next rest)),
        length-map (spots t.block.body) point,
        has_statements signals blocks first b kept.0.0 kept.0.1,
        all_statements t.next rest (number + 1) kept.1,
        total_append statement_in (block_events b) (joined (map block_events rest)),
      )

  pub all_entries : (first : First) (list : List TreeBlock) (number : ℕ) → AllByRecursion Kept list
      → length (entries_from signals number (typed_from signals blocks first list)) ≤ (all_told list).entries
  unfolding typed_from entries_from
  all_entries first [] number kept = omega arith
  all_entries first (b ∷ rest) number kept =
      let t = typed_of signals blocks first b in
      omega (
        arith,
        length-append (entries_in signals number t.block.body)
            (entries_from signals (number + 1) (typed_from signals blocks t.next rest)),
        has_entries signals blocks first
            b kept.0.0 kept.0.1 number,
        all_entries t.next rest (number + 1) kept.1,
        total_append
            (λ (e : Event). (adds (kind_in signals) e.note).entries) (block_events b) (joined (map block_events rest)),
      )
