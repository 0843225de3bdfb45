-- The release of records that the first job may hold stores to no word that the later one may read.
use Rattle.std.proofs.Common.{◌≡◌, ◌≢◌, inl, inr, ℕ, ◌<◌, Bool, true, List, [], ◌∷◌, length, sym}
use Rattle.std.proofs.Common.{◌∙◌, subst}
use Rattle.std.specs.List.{AllByRecursion}
use Rattle.std.specs.Option.{option_map_or}
use Rattle.std.proofs.lemmas.Option.{slice_get_within}
use Rattle.std.proofs.lemmas.Bool.{or_left, or_right}
use Rattle.job_types.specs.declared.chain.Held.{Held}
use Rattle.job_types.specs.declared.job.JobStart.{JobStart}
use Rattle.job_types.specs.declared.touch.Touch.{Touch}
use Rattle.job_types.specs.declared.touch.Touch.TheVariants.{Load, Store}
use Rattle.job_types.specs.Chain.{holds, is_record}
use Rattle.job_types.specs.Forlopps.{ChainMap}
use Rattle.job_types.specs.Own.{World, untouched}
use Rattle.job_types.specs.Touches.{NoStore}
use Rattle.exchange_model.specs.declared.entry.Cell.{Cell}
use Rattle.exchange_model.specs.declared.entry.Cell.TheVariants as cell
use Rattle.exchange_model.specs.declared.exchange.Exchange.{Exchange}
use Rattle.exchange_model.specs.Cells.{Placed, IsCell, field_cell, mark_cell}
use Rattle.exchange_model.proofs.Numbers.{field_is_cell, mark_is_cell, cell_number-field}
use Rattle.exchange_model.proofs.Numbers.{cell_number-mark, cell_number-once}
use Rattle.source_meaning.specs.Changes.{opens_record}
use Rattle.source_meaning.specs.Config.{files_of}
use Rattle.source_meaning.specs.Retirement.{all_opened, opened, release_world}
use Rattle.source_meaning.specs.State.{State}
use Rattle.source_meaning.specs.Valid.{IsRecord}
use Rattle.source_meaning.proofs.Chains.{record_itself}
use Rattle.source_meaning.proofs.Touching.{record_all}
use Rattle.entry_summary.specs.declared.summary.Summary.{Summary}
use Rattle.entry_summary.specs.Accesses.{IsForlopp}
use Rattle.start_permit.specs.Granted.{MayHold, MayRead}
use Rattle.permit_laws.specs.Permitted.{MayHoldAll}
use Rattle.pair_laws.proofs.Naming.{kinds_apart}
use Rattle.pair_laws.proofs.Cells.{CellLet, WordLet, read}
use Rattle.pair_laws.proofs.Beside.{AreBeside, none_held, no_two_seize, own_apart}

-- touches that store to another word, or to none
abbrev StoresElsewhere : ℕ → Touch → Type 0
StoresElsewhere w (Load u v) = Unit {0}
StoresElsewhere w (Store u v) = w ≢ u

no_store : (w : ℕ) (ts : List Touch) → AllByRecursion (StoresElsewhere w) ts → NoStore w ts
no_store w [] all = tt
no_store w (Load u v ∷ ts) all = no_store w ts all.1
no_store w (Store u v ∷ ts) all = (all.0, no_store w ts all.1)

-- records of a chain, the first or a later one

first_held : (summary : Summary) (start : JobStart) (chains : ChainMap) (r : Held) (rest : List Held)
    → MayHoldAll summary start chains (r ∷ rest) → MayHold summary.accesses start.chain chains r.file r.number
first_held summary start chains r rest hold = hold r.file r.number
    (or_left (is_record r.file r.number r) (holds rest r.file r.number) (record_itself r.file r.number))

later_held : (summary : Summary) (start : JobStart) (chains : ChainMap) (r : Held) (rest : List Held)
    → MayHoldAll summary start chains (r ∷ rest) → MayHoldAll summary start chains rest
later_held summary start chains r rest hold file number at = hold file number (or_right (is_record file number r) (holds rest file number) at)

module _ (x : Exchange) (s : State) (first later : Summary) (a b : JobStart) (h : AreBeside x s first later a b) (fault : first.fault ≡ true) where
  -- cells of a record that the first may hold

  field_not_let : (v : Bool) (file number field : ℕ) → IsForlopp x file
      → MayHold first.accesses a.chain s.chains file number
      → CellLet x later.accesses b s.chains v (cell.Field file number field) → ⊥
  field_not_let v file number field kind held (inl q) = kinds_apart x file q.plain kind
  field_not_let v file number field kind held (inr q) = own_apart x s first later a b h file number held q.held

  mark_not_let : (v : Bool) (file number : ℕ) → MayHold first.accesses a.chain s.chains file number
      → CellLet x later.accesses b s.chains v (cell.Mark file number) → ⊥
  mark_not_let v file number (inl p) (inl q) = none_held x s first later a b h file number fault q.there p
  mark_not_let v file number (inr p) (inl q) = no_two_seize x s first later a b h file p.0 q.there
  mark_not_let v file number held (inr q) = own_apart x s first later a b h file number held q.held

  module _ (w : ℕ) (v : Bool) (q : WordLet x later.accesses b s.chains v w) where
    -- the word is that of no such cell

    not_field : (r : Held) (field : ℕ) (i : IsRecord x r) → field < length i.placed.file.fields
        → MayHold first.accesses a.chain s.chains r.file r.number → w ≢ field_cell i.placed r.number field
    unfolding files_of
    not_field r field i within held is =
        let c : Cell = cell.Field r.file r.number field in
        let there : IsCell x.blocks c = field_is_cell x.blocks r.file r.number field i.placed i.here.there i.here.within within in
        let at : q.at ≡ c = cell_number-once x.blocks q.at c q.there there
        (q.is ∙ is ∙ sym (cell_number-field x.blocks r.file r.number field i.placed i.here.there)) in
        field_not_let v r.file r.number field (record { placed = i.placed; there = i.here.there; forlopp = i.kind })
        held (subst (CellLet x later.accesses b s.chains v) at q.lets)

    not_mark : (r : Held) (i : IsRecord x r) → MayHold first.accesses a.chain s.chains r.file r.number → w ≢ mark_cell i.placed r.number
    unfolding files_of
    not_mark r i held is =
        let c : Cell = cell.Mark r.file r.number in
        let there : IsCell x.blocks c = mark_is_cell x.blocks r.file r.number i.placed i.here.there i.here.within i.kind in
        let at : q.at ≡ c = cell_number-once x.blocks q.at c q.there there
        (q.is ∙ is ∙ sym (cell_number-mark x.blocks r.file r.number i.placed i.here.there)) in
        mark_not_let v r.file r.number held (subst (CellLet x later.accesses b s.chains v) at q.lets)

    -- nor is it stored to where they are opened

    one_opened : (r : Held) (world : World) → IsRecord x r → MayHold first.accesses a.chain s.chains r.file r.number
        → AllByRecursion (StoresElsewhere w) world.trace
        → AllByRecursion (StoresElsewhere w) (opened (files_of x) r world).trace
    one_opened r world i held all =
        subst (λ o. AllByRecursion (StoresElsewhere w) (option_map_or (λ (p : Placed). opens_record p r.number world) o world).trace) (sym i.here.there)
        (record_all (StoresElsewhere w) i.placed r.number world
        (λ field e at. not_field r field i (slice_get_within i.placed.file.fields field e at) held) (not_mark r i held) all)

    each_opened : (held : List Held) (world : World) → AllByRecursion (IsRecord x) held
        → MayHoldAll first a s.chains held → AllByRecursion (StoresElsewhere w) world.trace
        → AllByRecursion (StoresElsewhere w) (all_opened (files_of x) held world).trace
    each_opened [] world records hold all = all
    each_opened (r ∷ rest) world records hold all =
        each_opened rest (opened (files_of x) r world) records.1 (later_held first a s.chains r rest hold)
        (one_opened r world records.0 (first_held first a s.chains r rest hold) all)

  pub release_apart : (held : List Held) (store : List ℕ) (w : ℕ) → AllByRecursion (IsRecord x) held
      → MayHoldAll first a s.chains held → MayRead x later b s.chains w
      → NoStore w (release_world x held (untouched store)).trace
  release_apart held store w records hold reads =
      let q = read x later b s.chains w h.later_fit reads in
      no_store w (release_world x held (untouched store)).trace (each_opened w q.write q.lets held (untouched store) records hold tt)
