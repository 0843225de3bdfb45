-- Stores that are listed one after the other.
use Rattle.std.proofs.Common.{◌≡◌, ℕ, ◌+◌, ◌*◌, ◌<◌, ◌≤◌, List, [], ◌∷◌, ◌++◌, take, length, get_or}
use Rattle.std.proofs.Common.{refl, sym, ap, ◌∙◌, arith, append_assoc, Some, None, slice_get}
use Rattle.std.proofs.lemmas.List.{append-nil, length-take-le, take_more, take_all}
use Rattle.std.proofs.lemmas.List.Sums.{sum_by-cons, sum_by_more}
use Rattle.exchange_model.specs.declared.block.Block.{Block}
use Rattle.exchange_model.specs.declared.block.Variable.{Variable}
use Rattle.exchange_model.specs.Cells.{Placed, block_cells, cell_count, placed_files}
use Rattle.job_types.specs.declared.chain.Held.{Held}
use Rattle.store_layout.specs.declared.row.FileRow.{FileRow}
use Rattle.store_layout.specs.Laid.{IsLayout, file_row}
use Rattle.store_layout.specs.Rows.{Rows}
use Rattle.std.specs.Option.{option_map_or}
use Rattle.store_layout.proofs.Looking.{file_row_at}
use Rattle.run_books.specs.Stores.{all_clear_stores, clear_of, clear_stores, field_stores}
use Rattle.run_books.specs.Stores.{held_stores, record_stores}
use Rattle.run_books.specs.declared.stores.Write.{Write}

field_more : (first : ℕ) (fs : List Variable) (v : Variable)
    → field_stores first (fs ++ v ∷ []) ≡ field_stores first fs
    ++ record { word = first + length fs; value = v.init } ∷ []
field_more first [] v = let none : first ≡ first + 0 = omega arith in ap (λ n. record { word = n; value = v.init } ∷ []) none
field_more first (u ∷ fs) v =
    let at : first + 1 + length fs ≡ first + length (u ∷ fs) = omega arith in
    ap (λ (ws : List Write). record { word = first; value = u.init } ∷ ws)
    (field_more (first + 1) fs v ∙ ap (λ n. field_stores (first + 1) fs ++ record { word = n; value = v.init } ∷ [])
    at)

clear_more : (first : ℕ) (fs : List Variable) (v : Variable) → clear_stores first (fs ++ v ∷ []) ≡ clear_stores first fs ++ clear_of (first + length fs) v
clear_more first [] v = let none : first ≡ first + 0 = omega arith in append-nil (clear_of first v) ∙ ap (λ n. clear_of n v) none
clear_more first (u ∷ fs) v =
    let at : first + 1 + length fs ≡ first + length (u ∷ fs) = omega arith in
    ap (λ ws. clear_of first u ++ ws) (clear_more (first + 1) fs v ∙ ap (λ n. clear_stores (first + 1) fs ++ clear_of n v) at)
    ∙ sym (append_assoc (clear_of first u) (clear_stores (first + 1) fs) (clear_of (first + length (u ∷ fs)) v))

blocks_more : (first : ℕ) (bs : List Block) (k : Block)
    → all_clear_stores first (bs ++ k ∷ []) ≡ all_clear_stores first bs
    ++ clear_stores (first + cell_count bs) k.variables
blocks_more first [] k = let none : first ≡ first + 0 = omega arith in append-nil (clear_stores first k.variables) ∙ ap (λ n. clear_stores n k.variables) none
blocks_more first (b ∷ bs) k =
    let more : cell_count (b ∷ bs) ≡ block_cells b + cell_count bs = sum_by-cons block_cells b bs in
    let at : first + block_cells b + cell_count bs ≡ first + cell_count (b ∷ bs) = omega (arith, more) in
    ap (λ ws. clear_stores first b.variables ++ ws)
    (blocks_more (first + block_cells b) bs k
    ∙ ap (λ n. all_clear_stores (first + block_cells b) bs ++ clear_stores n k.variables) at)
    ∙ sym (append_assoc (clear_stores first b.variables) (all_clear_stores (first + block_cells b) bs) (clear_stores (first + cell_count (b ∷ bs)) k.variables))

-- the stores of the first fields have been listed
pub record Fielded (old new : List Write) (first word : ℕ) (fs : List Variable) (index : ℕ) : Type 0 where
  pub so_far : new ≡ old ++ field_stores first (take index fs)
  pub at : word ≡ first + index

pub fielded_begin : (old : List Write) (first : ℕ) (fs : List Variable) → Fielded old old first first fs 0
fielded_begin old first fs = record { so_far = sym (append-nil old); at = omega arith }

pub fielded_more : (old new next : List Write) (first word : ℕ) (fs : List Variable) (index : ℕ) (v : Variable) → index < length fs → v ≡ get_or fs index v
    → next ≡ new ++ record { word = word; value = v.init } ∷ [] → Fielded old new first word fs index → Fielded old next first (word + 1) fs (index + 1)
fielded_more old new next first word fs index v within read pushed l =
    let front = take index fs in
    let le : index ≤ length fs = omega (arith, within) in
    let long = length-take-le index fs le in
    let longer : take (index + 1) fs ≡ front ++ v ∷ [] = take_more fs index v within ∙ ap (λ (y : Variable). front ++ y ∷ []) (sym read) in
    let place : word ≡ first + length front = omega (arith, l.at, long) in
    record {
      so_far = pushed ∙ ap (λ ws. ws ++ record { word = word; value = v.init } ∷ []) l.so_far
          ∙ append_assoc old (field_stores first front) (record { word = word; value = v.init } ∷ [])
          ∙ ap (λ ws. old ++ ws) (ap (λ n. field_stores first front ++ record { word = n; value = v.init } ∷ []) place
          ∙ sym (field_more first front v) ∙ sym (ap (field_stores first) longer));
      at = omega (arith, l.at);
    }

pub fielded_end : (old new : List Write) (first word : ℕ) (fs : List Variable) (index : ℕ) → length fs ≤ index
    → Fielded old new first word fs index → new ≡ old ++ field_stores first fs
fielded_end old new first word fs index past l = l.so_far ∙ ap (λ ys. old ++ field_stores first ys) (take_all index fs past)

-- the stores of the first variables
pub record Cleared (old new : List Write) (first word : ℕ) (fs : List Variable) (index : ℕ) : Type 0 where
  pub so_far : new ≡ old ++ clear_stores first (take index fs)
  pub at : word ≡ first + index

pub cleared_begin : (old : List Write) (first : ℕ) (fs : List Variable) → Cleared old old first first fs 0
cleared_begin old first fs = record { so_far = sym (append-nil old); at = omega arith }

pub cleared_more : (old new next : List Write) (first word : ℕ) (fs : List Variable) (index : ℕ) (v : Variable) → index < length fs → v ≡ get_or fs index v
    → next ≡ new ++ clear_of word v → Cleared old new first word fs index → Cleared old next first (word + 1) fs (index + 1)
cleared_more old new next first word fs index v within read pushed l =
    let front = take index fs in
    let le : index ≤ length fs = omega (arith, within) in
    let long = length-take-le index fs le in
    let longer : take (index + 1) fs ≡ front ++ v ∷ [] = take_more fs index v within ∙ ap (λ (y : Variable). front ++ y ∷ []) (sym read) in
    let place : word ≡ first + length front = omega (arith, l.at, long) in
    record {
      so_far = pushed ∙ ap (λ ws. ws ++ clear_of word v) l.so_far ∙ append_assoc old (clear_stores first front) (clear_of word v)
          ∙ ap (λ ws. old ++ ws) (ap (λ n. clear_stores first front ++ clear_of n v) place
          ∙ sym (clear_more first front v) ∙ sym (ap (clear_stores first) longer));
      at = omega (arith, l.at);
    }

pub cleared_end : (old new : List Write) (first word : ℕ) (fs : List Variable) (index : ℕ) → length fs ≤ index
    → Cleared old new first word fs index → new ≡ old ++ clear_stores first fs
cleared_end old new first word fs index past l = l.so_far ∙ ap (λ ys. old ++ clear_stores first ys) (take_all index fs past)

-- the stores of the first blocks
pub record Blocked (old new : List Write) (word : ℕ) (bs : List Block) (index : ℕ) : Type 0 where
  pub so_far : new ≡ old ++ all_clear_stores 0 (take index bs)
  pub at : word ≡ cell_count (take index bs)

pub blocked_begin : (old : List Write) (bs : List Block) → Blocked old old 0 bs 0
blocked_begin old bs = record { so_far = sym (append-nil old); at = refl }

pub blocked_more : (old new next : List Write) (word cells : ℕ) (bs items : List Block) (index : ℕ) (k : Block)
    (vs : List Variable) → items ≡ bs → index < length items → k ≡ get_or items index k → vs ≡ k.variables
    → cells ≡ block_cells k → next ≡ new ++ clear_stores word vs → Blocked old new word bs index → Blocked old next (word + cells) bs (index + 1)
blocked_more old new next word cells bs items index k vs same within read listed counted pushed l =
    let inside : index < length bs = omega (arith, within, ap length same) in
    let is : k ≡ get_or bs index k = read ∙ ap (λ (ks : List Block). get_or ks index k) same in
    let front = take index bs in
    let longer : take (index + 1) bs ≡ front ++ k ∷ [] = take_more bs index k inside ∙ ap (λ (y : Block). front ++ y ∷ []) (sym is) in
    let place : word ≡ 0 + cell_count front = omega (arith, l.at) in
    let at_block : block_cells (get_or bs index k) ≡ block_cells k = ap block_cells (sym is) in
    record {
      so_far = pushed ∙ ap (λ us. new ++ clear_stores word us) listed ∙ ap (λ ws. ws ++ clear_stores word k.variables) l.so_far
          ∙ append_assoc old (all_clear_stores 0 front) (clear_stores word k.variables)
          ∙ ap (λ ws. old ++ ws) (ap (λ n. all_clear_stores 0 front ++ clear_stores n k.variables) place
          ∙ sym (blocks_more 0 front k) ∙ sym (ap (all_clear_stores 0) longer));
      at = omega (arith, l.at, counted, at_block, sum_by_more block_cells bs index k inside);
    }

pub blocked_end : (old new : List Write) (word : ℕ) (bs items : List Block) (index : ℕ) → items ≡ bs
    → length items ≤ index → Blocked old new word bs index → new ≡ old ++ all_clear_stores 0 bs
blocked_end old new word bs items index same past l = l.so_far
    ∙ ap (λ ys. old ++ all_clear_stores 0 ys) (take_all index bs (omega (arith, past, ap length same)))

pub row_is : (bs : List Block) (rows : Rows) (n : ℕ) (p : Placed) (row : FileRow) → IsLayout bs rows
    → slice_get (placed_files bs) n ≡ Some p → slice_get rows.files n ≡ Some row → row ≡ file_row p
row_is bs rows n p row layout there found = let same : Some row ≡ Some (file_row p) = sym found ∙ file_row_at bs rows n p layout there in cc

pub row_missing : (bs : List Block) (rows : Rows) (n : ℕ) (p : Placed) → IsLayout bs rows
    → slice_get (placed_files bs) n ≡ Some p → slice_get rows.files n ≡ None → ⊥
row_missing bs rows n p layout there none = let same : None ≡ Some (file_row p) = sym none ∙ file_row_at bs rows n p layout there in cc

-- the stores of a record, by the row of its file
pub record_listed : (bs : List Block) (h : Held) (p : Placed) (row : FileRow) (old mid new : List Write)
    → slice_get (placed_files bs) h.file ≡ Some p → row ≡ file_row p
    → mid ≡ old ++ field_stores (row.first + h.number * row.stride) p.file.fields
    → new ≡ mid ++ record { word = row.first + h.number * row.stride + row.fields; value = 0 } ∷ []
    → new ≡ old ++ held_stores (placed_files bs) h
record_listed bs h p row old mid new there is listed pushed =
    pushed ∙ ap (λ ws. ws ++ record { word = row.first + h.number * row.stride + row.fields; value = 0 } ∷ []) listed
    ∙ append_assoc old (field_stores (row.first + h.number * row.stride) p.file.fields)
    (record { word = row.first + h.number * row.stride + row.fields; value = 0 } ∷ [])
    ∙ ap (λ (r : FileRow). old ++ (field_stores (r.first + h.number * r.stride) p.file.fields
    ++ record { word = r.first + h.number * r.stride + r.fields; value = 0 } ∷ [])) is
    ∙ ap (λ o. old ++ option_map_or (λ q. record_stores q h.number) o []) (sym there)
