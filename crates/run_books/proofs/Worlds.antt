-- A release and a restart make the stores that are listed of them, and no other touch.
use Rattle.std.proofs.Common.{◌≡◌, ℕ, ◌+◌, Bool, true, false, cond, List, [], ◌∷◌, ◌++◌, map}
use Rattle.std.proofs.Common.{length, Option, Some, None, slice_get, refl, sym, ap, ◌∙◌, arith}
use Rattle.std.proofs.Common.{append_assoc}
use Rattle.std.proofs.lemmas.List.{append-nil, map-append}
use Rattle.std.specs.Option.{option_map_or}
use Rattle.job_types.specs.declared.chain.Held.{Held}
use Rattle.job_types.specs.Own.{World, writes}
use Rattle.job_types.specs.Touches.{stored}
use Rattle.job_types.proofs.Touched.{stored-append}
use Rattle.exchange_model.specs.declared.block.Block.{Block}
use Rattle.exchange_model.specs.declared.block.Variable.{Variable}
use Rattle.exchange_model.specs.Cells.{Placed, block_cells, field_cell, mark_cell}
use Rattle.source_meaning.specs.Changes.{opens_fields, opens_record}
use Rattle.source_meaning.specs.Retirement.{all_cleared, all_opened, cleared, opened}
use Rattle.run_books.specs.Stores.{all_clear_stores, all_stores, clear_of, clear_stores}
use Rattle.run_books.specs.Stores.{field_stores, first_of, held_stores, record_stores, touch_of}
use Rattle.run_books.specs.declared.stores.Write.{Write}

-- a world after these stores
abbrev pub made : List Write → World → World
made ws w = record { store = stored w.store (map touch_of ws); trace = w.trace ++ map touch_of ws }

made_none : (w : World) → made [] w ≡ w
made_none w = ap (λ t. record { store = w.store; trace = t }) (append-nil w.trace)

made_one : (cell v : ℕ) (w : World) → made (record { word = cell; value = v } ∷ []) w ≡ writes cell v w
made_one cell v w = refl

pub made_then : (a b : List Write) (w : World) → made (a ++ b) w ≡ made b (made a w)
made_then a b w =
    let both = map-append touch_of a b in
    ap (λ ts. record { store = stored w.store ts; trace = w.trace ++ ts }) both
    ∙ ap (λ s. record { store = s; trace = w.trace ++ (map touch_of a ++ map touch_of b) }) (stored-append (map touch_of a) (map touch_of b) w.store)
    ∙ ap (λ t. record { store = stored (stored w.store (map touch_of a)) (map touch_of b); trace = t })
    (sym (append_assoc w.trace (map touch_of a) (map touch_of b)))

fields_made : (p : Placed) (number field : ℕ) (fs : List Variable) (w : World)
    → opens_fields p number field fs w ≡ made (field_stores (first_of p number + field) fs) w
fields_made p number field [] w = sym (made_none w)
fields_made p number field (v ∷ fs) w =
    let at : first_of p number + (field + 1) ≡ first_of p number + field + 1 = omega arith in
    fields_made p number (field + 1) fs (writes (field_cell p number field) v.init w)
    ∙ ap (λ n. made (field_stores n fs) (writes (field_cell p number field) v.init w)) at
    ∙ sym (made_then (record { word = first_of p number + field; value = v.init } ∷ []) (field_stores (first_of p number + field + 1) fs) w)

record_made : (p : Placed) (number : ℕ) (w : World) → opens_record p number w ≡ made (record_stores p number) w
record_made p number w =
    let at : first_of p number + 0 ≡ first_of p number = omega arith in
    ap (writes (mark_cell p number) 0) (fields_made p number 0 p.file.fields w ∙ ap (λ n. made (field_stores n p.file.fields) w) at)
    ∙ sym (made_then (field_stores (first_of p number) p.file.fields) (record { word = first_of p number + length p.file.fields; value = 0 } ∷ []) w)

opened_made : (files : List Placed) (h : Held) (w : World) → opened files h w ≡ made (held_stores files h) w
opened_made files h w = at (slice_get files h.file)
  where
    at : (o : Option Placed) → option_map_or (λ p. opens_record p h.number w) o w ≡ made (option_map_or (λ p. record_stores p h.number) o []) w
    at None = sym (made_none w)
    at (Some p) = record_made p h.number w

pub all_made : (files : List Placed) (hs : List Held) (w : World) → all_opened files hs w ≡ made (all_stores files hs) w
all_made files [] w = sym (made_none w)
all_made files (h ∷ hs) w =
    all_made files hs (opened files h w) ∙ ap (made (all_stores files hs)) (opened_made files h w)
    ∙ sym (made_then (held_stores files h) (all_stores files hs) w)

one_made : (b : Bool) (cell v : ℕ) (w : World) → cond b (writes cell v w) w ≡ made (cond b (record { word = cell; value = v } ∷ []) []) w
one_made true cell v w = refl
one_made false cell v w = sym (made_none w)

cleared_made : (cell : ℕ) (vs : List Variable) (w : World) → cleared cell vs w ≡ made (clear_stores cell vs) w
cleared_made cell [] w = sym (made_none w)
cleared_made cell (v ∷ vs) w =
    cleared_made (cell + 1) vs (cond v.clear (writes cell v.init w) w)
    ∙ ap (made (clear_stores (cell + 1) vs)) (one_made v.clear cell v.init w)
    ∙ sym (made_then (clear_of cell v) (clear_stores (cell + 1) vs) w)

pub blocks_made : (cell : ℕ) (bs : List Block) (w : World) → all_cleared cell bs w ≡ made (all_clear_stores cell bs) w
blocks_made cell [] w = sym (made_none w)
blocks_made cell (k ∷ bs) w =
    blocks_made (cell + block_cells k) bs (cleared cell k.variables w)
    ∙ ap (made (all_clear_stores (cell + block_cells k) bs)) (cleared_made cell k.variables w)
    ∙ sym (made_then (clear_stores cell k.variables) (all_clear_stores (cell + block_cells k) bs) w)
