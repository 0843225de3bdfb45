-- The values of cells are carried over.
use Rattle.std.proofs.Common.{◌≡◌, ℕ, ◌+◌, ◌<◌, ◌≤◌, ◌^◌, ◌↔◌, Bool, true, false, nat_eq, nat_lt}
use Rattle.std.proofs.Common.{inl, inr, List, [], ◌∷◌, ◌++◌, length, take, map, get_or, Option}
use Rattle.std.proofs.Common.{Some, None, slice_get, slice_set, refl, sym, ap, ◌∙◌, subst, arith}
use Rattle.std.proofs.Common.{length-append, if◌then◌else◌}
use Rattle.std.specs.Prelude.{IsTrue, slice_index, ◌||◌}
use Rattle.std.specs.Option.{option_and_then, option_map, option_map_or}
use Rattle.std.proofs.lemmas.Bool.{cases_lt, eqb-true, eq-eqb, lt-ltb, both_ways}
use Rattle.std.proofs.lemmas.Bool.Decides.{nat_tests}
use Rattle.std.proofs.lemmas.List.{get_or-set_other, get_or-set_same, length-set, take_all}
use Rattle.std.proofs.lemmas.List.{take_more}
use Rattle.std.proofs.lemmas.Option.{get_or_from_slice_get}
use Rattle.plex_num.proofs.Lists.{slice_get-append_left, slice_get-append_seam}
use Rattle.exchange_model.specs.declared.block.Block.{Block}
use Rattle.exchange_model.specs.declared.block.File.{File}
use Rattle.exchange_model.specs.declared.block.Variable.{Variable}
use Rattle.exchange_model.specs.declared.entry.Cell.{Cell}
use Rattle.exchange_model.specs.declared.entry.Cell.TheVariants.{Variable as VariableCell, Field}
use Rattle.exchange_model.specs.declared.entry.Cell.TheVariants.{Mark}
use Rattle.exchange_model.specs.declared.exchange.Exchange.{Exchange}
use Rattle.exchange_model.specs.Cells.{IsCell, Placed, cell_count, cell_number, placed_files}
use Rattle.exchange_model.specs.Kept.{IsExchange, variable_names}
use Rattle.exchange_model.proofs.Numbers.{cell_number-below, cell_number-once, field_is_cell}
use Rattle.exchange_model.proofs.Numbers.{mark_is_cell, variable_is_cell}
use Rattle.job_types.specs.declared.chain.Held.{Held}
use Rattle.job_types.specs.Chain.{holds, is_record}
use Rattle.source_meaning.proofs.Chains.{holds_last, record_is, record_itself}
use Rattle.source_meaning.specs.Config.{files_of}
use Rattle.source_meaning.specs.Valid.{IsRecord}
use Rattle.store_layout.specs.Laid.{HasCell, IsLayout}
use Rattle.store_layout.specs.Rows.{Rows}
use Rattle.block_change.specs.Carried.{AreCarriedWords, carried_value, kept_value, mark_value}
use Rattle.block_change.specs.Carried.{old_value}
use Rattle.block_change.specs.Names.{place_of}
use Rattle.block_change.specs.Same.{cell_variable, field_cell_in, file_at, same_block, same_cell}
use Rattle.block_change.specs.Same.{same_file, variable_cell_at}
use Rattle.block_change.proofs.Lists.{and_then, mapped_of, place_within}
use Rattle.block_change.proofs.Placed.{placed_file}

-- ## The value of a cell

pub value_none : (x y : Exchange) (store : List ℕ) (c : Cell) → cell_variable y.blocks c ≡ None → 0 ≡ carried_value x y store [] c
value_none x y store (VariableCell b v) none = sym (ap (λ o. option_map_or (λ (e : Variable). kept_value e (old_value x y store (VariableCell b v))) o 0) none)
value_none x y store (Field f n i) none = sym (ap (λ o. option_map_or (λ (e : Variable). kept_value e (old_value x y store (Field f n i))) o 0) none)
value_none x y store (Mark f n) none = refl

pub value_some : (x y : Exchange) (store : List ℕ) (c : Cell) (e : Variable) (w : Option ℕ) (v : ℕ)
    → cell_variable y.blocks c ≡ Some e → w ≡ old_value x y store c → v ≡ kept_value e w
    → v ≡ carried_value x y store [] c
value_some x y store (VariableCell b i) e w v some old is =
    is ∙ ap (kept_value e) old ∙ sym (ap (λ o. option_map_or (λ (d : Variable). kept_value d (old_value x y store (VariableCell b i))) o 0) some)
value_some x y store (Field f n i) e w v some old is =
    is ∙ ap (kept_value e) old ∙ sym (ap (λ o. option_map_or (λ (d : Variable). kept_value d (old_value x y store (Field f n i))) o 0) some)
value_some x y store (Mark f n) e w v some old is = absurd (cc)

fit_test : (b : Bool) (w n : ℕ) → (IsTrue b ↔ (w < n)) → b ≡ nat_lt w n
fit_test true w n is = sym (lt-ltb w n (is.0 refl))
fit_test false w n is = by (nat_lt w n) refl
  where
    by : (t : Bool) → nat_lt w n ≡ t → false ≡ t
    by false at = refl
    by true at = is.1 (grind (arith, nat_tests, at))

pub kept_fits : (e : Variable) (o : Option ℕ) (w : ℕ) (b : Bool) → o ≡ Some w → (IsTrue b ↔ (w < 2 ^ e.width)) → b ≡ true → w ≡ kept_value e o
kept_fits e o w b some test is = sym (ap (kept_value e) some ∙ ap (λ t. if t then w else e.init) (sym (fit_test b w (2 ^ e.width) test) ∙ is))

pub kept_init : (e : Variable) (o : Option ℕ) (w : ℕ) (b : Bool) → o ≡ Some w → (IsTrue b ↔ (w < 2 ^ e.width)) → b ≡ false → e.init ≡ kept_value e o
kept_init e o w b some test is = sym (ap (kept_value e) some ∙ ap (λ t. if t then w else e.init) (sym (fit_test b w (2 ^ e.width) test) ∙ is))

-- ## The old cell

pub record IsOfFile (x y : Exchange) (f : ℕ) (g : File) : Type 0 where
  pub block : ℕ
  pub placed : Placed
  pub there : slice_get (placed_files y.blocks) g.number ≡ Some placed
  pub file : placed.file ≡ g

pub same_file_is : (x y : Exchange) → IsExchange y → (f : ℕ) (g : File) → same_file x.blocks y.blocks f ≡ Some g → IsOfFile x y f g
same_file_is x y kept f g is =
    let p = and_then (λ (p : Placed). option_and_then (file_at y.blocks p.file.name)
    (same_block x.blocks y.blocks p.block)) (slice_get (placed_files x.blocks) f) g is in
    let b = and_then (file_at y.blocks p.0.file.name) (same_block x.blocks y.blocks p.0.block) g p.2 in
    let k = and_then (λ (k : Block). option_and_then (slice_get k.files)
    (place_of p.0.file.name (map (λ (h : File). h.name) k.files))) (slice_get y.blocks b.0) g b.2 in
    let j = and_then (slice_get k.0.files) (place_of p.0.file.name (map (λ (h : File). h.name) k.0.files)) g k.2 in
    let here = placed_file y kept b.0 j.0 k.0 g k.1 j.2 in
    record { block = b.0; placed = here.placed; there = here.there; file = here.file }

variable_there : (x : Exchange) (name : List ℕ) (b : ℕ) (d : Cell) → variable_cell_at x.blocks name b ≡ Some d → IsCell x.blocks d
variable_there x name b d is =
    let k = and_then (λ (k : Block). option_map (VariableCell b) (place_of name (variable_names k.variables))) (slice_get x.blocks b) d is in
    let v = mapped_of (VariableCell b) (place_of name (variable_names k.0.variables)) d k.2 in
    subst (IsCell x.blocks) v.2 (variable_is_cell x.blocks b v.0 k.0 k.1 (place_within (λ (w : Variable). w.name) k.0.variables name v.0 v.1))

field_there : (x : Exchange) (name : List ℕ) (n : ℕ) (g : File) (p : Placed) (d : Cell)
    → slice_get (placed_files x.blocks) g.number ≡ Some p → p.file ≡ g → field_cell_in name n g ≡ Some d
    → IsCell x.blocks d
field_there x name n g p d there file is = by (nat_lt n g.size) refl is
  where
    by : (t : Bool) → nat_lt n g.size ≡ t → (if t
        then option_map (Field g.number n) (place_of name (variable_names g.fields)) else None) ≡ Some d
        → IsCell x.blocks d
    by false at is = absurd (cc)
    by true at is =
        let i = mapped_of (Field g.number n) (place_of name (variable_names g.fields)) d is in
        let inside : i.0 < length g.fields = place_within (λ (w : Variable). w.name) g.fields name i.0 i.1 in
        let small : n < g.size = grind (arith, nat_tests, at) in
        subst (IsCell x.blocks) i.2 (field_is_cell x.blocks g.number n i.0 p there
        (subst (λ (h : File). n < h.size) (sym file) small) (subst (λ (h : File). i.0 < length h.fields) (sym file) inside))

pub same_is_cell : (x y : Exchange) → IsExchange x → (c d : Cell) → same_cell y.blocks x.blocks c ≡ Some d → IsCell x.blocks d
same_is_cell x y kept (VariableCell b v) d is =
    let e = and_then (λ (e : Variable). option_and_then (variable_cell_at x.blocks e.name)
    (same_block y.blocks x.blocks b)) (cell_variable y.blocks (VariableCell b v)) d is in
    let o = and_then (variable_cell_at x.blocks e.0.name) (same_block y.blocks x.blocks b) d e.2 in
    variable_there x e.0.name o.0 d o.2
same_is_cell x y kept (Field f n i) d is =
    let e = and_then (λ (e : Variable). option_and_then (field_cell_in e.name n) (same_file y.blocks x.blocks f)) (cell_variable y.blocks (Field f n i)) d is in
    let g = and_then (field_cell_in e.0.name n) (same_file y.blocks x.blocks f) d e.2 in
    let at = same_file_is y x kept f g.0 g.1 in
    field_there x e.0.name n g.0 at.placed d at.there at.file g.2
same_is_cell x y kept (Mark f n) d is = absurd (cc)

pub has_cell : (x y : Exchange) (l : Rows) (c d : Cell) → IsExchange x → IsLayout x.blocks l → Some d ≡ same_cell y.blocks x.blocks c → HasCell l d
has_cell x y l c d kept laid is = record { blocks = x.blocks; layout = laid; cell = same_is_cell x y kept c d (sym is) }

-- ## One cell after the other

pub record CarriedUpTo (x y : Exchange) (store words : List ℕ) (i : ℕ) : Type 0 where
  pub long : length words ≡ i
  pub each : (c : Cell) → IsCell y.blocks c → cell_number y.blocks c < i → slice_get words (cell_number y.blocks c) ≡ Some (carried_value x y store [] c)

pub words_begin : (x y : Exchange) (store words : List ℕ) → words ≡ [] → CarriedUpTo x y store words 0
words_begin x y store words none = record { long = ap length none; each = λ c is below. absurd (omega (arith, below)) }

pub words_more : (x y : Exchange) (store old new : List ℕ) (i v : ℕ) (cell : Cell) → IsCell y.blocks cell
    → cell_number y.blocks cell ≡ i → v ≡ carried_value x y store [] cell → new ≡ old ++ v ∷ []
    → CarriedUpTo x y store old i → CarriedUpTo x y store new (i + 1)
words_more x y store old new i v cell here number is added before =
    let long = before.long in
    record {
      long = omega (arith, ap length added, length-append old (v ∷ []), long);
      each = λ c there below. ap (λ ws. slice_get ws (cell_number y.blocks c)) added ∙ at c there below;
    }
  where
    last : (n : ℕ) → n ≡ length old → slice_get (old ++ v ∷ []) n ≡ Some v
    last n at = ap (slice_get (old ++ v ∷ [])) at ∙ slice_get-append_seam old v []

    at : (c : Cell) → IsCell y.blocks c → cell_number y.blocks c < i + 1
        → slice_get (old ++ v ∷ []) (cell_number y.blocks c) ≡ Some (carried_value x y store [] c)
    at c there below =
        let long = before.long in
        elim (cases_lt (cell_number y.blocks c) i) [
          | inl lt ↦ slice_get-append_left old (v ∷ []) (cell_number y.blocks c) (omega (arith, lt, long)) ∙ before.each c there lt
          | inr ge ↦
              let same : cell ≡ c = cell_number-once y.blocks cell c here there (omega (arith, number, ge, below)) in
              last (cell_number y.blocks c) (omega (arith, ge, below, long)) ∙ ap Some (is ∙ ap (carried_value x y store []) same)
        ]

pub words_end : (x y : Exchange) (store words : List ℕ) (i cells : ℕ) → IsExchange y → cells ≡ cell_count y.blocks
    → i ≡ cells → CarriedUpTo x y store words i → AreCarriedWords x y store [] words
words_end x y store words i cells kept all is upto =
    let count = kept.numbered.cells in
    let long = upto.long in
    record {
      whole = omega (arith, long, is, all, count);
      each = λ c there. let below = cell_number-below y.blocks c there in
          get_or_from_slice_get words (cell_number y.blocks c) (carried_value x y store [] c) 0 (upto.each c there (omega (arith, below, is, all)));
    }

-- ## Marks

-- the words with the marks of these records
pub record MarksUpTo (y : Exchange) (first words : List ℕ) (records : List Held) : Type 0 where
  pub whole : length words ≡ y.cells
  pub each : (x : Exchange) (store : List ℕ) → AreCarriedWords x y store [] first → AreCarriedWords x y store records words

pub mark_of : (y : Exchange) (h : Held) → IsRecord y h → IsCell y.blocks (Mark h.file h.number)
unfolding files_of
mark_of y h fits = mark_is_cell y.blocks h.file h.number fits.placed fits.here.there fits.here.within fits.kind

pub has_mark : (y : Exchange) (l : Rows) (h : Held) → IsLayout y.blocks l → IsRecord y h → HasCell l (Mark h.file h.number)
has_mark y l h laid fits = record { blocks = y.blocks; layout = laid; cell = mark_of y h fits }

pub mark_inside : (y : Exchange) (h : Held) (word many : ℕ) → IsExchange y → IsRecord y h
    → word ≡ cell_number y.blocks (Mark h.file h.number) → many ≡ y.cells → word < many
mark_inside y h word many kept fits number whole =
    let below = cell_number-below y.blocks (Mark h.file h.number) (mark_of y h fits) in
    let cells = kept.numbered.cells in
    omega (arith, below, number, whole, cells)

-- another record is held as before
holds_other : (rs : List Held) (h : Held) (f n : ℕ) → is_record f n h ≡ false → holds (rs ++ h ∷ []) f n ≡ holds rs f n
holds_other [] h f n other = ap (λ b. b || false) other
holds_other (r ∷ rs) h f n other = ap (λ b. is_record f n r || b) (holds_other rs h f n other)

other_value : (x y : Exchange) (store : List ℕ) (rs : List Held) (h : Held) (c : Cell) → IsCell y.blocks c
    → (cell_number y.blocks c ≡ cell_number y.blocks (Mark h.file h.number) → ⊥)
    → carried_value x y store (rs ++ h ∷ []) c ≡ carried_value x y store rs c
other_value x y store rs h (VariableCell b v) there apart = refl
other_value x y store rs h (Field f n i) there apart = refl
other_value x y store rs h (Mark f n) there apart = ap mark_value (by (is_record f n h) refl)
  where
    by : (t : Bool) → is_record f n h ≡ t → holds (rs ++ h ∷ []) f n ≡ holds rs f n
    by false is = holds_other rs h f n is
    by true is =
        let same = record_is f n h is in
        absurd (apart (λ i. cell_number y.blocks (Mark (sym same.0 i) (sym same.1 i))))

marked : (x y : Exchange) (store old : List ℕ) (rs : List Held) (h : Held) → IsExchange y → length old ≡ y.cells
    → IsRecord y h → AreCarriedWords x y store rs old
    → AreCarriedWords x y store (rs ++ h ∷ []) (slice_set old (cell_number y.blocks (Mark h.file h.number)) 1)
marked x y store old rs h kept whole fits before = record {
  whole = length-set old (cell_number y.blocks mark) 1 ∙ whole;
  each = λ c there. by c there (nat_eq (cell_number y.blocks c) (cell_number y.blocks mark)) refl;
}
  where
    mark : Cell
    mark = Mark h.file h.number

    here : IsCell y.blocks mark
    here = mark_of y h fits

    one : slice_index (slice_set old (cell_number y.blocks mark) 1) (cell_number y.blocks mark) ≡ 1
    one = get_or-set_same old (cell_number y.blocks mark) 1 0 (mark_inside y h (cell_number y.blocks mark) (length old) kept fits refl whole)

    held : carried_value x y store (rs ++ h ∷ []) mark ≡ 1
    held = ap mark_value (holds_last rs h h.file h.number (record_itself h.file h.number))

    by : (c : Cell) → IsCell y.blocks c → (t : Bool) → nat_eq (cell_number y.blocks c) (cell_number y.blocks mark) ≡ t
        → slice_index (slice_set old (cell_number y.blocks mark) 1) (cell_number y.blocks c)
        ≡ carried_value x y store (rs ++ h ∷ []) c
    by c there true is =
        let number : cell_number y.blocks c ≡ cell_number y.blocks mark = eqb-true (cell_number y.blocks c) (cell_number y.blocks mark) is in
        let same : mark ≡ c = cell_number-once y.blocks mark c here there (sym number) in
        ap (slice_index (slice_set old (cell_number y.blocks mark) 1)) number ∙ one ∙ sym held ∙ ap (carried_value x y store (rs ++ h ∷ [])) same
    by c there false is =
        let apart : cell_number y.blocks c ≡ cell_number y.blocks mark
        → ⊥ = λ same. both_ways (nat_eq (cell_number y.blocks c) (cell_number y.blocks mark)) is
        (eq-eqb (cell_number y.blocks c) (cell_number y.blocks mark) same) in
        get_or-set_other old (cell_number y.blocks mark) (cell_number y.blocks c) 1 0 apart ∙ before.each c there
        ∙ sym (other_value x y store rs h c there apart)

pub marks_more : (y : Exchange) (first old new : List ℕ) (records : List Held) (i word : ℕ) (h : Held) → IsExchange y
    → i < length records → h ≡ get_or records i h → IsRecord y h → word ≡ cell_number y.blocks (Mark h.file h.number)
    → new ≡ slice_set old word 1 → MarksUpTo y first old (take i records) → MarksUpTo y first new (take (i + 1) records)
marks_more y first old new records i word h kept inside is fits number set before =
    let next : take (i + 1) records ≡ take i records ++ h ∷ [] = take_more records i h inside ∙ ap (λ (g : Held). take i records ++ g ∷ []) (sym is) in
    let words : new ≡ slice_set old (cell_number y.blocks (Mark h.file h.number)) 1 = set ∙ ap (λ w. slice_set old w 1) number in
    record {
      whole = ap length words ∙ length-set old (cell_number y.blocks (Mark h.file h.number)) 1 ∙ before.whole;
      each = λ x store are.
          subst (λ rs. AreCarriedWords x y store rs new) (sym next)
          (subst (AreCarriedWords x y store (take i records ++ h ∷ [])) (sym words)
          (marked x y store old (take i records) h kept before.whole fits (before.each x store are)));
    }

pub marks_end : (y : Exchange) (first words : List ℕ) (records : List Held) (i : ℕ) → length records ≤ i
    → MarksUpTo y first words (take i records) → (x : Exchange) (store : List ℕ) → AreCarriedWords x y store [] first
    → AreCarriedWords x y store records words
marks_end y first words records i past upto x store are = subst (λ rs. AreCarriedWords x y store rs words) (take_all i records past) (upto.each x store are)
