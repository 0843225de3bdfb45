-- The numbering of the cells: each number below the number of cells is that of one cell.
use Rattle.std.proofs.Common.{◌≡◌, ℕ, ◌+◌, ◌-◌, ◌*◌, ◌/◌, ◌%◌, ◌<◌, ◌≤◌, inl, inr, Bool, true}
use Rattle.std.proofs.Common.{false, List, length, Option, Some, None, slice_get, refl, sym, ap}
use Rattle.std.proofs.Common.{◌∙◌, subst, arith}
use Rattle.std.specs.Option.{IsSomeAnd, option_map, unwrap_or}
use Rattle.std.proofs.lemmas.Bool.{cases_lt, cases_order}
use Rattle.std.proofs.lemmas.Nat.{mul-add-lt, same_from_place, div-add-mod', div_below, mod_below}
use Rattle.std.proofs.lemmas.Option.{same_Some}
use Rattle.exchange_model.specs.declared.block.Block.{Block}
use Rattle.exchange_model.specs.declared.block.File.{File}
use Rattle.exchange_model.specs.declared.entry.Cell.{Cell}
use Rattle.exchange_model.specs.declared.entry.Cell.TheVariants.{Variable, Field, Mark}
use Rattle.exchange_model.specs.Cells.{marks, record_cells, file_cells, cell_count, first_cell}
use Rattle.exchange_model.specs.Cells.{variable_cell, Placed, placed_files, field_cell, mark_cell}
use Rattle.exchange_model.specs.Cells.{IsCell, cell_number}
use Rattle.exchange_model.proofs.Places.{file_within, file_below, files_rise, blocks_rise}
use Rattle.exchange_model.proofs.Places.{variable_below, covered}

-- what there is at a place
pub record There {X : Type 0} (o : Option X) (P : X → Type 0) : Type 0 where
  pub value : X
  pub is : o ≡ Some value
  pub holds : P value

pub there_from : {X : Type 0} (o : Option X) (P : X → Type 0) → IsSomeAnd o P → There o P
there_from None P h = absurd h
there_from (Some x) P h = record { value = x; is = refl; holds = h }

-- cells by what there is

pub variable_is_cell : (blocks : List Block) (b v : ℕ) (k : Block) → slice_get blocks b ≡ Some k → v < length k.variables → IsCell blocks (Variable b v)
variable_is_cell blocks b v k h lt = subst (λ o. IsSomeAnd o (λ (b : Block). v < length b.variables)) (sym h) lt

pub field_is_cell : (blocks : List Block) (f n x : ℕ) (p : Placed) → slice_get (placed_files blocks) f ≡ Some p
    → n < p.file.size → x < length p.file.fields → IsCell blocks (Field f n x)
field_is_cell blocks f n x p h inside lt = subst (λ o. IsSomeAnd o (λ (p : Placed). (n < p.file.size) × (x < length p.file.fields))) (sym h) (inside, lt)

pub mark_is_cell : (blocks : List Block) (f n : ℕ) (p : Placed) → slice_get (placed_files blocks) f ≡ Some p
    → n < p.file.size → p.file.forlopp ≡ true → IsCell blocks (Mark f n)
mark_is_cell blocks f n p h inside marked = subst (λ o. IsSomeAnd o (λ (p : Placed). (n < p.file.size) × (p.file.forlopp ≡ true))) (sym h) (inside, marked)

pub cell_number-field : (blocks : List Block) (f n x : ℕ) (p : Placed) → slice_get (placed_files blocks) f ≡ Some p
    → cell_number blocks (Field f n x) ≡ field_cell p n x
cell_number-field blocks f n x p h = ap (λ o. unwrap_or (option_map (λ (p : Placed). field_cell p n x) o) 0) h

pub cell_number-mark : (blocks : List Block) (f n : ℕ) (p : Placed) → slice_get (placed_files blocks) f ≡ Some p → cell_number blocks (Mark f n) ≡ mark_cell p n
cell_number-mark blocks f n p h = ap (λ o. unwrap_or (option_map (λ (p : Placed). mark_cell p n) o) 0) h

-- a place in a file: a record, and a cell of that record
pub record IsAt (blocks : List Block) (f n x cell : ℕ) : Type 0 where
  pub placed : Placed
  pub there : slice_get (placed_files blocks) f ≡ Some placed
  pub inside : n < placed.file.size
  pub within : x < record_cells placed.file
  pub is : cell ≡ field_cell placed n x

pub field_cell_below : (p : Placed) (n x : ℕ) → n < p.file.size → x < record_cells p.file → field_cell p n x < p.first + file_cells p.file
field_cell_below p n x inside within =
    let bound : n * record_cells p.file + x < record_cells p.file * p.file.size = mul-add-lt n (record_cells p.file) x p.file.size inside within in
    omega (arith, bound)

mark_within : (f : File) → f.forlopp ≡ true → length f.fields < record_cells f
mark_within f marked = let one : marks f.forlopp ≡ 1 = ap marks marked in omega (arith, one)

-- the place of a field or a mark
field_at : (blocks : List Block) (f n x : ℕ) → IsCell blocks (Field f n x) → IsAt blocks f n x (cell_number blocks (Field f n x))
field_at blocks f n x h =
    let t = there_from (slice_get (placed_files blocks) f) (λ (p : Placed). (n < p.file.size) × (x < length p.file.fields)) h in
    record {
      placed = t.value;
      there = t.is;
      inside = t.holds.0;
      within = let lt : x < length t.value.file.fields = t.holds.1 in omega arith;
      is = cell_number-field blocks f n x t.value t.is;
    }

-- the mark follows the fields
record IsMark (blocks : List Block) (f n cell : ℕ) : Type 0 where
  pub placed : Placed
  pub there : slice_get (placed_files blocks) f ≡ Some placed
  pub at : IsAt blocks f n (length placed.file.fields) cell

mark_at : (blocks : List Block) (f n : ℕ) → IsCell blocks (Mark f n) → IsMark blocks f n (cell_number blocks (Mark f n))
mark_at blocks f n h =
    let t = there_from (slice_get (placed_files blocks) f) (λ (p : Placed). (n < p.file.size) × (p.file.forlopp ≡ true)) h in
    record {
      placed = t.value;
      there = t.is;
      at = record {
        placed = t.value;
        there = t.is;
        inside = t.holds.0;
        within = mark_within t.value.file t.holds.1;
        is = cell_number-mark blocks f n t.value t.is;
      };
    }

-- below the number of cells

at_below : (blocks : List Block) (f n x cell : ℕ) → IsAt blocks f n x cell → cell < cell_count blocks
at_below blocks f n x cell a = omega (arith, a.is, field_cell_below a.placed n x a.inside a.within, file_below blocks f a.placed a.there)

pub cell_number-below : (blocks : List Block) (c : Cell) → IsCell blocks c → cell_number blocks c < cell_count blocks
cell_number-below blocks (Variable b v) h =
    let t = there_from (slice_get blocks b) (λ (k : Block). v < length k.variables) h in
    variable_below blocks b v t.value t.is t.holds
cell_number-below blocks (Field f n x) h = at_below blocks f n x (cell_number blocks (Field f n x)) (field_at blocks f n x h)
cell_number-below blocks (Mark f n) h =
    let m = mark_at blocks f n h in
    at_below blocks f n (length m.placed.file.fields) (cell_number blocks (Mark f n)) m.at

-- no two cells have one number

same_file : (blocks : List Block) (f n x g m y cell : ℕ) → IsAt blocks f n x cell → IsAt blocks g m y cell → f ≡ g
same_file blocks f n x g m y cell a b =
    let low = field_cell_below a.placed n x a.inside a.within in
    let high = field_cell_below b.placed m y b.inside b.within in
    elim (cases_order f g) [
      | inl same ↦ same
      | inr (inl before) ↦ absurd (omega (arith, files_rise blocks f g a.placed b.placed before a.there b.there, a.is, b.is, low))
      | inr (inr after) ↦ absurd (omega (arith, files_rise blocks g f b.placed a.placed after b.there a.there, a.is, b.is, high))
    ]

same_placed : (blocks : List Block) (f n x g m y cell : ℕ) (a : IsAt blocks f n x cell) (b : IsAt blocks g m y cell) → a.placed ≡ b.placed
same_placed blocks f n x g m y cell a b =
    let same = same_file blocks f n x g m y cell a b in
    same_Some a.placed b.placed (sym a.there ∙ ap (slice_get (placed_files blocks)) same ∙ b.there)

same_record : (blocks : List Block) (f n x g m y cell : ℕ) → IsAt blocks f n x cell → IsAt blocks g m y cell → (n ≡ m) × (x ≡ y)
same_record blocks f n x g m y cell a b =
    let same = same_placed blocks f n x g m y cell a b in
    let width : record_cells a.placed.file ≡ record_cells b.placed.file = ap (λ (p : Placed). record_cells p.file) same in
    let first : a.placed.first ≡ b.placed.first = ap (λ (p : Placed). p.first) same in
    let within : y < record_cells a.placed.file = omega (arith, width, b.within) in
    let scaled : m * record_cells a.placed.file ≡ m * record_cells b.placed.file = ap (λ w. m * w) width in
    let place : n * record_cells a.placed.file + x ≡ m * record_cells a.placed.file + y = omega (arith, a.is, b.is, first, scaled) in
    same_from_place n x m y (record_cells a.placed.file) a.within within place

-- a field is no mark
field_no_mark : (blocks : List Block) (f n x g m cell : ℕ) (a : IsAt blocks f n x cell) → x < length a.placed.file.fields → IsMark blocks g m cell → ⊥
field_no_mark blocks f n x g m cell a lt mark =
    let last : ℕ = length mark.placed.file.fields in
    let same : a.placed ≡ mark.at.placed = same_placed blocks f n x g m last cell a mark.at in
    let own : mark.at.placed ≡ mark.placed = same_Some mark.at.placed mark.placed (sym mark.at.there ∙ mark.there) in
    let many : length a.placed.file.fields ≡ last = ap (λ (p : Placed). length p.file.fields) (same ∙ own) in
    omega (arith, many, (same_record blocks f n x g m last cell a mark.at).1)

same_variable : (blocks : List Block) (b v c w : ℕ) (k l : Block) → slice_get blocks b ≡ Some k → v < length k.variables
    → slice_get blocks c ≡ Some l → w < length l.variables → variable_cell blocks b v ≡ variable_cell blocks c w → b ≡ c
same_variable blocks b v c w k l h lt i gt e =
    elim (cases_order b c) [
      | inl same ↦ same
      | inr (inl before) ↦ absurd (omega (arith, blocks_rise blocks b c k h before))
      | inr (inr after) ↦ absurd (omega (arith, blocks_rise blocks c b l i after))
    ]

-- a variable is in no file
variable_no_file : (blocks : List Block) (b v f n x cell : ℕ) (k : Block) → slice_get blocks b ≡ Some k
    → v < length k.variables → variable_cell blocks b v ≡ cell → IsAt blocks f n x cell → ⊥
variable_no_file blocks b v f n x cell k h lt e a =
    let w = file_within blocks f a.placed a.there in
    let low = field_cell_below a.placed n x a.inside a.within in
    elim (cases_order b a.placed.block) [
      | inl same ↦
          let owner : k ≡ w.owner = same_Some k w.owner (sym h ∙ ap (slice_get blocks) same ∙ w.there) in
          let many : length k.variables ≡ length w.owner.variables = ap (λ (z : Block). length z.variables) owner in
          let begins : first_cell blocks b ≡ first_cell blocks a.placed.block = ap (first_cell blocks) same in
          omega (arith, many, begins, w.after, a.is, e)
      | inr (inl before) ↦ omega (arith, blocks_rise blocks b a.placed.block k h before, w.after, a.is, e)
      | inr (inr after) ↦ omega (arith, blocks_rise blocks a.placed.block b w.owner w.there after, w.before, low, a.is, e)
    ]

pub cell_number-once : (blocks : List Block) (c d : Cell) → IsCell blocks c → IsCell blocks d → cell_number blocks c ≡ cell_number blocks d → c ≡ d
unfolding field_at there_from
cell_number-once blocks (Variable b v) (Variable c w) h i e =
    let t = there_from (slice_get blocks b) (λ (k : Block). v < length k.variables) h in
    let u = there_from (slice_get blocks c) (λ (k : Block). w < length k.variables) i in
    let same : b ≡ c = same_variable blocks b v c w t.value u.value t.is t.holds u.is u.holds e in
    let begins : first_cell blocks b ≡ first_cell blocks c = ap (first_cell blocks) same in
    let index : v ≡ w = omega (arith, e, begins) in
    cc
cell_number-once blocks (Variable b v) (Field g m y) h i e =
    let t = there_from (slice_get blocks b) (λ (k : Block). v < length k.variables) h in
    absurd (variable_no_file blocks b v g m y (cell_number blocks (Field g m y)) t.value t.is t.holds e (field_at blocks g m y i))
cell_number-once blocks (Variable b v) (Mark g m) h i e =
    let t = there_from (slice_get blocks b) (λ (k : Block). v < length k.variables) h in
    let mark = mark_at blocks g m i in
    absurd (variable_no_file blocks b v g m (length mark.placed.file.fields) (cell_number blocks (Mark g m)) t.value t.is t.holds e mark.at)
cell_number-once blocks (Field f n x) (Variable c w) h i e =
    let u = there_from (slice_get blocks c) (λ (k : Block). w < length k.variables) i in
    absurd (variable_no_file blocks c w f n x (cell_number blocks (Field f n x)) u.value u.is u.holds (sym e) (field_at blocks f n x h))
cell_number-once blocks (Field f n x) (Field g m y) h i e =
    let a = field_at blocks f n x h in
    let b = subst (IsAt blocks g m y) (sym e) (field_at blocks g m y i) in
    let file : f ≡ g = same_file blocks f n x g m y (cell_number blocks (Field f n x)) a b in
    let same = same_record blocks f n x g m y (cell_number blocks (Field f n x)) a b in
    let number : n ≡ m = same.0 in
    let field : x ≡ y = same.1 in
    cc
cell_number-once blocks (Field f n x) (Mark g m) h i e =
    let t = there_from (slice_get (placed_files blocks) f) (λ (p : Placed). (n < p.file.size) × (x < length p.file.fields)) h in
    let mark = subst (IsMark blocks g m) (sym e) (mark_at blocks g m i) in
    absurd (field_no_mark blocks f n x g m (cell_number blocks (Field f n x)) (field_at blocks f n x h) t.holds.1 mark)
cell_number-once blocks (Mark f n) (Variable c w) h i e =
    let u = there_from (slice_get blocks c) (λ (k : Block). w < length k.variables) i in
    let mark = mark_at blocks f n h in
    absurd (variable_no_file blocks c w f n (length mark.placed.file.fields) (cell_number blocks (Mark f n)) u.value u.is u.holds (sym e) mark.at)
cell_number-once blocks (Mark f n) (Field g m y) h i e =
    let u = there_from (slice_get (placed_files blocks) g) (λ (p : Placed). (m < p.file.size) × (y < length p.file.fields)) i in
    let mark = subst (IsMark blocks f n) e (mark_at blocks f n h) in
    absurd (field_no_mark blocks g m y f n (cell_number blocks (Field g m y)) (field_at blocks g m y i) u.holds.1 mark)
cell_number-once blocks (Mark f n) (Mark g m) h i e =
    let a = mark_at blocks f n h in
    let b = subst (IsMark blocks g m) (sym e) (mark_at blocks g m i) in
    let file : f ≡ g = same_file blocks f n (length a.placed.file.fields) g m (length b.placed.file.fields) (cell_number blocks (Mark f n)) a.at b.at in
    let number : n ≡ m = (same_record blocks f n (length a.placed.file.fields) g m (length b.placed.file.fields) (cell_number blocks (Mark f n)) a.at b.at).0 in
    cc

-- each number is a cell's

pub record HasNumber (blocks : List Block) (number : ℕ) : Type 0 where
  pub cell : Cell
  pub is : IsCell blocks cell
  pub same : cell_number blocks cell ≡ number

-- the cell at a place of a file
pub cell_in_file : (blocks : List Block) (f number : ℕ) (p : Placed) → slice_get (placed_files blocks) f ≡ Some p
    → p.first ≤ number → number < p.first + file_cells p.file → HasNumber blocks number
cell_in_file blocks f number p h from below =
    let width : ℕ = record_cells p.file in
    let place : ℕ = number - p.first in
    let some : 0 < width = elim (cases_lt 0 width) [
      | inl lt ↦ lt
      | inr none ↦
          let zero_wide : width ≡ 0 = omega (arith, none) in
          let empty : p.file.size * width ≡ p.file.size * 0 = ap (λ w. p.file.size * w) zero_wide in
          absurd (omega (arith, empty, from, below))
    ] in
    let n : ℕ = place / width in
    let x : ℕ = place % width in
    let split : n * width + x ≡ place = div-add-mod' place width in
    let short : place < p.file.size * width = omega (arith, from, below) in
    let inside : n < p.file.size = div_below place width p.file.size some short in
    let within : x < width = mod_below place width some in
    elim (cases_lt x (length p.file.fields)) [
      | inl lt ↦ record {
        cell = Field f n x;
        is = field_is_cell blocks f n x p h inside lt;
        same = let e : field_cell p n x ≡ number = omega (arith, split, from) in cell_number-field blocks f n x p h ∙ e;
      }
      | inr ge ↦
          let marked : p.file.forlopp ≡ true = only_marked p.file x ge within in
          let one : marks p.file.forlopp ≡ 1 = ap marks marked in
          let last : x ≡ length p.file.fields = omega (arith, one, ge, within) in
          record {
            cell = Mark f n;
            is = mark_is_cell blocks f n p h inside marked;
            same = let e : mark_cell p n ≡ number = omega (arith, split, from, last) in cell_number-mark blocks f n p h ∙ e;
          }
    ]
  where
    only_marked : (g : File) (x : ℕ) → length g.fields ≤ x → x < record_cells g → g.forlopp ≡ true
    only_marked g x ge lt = decide g.forlopp (omega arith)
      where
        decide : (b : Bool) → 0 < marks b → b ≡ true
        decide true _ = refl
        decide false none = absurd (omega arith)

pub cell_numbered : (blocks : List Block) (number : ℕ) → number < cell_count blocks → HasNumber blocks number
cell_numbered blocks number below =
    elim (covered blocks number below) [
      | inl v ↦
          let lt : number - first_cell blocks v.block < length v.owner.variables = omega (arith, v.from, v.below) in
          record {
            cell = Variable v.block (number - first_cell blocks v.block);
            is = variable_is_cell blocks v.block (number - first_cell blocks v.block) v.owner v.there lt;
            same = omega (arith, v.from);
          }
      | inr r ↦ cell_in_file blocks r.number number r.placed r.there r.from r.below
    ]
