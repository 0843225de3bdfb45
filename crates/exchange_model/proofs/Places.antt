-- Where files stand: in which block, and from which cell on.
use Rattle.std.proofs.Common.{◌≡◌, ℕ, zero, suc, ◌+◌, ◌-◌, ◌<◌, ◌≤◌, ◌⊎◌, inl, inr, List, [], ◌∷◌}
use Rattle.std.proofs.Common.{length, take, get_or, Some, slice_get, sum_by, refl, sym, ap, ◌∙◌}
use Rattle.std.proofs.Common.{arith}
use Rattle.std.proofs.lemmas.List.{take_all}
use Rattle.std.proofs.lemmas.List.Sums.{sum_by-cons, sum_by_more_le}
use Rattle.std.proofs.lemmas.Bool.{cases_lt}
use Rattle.std.proofs.lemmas.Option.{none-some, same_Some, slice_get-get_or, slice_get_read}
use Rattle.std.proofs.lemmas.Option.{slice_get_within, get_or_from_slice_get}
use Rattle.exchange_model.specs.declared.block.Block.{Block}
use Rattle.exchange_model.specs.declared.block.File.{File}
use Rattle.exchange_model.specs.Cells.{file_cells, block_cells, cell_count, first_cell}
use Rattle.exchange_model.specs.Cells.{variable_cell, Placed, placed_in, placed_from, placed_files}
use Rattle.plex_num.proofs.Lists.{slice_get-append_left, slice_get-append_right}

pub length-placed_in : (block cell : ℕ) (fs : List File) → length (placed_in block cell fs) ≡ length fs
length-placed_in block cell [] = refl
length-placed_in block cell (f ∷ fs) = ap suc (length-placed_in block (cell + file_cells f) fs)

-- the cells of the files before this one are counted
pub slice_get-placed_in : (block cell : ℕ) (fs : List File) (i : ℕ) (f : File) → slice_get fs i ≡ Some f
    → slice_get (placed_in block cell fs) i ≡ Some
    (record { block = block; file = f; first = cell + sum_by file_cells (take i fs) })
slice_get-placed_in block cell [] i f h = absurd (none-some f h)
slice_get-placed_in block cell (g ∷ fs) zero f h =
    let same : g ≡ f = same_Some g f h in
    let none : cell ≡ cell + 0 = omega arith in
    cc
slice_get-placed_in block cell (g ∷ fs) (suc i) f h =
    let here = slice_get-placed_in block (cell + file_cells g) fs i f h in
    let more : sum_by file_cells (g ∷ take i fs) ≡ file_cells g + sum_by file_cells (take i fs) = sum_by-cons file_cells g (take i fs) in
    let same : cell + file_cells g + sum_by file_cells (take i fs) ≡ cell + sum_by file_cells (g ∷ take i fs) = omega (arith, more) in
    here ∙ ap (λ n. Some (record { block = block; file = f; first = n })) same

-- the same, once the cells of the first `index` files of those before the place were counted, which
-- are all of them
pub found_at : (block start place cell index : ℕ) (fs : List File) (f : File) → place < length fs
    → f ≡ get_or fs place f → cell ≡ start + sum_by file_cells (take index (take place fs))
    → length (take place fs) ≤ index → slice_get (placed_in block start fs) place
    ≡ Some (record { block = block; file = f; first = cell })
found_at block start place cell index fs f within is counted all =
    let there : slice_get fs place ≡ Some f = slice_get_read fs (length fs) place f refl within is in
    let same : sum_by file_cells (take index (take place fs)) ≡ sum_by file_cells (take place fs) =
    ap (sum_by file_cells) (take_all index (take place fs) all) in
    let first : start + sum_by file_cells (take place fs) ≡ cell = omega (arith, counted, same) in
    slice_get-placed_in block start fs place f there ∙ ap (λ n. Some (record { block = block; file = f; first = n })) first

-- a file of a list, after those before it
pub record StandsIn (b cell : ℕ) (fs : List File) (p : Placed) : Type 0 where
  pub place : ℕ
  pub own : slice_get fs place ≡ Some p.file
  pub block : p.block ≡ b
  pub first : p.first ≡ cell + sum_by file_cells (take place fs)

pub stands_in : (block cell : ℕ) (fs : List File) (i : ℕ) (p : Placed) → slice_get (placed_in block cell fs) i ≡ Some p → StandsIn block cell fs p
stands_in block cell fs i p h =
    let inside : i < length fs = omega (arith, slice_get_within (placed_in block cell fs) i p h, length-placed_in block cell fs) in
    let f : File = get_or fs i p.file in
    let there : slice_get fs i ≡ Some f = slice_get-get_or fs i p.file inside in
    let found : Placed = record { block = block; file = f; first = cell + sum_by file_cells (take i fs) } in
    let same : found ≡ p = same_Some found p (sym (slice_get-placed_in block cell fs i f there) ∙ h) in
    record {
      place = i;
      own = there ∙ ap (λ (q : Placed). Some q.file) same;
      block = ap (λ (q : Placed). q.block) (sym same);
      first = ap (λ (q : Placed). q.first) (sym same);
    }

-- a file of these blocks, the first of which has the number `b` and begins at `cell`
record StandsFrom (b cell : ℕ) (bs : List Block) (p : Placed) : Type 0 where
  pub ahead : ℕ
  pub block : p.block ≡ b + ahead
  pub owner : Block
  pub there : slice_get bs ahead ≡ Some owner
  pub place : ℕ
  pub own : slice_get owner.files place ≡ Some p.file
  pub first : p.first ≡ cell + cell_count (take ahead bs) + length owner.variables + sum_by file_cells (take place owner.files)

stands_from : (block cell : ℕ) (bs : List Block) (n : ℕ) (p : Placed) → slice_get (placed_from block cell bs) n ≡ Some p → StandsFrom block cell bs p
stands_from block cell [] n p h = absurd (none-some p h)
stands_from block cell (b ∷ bs) n p h =
    let here : List Placed = placed_in block (cell + length b.variables) b.files in
    let rest : List Placed = placed_from (block + 1) (cell + block_cells b) bs in
    elim (cases_lt n (length here)) [
      | inl lt ↦
          let s = stands_in block (cell + length b.variables) b.files n p (sym (slice_get-append_left here rest n lt) ∙ h) in
          record {
            ahead = 0;
            block = omega (arith, s.block);
            owner = b;
            there = refl;
            place = s.place;
            own = s.own;
            first = omega (arith, s.first);
          }
      | inr ge ↦
          let s = stands_from (block + 1) (cell + block_cells b) bs (n - length here) p (sym (slice_get-append_right here rest n ge) ∙ h) in
          let more : cell_count (b ∷ take s.ahead bs) ≡ block_cells b + cell_count (take s.ahead bs) = sum_by-cons block_cells b (take s.ahead bs) in
          record {
            ahead = suc s.ahead;
            block = omega (arith, s.block);
            owner = s.owner;
            there = s.there;
            place = s.place;
            own = s.own;
            first = omega (arith, s.first, more);
          }
    ]

-- a file of the exchange: its block, its place among the files of that block, and the cells before
-- it
pub record FileStands (blocks : List Block) (p : Placed) : Type 0 where
  pub owner : Block
  pub there : slice_get blocks p.block ≡ Some owner
  pub place : ℕ
  pub own : slice_get owner.files place ≡ Some p.file
  pub first : p.first ≡ first_cell blocks p.block + length owner.variables + sum_by file_cells (take place owner.files)

pub stands : (blocks : List Block) (n : ℕ) (p : Placed) → slice_get (placed_files blocks) n ≡ Some p → FileStands blocks p
unfolding placed_files
stands blocks n p h =
    let s = stands_from 0 0 blocks n p h in
    let at : p.block ≡ s.ahead = omega (arith, s.block) in
    record {
      owner = s.owner;
      there = ap (slice_get blocks) at ∙ s.there;
      place = s.place;
      own = s.own;
      first =
          let same : first_cell blocks p.block ≡ cell_count (take s.ahead blocks) = ap (first_cell blocks) at in
          omega (arith, s.first, same);
    }

-- order

-- what stands before a place, with what stands there, is within the whole, and before each later
-- place
pub sum_by_within : {X : Type 0} (f : X → ℕ) (xs : List X) (i : ℕ) (x : X) → slice_get xs i ≡ Some x → sum_by f (take i xs) + f x ≤ sum_by f xs
sum_by_within f xs i x h =
    let inside : i < length xs = slice_get_within xs i x h in
    let at : f (get_or xs i x) ≡ f x = ap f (get_or_from_slice_get xs i x x h) in
    omega (arith, sum_by_more_le f xs i x inside, at)

pub sum_by_rises : {X : Type 0} (f : X → ℕ) (xs : List X) (i j : ℕ) (x : X) → slice_get xs i ≡ Some x → i < j
    → sum_by f (take i xs) + f x ≤ sum_by f (take j xs)
sum_by_rises f [] i j x h lt = absurd (none-some x h)
sum_by_rises f (y ∷ ys) i zero x h lt = absurd (omega arith)
sum_by_rises f (y ∷ ys) zero (suc j) x h lt =
    let same : f y ≡ f x = ap f (same_Some y x h) in
    let more : sum_by f (y ∷ take j ys) ≡ f y + sum_by f (take j ys) = sum_by-cons f y (take j ys) in
    omega (arith, same, more)
sum_by_rises f (y ∷ ys) (suc i) (suc j) x h lt =
    let rest = sum_by_rises f ys i j x h (omega arith) in
    let more : sum_by f (y ∷ take j ys) ≡ f y + sum_by f (take j ys) = sum_by-cons f y (take j ys) in
    let before : sum_by f (y ∷ take i ys) ≡ f y + sum_by f (take i ys) = sum_by-cons f y (take i ys) in
    omega (arith, rest, more, before)

placed_in_rises : (block cell : ℕ) (fs : List File) (i j : ℕ) (p q : Placed) → i < j
    → slice_get (placed_in block cell fs) i ≡ Some p → slice_get (placed_in block cell fs) j ≡ Some q
    → p.first + file_cells p.file ≤ q.first
placed_in_rises block cell [] i j p q lt h k = absurd (none-some p h)
placed_in_rises block cell (f ∷ fs) i zero p q lt h k = absurd (omega arith)
placed_in_rises block cell (f ∷ fs) zero (suc j) p q lt h k =
    let found : Placed = record { block = block; file = f; first = cell } in
    let same : found ≡ p = same_Some found p h in
    let ends : p.first + file_cells p.file ≡ cell + file_cells f = ap (λ (x : Placed). x.first + file_cells x.file) (sym same) in
    let s = stands_in block (cell + file_cells f) fs j q k in
    omega (arith, ends, s.first)
placed_in_rises block cell (f ∷ fs) (suc i) (suc j) p q lt h k =
    placed_in_rises block (cell + file_cells f) fs i j p q (omega arith) h k

placed_in_ends : (block cell : ℕ) (fs : List File) (i : ℕ) (p : Placed) → slice_get (placed_in block cell fs) i ≡ Some p
    → p.first + file_cells p.file ≤ cell + sum_by file_cells fs
placed_in_ends block cell fs i p h =
    let s = stands_in block cell fs i p h in
    omega (arith, s.first, sum_by_within file_cells fs s.place p.file s.own)

placed_from_rises : (block cell : ℕ) (bs : List Block) (i j : ℕ) (p q : Placed) → i < j
    → slice_get (placed_from block cell bs) i ≡ Some p → slice_get (placed_from block cell bs) j ≡ Some q
    → p.first + file_cells p.file ≤ q.first
placed_from_rises block cell [] i j p q lt h k = absurd (none-some p h)
placed_from_rises block cell (b ∷ bs) i j p q lt h k =
    let here : List Placed = placed_in block (cell + length b.variables) b.files in
    let rest : List Placed = placed_from (block + 1) (cell + block_cells b) bs in
    elim (cases_lt j (length here)) [
      | inl within ↦
          let early : i < length here = omega arith in
          placed_in_rises block (cell + length b.variables) b.files i j p q lt
          (sym (slice_get-append_left here rest i early) ∙ h) (sym (slice_get-append_left here rest j within) ∙ k)
      | inr past ↦
          let later = sym (slice_get-append_right here rest j past) ∙ k in
          elim (cases_lt i (length here)) [
            | inl early ↦
                let ends = placed_in_ends block (cell + length b.variables) b.files i p (sym (slice_get-append_left here rest i early) ∙ h) in
                let s = stands_from (block + 1) (cell + block_cells b) bs (j - length here) q later in
                omega (arith, ends, s.first)
            | inr late ↦
                placed_from_rises (block + 1) (cell + block_cells b) bs (i - length here) (j - length here) p q
                (omega arith) (sym (slice_get-append_right here rest i late) ∙ h) later
          ]
    ]

-- a file ends before each later one begins
pub files_rise : (blocks : List Block) (i j : ℕ) (p q : Placed) → i < j → slice_get (placed_files blocks) i ≡ Some p
    → slice_get (placed_files blocks) j ≡ Some q → p.first + file_cells p.file ≤ q.first
unfolding placed_files
files_rise blocks i j p q lt h k = placed_from_rises 0 0 blocks i j p q lt h k

-- a file stands in its block: after the variables, and before the next block
pub record IsWithin (blocks : List Block) (p : Placed) : Type 0 where
  pub owner : Block
  pub there : slice_get blocks p.block ≡ Some owner
  pub after : first_cell blocks p.block + length owner.variables ≤ p.first
  pub before : p.first + file_cells p.file ≤ first_cell blocks p.block + block_cells owner

pub file_within : (blocks : List Block) (n : ℕ) (p : Placed) → slice_get (placed_files blocks) n ≡ Some p → IsWithin blocks p
file_within blocks n p h =
    let s = stands blocks n p h in
    record {
      owner = s.owner;
      there = s.there;
      after = omega (arith, s.first);
      before = omega (arith, s.first, sum_by_within file_cells s.owner.files s.place p.file s.own);
    }

-- a file's cells are below the number of cells
pub file_below : (blocks : List Block) (n : ℕ) (p : Placed) → slice_get (placed_files blocks) n ≡ Some p → p.first + file_cells p.file ≤ cell_count blocks
file_below blocks n p h =
    let w = file_within blocks n p h in
    omega (arith, w.before, sum_by_within block_cells blocks p.block w.owner w.there)

-- a block's cells are below the number of cells, and before those of each later block
pub block_below : (blocks : List Block) (b : ℕ) (k : Block) → slice_get blocks b ≡ Some k → first_cell blocks b + block_cells k ≤ cell_count blocks
block_below blocks b k h = sum_by_within block_cells blocks b k h

pub blocks_rise : (blocks : List Block) (b c : ℕ) (k : Block) → slice_get blocks b ≡ Some k → b < c → first_cell blocks b + block_cells k ≤ first_cell blocks c
blocks_rise blocks b c k h lt = sum_by_rises block_cells blocks b c k h lt

pub variable_below : (blocks : List Block) (b v : ℕ) (k : Block) → slice_get blocks b ≡ Some k → v < length k.variables
    → variable_cell blocks b v < cell_count blocks
variable_below blocks b v k h lt = omega (arith, block_below blocks b k h)

-- each cell is of a variable or of a file

-- a block of these, the first of which begins at `start`, has a variable with this cell
pub record InVariables (start : ℕ) (blocks : List Block) (cell : ℕ) : Type 0 where
  pub block : ℕ
  pub owner : Block
  pub there : slice_get blocks block ≡ Some owner
  pub from : start + first_cell blocks block ≤ cell
  pub below : cell < start + first_cell blocks block + length owner.variables

-- one of these files has this cell
pub record InFile (files : List Placed) (cell : ℕ) : Type 0 where
  pub number : ℕ
  pub placed : Placed
  pub there : slice_get files number ≡ Some placed
  pub from : placed.first ≤ cell
  pub below : cell < placed.first + file_cells placed.file

covered_in : (block start : ℕ) (fs : List File) (cell : ℕ) → start ≤ cell → cell < start + sum_by file_cells fs → InFile (placed_in block start fs) cell
covered_in block start [] cell from below = absurd (omega arith)
covered_in block start (f ∷ fs) cell from below =
    let more : sum_by file_cells (f ∷ fs) ≡ file_cells f + sum_by file_cells fs = sum_by-cons file_cells f fs in
    elim (cases_lt cell (start + file_cells f)) [
      | inl within ↦ record { number = 0; placed = record { block = block; file = f; first = start }; there = refl; from = from; below = within }
      | inr past ↦
          let r = covered_in block (start + file_cells f) fs cell past (omega (arith, more)) in
          record { number = suc r.number; placed = r.placed; there = r.there; from = r.from; below = r.below }
    ]

covered_from : (block start : ℕ) (bs : List Block) (cell : ℕ) → start ≤ cell → cell < start + cell_count bs
    → InVariables start bs cell ⊎ InFile (placed_from block start bs) cell
covered_from block start [] cell from below = absurd (omega arith)
covered_from block start (b ∷ bs) cell from below =
    let more : cell_count (b ∷ bs) ≡ block_cells b + cell_count bs = sum_by-cons block_cells b bs in
    let here : List Placed = placed_in block (start + length b.variables) b.files in
    let rest : List Placed = placed_from (block + 1) (start + block_cells b) bs in
    elim (cases_lt cell (start + length b.variables)) [
      | inl variable ↦ inl (record { block = 0; owner = b; there = refl; from = omega arith; below = omega arith })
      | inr later ↦
          elim (cases_lt cell (start + block_cells b)) [
            | inl own ↦
                let r = covered_in block (start + length b.variables) b.files cell later (omega arith) in
                let inside : r.number < length here = slice_get_within here r.number r.placed r.there in
                inr (record {
                  number = r.number;
                  placed = r.placed;
                  there = slice_get-append_left here rest r.number inside ∙ r.there;
                  from = r.from;
                  below = r.below;
                })
            | inr past ↦
                elim (covered_from (block + 1) (start + block_cells b) bs cell past (omega (arith, more))) [
                  | inl v ↦
                      let next : cell_count (b ∷ take v.block bs) ≡ block_cells b + cell_count (take v.block bs) =
                      sum_by-cons block_cells b (take v.block bs) in
                      inl (record {
                        block = suc v.block;
                        owner = v.owner;
                        there = v.there;
                        from = omega (arith, v.from, next);
                        below = omega (arith, v.below, next);
                      })
                  | inr r ↦
                      let after : length here ≤ length here + r.number = omega arith in
                      let at : length here + r.number - length here ≡ r.number = omega arith in
                      inr (record {
                        number = length here + r.number;
                        placed = r.placed;
                        there = slice_get-append_right here rest (length here + r.number) after ∙ ap (slice_get rest) at ∙ r.there;
                        from = r.from;
                        below = r.below;
                      })
                ]
          ]
    ]

pub covered : (blocks : List Block) (cell : ℕ) → cell < cell_count blocks → InVariables 0 blocks cell ⊎ InFile (placed_files blocks) cell
unfolding placed_files
covered blocks cell below = covered_from 0 0 blocks cell (omega arith) (omega arith)
