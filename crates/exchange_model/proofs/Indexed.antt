-- The first cells of the blocks and the places of the files, as they are listed and as they are
-- looked up.
use Rattle.std.proofs.Common.{◌≡◌, ℕ, zero, suc, ◌+◌, ◌-◌, ◌<◌, ◌≤◌, ◌⊎◌, inl, inr, List, [], ◌∷◌}
use Rattle.std.proofs.Common.{◌++◌, length, take, drop, get_or, Some, None, slice_get, sum_by, refl}
use Rattle.std.proofs.Common.{sym, ap, ◌∙◌, arith, length-append, append_assoc, append-nil}
use Rattle.std.proofs.lemmas.List.{drop_more, drop_all, take_all}
use Rattle.std.proofs.lemmas.List.Sums.{sum_by-cons, sum_by_more}
use Rattle.std.proofs.lemmas.Bool.{cases_lt}
use Rattle.std.proofs.lemmas.Option.{none-some, same_Some, slice_get_past, slice_get_within}
use Rattle.std.proofs.lemmas.Option.{slice_get-get_or, slice_get_cases, get_or_from_slice_get}
use Rattle.exchange_model.specs.declared.block.Block.{Block}
use Rattle.exchange_model.specs.declared.block.File.{File}
use Rattle.exchange_model.specs.declared.index.FilePosition.{FilePosition}
use Rattle.exchange_model.specs.Cells.{file_cells, block_cells, cell_count, first_cell, Placed}
use Rattle.exchange_model.specs.Cells.{placed_in, placed_from, placed_files}
use Rattle.exchange_model.specs.Index.{firsts_from, positions_in, positions_from}
use Rattle.plex_num.proofs.Lists.{slice_get-append_left, slice_get-append_right}
use Rattle.exchange_model.proofs.Places.{length-placed_in}

-- the first cells, while they are listed

pub record FirstsListed (blocks : List Block) (firsts : List ℕ) (i cell : ℕ) : Type 0 where
  pub counted : cell ≡ sum_by block_cells (take i blocks)
  pub rest : firsts ++ firsts_from cell (drop i blocks) ≡ firsts_from 0 blocks

pub firsts_begin : (blocks : List Block) → FirstsListed blocks [] 0 0
firsts_begin blocks = record { counted = refl; rest = refl }

pub firsts_more : (blocks : List Block) (firsts pushed : List ℕ) (i cell cells : ℕ) (b : Block) → i < length blocks
    → b ≡ get_or blocks i b → pushed ≡ firsts ++ cell ∷ [] → cells ≡ block_cells b → FirstsListed blocks firsts i cell
    → FirstsListed blocks pushed (i + 1) (cell + cells)
unfolding firsts_from
firsts_more blocks firsts pushed i cell cells b inside is push own l =
    let rest : List Block = drop (i + 1) blocks in
    let split : drop i blocks ≡ b ∷ rest = drop_more blocks i b inside ∙ ap (λ (k : Block). k ∷ rest) (sym is) in
    let at : block_cells (get_or blocks i b) ≡ block_cells b = ap block_cells (sym is) in
    record {
      counted = omega (arith, l.counted, own, at, sum_by_more block_cells blocks i b inside);
      rest =
          ap (λ (ns : List ℕ). ns ++ firsts_from (cell + cells) rest) push
          ∙ append_assoc firsts (cell ∷ []) (firsts_from (cell + cells) rest)
          ∙ ap (λ n. firsts ++ cell ∷ firsts_from (cell + n) rest) own
          ∙ ap (λ ks. firsts ++ firsts_from cell ks) (sym split)
          ∙ l.rest;
    }

pub firsts_end : (blocks : List Block) (firsts : List ℕ) (i cell : ℕ) → length blocks ≤ i → FirstsListed blocks firsts i cell → firsts ≡ firsts_from 0 blocks
unfolding firsts_from
firsts_end blocks firsts i cell past l =
    sym (append-nil firsts) ∙ ap (λ ks. firsts ++ firsts_from cell ks) (sym (drop_all i blocks past)) ∙ l.rest

-- the places of the files of a block, while they are listed

pub record PositionsListed (block first : ℕ) (files : List File) (before positions : List FilePosition) (i cell : ℕ) : Type 0 where
  pub counted : cell ≡ first + sum_by file_cells (take i files)
  pub rest : positions ++ positions_in block i cell (drop i files) ≡ before ++ positions_in block 0 first files

pub positions_begin : (block first : ℕ) (files : List File) (before : List FilePosition) → PositionsListed block first files before before 0 first
positions_begin block first files before = record { counted = omega arith; rest = refl }

pub positions_more : (block first : ℕ) (files : List File) (before positions pushed : List FilePosition)
    (i cell cells : ℕ) (f : File) → i < length files → f ≡ get_or files i f
    → pushed ≡ positions ++ (record { block = block; place = i; first = cell }) ∷ [] → cells ≡ file_cells f
    → PositionsListed block first files before positions i cell
    → PositionsListed block first files before pushed (i + 1) (cell + cells)
unfolding positions_in
positions_more block first files before positions pushed i cell cells f inside is push own l =
    let position : FilePosition = record { block = block; place = i; first = cell } in
    let rest : List File = drop (i + 1) files in
    let split : drop i files ≡ f ∷ rest = drop_more files i f inside ∙ ap (λ (k : File). k ∷ rest) (sym is) in
    let at : file_cells (get_or files i f) ≡ file_cells f = ap file_cells (sym is) in
    record {
      counted = omega (arith, l.counted, own, at, sum_by_more file_cells files i f inside);
      rest =
          ap (λ (ns : List FilePosition). ns ++ positions_in block (i + 1) (cell + cells) rest) push
          ∙ append_assoc positions (position ∷ []) (positions_in block (i + 1) (cell + cells) rest)
          ∙ ap (λ n. positions ++ position ∷ positions_in block (i + 1) (cell + n) rest) own
          ∙ ap (λ fs. positions ++ positions_in block i cell fs) (sym split)
          ∙ l.rest;
    }

pub positions_end : (block first : ℕ) (files : List File) (before positions : List FilePosition) (i cell : ℕ)
    → length files ≤ i → PositionsListed block first files before positions i cell
    → positions ≡ before ++ positions_in block 0 first files
unfolding positions_in
positions_end block first files before positions i cell past l =
    sym (append-nil positions) ∙ ap (λ fs. positions ++ positions_in block i cell fs) (sym (drop_all i files past)) ∙ l.rest

pub positions_next : (block first : ℕ) (files : List File) (before positions : List FilePosition) (i cell : ℕ)
    → length files ≤ i → PositionsListed block first files before positions i cell
    → cell ≡ first + sum_by file_cells files
positions_next block first files before positions i cell past l = l.counted ∙ ap (λ fs. first + sum_by file_cells fs) (take_all i files past)

-- the places of all files, while they are listed

pub record AllListed (blocks : List Block) (positions : List FilePosition) (i cell : ℕ) : Type 0 where
  pub counted : cell ≡ sum_by block_cells (take i blocks)
  pub rest : positions ++ positions_from i cell (drop i blocks) ≡ positions_from 0 0 blocks

pub all_begin : (blocks : List Block) → AllListed blocks [] 0 0
all_begin blocks = record { counted = refl; rest = refl }

pub all_more : (blocks : List Block) (positions pushed : List FilePosition) (i cell next : ℕ) (b : Block)
    → i < length blocks → b ≡ get_or blocks i b
    → pushed ≡ positions ++ positions_in i 0 (cell + length b.variables) b.files
    → next ≡ cell + length b.variables + sum_by file_cells b.files → AllListed blocks positions i cell
    → AllListed blocks pushed (i + 1) next
unfolding positions_from
all_more blocks positions pushed i cell next b inside is push on l =
    let rest : List Block = drop (i + 1) blocks in
    let own : List FilePosition = positions_in i 0 (cell + length b.variables) b.files in
    let split : drop i blocks ≡ b ∷ rest = drop_more blocks i b inside ∙ ap (λ (k : Block). k ∷ rest) (sym is) in
    let at : block_cells (get_or blocks i b) ≡ block_cells b = ap block_cells (sym is) in
    let after : next ≡ cell + block_cells b = omega (arith, on) in
    record {
      counted = omega (arith, l.counted, on, at, sum_by_more block_cells blocks i b inside);
      rest =
          ap (λ (ns : List FilePosition). ns ++ positions_from (i + 1) next rest) push
          ∙ append_assoc positions own (positions_from (i + 1) next rest)
          ∙ ap (λ n. positions ++ (own ++ positions_from (i + 1) n rest)) after
          ∙ ap (λ ks. positions ++ positions_from i cell ks) (sym split)
          ∙ l.rest;
    }

pub all_end : (blocks : List Block) (positions : List FilePosition) (i cell : ℕ) → length blocks ≤ i
    → AllListed blocks positions i cell → positions ≡ positions_from 0 0 blocks
unfolding positions_from
all_end blocks positions i cell past l =
    sym (append-nil positions) ∙ ap (λ ks. positions ++ positions_from i cell ks) (sym (drop_all i blocks past)) ∙ l.rest

-- looked up

first_at : (start : ℕ) (blocks : List Block) (b n : ℕ) → slice_get (firsts_from start blocks) b ≡ Some n → n ≡ start + first_cell blocks b
unfolding firsts_from
first_at start [] b n h = absurd (none-some n h)
first_at start (k ∷ ks) zero n h = let same : start ≡ n = same_Some start n h in omega (arith, same)
first_at start (k ∷ ks) (suc b) n h =
    let later = first_at (start + block_cells k) ks b n h in
    omega (arith, later, sum_by-cons block_cells k (take b ks))

length-firsts_from : (start : ℕ) (blocks : List Block) → length (firsts_from start blocks) ≡ length blocks
unfolding firsts_from
length-firsts_from start [] = refl
length-firsts_from start (k ∷ ks) = ap suc (length-firsts_from (start + block_cells k) ks)

pub first_found : (blocks : List Block) (firsts : List ℕ) (b n : ℕ) → firsts ≡ firsts_from 0 blocks → slice_get firsts b ≡ Some n → n ≡ first_cell blocks b
first_found blocks firsts b n is h = omega (arith, first_at 0 blocks b n (ap (λ ns. slice_get ns b) (sym is) ∙ h))

pub first_past : (blocks : List Block) (firsts : List ℕ) (b cells : ℕ) → firsts ≡ firsts_from 0 blocks
    → slice_get firsts b ≡ None → cells ≡ cell_count blocks → cells ≡ first_cell blocks b
first_past blocks firsts b cells is none all =
    elim (cases_lt b (length blocks)) [
      | inl lt ↦
          let inside : b < length firsts = omega (arith, ap length is, length-firsts_from 0 blocks) in
          absurd (none-some (get_or firsts b 0) (sym none ∙ slice_get-get_or firsts b 0 inside))
      | inr past ↦ all ∙ ap cell_count (sym (take_all b blocks past))
    ]

-- a file of a list by where it stands
record InPositions (block place cell : ℕ) (files : List File) (i : ℕ) (s : FilePosition) : Type 0 where
  pub own : File
  pub block_is : s.block ≡ block
  pub place_is : s.place ≡ place + i
  pub there : slice_get files i ≡ Some own
  pub placed : slice_get (placed_in block cell files) i ≡ Some (record { block = block; file = own; first = s.first })

position_in : (block place cell : ℕ) (files : List File) (i : ℕ) (s : FilePosition)
    → slice_get (positions_in block place cell files) i ≡ Some s → InPositions block place cell files i s
unfolding positions_in
position_in block place cell [] i s h = absurd (none-some s h)
position_in block place cell (f ∷ fs) zero s h =
    let found : FilePosition = record { block = block; place = place; first = cell } in
    let same : found ≡ s = same_Some found s h in
    record {
      own = f;
      block_is = ap (λ (x : FilePosition). x.block) (sym same);
      place_is = let e : s.place ≡ place = ap (λ (x : FilePosition). x.place) (sym same) in omega (arith, e);
      there = refl;
      placed = ap (λ (x : FilePosition). Some (record { block = block; file = f; first = x.first })) same;
    }
position_in block place cell (f ∷ fs) (suc i) s h =
    let r = position_in block (place + 1) (cell + file_cells f) fs i s h in
    record { own = r.own; block_is = r.block_is; place_is = omega (arith, r.place_is); there = r.there; placed = r.placed }

length-positions_in : (block place cell : ℕ) (files : List File) → length (positions_in block place cell files) ≡ length files
unfolding positions_in
length-positions_in block place cell [] = refl
length-positions_in block place cell (f ∷ fs) = ap suc (length-positions_in block (place + 1) (cell + file_cells f) fs)

-- a file of these blocks by where it stands
record InBlocks (block cell : ℕ) (blocks : List Block) (n : ℕ) (s : FilePosition) : Type 0 where
  pub ahead : ℕ
  pub block_is : s.block ≡ block + ahead
  pub owner : Block
  pub there : slice_get blocks ahead ≡ Some owner
  pub own : File
  pub within : slice_get owner.files s.place ≡ Some own
  pub placed : slice_get (placed_from block cell blocks) n ≡ Some (record { block = s.block; file = own; first = s.first })

position_from : (block cell : ℕ) (blocks : List Block) (n : ℕ) (s : FilePosition)
    → slice_get (positions_from block cell blocks) n ≡ Some s → InBlocks block cell blocks n s
unfolding positions_from
position_from block cell [] n s h = absurd (none-some s h)
position_from block cell (b ∷ bs) n s h =
    let start : ℕ = cell + length b.variables in
    let here : List FilePosition = positions_in block 0 start b.files in
    let rest : List FilePosition = positions_from (block + 1) (cell + block_cells b) bs in
    let placed_here : List Placed = placed_in block start b.files in
    let placed_rest : List Placed = placed_from (block + 1) (cell + block_cells b) bs in
    let many : length here ≡ length placed_here = length-positions_in block 0 start b.files ∙ sym (length-placed_in block start b.files) in
    elim (cases_lt n (length here)) [
      | inl lt ↦
          let r = position_in block 0 start b.files n s (sym (slice_get-append_left here rest n lt) ∙ h) in
          let place : n ≡ s.place = omega (arith, r.place_is) in
          record {
            ahead = 0;
            block_is = omega (arith, r.block_is);
            owner = b;
            there = refl;
            own = r.own;
            within = ap (slice_get b.files) (sym place) ∙ r.there;
            placed = slice_get-append_left placed_here placed_rest n (omega (arith, many)) ∙ r.placed
                ∙ ap (λ x. Some (record { block = x; file = r.own; first = s.first })) (sym r.block_is);
          }
      | inr ge ↦
          let r = position_from (block + 1) (cell + block_cells b) bs (n - length here) s (sym (slice_get-append_right here rest n ge) ∙ h) in
          let past : length placed_here ≤ n = omega (arith, many) in
          record {
            ahead = suc r.ahead;
            block_is = omega (arith, r.block_is);
            owner = r.owner;
            there = r.there;
            own = r.own;
            within = r.within;
            placed = slice_get-append_right placed_here placed_rest n past ∙ ap (λ m. slice_get placed_rest (n - m)) (sym many) ∙ r.placed;
          }
    ]

length-positions_from : (block cell : ℕ) (blocks : List Block) → length (positions_from block cell blocks) ≡ length (placed_from block cell blocks)
unfolding positions_from
length-positions_from block cell [] = refl
length-positions_from block cell (b ∷ bs) =
    let start : ℕ = cell + length b.variables in
    omega (
      arith,
      length-append (positions_in block 0 start b.files)
          (positions_from (block + 1) (cell + block_cells b) bs),
      length-append (placed_in block start b.files)
          (placed_from (block + 1) (cell + block_cells b) bs),
      length-positions_in block 0 start b.files,
      length-placed_in
          block start b.files,
      length-positions_from (block + 1) (cell + block_cells b) bs,
    )

-- the file that stands there
pub position_block : (blocks : List Block) (positions : List FilePosition) (n : ℕ) (s : FilePosition)
    → positions ≡ positions_from 0 0 blocks → slice_get positions n ≡ Some s → s.block < length blocks
position_block blocks positions n s is h =
    let r = position_from 0 0 blocks n s (ap (λ ss. slice_get ss n) (sym is) ∙ h) in
    omega (arith, r.block_is, slice_get_within blocks r.ahead r.owner r.there)

-- what stands there, by the block that was read
record Standing (blocks : List Block) (n : ℕ) (s : FilePosition) (b : Block) : Type 0 where
  pub own : File
  pub within : slice_get b.files s.place ≡ Some own
  pub placed : slice_get (placed_files blocks) n ≡ Some (record { block = s.block; file = own; first = s.first })

standing : (blocks : List Block) (positions : List FilePosition) (n : ℕ) (s : FilePosition) (b : Block)
    → positions ≡ positions_from 0 0 blocks → slice_get positions n ≡ Some s → b ≡ get_or blocks s.block b
    → Standing blocks n s b
unfolding placed_files
standing blocks positions n s b is h there =
    let r = position_from 0 0 blocks n s (ap (λ ss. slice_get ss n) (sym is) ∙ h) in
    let at : s.block ≡ r.ahead = omega (arith, r.block_is) in
    let found : slice_get blocks s.block ≡ Some r.owner = ap (slice_get blocks) at ∙ r.there in
    let same : r.owner ≡ b = sym (get_or_from_slice_get blocks s.block r.owner b found) ∙ sym there in
    record {
      own = r.own;
      within = ap (λ (k : Block). slice_get k.files s.place) (sym same) ∙ r.within;
      placed = r.placed;
    }

pub position_place : (blocks : List Block) (positions : List FilePosition) (n : ℕ) (s : FilePosition) (b : Block)
    → positions ≡ positions_from 0 0 blocks → slice_get positions n ≡ Some s → b ≡ get_or blocks s.block b
    → s.place < length b.files
position_place blocks positions n s b is h there =
    let r = standing blocks positions n s b is h there in
    slice_get_within b.files s.place r.own r.within

pub position_file : (blocks : List Block) (positions : List FilePosition) (n : ℕ) (s : FilePosition) (b : Block)
    (f : File) → positions ≡ positions_from 0 0 blocks → slice_get positions n ≡ Some s → b ≡ get_or blocks s.block b
    → f ≡ get_or b.files s.place f → slice_get (placed_files blocks) n
    ≡ Some (record { block = s.block; file = f; first = s.first })
position_file blocks positions n s b f is h there own =
    let r = standing blocks positions n s b is h there in
    let same : r.own ≡ f = sym (get_or_from_slice_get b.files s.place r.own f r.within) ∙ sym own in
    r.placed ∙ ap (λ (g : File). Some (record { block = s.block; file = g; first = s.first })) same

pub position_none : (blocks : List Block) (positions : List FilePosition) (n : ℕ)
    → positions ≡ positions_from 0 0 blocks → slice_get positions n ≡ None → slice_get (placed_files blocks) n ≡ None
unfolding placed_files
position_none blocks positions n is h =
    elim (cases_lt n (length positions)) [
      | inl lt ↦ absurd (there (slice_get_cases positions n).1 lt)
      | inr past ↦ slice_get_past (placed_from 0 0 blocks) n (omega (arith, ap length is, length-positions_from 0 0 blocks))
    ]
  where
    there : ((s : FilePosition) × (n < length positions) × (slice_get positions n ≡ Some s)
        × (get_or positions n s ≡ s)) ⊎ ((length positions ≤ n) × (slice_get positions n ≡ None)) → n < length positions
        → ⊥
    there (inl some) lt = none-some some.0 (sym h ∙ some.2)
    there (inr past) lt = omega (arith, past.0)

-- for `search`

pub ruleset firsts_listed = (firsts_begin, firsts_more, firsts_end)

pub ruleset files_listed = (positions_begin, positions_more, positions_end, positions_next)

pub ruleset all_listed = (all_begin, all_more, all_end)

pub ruleset file_found = (position_block, position_place, position_file, position_none)
