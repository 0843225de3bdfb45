-- The store before the first job has one value for each cell, which is that of the cell.
use Rattle.std.proofs.Common.{◌≡◌, ℕ, ◌+◌, ◌-◌, ◌*◌, ◌<◌, ◌≤◌, Bool, true, false, List, length}
use Rattle.std.proofs.Common.{take, map, sum_by, Some, slice_get, refl, sym, ap, ◌∙◌, arith}
use Rattle.std.proofs.Common.{length-append}
use Rattle.std.specs.Option.{option_map}
use Rattle.std.proofs.lemmas.List.{length-map}
use Rattle.std.proofs.lemmas.Nat.{mul-add-lt}
use Rattle.std.proofs.lemmas.Option.{slice_get-map, slice_get_within}
use Rattle.exchange_model.specs.declared.block.Block.{Block}
use Rattle.exchange_model.specs.declared.block.Variable.{Variable}
use Rattle.exchange_model.specs.declared.block.File.{File}
use Rattle.exchange_model.specs.Cells.{marks, record_cells, file_cells, block_cells, cell_count}
use Rattle.exchange_model.specs.Cells.{first_cell, variable_cell, Placed, placed_files, field_cell}
use Rattle.exchange_model.specs.Cells.{mark_cell}
use Rattle.exchange_model.specs.Inside.{joined}
use Rattle.exchange_model.specs.Opening.{inits, free_mark, record_opening, file_opening}
use Rattle.exchange_model.specs.Opening.{block_opening, opening_store}
use Rattle.exchange_model.proofs.Lists.{length-joined-map, slice_get-joined-map}
use Rattle.exchange_model.proofs.Lists.{length-joined-replicate, slice_get-joined-replicate}
use Rattle.plex_num.proofs.Lists.{slice_get-append_left, slice_get-append_right}
use Rattle.exchange_model.proofs.Places.{stands, sum_by_within}

-- lengths

length-free_mark : (b : Bool) → length (free_mark b) ≡ marks b
length-free_mark false = refl
length-free_mark true = refl

pub length-record_opening : (f : File) → length (record_opening f) ≡ record_cells f
length-record_opening f =
    omega (arith, length-append (inits f.fields) (free_mark f.forlopp), length-map f.fields (λ (v : Variable). v.init), length-free_mark f.forlopp)

pub length-file_opening : (f : File) → length (file_opening f) ≡ file_cells f
length-file_opening f = length-joined-replicate f.size (record_opening f) ∙ ap (λ n. f.size * n) (length-record_opening f)

-- sums of terms that are equal
sum_by_alike : {X : Type 0} (f g : X → ℕ) → ((x : X) → f x ≡ g x) → (xs : List X) → sum_by f xs ≡ sum_by g xs
sum_by_alike f g same xs = λ i. sum_by (λ x. same x i) xs

pub length-block_opening : (b : Block) → length (block_opening b) ≡ block_cells b
length-block_opening b =
    let files : length (joined (map file_opening b.files))
    ≡ sum_by file_cells b.files = length-joined-map file_opening b.files
    ∙ sum_by_alike (λ f. length (file_opening f)) file_cells length-file_opening b.files in
    omega (arith, length-append (inits b.variables) (joined (map file_opening b.files)), length-map b.variables (λ (v : Variable). v.init), files)

pub length-opening_store : (blocks : List Block) → length (opening_store blocks) ≡ cell_count blocks
unfolding opening_store
length-opening_store blocks = length-joined-map block_opening blocks ∙ sum_by_alike (λ b. length (block_opening b)) block_cells length-block_opening blocks

-- values

init_at : (vs : List Variable) (i : ℕ) (v : Variable) → slice_get vs i ≡ Some v → slice_get (inits vs) i ≡ Some v.init
init_at vs i v h = slice_get-map (λ (v : Variable). v.init) vs i ∙ ap (option_map (λ (v : Variable). v.init)) h

in_block : (blocks : List Block) (b j : ℕ) (k : Block) → slice_get blocks b ≡ Some k → j < block_cells k
    → slice_get (opening_store blocks) (first_cell blocks b + j) ≡ slice_get (block_opening k) j
unfolding opening_store
in_block blocks b j k h lt =
    let alike : sum_by (λ b. length (block_opening b)) (take b blocks)
    ≡ first_cell blocks b = sum_by_alike (λ b. length (block_opening b)) block_cells length-block_opening
    (take b blocks) in
    ap (λ n. slice_get (joined (map block_opening blocks)) (n + j)) (sym alike)
    ∙ slice_get-joined-map block_opening blocks b j k h (omega (arith, length-block_opening k))

in_file : (k : Block) (i j : ℕ) (f : File) → slice_get k.files i ≡ Some f → j < file_cells f
    → slice_get (block_opening k) (length k.variables + sum_by file_cells (take i k.files) + j)
    ≡ slice_get (file_opening f) j
in_file k i j f h lt =
    let rest : List ℕ = joined (map file_opening k.files) in
    let at : ℕ = length k.variables + sum_by file_cells (take i k.files) + j in
    let many : length (inits k.variables) ≡ length k.variables = length-map k.variables (λ (v : Variable). v.init) in
    let past : length (inits k.variables) ≤ at = omega (arith, many) in
    let alike : sum_by (λ f. length (file_opening f)) (take i k.files)
    ≡ sum_by file_cells (take i k.files) = sum_by_alike (λ f. length (file_opening f)) file_cells
    length-file_opening (take i k.files) in
    let left : at - length (inits k.variables) ≡ sum_by (λ f. length (file_opening f)) (take i k.files) + j = omega (arith, many, alike) in
    slice_get-append_right (inits k.variables) rest at past ∙ ap (slice_get rest) left
    ∙ slice_get-joined-map file_opening k.files i j f h (omega (arith, length-file_opening f))

in_record : (f : File) (n x : ℕ) → n < f.size → x < record_cells f → slice_get (file_opening f) (n * record_cells f + x) ≡ slice_get (record_opening f) x
in_record f n x inside within =
    let wide = length-record_opening f in
    ap (λ w. slice_get (file_opening f) (n * w + x)) (sym wide) ∙ slice_get-joined-replicate f.size (record_opening f) n x inside (omega (arith, wide))

-- the value at a place of a record
at_record : (blocks : List Block) (f n x : ℕ) (p : Placed) → slice_get (placed_files blocks) f ≡ Some p
    → n < p.file.size → x < record_cells p.file
    → slice_get (opening_store blocks) (field_cell p n x) ≡ slice_get (record_opening p.file) x
at_record blocks f n x p h inside within =
    let s = stands blocks f p h in
    let place : ℕ = n * record_cells p.file + x in
    let before : ℕ = length s.owner.variables + sum_by file_cells (take s.place s.owner.files) in
    let bound : place < record_cells p.file * p.file.size = mul-add-lt n (record_cells p.file) x p.file.size inside within in
    let own : place < file_cells p.file = omega (arith, bound) in
    let within_block : before + place < block_cells s.owner = omega (arith, own, sum_by_within file_cells s.owner.files s.place p.file s.own) in
    let at : field_cell p n x ≡ first_cell blocks p.block + (before + place) = omega (arith, s.first) in
    ap (slice_get (opening_store blocks)) at ∙ in_block blocks p.block (before + place) s.owner s.there within_block
    ∙ in_file s.owner s.place place p.file s.own own ∙ in_record p.file n x inside within

pub opening_store-variable : (blocks : List Block) (b i : ℕ) (k : Block) (v : Variable) → slice_get blocks b ≡ Some k
    → slice_get k.variables i ≡ Some v → slice_get (opening_store blocks) (variable_cell blocks b i) ≡ Some v.init
opening_store-variable blocks b i k v h there =
    let within : i < length k.variables = slice_get_within k.variables i v there in
    let inside : i < length (inits k.variables) = omega (arith, within, length-map k.variables (λ (v : Variable). v.init)) in
    in_block blocks b i k h (omega (arith, within))
    ∙ slice_get-append_left (inits k.variables) (joined (map file_opening k.files)) i inside
    ∙ init_at k.variables i v there

pub opening_store-field : (blocks : List Block) (f n x : ℕ) (p : Placed) (v : Variable)
    → slice_get (placed_files blocks) f ≡ Some p → n < p.file.size → slice_get p.file.fields x ≡ Some v
    → slice_get (opening_store blocks) (field_cell p n x) ≡ Some v.init
opening_store-field blocks f n x p v h inside there =
    let lt : x < length p.file.fields = slice_get_within p.file.fields x v there in
    let front : x < length (inits p.file.fields) = omega (arith, lt, length-map p.file.fields (λ (v : Variable). v.init)) in
    at_record blocks f n x p h inside (omega (arith, lt))
    ∙ slice_get-append_left (inits p.file.fields) (free_mark p.file.forlopp) x front
    ∙ init_at p.file.fields x v there

pub opening_store-mark : (blocks : List Block) (f n : ℕ) (p : Placed) → slice_get (placed_files blocks) f ≡ Some p
    → n < p.file.size → p.file.forlopp ≡ true → slice_get (opening_store blocks) (mark_cell p n) ≡ Some 0
opening_store-mark blocks f n p h inside marked =
    let last : ℕ = length p.file.fields in
    let one : marks p.file.forlopp ≡ 1 = ap marks marked in
    let many : length (inits p.file.fields) ≡ last = length-map p.file.fields (λ (v : Variable). v.init) in
    let past : length (inits p.file.fields) ≤ last = omega (arith, many) in
    let none : last - length (inits p.file.fields) ≡ 0 = omega (arith, many) in
    at_record blocks f n last p h inside (omega (arith, one))
    ∙ slice_get-append_right (inits p.file.fields) (free_mark p.file.forlopp) last past
    ∙ ap (slice_get (free_mark p.file.forlopp)) none ∙ ap (λ b. slice_get (free_mark b) 0) marked
