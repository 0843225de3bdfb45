-- Names are found by the numbers that variables, fields and files have through the exchange.
use Rattle.std.proofs.Common.{◌≡◌, ℕ, zero, suc, ◌+◌, List, [], ◌∷◌, ◌++◌, length, map, take, Some}
use Rattle.std.proofs.Common.{slice_get, refl, sym, ap, ◌∙◌, subst, arith}
use Rattle.std.specs.Option.{option_map, option_map_or, unwrap_or}
use Rattle.std.specs.List.{flat_map, sum_by}
use Rattle.std.proofs.lemmas.List.{length-map, map-append}
use Rattle.std.proofs.lemmas.List.Concat.{flat_map-append}
use Rattle.std.proofs.lemmas.List.Sums.{sum_by-cons}
use Rattle.std.proofs.lemmas.Option.{none-some, same_Some, slice_get-map}
use Rattle.plex_num.proofs.Lists.{got_more, get_after}
use Rattle.exchange_model.specs.declared.block.Block.{Block}
use Rattle.exchange_model.specs.declared.block.File.{File}
use Rattle.exchange_model.specs.declared.block.Variable.{Variable}
use Rattle.exchange_model.specs.declared.exchange.Exchange.{Exchange}
use Rattle.exchange_model.specs.Cells.{Placed, placed_files, placed_from, placed_in, block_cells}
use Rattle.exchange_model.specs.Cells.{file_cells}
use Rattle.source_meaning.specs.Config.{files_of}
use Rattle.entry_summary.specs.Numbers.{field_number, variable_number}
use Rattle.analysis_text.specs.Names as names
use Rattle.analysis_text.specs.Names.{fields_of, fields_of_file, name_at, names_of, own_name}
use Rattle.analysis_text.specs.Names.{variables_of}
use Rattle.exchange_model.specs.Names.{name_of_block}

-- a list of lists

flat_at : {X Y : Type 0} (f : X → List Y) (xs : List X) (n i : ℕ) (x : X) (y : Y) → slice_get xs n ≡ Some x
    → slice_get (f x) i ≡ Some y → slice_get (flat_map f xs) (sum_by (λ z. length (f z)) (take n xs) + i) ≡ Some y
flat_at f [] n i x y there here = absurd (none-some x there)
flat_at f (z ∷ xs) zero i x y there here =
    ap (slice_get (flat_map f (z ∷ xs))) (let n : sum_by (λ z. length (f z)) [] + i ≡ i = omega arith in n)
    ∙ got_more (f z) (flat_map f xs) i y (subst (λ w. slice_get (f w) i ≡ Some y) (sym (same_Some z x there)) here)
flat_at f (z ∷ xs) (suc n) i x y there here =
    let rest = sum_by (λ z. length (f z)) (take n xs) in
    let head : sum_by (λ z. length (f z)) (z ∷ take n xs) ≡ length (f z) + rest = sum_by-cons (λ z. length (f z)) z (take n xs) in
    ap (slice_get (flat_map f (z ∷ xs))) (let m : sum_by (λ z. length (f z)) (z ∷ take n xs) + i ≡ length (f z) + (rest + i) = omega (arith, head) in m)
    ∙ get_after (f z) (flat_map f xs) (rest + i)
    ∙ flat_at f xs n i x y there here

-- variables

pub variable_named : (x : Exchange) (b v : ℕ) (k : Block) (d : Variable) → slice_get x.blocks b ≡ Some k
    → slice_get k.variables v ≡ Some d → name_at (names_of x.blocks).variables (variable_number x b v)
    ≡ own_name k.name d.name
variable_named x b v k d there here =
    let named : slice_get (variables_of k) v ≡ Some (own_name k.name d.name) = slice_get-map
    (λ (v : Variable). own_name k.name v.name) k.variables v
    ∙ ap (option_map (λ (v : Variable). own_name k.name v.name)) here in
    let long : sum_by (λ (k : Block). length (variables_of k)) (take b x.blocks)
    ≡ sum_by (λ (k : Block). length k.variables)
    (take b x.blocks) = (λ i. sum_by (λ (k : Block). length-map k.variables
    (λ (v : Variable). own_name k.name v.name) i) (take b x.blocks)) in
    ap (λ n. name_at (flat_map variables_of x.blocks) (n + v)) (sym long)
    ∙ ap (λ o. unwrap_or o []) (flat_at variables_of x.blocks b v k (own_name k.name d.name) there named)

-- blocks by their numbers

-- these blocks have these names, the first of this number
Named : (ℕ → List ℕ) → ℕ → List Block → Type 0
Named name n blocks = (i : ℕ) (b : Block) → slice_get blocks i ≡ Some b → name (n + i) ≡ b.name

first_named : (name : ℕ → List ℕ) (n : ℕ) (b : Block) (bs : List Block) → Named name n (b ∷ bs) → name n ≡ b.name
unfolding Named
first_named name n b bs h = ap name (let z : n ≡ n + 0 = omega arith in z) ∙ h 0 b refl

rest_named : (name : ℕ → List ℕ) (n : ℕ) (b : Block) (bs : List Block) → Named name n (b ∷ bs) → Named name (n + 1) bs
unfolding Named
rest_named name n b bs h = λ i c there. ap name (let z : n + 1 + i ≡ n + suc i = omega arith in z) ∙ h (suc i) c there

blocks_named : (x : Exchange) → Named (name_of_block x.blocks) 0 x.blocks
unfolding Named
blocks_named x = λ i b there. ap (name_of_block x.blocks) (let z : 0 + i ≡ i = omega arith in z) ∙ ap (λ o. option_map_or (λ (b : Block). b.name) o []) there

-- files

abbrev file_name : (ℕ → List ℕ) → Placed → List ℕ
file_name name p = own_name (name p.block) p.file.name

abbrev field_names : (ℕ → List ℕ) → Placed → List (List ℕ)
field_names name p = fields_of_file (name p.block) p.file

files_in : (name : ℕ → List ℕ) (n cell : ℕ) (block : List ℕ) (fs : List File) → name n ≡ block
    → map (λ (f : File). own_name block f.name) fs ≡ map (file_name name) (placed_in n cell fs)
files_in name n cell block [] is = refl
files_in name n cell block (f ∷ fs) is = λ i. own_name (sym is i) f.name ∷ files_in name n (cell + file_cells f) block fs is i

files_from : (name : ℕ → List ℕ) (n cell : ℕ) (blocks : List Block) → Named name n blocks
    → flat_map names.files_of blocks ≡ map (file_name name) (placed_from n cell blocks)
files_from name n cell [] h = refl
files_from name n cell (b ∷ bs) h =
    ap (λ l. l ++ flat_map names.files_of bs) (files_in name n (cell + length b.variables) b.name b.files (first_named name n b bs h))
    ∙ ap (λ l. map (file_name name) (placed_in n (cell + length b.variables) b.files) ++ l)
    (files_from name (n + 1) (cell + block_cells b) bs (rest_named name n b bs h))
    ∙ sym (map-append (file_name name) (placed_in n (cell + length b.variables) b.files) (placed_from (n + 1) (cell + block_cells b) bs))

pub file_named : (x : Exchange) (n : ℕ) (p : Placed) → slice_get (files_of x) n ≡ Some p
    → name_at (names_of x.blocks).files n ≡ own_name (name_of_block x.blocks p.block) p.file.name
unfolding files_of placed_files
file_named x n p there =
    ap (λ l. name_at l n) (files_from (name_of_block x.blocks) 0 0 x.blocks (blocks_named x))
    ∙ ap (λ o. unwrap_or o []) (slice_get-map (file_name (name_of_block x.blocks)) (placed_from 0 0 x.blocks) n
    ∙ ap (option_map (file_name (name_of_block x.blocks))) there)

-- fields

fields_in : (name : ℕ → List ℕ) (n cell : ℕ) (block : List ℕ) (fs : List File) → name n ≡ block
    → flat_map (fields_of_file block) fs ≡ flat_map (field_names name) (placed_in n cell fs)
fields_in name n cell block [] is = refl
fields_in name n cell block (f ∷ fs) is = λ i. fields_of_file (sym is i) f ++ fields_in name n (cell + file_cells f) block fs is i

fields_from : (name : ℕ → List ℕ) (n cell : ℕ) (blocks : List Block) → Named name n blocks
    → flat_map fields_of blocks ≡ flat_map (field_names name) (placed_from n cell blocks)
fields_from name n cell [] h = refl
fields_from name n cell (b ∷ bs) h =
    ap (λ l. l ++ flat_map fields_of bs) (fields_in name n (cell + length b.variables) b.name b.files (first_named name n b bs h))
    ∙ ap (λ l. flat_map (field_names name) (placed_in n (cell + length b.variables) b.files) ++ l)
    (fields_from name (n + 1) (cell + block_cells b) bs (rest_named name n b bs h))
    ∙ sym (flat_map-append (field_names name) (placed_in n (cell + length b.variables) b.files) (placed_from (n + 1) (cell + block_cells b) bs))

pub field_named : (x : Exchange) (n i : ℕ) (p : Placed) (d : Variable) → slice_get (files_of x) n ≡ Some p
    → slice_get p.file.fields i ≡ Some d → name_at (names_of x.blocks).fields (field_number x n i)
    ≡ own_name (name_of_block x.blocks p.block) d.name
unfolding files_of placed_files
field_named x n i p d there here =
    let of = field_names (name_of_block x.blocks) in
    let placed = placed_from 0 0 x.blocks in
    let named : slice_get (of p) i ≡ Some (own_name (name_of_block x.blocks p.block) d.name) = slice_get-map
    (λ (v : Variable). own_name (name_of_block x.blocks p.block) v.name) p.file.fields i
    ∙ ap (option_map (λ (v : Variable). own_name (name_of_block x.blocks p.block) v.name)) here in
    let long : sum_by (λ (p : Placed). length (of p)) (take n placed)
    ≡ sum_by (λ (p : Placed). length p.file.fields)
    (take n placed) = (λ j. sum_by (λ (p : Placed). length-map p.file.fields
    (λ (v : Variable). own_name (name_of_block x.blocks p.block) v.name) j) (take n placed)) in
    ap (λ l. name_at l (field_number x n i)) (fields_from (name_of_block x.blocks) 0 0 x.blocks (blocks_named x))
    ∙ ap (λ m. name_at (flat_map of placed) (m + i)) (sym long)
    ∙ ap (λ o. unwrap_or o []) (flat_at of placed n i p (own_name (name_of_block x.blocks p.block) d.name) there named)
