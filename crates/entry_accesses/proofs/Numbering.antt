-- The numbers of variables and fields, as they are summed up.
use Rattle.std.proofs.Common.{◌≡◌, ℕ, zero, suc, ◌+◌, ◌<◌, ◌≤◌, ◌*◌, ◌^◌, List, [], ◌∷◌, ◌++◌}
use Rattle.std.proofs.Common.{length, map, take, drop, get_or, sum_by, Some, slice_get, refl, sym}
use Rattle.std.proofs.Common.{ap, ◌∙◌, arith, append_assoc, append-nil, suc-mul}
use Rattle.std.specs.List.{AllByRecursion}
use Rattle.std.proofs.Math.ListN.{drop_of_length-le}
use Rattle.std.proofs.lemmas.List.{map-append, length-map}
use Rattle.std.proofs.lemmas.List.Sums.{sum_by-cons}
use Rattle.std.proofs.lemmas.Option.{none-some, same_Some, slice_get-get_or}
use Rattle.plex_limits.specs.declared.limits.TheConstants.{MOST_CELLS}
use Rattle.plex_num.proofs.Lists.{opens, all_from}
use Rattle.exchange_model.specs.declared.exchange.Exchange.{Exchange}
use Rattle.exchange_model.specs.declared.block.Block.{Block}
use Rattle.exchange_model.specs.declared.block.File.{File}
use Rattle.exchange_model.specs.Cells.{record_cells, file_cells, block_cells, cell_count, placed_in}
use Rattle.exchange_model.specs.Cells.{placed_from, placed_files}
use Rattle.exchange_model.specs.Inside.{total}
use Rattle.exchange_model.specs.Kept.{IsExchange, FileFits}
use Rattle.exchange_model.proofs.Facts.{cells_few}
use Rattle.source_meaning.specs.Config.{files_of}
use Rattle.source_meaning.specs.Named.{NamedVariable, NamedField}
use Rattle.entry_accesses.specs.declared.numbers.CellNumbers.{CellNumbers}
use Rattle.entry_accesses.specs.Numbered.{variable_count, field_count, placed_count, first_variable}
use Rattle.entry_accesses.specs.Numbered.{first_field, AreFirsts, AreNumbers, HasNumber, IsNumbered}
use Rattle.entry_accesses.specs.Numbered.{sums_from, field_counts}

-- sums

total_append : (ms ns : List ℕ) → total (ms ++ ns) ≡ total ms + total ns
total_append [] ns = omega arith
total_append (m ∷ ms) ns = (let rest = total_append ms ns in omega (arith, rest))

sums_append : (n : ℕ) (ms ns : List ℕ) → sums_from n (ms ++ ns) ≡ sums_from n ms ++ sums_from (n + total ms) ns
sums_append n [] ns = (let none : n ≡ n + 0 = omega arith in ap (λ k. sums_from k ns) none)
sums_append n (m ∷ ms) ns =
    let more : n + m + total ms ≡ n + (m + total ms) = omega arith in
    ap (λ l. n ∷ l) (sums_append (n + m) ms ns ∙ ap (λ k. sums_from (n + m) ms ++ sums_from k ns) more)

length-sums_from : (n : ℕ) (ks : List ℕ) → length (sums_from n ks) ≡ length ks
length-sums_from n [] = refl
length-sums_from n (k ∷ ks) = ap suc (length-sums_from (n + k) ks)

sums_at : (n : ℕ) (ks : List ℕ) (i m : ℕ) → slice_get (sums_from n ks) i ≡ Some m → m ≡ n + total (take i ks)
sums_at n [] i m there = absurd (none-some m there)
sums_at n (k ∷ ks) zero m there = (let same = same_Some n m there in omega (arith, same))
sums_at n (k ∷ ks) (suc i) m there = (let rest = sums_at (n + k) ks i m there in omega (arith, rest))

total_take : {A : Type 0} (f : A → ℕ) (xs : List A) (i : ℕ) → total (take i (map f xs)) ≡ sum_by f (take i xs)
total_take f [] zero = refl
total_take f [] (suc i) = refl
total_take f (x ∷ xs) zero = refl
total_take f (x ∷ xs) (suc i) =
    let rest = total_take f xs i in
    let more : sum_by f (x ∷ take i xs) ≡ f x + sum_by f (take i xs) = sum_by-cons f x (take i xs) in
    omega (arith, rest, more)

total_all : {A : Type 0} (f : A → ℕ) (xs : List A) → total (map f xs) ≡ sum_by f xs
total_all f [] = refl
total_all f (x ∷ xs) = (let rest = total_all f xs in let more : sum_by f (x ∷ xs) ≡ f x + sum_by f xs = sum_by-cons f x xs in omega (arith, rest, more))

-- one after the other

pub record SumsGo {A : Type 0} (f : A → ℕ) (xs : List A) (i first start : ℕ) (old now : List ℕ) : Type 0 where
  pub all : now ++ sums_from first (map f (drop i xs)) ≡ old ++ sums_from start (map f xs)
  pub sum : first + total (map f (drop i xs)) ≡ start + total (map f xs)

pub sums_begin : {A : Type 0} (f : A → ℕ) (xs : List A) (start : ℕ) (old : List ℕ) → SumsGo f xs 0 start start old old
sums_begin f xs start old = record { all = refl; sum = refl }

pub sums_new : {A : Type 0} (f : A → ℕ) (xs : List A) (now : List ℕ) → now ≡ [] → SumsGo f xs 0 0 0 [] now
sums_new f xs now none = record { all = ap (λ l. l ++ sums_from 0 (map f xs)) none; sum = refl }

left : {A : Type 0} (f : A → ℕ) (xs : List A) (i first start : ℕ) (x : A) (old now : List ℕ) → i < length xs
    → x ≡ get_or xs i x → SumsGo f xs i first start old now
    → first + (f x + total (map f (drop (i + 1) xs))) ≡ start + total (map f xs)
left f xs i first start x old now lt is g = ap (λ l. first + total (map f l)) (sym (opens xs i x lt is)) ∙ g.sum

pub sums_more : {A : Type 0} (f : A → ℕ) (xs : List A) (i first start next n : ℕ) (x : A) (old now new : List ℕ)
    → i < length xs → x ≡ get_or xs i x → n ≡ f x → next ≡ first + n → new ≡ now ++ first ∷ []
    → SumsGo f xs i first start old now → SumsGo f xs (i + 1) next start old new
sums_more f xs i first start next n x old now new lt is count step made g = record {
  all =
      (let at : next ≡ first + f x = step ∙ ap (λ m. first + m) count in
      ap (λ l. l ++ sums_from next (map f (drop (i + 1) xs))) made
      ∙ append_assoc now (first ∷ []) (sums_from next (map f (drop (i + 1) xs)))
      ∙ ap (λ m. now ++ (first ∷ sums_from m (map f (drop (i + 1) xs)))) at
      ∙ ap (λ l. now ++ sums_from first (map f l)) (sym (opens xs i x lt is))
      ∙ g.all);
  sum = (let s = left f xs i first start x old now lt is g in omega (arith, s, step, count));
}

pub sums_small : {A : Type 0} (f : A → ℕ) (xs : List A) (i first start n : ℕ) (x : A) (old now : List ℕ) → i < length xs
    → x ≡ get_or xs i x → n ≡ f x → start + total (map f xs) < 2 ^ 32 → SumsGo f xs i first start old now
    → first + n < 2 ^ 32
sums_small f xs i first start n x old now lt is count small g = (let s = left f xs i first start x old now lt is g in omega (arith, s, count, small))

-- the same from the number 0 on
pub sums_small_new : {A : Type 0} (f : A → ℕ) (xs : List A) (i first n : ℕ) (x : A) (old now : List ℕ) → i < length xs
    → x ≡ get_or xs i x → n ≡ f x → total (map f xs) < 2 ^ 32 → SumsGo f xs i first 0 old now → first + n < 2 ^ 32
sums_small_new f xs i first n x old now lt is count small g = (let s = left f xs i first 0 x old now lt is g in omega (arith, s, count, small))

pub sums_end : {A : Type 0} (f : A → ℕ) (xs : List A) (i first start : ℕ) (old now : List ℕ) → length xs ≤ i
    → SumsGo f xs i first start old now → now ≡ old ++ sums_from start (map f xs)
sums_end f xs i first start old now past g = sym (append-nil now) ∙ sym (ap (λ l. now ++ sums_from first (map f l)) (drop_of_length-le xs past)) ∙ g.all

pub sums_next : {A : Type 0} (f : A → ℕ) (xs : List A) (i first start : ℕ) (old now : List ℕ) → length xs ≤ i
    → SumsGo f xs i first start old now → first ≡ start + total (map f xs)
sums_next f xs i first start old now past g =
    let none : first + 0 ≡ start + total (map f xs) = sym (ap (λ l. first + total (map f l)) (drop_of_length-le xs past)) ∙ g.sum in
    omega (arith, none)

-- the fields of the files of each block

pub record FieldsGo (blocks : List Block) (i first : ℕ) (now : List ℕ) : Type 0 where
  pub all : now ++ sums_from first (field_counts (drop i blocks)) ≡ sums_from 0 (field_counts blocks)
  pub sum : first + total (field_counts (drop i blocks)) ≡ total (field_counts blocks)

pub fields_begin : (blocks : List Block) (now : List ℕ) → now ≡ [] → FieldsGo blocks 0 0 now
fields_begin blocks now none = record { all = ap (λ l. l ++ sums_from 0 (field_counts blocks)) none; sum = omega arith }

fields_left : (blocks : List Block) (i first : ℕ) (k : Block) (now : List ℕ) → i < length blocks → k ≡ get_or blocks i k
    → FieldsGo blocks i first now → first + (total (map field_count k.files)
    + total (field_counts (drop (i + 1) blocks))) ≡ total (field_counts blocks)
fields_left blocks i first k now lt is g =
    let parts = total_append (map field_count k.files) (field_counts (drop (i + 1) blocks)) in
    let s : first + total (map field_count k.files ++ field_counts (drop (i + 1) blocks))
    ≡ total (field_counts blocks) =
    ap (λ l. first + total (field_counts l)) (sym (opens blocks i k lt is)) ∙ g.sum in
    omega (arith, parts, s)

pub fields_more : (blocks : List Block) (i first next : ℕ) (k : Block) (files : List File) (now new : List ℕ)
    → i < length blocks → k ≡ get_or blocks i k → files ≡ k.files → next ≡ first + total (map field_count files)
    → new ≡ now ++ sums_from first (map field_count files) → FieldsGo blocks i first now
    → FieldsGo blocks (i + 1) next new
fields_more blocks i first next k files now new lt is same step made g =
    let rest : List ℕ = field_counts (drop (i + 1) blocks) in
    let at : next ≡ first + total (map field_count k.files) = step ∙ ap (λ fs. first + total (map field_count fs)) same in
    record {
      all =
          ap (λ l. l ++ sums_from next rest) (made ∙ ap (λ fs. now ++ sums_from first (map field_count fs)) same)
          ∙ append_assoc now (sums_from first (map field_count k.files)) (sums_from next rest)
          ∙ ap (λ m. now ++ (sums_from first (map field_count k.files) ++ sums_from m rest)) at
          ∙ ap (λ l. now ++ l) (sym (sums_append first (map field_count k.files) rest))
          ∙ ap (λ l. now ++ sums_from first (field_counts l)) (sym (opens blocks i k lt is))
          ∙ g.all;
      sum = (let s = fields_left blocks i first k now lt is g in omega (arith, s, at));
    }

pub fields_small : (blocks : List Block) (i first : ℕ) (k : Block) (files : List File) (now : List ℕ)
    → i < length blocks → k ≡ get_or blocks i k → files ≡ k.files → total (field_counts blocks) < 2 ^ 32
    → FieldsGo blocks i first now → first + total (map field_count files) < 2 ^ 32
fields_small blocks i first k files now lt is same small g =
    let s = fields_left blocks i first k now lt is g in
    let count : total (map field_count files) ≡ total (map field_count k.files) = ap (λ fs. total (map field_count fs)) same in
    omega (arith, s, count, small)

pub fields_end : (blocks : List Block) (i first : ℕ) (now : List ℕ) → length blocks ≤ i → FieldsGo blocks i first now → now ≡ sums_from 0 (field_counts blocks)
fields_end blocks i first now past g = sym (append-nil now) ∙ sym (ap (λ l. now ++ sums_from first (field_counts l)) (drop_of_length-le blocks past)) ∙ g.all

-- few variables and few fields

variables_within : (blocks : List Block) → sum_by variable_count blocks ≤ cell_count blocks
variables_within [] = omega arith
variables_within (k ∷ ks) =
    let rest = variables_within ks in
    let here : sum_by variable_count (k ∷ ks) ≡ variable_count k + sum_by variable_count ks = sum_by-cons variable_count k ks in
    let cells : cell_count (k ∷ ks) ≡ block_cells k + cell_count ks = sum_by-cons block_cells k ks in
    omega (arith, rest, here, cells)

pub variables_few : (x : Exchange) → IsExchange x → sum_by variable_count x.blocks ≤ MOST_CELLS
variables_few x kept = (let within = variables_within x.blocks in let few = cells_few x kept in omega (arith, within, few))

one_within : (size cells : ℕ) → 1 ≤ size → cells ≤ size * cells
one_within zero cells some = absurd (omega arith)
one_within (suc size) cells some = (let more : suc size * cells ≡ size * cells + cells = suc-mul size cells in let n : ℕ = size * cells in omega (arith, more))

files_within : (fs : List File) → AllByRecursion FileFits fs → total (map field_count fs) ≤ sum_by file_cells fs
files_within [] fit = omega arith
files_within (f ∷ fs) fit =
    let rest = files_within fs fit.1 in
    let here = one_within f.size (record_cells f) fit.0.some in
    let cells : sum_by file_cells (f ∷ fs) ≡ file_cells f + sum_by file_cells fs = sum_by-cons file_cells f fs in
    omega (arith, rest, here, cells)

fields_within : (blocks : List Block) → AllByRecursion (λ (k : Block). AllByRecursion FileFits k.files) blocks → total (field_counts blocks) ≤ cell_count blocks
fields_within [] fit = omega arith
fields_within (k ∷ ks) fit =
    let rest = fields_within ks fit.1 in
    let here = files_within k.files fit.0 in
    let parts = total_append (map field_count k.files) (field_counts ks) in
    let cells : cell_count (k ∷ ks) ≡ block_cells k + cell_count ks = sum_by-cons block_cells k ks in
    omega (arith, rest, here, parts, cells)

counts_few : (x : Exchange) → IsExchange x → total (field_counts x.blocks) ≤ MOST_CELLS
counts_few x kept =
    let fit = all_from (λ (k : Block). AllByRecursion FileFits k.files) x.blocks (λ b k there. (kept.blocks.each b k there).files) in
    let within = fields_within x.blocks fit in
    let few = cells_few x kept in
    omega (arith, within, few)

pub variables_small : (x : Exchange) (blocks : List Block) → IsExchange x → blocks ≡ x.blocks → total (map variable_count blocks) < 2 ^ 32
variables_small x blocks kept same =
    let few = variables_few x kept in
    let all : total (map variable_count blocks) ≡ sum_by variable_count x.blocks =
    ap (λ ks. total (map variable_count ks)) same ∙ total_all variable_count x.blocks in
    omega (arith, few, all)

pub counts_small : (x : Exchange) (blocks : List Block) → IsExchange x → blocks ≡ x.blocks → total (field_counts blocks) < 2 ^ 32
counts_small x blocks kept same =
    let few = counts_few x kept in
    let all : total (field_counts blocks) ≡ total (field_counts x.blocks) = ap (λ ks. total (field_counts ks)) same in
    omega (arith, few, all)

-- the files of all blocks

counts_in : (b cell : ℕ) (fs : List File) → map placed_count (placed_in b cell fs) ≡ map field_count fs
counts_in b cell [] = refl
counts_in b cell (f ∷ fs) = ap (λ l. field_count f ∷ l) (counts_in b (cell + file_cells f) fs)

counts_from : (b cell : ℕ) (blocks : List Block) → map placed_count (placed_from b cell blocks) ≡ field_counts blocks
counts_from b cell [] = refl
counts_from b cell (k ∷ ks) =
    map-append placed_count (placed_in b (cell + length k.variables) k.files) (placed_from (b + 1) (cell + block_cells k) ks)
    ∙ ap (λ l. l ++ map placed_count (placed_from (b + 1) (cell + block_cells k) ks)) (counts_in b (cell + length k.variables) k.files)
    ∙ ap (λ l. map field_count k.files ++ l) (counts_from (b + 1) (cell + block_cells k) ks)

counts_of_files : (x : Exchange) → map placed_count (files_of x) ≡ field_counts x.blocks
unfolding files_of placed_files
counts_of_files x = counts_from 0 0 x.blocks

pub fields_few : (x : Exchange) → IsExchange x → sum_by placed_count (files_of x) ≤ MOST_CELLS
fields_few x kept =
    let few = counts_few x kept in
    let all : sum_by placed_count (files_of x) ≡ total (field_counts x.blocks) = sym (total_all placed_count (files_of x)) ∙ ap total (counts_of_files x) in
    omega (arith, few, all)

-- the numbers of an exchange

firsts_are : {A : Type 0} (f : A → ℕ) (xs : List A) (firsts : List ℕ) → firsts ≡ sums_from 0 (map f xs)
    → AreFirsts (length xs) (λ i. sum_by f (take i xs)) firsts
firsts_are f xs firsts is = record {
  each_one = ap length is ∙ length-sums_from 0 (map f xs) ∙ length-map xs f;
  is = λ i n there. (let at = sums_at 0 (map f xs) i n (ap (λ l. slice_get l i) (sym is) ∙ there) in let sum = total_take f xs i in omega (arith, at, sum));
}

pub numbers_are : (x : Exchange) (n : CellNumbers) (blocks others : List Block) → blocks ≡ x.blocks → others ≡ x.blocks
    → n.variables ≡ sums_from 0 (map variable_count blocks) → n.fields ≡ sums_from 0 (field_counts others)
    → AreNumbers x n
numbers_are x n blocks others same alike variables fields = record {
  variables = firsts_are variable_count x.blocks n.variables (variables ∙ ap (λ ks. sums_from 0 (map variable_count ks)) same);
  fields = firsts_are placed_count (files_of x) n.fields (fields ∙ ap (λ ks. sums_from 0 (field_counts ks)) alike ∙ ap (sums_from 0) (sym (counts_of_files x)));
}

-- a number that is asked for is there
has_first : (many : ℕ) (first : ℕ → ℕ) (firsts : List ℕ) (i j : ℕ) → AreFirsts many first firsts → i < many → first i + j < 2 ^ 32 → HasNumber firsts i j
has_first many first firsts i j are lt small =
    let each = are.each_one in
    let n : ℕ = get_or firsts i 0 in
    let there : slice_get firsts i ≡ Some n = slice_get-get_or firsts i 0 (omega (arith, each, lt)) in
    let at : n ≡ first i = are.is i n there in
    record { first = n; there = there; small = omega (arith, at, small) }

pub variable_has : (x : Exchange) (numbers : CellNumbers) (b v : ℕ) → AreNumbers x numbers → IsNumbered x b (NamedVariable v) → HasNumber numbers.variables b v
variable_has x numbers b v are h = has_first (length x.blocks) (first_variable x) numbers.variables b v are.variables h.0 h.1

pub field_has : (x : Exchange) (numbers : CellNumbers) (b file field pointer : ℕ) → AreNumbers x numbers
    → IsNumbered x b (NamedField file field pointer) → HasNumber numbers.fields file field
field_has x numbers b file field pointer are h = has_first (length (files_of x)) (first_field x) numbers.fields file field are.fields h.0 h.1
