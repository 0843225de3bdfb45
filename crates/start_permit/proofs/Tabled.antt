-- The words of variables and the places of fields, in the order of their numbers.
use Rattle.std.proofs.Common.{◌≡◌, ⊎_elim, ℕ, zero, suc, ◌+◌, ◌-◌, ◌*◌, ◌^◌, ◌<◌, ◌≤◌, List, []}
use Rattle.std.proofs.Common.{◌∷◌, ◌++◌, length, take, drop, map, get_or, sum_by, Some, slice_get}
use Rattle.std.proofs.Common.{refl, sym, ap, ◌∙◌, subst, arith, append_assoc, append-nil}
use Rattle.std.specs.Prelude.{◌↔◌}
use Rattle.std.specs.List.{range_with_len}
use Rattle.std.proofs.Math.ListN.{drop_of_length-le}
use Rattle.std.proofs.lemmas.List.{map-append, take_all, take_more}
use Rattle.std.proofs.lemmas.List.FromFn.{get_or-map-range_with_len, length-map-range_with_len}
use Rattle.std.proofs.lemmas.List.FromFn.{map-range_with_len_more}
use Rattle.std.proofs.lemmas.List.Sums.{sum_by-cons}
use Rattle.std.proofs.lemmas.Nat.{mul-le}
use Rattle.std.proofs.lemmas.Option.{none-some, same_Some, slice_get-get_or, slice_get_read}
use Rattle.std.proofs.lemmas.Bool.{cases_lt}
use Rattle.plex_num.proofs.Lists.{slice_get-append_left, slice_get-append_right, opens, all_at}
use Rattle.exchange_model.specs.declared.exchange.Exchange.{Exchange}
use Rattle.exchange_model.specs.declared.block.Block.{Block}
use Rattle.exchange_model.specs.declared.block.File.{File}
use Rattle.exchange_model.specs.Cells.{Placed, block_cells, cell_count, file_cells, first_cell}
use Rattle.exchange_model.specs.Cells.{marks, placed_files, placed_from, placed_in, record_cells}
use Rattle.exchange_model.specs.Inside.{joined}
use Rattle.exchange_model.specs.Kept.{FileFits, IsExchange}
use Rattle.exchange_model.proofs.Facts.{cells_few, file_number}
use Rattle.exchange_model.proofs.Lists.{slice_get-joined-map, joined_push, joined_append}
use Rattle.exchange_model.proofs.Places.{block_below, sum_by_within}
use Rattle.source_meaning.specs.Config.{files_of}
use Rattle.start_permit.specs.declared.table.CellTable.{CellTable}
use Rattle.start_permit.specs.declared.table.FieldPlace.{FieldPlace}
use Rattle.start_permit.specs.Granted.{IsFieldNumber, IsCellTable, IsVariableWord}
use Rattle.start_permit.specs.Listed.{AllSmall, AreSmall, block_places, field_places, file_places}
use Rattle.start_permit.specs.Listed.{place_at, variable_words, words_from}

-- one item more
pub range_more : {T : Type 0} (old now new : List T) (f : ℕ → T) (n : ℕ) → new ≡ now ++ f n ∷ []
    → now ≡ old ++ map f (range_with_len 0 n) → new ≡ old ++ map f (range_with_len 0 (n + 1))
range_more old now new f n made so_far =
    made ∙ ap (λ l. l ++ f n ∷ []) so_far ∙ append_assoc old (map f (range_with_len 0 n)) (f n ∷ [])
    ∙ ap (λ l. old ++ l) (sym (map-range_with_len_more f 0 n n (omega arith)))

-- lists that are filled list by list

pub record Filled {X T : Type 0} (f : X → List T) (old new : List T) (xs : List X) (index : ℕ) : Type 0 where
  pub so_far : new ≡ old ++ joined (map f (take index xs))

pub filled_begin : {X T : Type 0} (f : X → List T) (old : List T) (xs : List X) → Filled f old old xs 0
filled_begin f old xs = record { so_far = sym (append-nil old) }

filled_more : {X T : Type 0} (f : X → List T) (old new next : List T) (xs : List X) (index : ℕ) (x : X)
    → index < length xs → x ≡ get_or xs index x → next ≡ new ++ f x → Filled f old new xs index
    → Filled f old next xs (index + 1)
filled_more {X} {T} f old new next xs index x within read pushed l =
    let front : List (List T) = map f (take index xs) in
    let longer : map f (take (index + 1) xs) ≡ front
    ++ f x ∷ [] = ap (map f) (take_more xs index x within ∙ ap (λ y. take index xs ++ y ∷ []) (sym read))
    ∙ map-append f (take index xs) (x ∷ []) in
    record {
      so_far = pushed ∙ ap (λ ys. ys ++ f x) l.so_far ∙ append_assoc old (joined front) (f x)
          ∙ ap (λ ys. old ++ ys) (sym (joined_push front (f x)) ∙ ap joined (sym longer));
    }

pub filled_end : {X T : Type 0} (f : X → List T) (old new : List T) (xs : List X) (index : ℕ) → length xs ≤ index
    → Filled f old new xs index → new ≡ old ++ joined (map f xs)
filled_end f old new xs index past l = l.so_far ∙ ap (λ ys. old ++ joined (map f ys)) (take_all index xs past)

pub files_more : (old now new : List FieldPlace) (files : List File) (i count : ℕ) (f : File) → i < length files
    → f ≡ get_or files i f → count ≡ length f.fields → new ≡ now ++ map (place_at f.number) (range_with_len 0 count)
    → Filled file_places old now files i → Filled file_places old new files (i + 1)
files_more old now new files i count f lt is many made g = filled_more file_places old now new files i f lt is
    (made ∙ ap (λ n. now ++ map (place_at f.number) (range_with_len 0 n)) many) g

pub places_new : (blocks : List Block) (now : List FieldPlace) → now ≡ [] → Filled block_places [] now blocks 0
places_new blocks now none = record { so_far = none }

pub blocks_more : (now new : List FieldPlace) (blocks : List Block) (i : ℕ) (k : Block) (files : List File)
    → i < length blocks → k ≡ get_or blocks i k → files ≡ k.files → new ≡ now ++ joined (map file_places files)
    → Filled block_places [] now blocks i → Filled block_places [] new blocks (i + 1)
blocks_more now new blocks i k files lt is read made g = filled_more block_places [] now new blocks i k lt is
    (made ∙ ap (λ fs. now ++ joined (map file_places fs)) read) g

pub all_filled : (now : List FieldPlace) (blocks : List Block) (i : ℕ) → length blocks ≤ i → Filled block_places [] now blocks i → now ≡ field_places blocks
unfolding field_places
all_filled now blocks i past g = filled_end block_places [] now blocks i past g

pub file_small : (files : List File) (i : ℕ) (f : File) (count : ℕ) → AreSmall files → i < length files
    → f ≡ get_or files i f → count ≡ length f.fields → count < 2 ^ 32
file_small files i f count small lt is many = (let few = small.small i f (slice_get_read files (length files) i f refl lt is) in omega (arith, few, many))

pub files_small : (blocks : List Block) (i : ℕ) (k : Block) (files : List File) → AllSmall blocks → i < length blocks
    → k ≡ get_or blocks i k → files ≡ k.files → AreSmall files
files_small blocks i k files small lt is read = subst AreSmall (sym read) (small.small i k (slice_get_read blocks (length blocks) i k refl lt is))

few_fields : (x : Exchange) → IsExchange x → (b i : ℕ) (k : Block) (f : File) → slice_get x.blocks b ≡ Some k
    → slice_get k.files i ≡ Some f → length f.fields < 2 ^ 32
few_fields x kept b i k f at there =
    let fit : FileFits f = all_at FileFits k.files i f (kept.blocks.each b k at).files there in
    let some = fit.some in
    let one : 1 * record_cells f ≤ f.size * record_cells f = mul-le 1 (record_cells f) f.size (record_cells f) some (omega arith) in
    let here : sum_by file_cells (take i k.files) + file_cells f ≤ sum_by file_cells k.files = sum_by_within file_cells k.files i f there in
    let below : first_cell x.blocks b + block_cells k ≤ cell_count x.blocks = block_below x.blocks b k at in
    let few = cells_few x kept in
    let cells : record_cells f ≡ length f.fields + marks f.forlopp = refl in
    omega (arith, one, here, below, few, cells)

pub all_small : (x : Exchange) (blocks : List Block) → IsExchange x → blocks ≡ x.blocks → AllSmall blocks
all_small x blocks kept same = subst AllSmall (sym same) (record { small = λ b k at. record { small = λ i f there. few_fields x kept b i k f at there } })

pub cells_small : (x : Exchange) (blocks : List Block) → IsExchange x → blocks ≡ x.blocks → cell_count blocks < 2 ^ 32
cells_small x blocks kept same = (let few = cells_few x kept in let all : cell_count blocks
    ≡ cell_count x.blocks = ap cell_count same in omega (arith, few, all))

-- the words of variables, block by block

pub record WordsGo (blocks : List Block) (i cell : ℕ) (now : List ℕ) : Type 0 where
  pub all : now ++ variable_words cell (drop i blocks) ≡ variable_words 0 blocks
  pub sum : cell + cell_count (drop i blocks) ≡ cell_count blocks

pub words_new : (blocks : List Block) (now : List ℕ) → now ≡ [] → WordsGo blocks 0 0 now
words_new blocks now none = record { all = ap (λ l. l ++ variable_words 0 blocks) none; sum = omega arith }

cells_left : (blocks : List Block) (i cell : ℕ) (k : Block) (now : List ℕ) → i < length blocks → k ≡ get_or blocks i k
    → WordsGo blocks i cell now → cell + (block_cells k + cell_count (drop (i + 1) blocks)) ≡ cell_count blocks
cells_left blocks i cell k now lt is g =
    let here : cell_count (k ∷ drop (i + 1) blocks) ≡ block_cells k + cell_count (drop (i + 1) blocks) = sum_by-cons block_cells k (drop (i + 1) blocks) in
    let s : cell + cell_count (k ∷ drop (i + 1) blocks) ≡ cell_count blocks = ap (λ l. cell + cell_count l) (sym (opens blocks i k lt is)) ∙ g.sum in
    omega (arith, here, s)

pub record WordsFit (cell : ℕ) (k : Block) : Type 0 where
  pub variables : cell + length k.variables < 2 ^ 32
  pub cells : block_cells k < 2 ^ 32
  pub next : cell + block_cells k < 2 ^ 32

pub words_fit : (blocks : List Block) (i cell : ℕ) (k : Block) (now : List ℕ) → i < length blocks
    → k ≡ get_or blocks i k → cell_count blocks < 2 ^ 32 → WordsGo blocks i cell now → WordsFit cell k
words_fit blocks i cell k now lt is few g =
    let s = cells_left blocks i cell k now lt is g in
    let parts : block_cells k ≡ length k.variables + sum_by file_cells k.files = refl in
    record { variables = omega (arith, s, few, parts); cells = omega (arith, s, few); next = omega (arith, s, few) }

pub words_more : (blocks : List Block) (i cell next count cells : ℕ) (k : Block) (now new : List ℕ) → i < length blocks
    → k ≡ get_or blocks i k → count ≡ length k.variables → cells ≡ block_cells k → next ≡ cell + cells
    → new ≡ now ++ words_from cell count → WordsGo blocks i cell now → WordsGo blocks (i + 1) next new
unfolding variable_words
words_more blocks i cell next count cells k now new lt is many size step made g =
    let at : next ≡ cell + block_cells k = step ∙ ap (λ n. cell + n) size in
    record {
      all =
          ap (λ l. l ++ variable_words next (drop (i + 1) blocks)) (made ∙ ap (λ n. now ++ words_from cell n) many)
          ∙ append_assoc now (words_from cell (length k.variables)) (variable_words next (drop (i + 1) blocks))
          ∙ ap (λ n. now ++ (words_from cell (length k.variables) ++ variable_words n (drop (i + 1) blocks))) at
          ∙ ap (λ l. now ++ variable_words cell l) (sym (opens blocks i k lt is))
          ∙ g.all;
      sum = (let s = cells_left blocks i cell k now lt is g in omega (arith, s, at));
    }

pub words_end : (blocks : List Block) (i cell : ℕ) (now : List ℕ) → length blocks ≤ i → WordsGo blocks i cell now → now ≡ variable_words 0 blocks
unfolding variable_words
words_end blocks i cell now past g = sym (append-nil now) ∙ sym (ap (λ l. now ++ variable_words cell l) (drop_of_length-le blocks past)) ∙ g.all

-- what stands at a number

range_at : {T : Type 0} (f : ℕ → T) (n i : ℕ) → i < n → slice_get (map f (range_with_len 0 n)) i ≡ Some (f i)
range_at f n i lt =
    let long = length-map-range_with_len f 0 n in
    slice_get-get_or (map f (range_with_len 0 n)) i (f i) (omega (arith, lt, long)) ∙ ap Some (get_or-map-range_with_len f 0 n i i (f i) lt (omega arith))

abbrev variable_count : Block → ℕ
variable_count k = length k.variables

word_at : (cell : ℕ) (bs : List Block) (i v : ℕ) (k : Block) → slice_get bs i ≡ Some k → v < length k.variables
    → slice_get (variable_words cell bs) (sum_by variable_count (take i bs) + v)
    ≡ Some (cell + cell_count (take i bs) + v)
unfolding variable_words
word_at cell [] i v k there lt = absurd (none-some k there)
word_at cell (b ∷ bs) zero v k there lt =
    let within : v < length b.variables = subst (λ (c : Block). v < length c.variables) (sym (same_Some b k there)) lt in
    let long = length-map-range_with_len (λ i. cell + i) 0 (length b.variables) in
    let at : cell + v ≡ cell + 0 + v = omega arith in
    let none : 0 + v ≡ v = omega arith in
    ap (slice_get (words_from cell (length b.variables) ++ variable_words (cell + block_cells b) bs)) none
    ∙ slice_get-append_left (words_from cell (length b.variables)) (variable_words (cell + block_cells b) bs) v
    (omega (arith, within, long)) ∙ range_at (λ i. cell + i) (length b.variables) v within ∙ ap Some at
word_at cell (b ∷ bs) (suc i) v k there lt =
    let rest = word_at (cell + block_cells b) bs i v k there lt in
    let long = length-map-range_with_len (λ i. cell + i) 0 (length b.variables) in
    let more : sum_by variable_count (b ∷ take i bs) ≡ length b.variables + sum_by variable_count (take i bs) = sum_by-cons variable_count b (take i bs) in
    let cells : cell_count (b ∷ take i bs) ≡ block_cells b + cell_count (take i bs) = sum_by-cons block_cells b (take i bs) in
    let n : ℕ = sum_by variable_count (b ∷ take i bs) + v in
    let left : n - length (words_from cell (length b.variables)) ≡ sum_by variable_count (take i bs) + v = omega (arith, more, long) in
    let at : cell + block_cells b + cell_count (take i bs) + v ≡ cell + cell_count (b ∷ take i bs) + v = omega (arith, cells) in
    slice_get-append_right (words_from cell (length b.variables)) (variable_words (cell + block_cells b) bs) n
    (omega (arith, more, long)) ∙ ap (slice_get (variable_words (cell + block_cells b) bs)) left ∙ rest ∙ ap Some at

record WordOf (cell : ℕ) (bs : List Block) (n w : ℕ) : Type 0 where
  pub i : ℕ
  pub v : ℕ
  pub k : Block
  pub there : slice_get bs i ≡ Some k
  pub within : v < length k.variables
  pub number : n ≡ sum_by variable_count (take i bs) + v
  pub is : w ≡ cell + cell_count (take i bs) + v

word_out : (cell : ℕ) (bs : List Block) (n w : ℕ) → slice_get (variable_words cell bs) n ≡ Some w → WordOf cell bs n w
unfolding variable_words
word_out cell [] n w there = absurd (none-some w there)
word_out cell (b ∷ bs) n w there =
    let long = length-map-range_with_len (λ i. cell + i) 0 (length b.variables) in
    ⊎_elim
    (λ lt. (let at = slice_get-append_left (words_from cell (length b.variables)) (variable_words (cell + block_cells b) bs) n (omega (arith, lt, long)) in
    let is : cell + n ≡ w = same_Some (cell + n) w (sym (range_at (λ i. cell + i) (length b.variables) n lt) ∙ sym at ∙ there) in
    record { i = 0; v = n; k = b; there = refl; within = lt; number = omega arith; is = omega (arith, is) }))
    (λ ge. (let at = slice_get-append_right (words_from cell (length b.variables)) (variable_words (cell + block_cells b) bs) n (omega (arith, ge, long)) in
    let r = word_out (cell + block_cells b) bs (n - length (words_from cell (length b.variables))) w (sym at ∙ there) in
    let more : sum_by variable_count (b ∷ take r.i bs) ≡ length b.variables + sum_by variable_count (take r.i bs) =
    sum_by-cons variable_count b (take r.i bs) in
    let cells : cell_count (b ∷ take r.i bs) ≡ block_cells b + cell_count (take r.i bs) = sum_by-cons block_cells b (take r.i bs) in
    let number = r.number in
    let is = r.is in
    record {
      i = suc r.i;
      v = r.v;
      k = r.k;
      there = r.there;
      within = r.within;
      number = omega (arith, number, more, long, ge);
      is = omega (arith, is, cells);
    }))
    (cases_lt n (length b.variables))

variables_are : (x : Exchange) (n w : ℕ) → (slice_get (variable_words 0 x.blocks) n ≡ Some w) ↔ IsVariableWord x n w
variables_are x n w = (
  λ there. (let o = word_out 0 x.blocks n w there in let is = o.is in record {
    block = o.i;
    index = o.v;
    owner = o.k;
    there = o.there;
    within = o.within;
    numbered = o.number;
    is = omega (arith, is);
  }),
  λ v. (let at = word_at 0 x.blocks v.block v.index v.owner v.there v.within in let is = v.is in let same : 0
      + cell_count (take v.block x.blocks) + v.index
      ≡ w = omega (arith, is) in ap (slice_get (variable_words 0 x.blocks)) v.numbered ∙ at ∙ ap Some same),
)

-- fields

abbrev placed_places : Placed → List FieldPlace
placed_places p = file_places p.file

abbrev placed_count : Placed → ℕ
placed_count p = length p.file.fields

places_in : (b cell : ℕ) (fs : List File) → joined (map placed_places (placed_in b cell fs)) ≡ joined (map file_places fs)
places_in b cell [] = refl
places_in b cell (f ∷ fs) = ap (λ l. file_places f ++ l) (places_in b (cell + file_cells f) fs)

places_from : (b cell : ℕ) (bs : List Block) → joined (map placed_places (placed_from b cell bs)) ≡ joined (map block_places bs)
places_from b cell [] = refl
places_from b cell (k ∷ ks) =
    ap joined (map-append placed_places (placed_in b (cell + length k.variables) k.files) (placed_from (b + 1) (cell + block_cells k) ks))
    ∙ joined_append (map placed_places (placed_in b (cell + length k.variables) k.files)) (map placed_places (placed_from (b + 1) (cell + block_cells k) ks))
    ∙ ap (λ l. l ++ joined (map placed_places (placed_from (b + 1) (cell + block_cells k) ks))) (places_in b (cell + length k.variables) k.files)
    ∙ ap (λ l. block_places k ++ l) (places_from (b + 1) (cell + block_cells k) ks)

places_of_files : (x : Exchange) → joined (map placed_places (files_of x)) ≡ field_places x.blocks
unfolding files_of placed_files field_places
places_of_files x = places_from 0 0 x.blocks

files_number : (x : Exchange) → IsExchange x → (n : ℕ) (p : Placed) → slice_get (files_of x) n ≡ Some p → p.file.number ≡ n
unfolding files_of
files_number x kept n p there = file_number x kept n p there

record SpreadOf {X T : Type 0} (f : X → List T) (xs : List X) (n : ℕ) (y : T) : Type 0 where
  pub i : ℕ
  pub j : ℕ
  pub x : X
  pub there : slice_get xs i ≡ Some x
  pub within : j < length (f x)
  pub number : n ≡ sum_by (λ z. length (f z)) (take i xs) + j
  pub is : slice_get (f x) j ≡ Some y

spread_out : {X T : Type 0} (f : X → List T) (xs : List X) (n : ℕ) (y : T) → slice_get (joined (map f xs)) n ≡ Some y → SpreadOf f xs n y
spread_out f [] n y there = absurd (none-some y there)
spread_out f (x ∷ xs) n y there = ⊎_elim
    (λ lt. record {
      i = 0;
      j = n;
      x = x;
      there = refl;
      within = lt;
      number = omega arith;
      is = sym (slice_get-append_left (f x) (joined (map f xs)) n lt) ∙ there;
    })
    (λ ge. (let r = spread_out f xs (n - length (f x)) y (sym (slice_get-append_right (f x) (joined (map f xs)) n ge) ∙ there) in
    let more : sum_by (λ z. length (f z)) (x ∷ take r.i xs) ≡ length (f x) + sum_by (λ z. length (f z)) (take r.i xs) =
    sum_by-cons (λ z. length (f z)) x (take r.i xs) in
    let number = r.number in
    record { i = suc r.i; j = r.j; x = r.x; there = r.there; within = r.within; number = omega (arith, number, more, ge); is = r.is }))
    (cases_lt n (length (f x)))

count_is : (p : Placed) → length (placed_places p) ≡ length p.file.fields
count_is p = length-map-range_with_len (place_at p.file.number) 0 (length p.file.fields)

counts_are : (ps : List Placed) → sum_by (λ p. length (placed_places p)) ps ≡ sum_by placed_count ps
counts_are [] = refl
counts_are (p ∷ ps) =
    let rest = counts_are ps in
    let one = count_is p in
    let left : sum_by (λ q. length (placed_places q)) (p ∷ ps) ≡ length (placed_places p)
    + sum_by (λ q. length (placed_places q)) ps = sum_by-cons (λ q. length (placed_places q)) p ps in
    let right : sum_by placed_count (p ∷ ps) ≡ placed_count p + sum_by placed_count ps = sum_by-cons placed_count p ps in
    omega (arith, rest, one, left, right)

fields_are : (x : Exchange) → IsExchange x → (n : ℕ) (f : FieldPlace) → (slice_get (field_places x.blocks) n ≡ Some f) ↔ IsFieldNumber x n f.file f.field
fields_are x kept n f = (there, back)
  where
    there : slice_get (field_places x.blocks) n ≡ Some f → IsFieldNumber x n f.file f.field
    there at =
        let o = spread_out placed_places (files_of x) n f (ap (λ l. slice_get l n) (places_of_files x) ∙ at) in
        let count = count_is o.x in
        let inside = o.within in
        let within : o.j < length o.x.file.fields = omega (arith, inside, count) in
        let is : place_at o.x.file.number o.j ≡ f = same_Some (place_at o.x.file.number o.j) f
        (sym (range_at (place_at o.x.file.number) (length o.x.file.fields) o.j within) ∙ o.is) in
        let number = o.number in
        let sums = counts_are (take o.i (files_of x)) in
        subst (λ (g : FieldPlace). IsFieldNumber x n g.file g.field) is
        (record {
          placed = o.x;
          there = ap (slice_get (files_of x)) (files_number x kept o.i o.x o.there) ∙ o.there;
          within = within;
          numbered = omega (
            arith,
            number,
            sums,
            ap (λ i. sum_by placed_count (take i (files_of x)))
                (files_number x kept o.i o.x o.there),
          );
        })

    back : IsFieldNumber x n f.file f.field → slice_get (field_places x.blocks) n ≡ Some f
    back k =
        let count = count_is k.placed in
        let lt = k.within in
        let numbered = k.numbered in
        let sums = counts_are (take f.file (files_of x)) in
        let at : n ≡ sum_by (λ p. length (placed_places p)) (take f.file (files_of x)) + f.field = omega (arith, numbered, sums) in
        ap (λ l. slice_get l n) (sym (places_of_files x)) ∙ ap (slice_get (joined (map placed_places (files_of x)))) at
        ∙ slice_get-joined-map placed_places (files_of x) f.file f.field k.placed k.there (omega (arith, lt, count))
        ∙ range_at (place_at k.placed.file.number) (length k.placed.file.fields) f.field lt
        ∙ ap (λ i. Some (place_at i f.field)) (files_number x kept f.file k.placed k.there)

pub table_is : (x : Exchange) (t : CellTable) (blocks others : List Block) → IsExchange x → blocks ≡ x.blocks
    → others ≡ x.blocks → t.variables ≡ variable_words 0 blocks → t.fields ≡ field_places others → IsCellTable x t
table_is x t blocks others kept same alike variables fields = record {
  variables = λ n w. subst (λ l. (slice_get l n ≡ Some w) ↔ IsVariableWord x n w) (sym (variables ∙ ap (variable_words 0) same)) (variables_are x n w);
  fields = λ n f. subst (λ l. (slice_get l n ≡ Some f) ↔ IsFieldNumber x n f.file f.field) (sym (fields ∙ ap field_places alike)) (fields_are x kept n f);
}
