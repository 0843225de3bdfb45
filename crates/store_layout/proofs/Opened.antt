-- A store that is filled list by list.
use Rattle.std.proofs.Common.{◌≡◌, ℕ, zero, suc, ◌+◌, ◌<◌, ◌≤◌, true, false, List, [], ◌∷◌, ◌++◌}
use Rattle.std.proofs.Common.{length, take, map, get_or, replicate, refl, sym, ap, ◌∙◌, arith}
use Rattle.std.proofs.Common.{append_assoc}
use Rattle.std.proofs.lemmas.List.{append-nil, map-append, nil_from_length, replicate_more}
use Rattle.std.proofs.lemmas.List.{take_more, take_all}
use Rattle.exchange_model.specs.declared.block.Block.{Block}
use Rattle.exchange_model.specs.declared.block.File.{File}
use Rattle.exchange_model.specs.Inside.{joined}
use Rattle.exchange_model.specs.Opening.{block_opening, file_opening, free_mark, inits}
use Rattle.exchange_model.specs.Opening.{opening_store, record_opening}
use Rattle.exchange_model.proofs.Lists.{joined_push}

-- f of each of the items so far was appended
pub record Filled {X : Type 0} (f : X → List ℕ) (old new : List ℕ) (xs : List X) (index : ℕ) : Type 0 where
  pub so_far : new ≡ old ++ joined (map f (take index xs))

filled_begin : {X : Type 0} (f : X → List ℕ) (old : List ℕ) (xs : List X) → Filled f old old xs 0
filled_begin f old xs = record { so_far = sym (append-nil old) }

-- the items are read from `items`
pub filled_more : {X : Type 0} (f : X → List ℕ) (old new next : List ℕ) (xs items : List X) (index : ℕ) (x : X)
    → items ≡ xs → index < length items → x ≡ get_or items index x → next ≡ new ++ f x → Filled f old new xs index
    → Filled f old next xs (index + 1)
filled_more f old new next xs items index x same within read pushed l =
    let inside : index < length xs = omega (arith, within, ap length same) in
    let is : get_or xs index x ≡ x = sym (read ∙ ap (λ ys. get_or ys index x) same) in
    let front : List (List ℕ) = map f (take index xs) in
    let longer : map f (take (index + 1) xs) ≡ front
    ++ f x ∷ [] = ap (map f) (take_more xs index x inside ∙ ap (λ y. take index xs ++ y ∷ []) is)
    ∙ map-append f (take index xs) (x ∷ []) in
    record {
      so_far = pushed ∙ ap (λ ys. ys ++ f x) l.so_far ∙ append_assoc old (joined front) (f x)
          ∙ ap (λ ys. old ++ ys) (sym (joined_push front (f x)) ∙ ap joined (sym longer));
    }

filled_end : {X : Type 0} (f : X → List ℕ) (old new : List ℕ) (xs : List X) (index : ℕ) → length xs ≤ index
    → Filled f old new xs index → new ≡ old ++ joined (map f xs)
filled_end f old new xs index past l = l.so_far ∙ ap (λ ys. old ++ joined (map f ys)) (take_all index xs past)

-- blocks

pub blocks_begin : (blocks : List Block) → Filled block_opening [] [] blocks 0
blocks_begin blocks = filled_begin block_opening [] blocks

pub blocks_end : (new : List ℕ) (blocks : List Block) (index : ℕ) → length blocks ≤ index
    → Filled block_opening [] new blocks index → new ≡ opening_store blocks
unfolding opening_store
blocks_end new blocks index past l = filled_end block_opening [] new blocks index past l

-- files

pub files_begin : (old new : List ℕ) (b : Block) → new ≡ old ++ inits b.variables → Filled file_opening (old ++ inits b.variables) new b.files 0
files_begin old new b is = record { so_far = is ∙ sym (append-nil (old ++ inits b.variables)) }

pub files_end : (old new : List ℕ) (b : Block) (index : ℕ) → length b.files ≤ index
    → Filled file_opening (old ++ inits b.variables) new b.files index → new ≡ old ++ block_opening b
files_end old new b index past l = filled_end file_opening (old ++ inits b.variables) new b.files index past l
    ∙ append_assoc old (inits b.variables) (joined (map file_opening b.files))

-- records

pub record Repeated (old new : List ℕ) (f : File) (count : ℕ) : Type 0 where
  pub so_far : new ≡ old ++ joined (replicate count (record_opening f))

pub records_begin : (old : List ℕ) (f : File) → Repeated old old f 0
records_begin old f = record { so_far = sym (append-nil old) }

pub records_more : (old new next : List ℕ) (f : File) (count : ℕ) → next ≡ new ++ record_opening f → Repeated old new f count → Repeated old next f (count + 1)
records_more old new next f count pushed l =
    let front : List (List ℕ) = replicate count (record_opening f) in
    record {
      so_far = pushed ∙ ap (λ ys. ys ++ record_opening f) l.so_far
          ∙ append_assoc old (joined front) (record_opening f)
          ∙ ap (λ ys. old ++ ys) (sym (joined_push front (record_opening f))
          ∙ ap joined (replicate_more count (record_opening f)));
    }

pub records_end : (old new : List ℕ) (f : File) (count : ℕ) → count ≡ f.size → Repeated old new f count → new ≡ old ++ file_opening f
records_end old new f count all l = l.so_far ∙ ap (λ n. old ++ joined (replicate n (record_opening f))) all

joined-replicate-nil : (n : ℕ) → joined {T = ℕ} (replicate n []) ≡ []
joined-replicate-nil zero = refl
joined-replicate-nil (suc n) = joined-replicate-nil n

-- records with no field and no mark have no cell
pub no_records : (old : List ℕ) (f : File) → length f.fields ≡ 0 → f.forlopp ≡ false → old ≡ old ++ file_opening f
no_records old f none plain =
    let fields : f.fields ≡ [] = nil_from_length f.fields none in
    let empty : record_opening f ≡ [] = ap (λ vs. inits vs ++ free_mark f.forlopp) fields ∙ ap free_mark plain in
    let nothing : file_opening f ≡ [] = ap (λ r. joined (replicate f.size r)) empty ∙ joined-replicate-nil f.size in
    sym (ap (λ ys. old ++ ys) nothing ∙ append-nil old)

pub marked_record : (old front new : List ℕ) (f : File) → front ≡ old ++ inits f.fields → f.forlopp ≡ true
    → new ≡ front ++ 0 ∷ [] → new ≡ old ++ record_opening f
marked_record old front new f is marked pushed = pushed ∙ ap (λ ys. ys ++ 0 ∷ []) is
    ∙ append_assoc old (inits f.fields) (0 ∷ []) ∙ ap (λ b. old ++ (inits f.fields ++ free_mark b)) (sym marked)

pub plain_record : (old front : List ℕ) (f : File) → front ≡ old ++ inits f.fields → f.forlopp ≡ false → front ≡ old ++ record_opening f
plain_record old front f is plain = is ∙ ap (λ ys. old ++ ys) (sym (append-nil (inits f.fields))) ∙ ap (λ b. old ++ (inits f.fields ++ free_mark b)) (sym plain)
