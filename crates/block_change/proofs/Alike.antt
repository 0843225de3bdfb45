-- What an exchange has that fits: each entry, with its level and number of values, and each record
-- that may be held.
use Rattle.std.proofs.Common.{◌≡◌, ℕ, zero, suc, ◌+◌, ◌<◌, ◌≤◌, Bool, true, false, not, ◌&&◌, cond}
use Rattle.std.proofs.Common.{nat_eq, List, [], ◌∷◌, length, map, position, Option, Some, None}
use Rattle.std.proofs.Common.{unwrap_or, slice_get, refl, sym, ap, ◌∙◌, arith}
use Rattle.std.specs.Prelude.{nat_le}
use Rattle.std.specs.List.{IsDistinct, find, position_or_len}
use Rattle.std.specs.Option.{option_and_then, option_map_or, option_or}
use Rattle.std.specs.Str.{bytes_eq}
use Rattle.std.proofs.lemmas.Bool.{eqb-true, lt-ltb, not-false, and_parts, both_ways}
use Rattle.std.proofs.lemmas.Bool.Decides.{nat_tests}
use Rattle.std.proofs.lemmas.List.Quantifiers.{position-Some}
use Rattle.std.proofs.lemmas.Option.{get_or_from_slice_get, none-some, same_Some}
use Rattle.std.proofs.lemmas.Slice.Eq.{bytes_eq-Decides}
use Rattle.plex_num.specs.declared.level.Level.{Level}
use Rattle.plex_num.specs.declared.level.Level.TheVariants.{A, B, C, D}
use Rattle.plex_num.proofs.Lists.{all_at, some_at, got_map}
use Rattle.exchange_model.specs.declared.block.Block.{Block}
use Rattle.exchange_model.specs.declared.block.File.{File}
use Rattle.exchange_model.specs.declared.entry.Entry.{Entry}
use Rattle.exchange_model.specs.declared.exchange.Exchange.{Exchange}
use Rattle.exchange_model.specs.Cells.{Placed, placed_files}
use Rattle.exchange_model.specs.Index.{is_entry}
use Rattle.exchange_model.specs.Kept.{IsExchange, signal_count}
use Rattle.exchange_model.proofs.Facts.{file_number}
use Rattle.exchange_model.proofs.Places.{FileStands, stands}
use Rattle.job_types.specs.declared.chain.Held.{Held}
use Rattle.exchange_model.specs.Names.{level_of, signal_level}
use Rattle.source_meaning.specs.Config.{files_of}
use Rattle.source_meaning.specs.Valid.{IsRecord, entry_count}
use Rattle.block_change.specs.Carried.{carried_held, new_entries, new_entry, new_file, number_for}
use Rattle.block_change.specs.Misfits.{agree, entry_signal, first_lacking, first_misfit, has_entry}
use Rattle.block_change.specs.Misfits.{lacking, lacks, misfit, rank, takes}
use Rattle.block_change.specs.Names.{file_names, place_of}
use Rattle.exchange_model.specs.Names.{names_of_blocks}
use Rattle.block_change.specs.Same.{file_at, file_named, same_block, same_entry, same_file}
use Rattle.block_change.specs.Same.{same_signal}
use Rattle.block_change.proofs.Distinct.{named_apart}
use Rattle.block_change.proofs.Lists.{and_then, named_item, stands_at}
use Rattle.block_change.proofs.Placed.{placed_file}

-- ## Nothing is missing

none_there : {X : Type 0} (p : X → Bool) (xs : List X) → position_or_len p xs < length xs → position p xs ≡ None → ⊥
none_there p xs lt none =
    let some : position p xs ≡ Some (position_or_len p xs) = ap (λ b. cond b (Some (position_or_len p xs)) None)
    (lt-ltb (position_or_len p xs) (length xs) lt) in
    absurd (cc)

none_passes : {X : Type 0} (p : X → Bool) (xs : List X) → (position_or_len p xs < length xs → ⊥) → (i : ℕ) (x : X) → slice_get xs i ≡ Some x → p x ≡ false
none_passes p [] none i x at = absurd (none-some x at)
none_passes {X} p (y ∷ ys) none i x at = by (p y) refl (λ more j there. none_passes p ys more j x there) i at
  where
    by : (b : Bool) → p y ≡ b → ((position_or_len p ys < length ys → ⊥) → (j : ℕ) → slice_get ys j ≡ Some x
        → p x ≡ false) → (i : ℕ) → slice_get (y ∷ ys) i ≡ Some x → p x ≡ false
    by true is more i at =
        let here : position_or_len p (y ∷ ys) ≡ 0 = ap (λ b. cond (not b) (1 + position_or_len p ys) 0) is in
        absurd (none (omega (arith, here)))
    by false is more zero at = ap p (sym (same_Some y x at)) ∙ is
    by false is more (suc i) at =
        let later : position_or_len p (y ∷ ys) ≡ 1 + position_or_len p ys = ap (λ b. cond (not b) (1 + position_or_len p ys) 0) is in
        more (λ lt. none (omega (arith, later, lt))) i at

pub position_none : {X : Type 0} (p : X → Bool) (xs : List X) → position p xs ≡ None → (i : ℕ) (x : X) → slice_get xs i ≡ Some x → p x ≡ false
position_none p xs none i x at = none_passes p xs (λ lt. none_there p xs lt none) i x at

pub find_none : {X : Type 0} (p : X → Bool) (xs : List X) → find p xs ≡ None → (i : ℕ) (x : X) → slice_get xs i ≡ Some x → p x ≡ false
find_none p [] none i x at = absurd (none-some x at)
find_none {X} p (y ∷ ys) none i x at = by (p y) refl none (λ more j there. find_none p ys more j x there) i at
  where
    by : (b : Bool) → p y ≡ b → cond b (Some y) (find p ys) ≡ None
        → (find p ys ≡ None → (j : ℕ) → slice_get ys j ≡ Some x → p x ≡ false) → (i : ℕ) → slice_get (y ∷ ys) i ≡ Some x
        → p x ≡ false
    by true is none more i at = absurd (cc)
    by false is none more zero at = ap p (sym (same_Some y x at)) ∙ is
    by false is none more (suc i) at = more none i at

both_none : {X : Type 0} (o p : Option X) → option_or o p ≡ None → (o ≡ None) × (p ≡ None)
both_none None p none = (refl, none)
both_none (Some x) p none = absurd (cc)

none_lacking : (y : Exchange) (blocks : List Block) → first_lacking y blocks ≡ None → (b : ℕ) (k : Block) → slice_get blocks b ≡ Some k → lacking y k ≡ None
unfolding first_lacking
none_lacking y [] none b k at = absurd (none-some k at)
none_lacking y (l ∷ rest) none zero k at = ap (lacking y) (sym (same_Some l k at)) ∙ (both_none (lacking y l) (first_lacking y rest) none).0
none_lacking y (l ∷ rest) none (suc b) k at = none_lacking y rest (both_none (lacking y l) (first_lacking y rest) none).1 b k at

none_first : (e : Option ℕ) (f : Option File) → first_misfit e f ≡ None → (e ≡ None) × (f ≡ None)
none_first None None none = (refl, refl)
none_first None (Some f) none = absurd (cc)
none_first (Some e) f none = absurd (cc)

pub entries_there : (x y : Exchange) → misfit x y ≡ None → (e : ℕ) (r : Entry) → slice_get x.entries e ≡ Some r → has_entry x y r ≡ true
entries_there x y fits e r at =
    let none = (none_first (position (λ s. not (has_entry x y s)) x.entries) (first_lacking y x.blocks) fits).0 in
    not-false (has_entry x y r) (position_none (λ s. not (has_entry x y s)) x.entries none e r at)

pub files_there : (x y : Exchange) → misfit x y ≡ None → (b j : ℕ) (k : Block) (f : File)
    → slice_get x.blocks b ≡ Some k → slice_get k.files j ≡ Some f → lacks y k.name f ≡ false
files_there x y fits b j k f block own =
    let none = (none_first (position (λ s. not (has_entry x y s)) x.entries) (first_lacking y x.blocks) fits).1 in
    find_none (lacks y k.name) k.files (none_lacking y x.blocks none b k block) j f own

-- ## Entries

unrank : ℕ → Level
unrank zero = A
unrank (suc zero) = B
unrank (suc (suc zero)) = C
unrank (suc (suc (suc n))) = D

ranked : (l : Level) → unrank (rank l) ≡ l
unfolding unrank
ranked A = refl
ranked B = refl
ranked C = refl
ranked D = refl

pub one_rank : (k l : Level) → rank k ≡ rank l → k ≡ l
one_rank k l is = sym (ranked k) ∙ ap unrank is ∙ ranked l

level_by : (y : Exchange) (n : ℕ) → level_of y n ≡ signal_level (entry_signal y n)
level_by y n = by (slice_get y.entries n)
  where
    by : (o : Option Entry) → option_map_or (λ (e : Entry). signal_level (slice_get y.signals e.signal)) o B
        ≡ signal_level (option_and_then (λ (r : Entry). slice_get y.signals r.signal) o)
    by None = refl
    by (Some e) = refl

count_by : (y : Exchange) (n : ℕ) → entry_count y n ≡ option_map_or signal_count (entry_signal y n) 0
count_by y n = by (slice_get y.entries n)
  where
    by : (o : Option Entry) → option_map_or (λ (e : Entry). option_map_or signal_count (slice_get y.signals e.signal) 0)
        o 0 ≡ option_map_or signal_count (option_and_then (λ (r : Entry). slice_get y.signals r.signal) o) 0
    by None = refl
    by (Some e) = refl

-- the entry of the same names is one of y, of one level and one number of values
pub record IsNewEntry (x y : Exchange) (e : ℕ) : Type 0 where
  pub within : new_entry x y e < length y.entries
  pub level : level_of y (new_entry x y e) ≡ level_of x e
  pub count : entry_count y (new_entry x y e) ≡ entry_count x e

entry_by : (x y : Exchange) (e : ℕ) (r : Entry) → slice_get x.entries e ≡ Some r → (o : Option ℕ) → same_entry x y r ≡ o
    → option_map_or (λ n. agree (slice_get x.signals r.signal) (entry_signal y n)) o false ≡ true → IsNewEntry x y e
entry_by x y e r at None same there = absurd (cc)
entry_by x y e r at (Some n) same there =
    let parts = and_parts (nat_eq (rank (signal_level (slice_get x.signals r.signal)))
    (rank (signal_level (entry_signal y n))))
    (nat_eq (option_map_or signal_count (slice_get x.signals r.signal) 0)
    (option_map_or signal_count (entry_signal y n) 0)) there in
    let number : new_entry x y e ≡ n =
    get_or_from_slice_get (new_entries x y) e (number_for x y r) 0 (got_map (number_for x y) x.entries e r at) ∙ ap (λ o. unwrap_or o 0) same in
    let old_level : level_of x e ≡ signal_level (slice_get x.signals r.signal) = ap
    (λ o. option_map_or (λ (d : Entry). signal_level (slice_get x.signals d.signal)) o B) at in
    let old_count : entry_count x e ≡ option_map_or signal_count (slice_get x.signals r.signal) 0 = ap
    (λ o. option_map_or (λ (d : Entry). option_map_or signal_count (slice_get x.signals d.signal) 0) o 0) at in
    let b = and_then (λ b. option_and_then (λ s. position (is_entry b s) y.entries)
    (same_signal x.signals y.signals r.signal)) (same_block x.blocks y.blocks r.block) n same in
    let s = and_then (λ s. position (is_entry b.0 s) y.entries) (same_signal x.signals y.signals r.signal) n b.2 in
    let inside = (position-Some (is_entry b.0 s.0) y.entries n r s.2).0 in
    record {
      within = omega (arith, number, inside);
      level = ap (level_of y) number ∙ level_by y n
          ∙ sym (one_rank (signal_level (slice_get x.signals r.signal)) (signal_level (entry_signal y n))
          (eqb-true (rank (signal_level (slice_get x.signals r.signal))) (rank (signal_level (entry_signal y n)))
          parts.0)) ∙ sym old_level;
      count = ap (entry_count y) number ∙ count_by y n
          ∙ sym (eqb-true (option_map_or signal_count (slice_get x.signals r.signal) 0)
          (option_map_or signal_count (entry_signal y n) 0) parts.1) ∙ sym old_count;
    }

pub new_entry_is : (x y : Exchange) → misfit x y ≡ None → (e : ℕ) → e < length x.entries → IsNewEntry x y e
new_entry_is x y fits e inside =
    let r = some_at x.entries e inside in
    entry_by x y e r.0 r.1 (same_entry x y r.0) refl (entries_there x y fits e r.0 r.1)

-- ## Files

-- the file of the same names as a FORLOPP FILE, as far as its block and its own name go
pub record IsNewFile (x y : Exchange) (f : ℕ) (p : Placed) : Type 0 where
  pub owner : Block
  pub owner_at : slice_get x.blocks p.block ≡ Some owner
  pub place : ℕ
  pub own : slice_get owner.files place ≡ Some p.file
  pub file : File
  pub block : ℕ
  pub like : Block
  pub like_at : slice_get y.blocks block ≡ Some like
  pub one_name : like.name ≡ owner.name
  pub own_name : file.name ≡ p.file.name
  pub number : new_file x y f ≡ file.number
  pub placed : Placed
  pub there : slice_get (placed_files y.blocks) file.number ≡ Some placed
  pub is_file : placed.file ≡ file
  pub is_block : placed.block ≡ block
  pub kind : file.forlopp ≡ true
  pub size : p.file.size ≤ file.size

pub taken : (g f : File) → takes (Some g) f ≡ true → (g.forlopp ≡ true) × (f.size ≤ g.size)
taken g f is =
    let parts = and_parts g.forlopp (nat_le f.size g.size) is in
    let small = parts.1 in
    (parts.0, grind (arith, nat_tests, small))

pub lacks_not : (y : Exchange) (block : List ℕ) (f : File) → f.forlopp ≡ true → lacks y block f ≡ false → takes (file_named y.blocks block f.name) f ≡ true
lacks_not y block f kind none = not-false (takes (file_named y.blocks block f.name) f)
    (sym (ap (λ b. b && not (takes (file_named y.blocks block f.name) f)) kind) ∙ none)

pub new_file_is : (x y : Exchange) → IsExchange y → misfit x y ≡ None → (f : ℕ) (p : Placed)
    → slice_get (placed_files x.blocks) f ≡ Some p → p.file.forlopp ≡ true → IsNewFile x y f p
new_file_is x y kept fits f p at kind = by (file_named y.blocks s.owner.name p.file.name) refl
    (lacks_not y s.owner.name p.file kind (files_there x y fits p.block s.place s.owner p.file s.there s.own))
  where
    s : FileStands x.blocks p
    s = stands x.blocks f p at

    same : same_file x.blocks y.blocks f ≡ file_named y.blocks s.owner.name p.file.name
    same = ap (option_and_then (λ (q : Placed). option_and_then (file_at y.blocks q.file.name) (same_block x.blocks y.blocks q.block))) at
        ∙ ap (λ o. option_and_then (file_at y.blocks p.file.name) (option_and_then (λ (k : Block). place_of k.name (names_of_blocks y.blocks)) o)) s.there

    by : (o : Option File) → file_named y.blocks s.owner.name p.file.name ≡ o → takes o p.file ≡ true → IsNewFile x y f p
    by None is there = absurd (cc)
    by (Some g) is there =
        let b = and_then (file_at y.blocks p.file.name) (place_of s.owner.name (names_of_blocks y.blocks)) g is in
        let l = named_item (λ (k : Block). k.name) y.blocks s.owner.name b.0 b.1 in
        let k = and_then (λ (k : Block). option_and_then (slice_get k.files) (place_of p.file.name (file_names k.files))) (slice_get y.blocks b.0) g b.2 in
        let j = and_then (slice_get k.0.files) (place_of p.file.name (file_names k.0.files)) g k.2 in
        let n = named_item (λ (h : File). h.name) k.0.files p.file.name j.0 j.1 in
        let one : n.0 ≡ g = same_Some n.0 g (sym n.1 ∙ j.2) in
        let here = placed_file y kept b.0 j.0 k.0 g k.1 j.2 in
        let t = taken g p.file there in
        record {
          owner = s.owner;
          owner_at = s.there;
          place = s.place;
          own = s.own;
          file = g;
          block = b.0;
          like = l.0;
          like_at = l.1;
          one_name = l.2;
          own_name = ap (λ (h : File). h.name) (sym one) ∙ n.2;
          number = ap (λ o. option_map_or (λ (h : File). h.number) o 0) (same ∙ is);
          placed = here.placed;
          there = here.there;
          is_file = here.file;
          is_block = here.block;
          kind = t.0;
          size = t.1;
        }

-- a record that may be held in x may be held in y
pub record_fits : (x y : Exchange) → IsExchange y → misfit x y ≡ None → (h : Held) → IsRecord x h → IsRecord y (carried_held x y h)
unfolding files_of
record_fits x y kept fits h is =
    let n = new_file_is x y kept fits h.file is.placed is.here.there is.kind in
    let small = is.here.within in
    let size = n.size in
    let room : is.placed.file.size ≤ n.placed.file.size = omega (arith, size, ap (λ (g : File). g.size) n.is_file) in
    record {
      placed = n.placed;
      here = record { there = ap (slice_get (placed_files y.blocks)) n.number ∙ n.there; within = omega (arith, small, room) };
      kind = ap (λ (g : File). g.forlopp) n.is_file ∙ n.kind;
    }

-- ## Files of one number

pub once_there : (ns : List (List ℕ)) (i j : ℕ) (n : List ℕ) → IsDistinct bytes_eq ns → slice_get ns i ≡ Some n → slice_get ns j ≡ Some n → i ≡ j
unfolding IsDistinct
once_there [] i j n apart at at2 = absurd (none-some n at)
once_there (m ∷ ns) zero zero n apart at at2 = refl
once_there (m ∷ ns) zero (suc j) n apart at at2 = absurd
    (both_ways (bytes_eq m n) (all_at (λ l. bytes_eq m l ≡ false) ns j n apart.0 at2)
    ((bytes_eq-Decides m n).1 (same_Some m n at)))
once_there (m ∷ ns) (suc i) zero n apart at at2 = absurd
    (both_ways (bytes_eq m n) (all_at (λ l. bytes_eq m l ≡ false) ns i n apart.0 at)
    ((bytes_eq-Decides m n).1 (same_Some m n at2)))
once_there (m ∷ ns) (suc i) (suc j) n apart at at2 = ap suc (once_there ns i j n apart.1 at at2)

pub named_once : {X : Type 0} (name_of : X → List ℕ) (xs : List X) (i j : ℕ) (a b : X)
    → IsDistinct bytes_eq (map name_of xs) → slice_get xs i ≡ Some a → slice_get xs j ≡ Some b → name_of a ≡ name_of b
    → i ≡ j
named_once name_of xs i j a b apart at at2 same =
    once_there (map name_of xs) i j (name_of a) apart (got_map name_of xs i a at) (got_map name_of xs j b at2 ∙ ap Some (sym same))

-- two FORLOPP FILES that go to one file are one
pub one_file : (x y : Exchange) → IsExchange x → IsExchange y → misfit x y ≡ None → (f g : ℕ) (p q : Placed)
    → slice_get (placed_files x.blocks) f ≡ Some p → slice_get (placed_files x.blocks) g ≡ Some q
    → p.file.forlopp ≡ true → q.file.forlopp ≡ true → new_file x y f ≡ new_file x y g → f ≡ g
one_file x y kept_x kept_y fits f g p q at at2 kind kind2 same =
    let m = new_file_is x y kept_y fits f p at kind in
    let n = new_file_is x y kept_y fits g q at2 kind2 in
    let number : m.file.number ≡ n.file.number = sym m.number ∙ same ∙ n.number in
    let placed : m.placed ≡ n.placed = same_Some m.placed n.placed (sym m.there ∙ ap (slice_get (placed_files y.blocks)) number ∙ n.there) in
    let file : m.file ≡ n.file = sym m.is_file ∙ ap (λ (r : Placed). r.file) placed ∙ n.is_file in
    let block : m.block ≡ n.block = sym m.is_block ∙ ap (λ (r : Placed). r.block) placed ∙ n.is_block in
    let like : m.like ≡ n.like = same_Some m.like n.like (sym m.like_at ∙ ap (slice_get y.blocks) block ∙ n.like_at) in
    let owners : m.owner.name ≡ n.owner.name = sym m.one_name ∙ ap (λ (k : Block). k.name) like ∙ n.one_name in
    let blocks : p.block ≡ q.block = named_once (λ (k : Block). k.name) x.blocks p.block q.block m.owner n.owner
    kept_x.blocks.names m.owner_at n.owner_at owners in
    let owner : m.owner ≡ n.owner = same_Some m.owner n.owner (sym m.owner_at ∙ ap (slice_get x.blocks) blocks ∙ n.owner_at) in
    let names : p.file.name ≡ q.file.name = sym m.own_name ∙ ap (λ (h : File). h.name) file ∙ n.own_name in
    let own2 : slice_get m.owner.files n.place ≡ Some q.file = ap (λ (k : Block). slice_get k.files n.place) owner ∙ n.own in
    let places : m.place ≡ n.place = named_once (λ (h : File). h.name) m.owner.files m.place n.place p.file q.file
    (named_apart x p.block m.owner (kept_x.blocks.each p.block m.owner m.owner_at)).files m.own own2 names in
    let files : p.file ≡ q.file = same_Some p.file q.file (sym m.own ∙ ap (slice_get m.owner.files) places ∙ own2) in
    sym (file_number x kept_x f p at) ∙ ap (λ (h : File). h.number) files ∙ file_number x kept_x g q at2

-- ## A name that no other item has

place_self : (ns : List (List ℕ)) (i : ℕ) (n : List ℕ) → IsDistinct bytes_eq ns → slice_get ns i ≡ Some n → place_of n ns ≡ Some i
place_self ns i n apart at = by (place_of n ns) refl
  where
    by : (o : Option ℕ) → place_of n ns ≡ o → o ≡ Some i
    by None is = absurd (both_ways (bytes_eq n n) (position_none (bytes_eq n) ns is i n at) ((bytes_eq-Decides n n).1 refl))
    by (Some j) is = ap Some (once_there ns j i n apart (stands_at n ns j is).there at)

pub named_self : {X : Type 0} (name_of : X → List ℕ) (xs : List X) (i : ℕ) (a : X)
    → IsDistinct bytes_eq (map name_of xs) → slice_get xs i ≡ Some a → place_of (name_of a) (map name_of xs) ≡ Some i
named_self name_of xs i a apart at = place_self (map name_of xs) i (name_of a) apart (got_map name_of xs i a at)
