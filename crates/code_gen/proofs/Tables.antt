-- The table of addresses that a pass makes is that of the exchange.
use Rattle.std.proofs.Common.{◌≡◌, ◌≢◌, ℕ, zero, suc, ◌+◌, ◌-◌, ◌<◌, ◌≤◌, min, List, [], ◌∷◌, ◌++◌}
use Rattle.std.proofs.Common.{length, map, take, drop, Some, slice_get, slice_index, refl, sym, ap}
use Rattle.std.proofs.Common.{◌∙◌, arith, length-append, ⊎_elim}
use mathlib.Core.Path.{fun_ext}
use Rattle.std.proofs.lemmas.Bool.{cases_eq, cases_lt}
use Rattle.std.proofs.lemmas.List.{take_all}
use Rattle.std.proofs.Math.Seq.{take-nil}
use Rattle.std.proofs.lemmas.Option.{slice_get_past}
use Rattle.machine_code.specs.declared.op.Op.{Op}
use Rattle.machine_code.specs.declared.op.Op.TheVariants as op
use Rattle.exchange_model.specs.declared.exchange.Exchange.{Exchange}
use Rattle.exchange_model.specs.declared.block.Block.{Block}
use Rattle.exchange_model.specs.declared.entry.Entry.{Entry}
use Rattle.exchange_model.specs.declared.stmt.Stmt.{Stmt}
use Rattle.source_meaning.specs.Config.{body_of, label_of, enter_place}
use Rattle.std.specs.Option.{option_map_or}
use Rattle.stmt_code.specs.StmtCode.{Places, codes, stmt_code}
use Rattle.stmt_code.specs.Whole.{Table, places_of, code_upto, no_table, start_of, place_at}
use Rattle.stmt_code.specs.Whole.{behind_enter, enter_at, table_of, whole_code, entry_addresses}
use Rattle.plex_num.proofs.Lists.{slice_get-append_left, slice_get-append_seam}
use Rattle.stmt_code.proofs.Addresses.{codes_same, upto_same}
use Rattle.code_gen.specs.declared.addresses.Addresses.{Addresses}
use Rattle.code_gen.specs.Addresses.{address_in, enter_in, table_in, addresses_from, places_upto}
use Rattle.code_gen.specs.Addresses.{addresses_by}

-- the addresses of a text

length-addresses : (ss : List Stmt) (pl : Places) (a : ℕ) → length (addresses_from (map stmt_code ss) pl a) ≡ suc (length ss)
length-addresses [] pl a = refl
length-addresses (s ∷ ss) pl a = ap suc (length-addresses ss pl (a + length (stmt_code s pl 0 a)))

address_of_place : (ss : List Stmt) (pl : Places) (a place : ℕ) → place ≤ length ss
    → slice_index (addresses_from (map stmt_code ss) pl a) place ≡ a
    + length (codes (map stmt_code (take place ss)) pl 0 a)
address_of_place [] pl a zero le = omega arith
address_of_place [] pl a (suc place) le = absurd (omega (arith, le))
address_of_place (s ∷ ss) pl a zero le = omega arith
address_of_place (s ∷ ss) pl a (suc place) le =
    let c = stmt_code s pl 0 a in
    omega (arith, address_of_place ss pl (a + length c) place (omega (arith, le)), length-append c (codes (map stmt_code (take place ss)) pl 0 (a + length c)))

nearest_address : (ss : List Stmt) (pl : Places) (a place : ℕ)
    → slice_index (addresses_from (map stmt_code ss) pl a)
    (min place (length (addresses_from (map stmt_code ss) pl a) - 1)) ≡ a
    + length (codes (map stmt_code (take place ss)) pl 0 a)
nearest_address ss pl a place =
    let list = addresses_from (map stmt_code ss) pl a in
    let long = length-addresses ss pl a in
    ⊎_elim
    (λ (lt : place < length ss).
    let near : min place (length list - 1) ≡ place = omega (arith, long, lt) in
    ap (slice_index list) near ∙ address_of_place ss pl a place (omega (arith, lt)))
    (λ (ge : length ss ≤ place).
    let near : min place (length list - 1) ≡ length ss = omega (arith, long, ge) in
    ap (slice_index list) near ∙ address_of_place ss pl a (length ss) (omega arith)
    ∙ ap (λ rest. a + length (codes (map stmt_code rest) pl 0 a)) (take_all (length ss) ss (omega arith) ∙ sym (take_all place ss ge)))
    (cases_lt place (length ss))

-- those of all texts

module _ (x : Exchange) (t : Table) where
  abbrev list_of : ℕ → List ℕ
  list_of b = addresses_from (map stmt_code (body_of x b)) (places_of x t b) (length (code_upto x t b))

  length-places : (n : ℕ) → length (places_upto x t n) ≡ n
  unfolding places_upto
  length-places zero = refl
  length-places (suc n) = omega (arith, length-append (places_upto x t n) (list_of n ∷ []), length-places n)

  places_have : (b n : ℕ) → b < n → slice_get (places_upto x t n) b ≡ Some (list_of b)
  unfolding places_upto
  places_have b zero lt = absurd (omega (arith, lt))
  places_have b (suc n) lt =
      let pre = places_upto x t n in
      ⊎_elim
      (λ (same : b ≡ n). ap (slice_get (pre ++ list_of n ∷ [])) (same ∙ sym (length-places n))
      ∙ slice_get-append_seam pre (list_of n) [] ∙ ap (λ m. Some (list_of m)) (sym same))
      (λ (ne : b ≢ n). let below : b < n = omega (arith, lt, ne) in slice_get-append_left pre (list_of n ∷ []) b
      (omega (arith, below, length-places n)) ∙ places_have b n below)
      (cases_eq b n)

  abbrev made : Addresses
  made = addresses_by x t

  end_is : made.end ≡ start_of x (length x.blocks)
  unfolding start_of
  end_is =
      let e : min (length x.blocks) (length x.blocks) ≡ length x.blocks = omega arith in
      sym (upto_same x t (length x.blocks)) ∙ sym (ap (λ n. length (code_upto x no_table n)) e)

  address_inside : (b place : ℕ) → b < length x.blocks → address_in made b place ≡ place_at x b place
  unfolding place_at start_of
  address_inside b place lt =
      let body = body_of x b in
      let near : min b (length x.blocks) ≡ b = omega (arith, lt) in
      let u = length (code_upto x no_table b) in
      let v = length (code_upto x t b) in
      let start : length (code_upto x no_table (min b (length x.blocks))) ≡ u = ap (λ n. length (code_upto x no_table n)) near in
      let s = length (code_upto x no_table (min b (length x.blocks))) in
      ap (λ o. option_map_or (λ places. slice_index places (min place (length places - 1))) o made.end) (places_have b (length x.blocks) lt)
      ∙ nearest_address body (places_of x t b) v place
      ∙ omega (arith, start, upto_same x t b, codes_same (take place body) x t b 0 s v)

  address_past : (b place : ℕ) → length x.blocks ≤ b → address_in made b place ≡ place_at x b place
  unfolding place_at start_of
  address_past b place le =
      let n = length x.blocks in
      let near : min b n ≡ n = omega (arith, le) in
      let none : body_of x b ≡ [] = ap (λ o. option_map_or (λ (k : Block). k.body) o []) (slice_get_past x.blocks b le) in
      let s = length (code_upto x no_table (min b n)) in
      let empty : length (codes (map stmt_code (take place (body_of x b))) (places_of x no_table b) 0 s) ≡ 0 =
      ap (λ ss. length (codes (map stmt_code (take place ss)) (places_of x no_table b) 0 s)) none
      ∙ ap (λ ss. length (codes (map stmt_code ss) (places_of x no_table b) 0 s)) (take-nil place) in
      let start : s ≡ length (code_upto x no_table n) = ap (λ m. length (code_upto x no_table m)) near in
      ap (λ o. option_map_or (λ places. slice_index places (min place (length places - 1))) o made.end)
      (slice_get_past made.blocks b (omega (arith, length-places n, le)))
      ∙ omega (arith, empty, start, upto_same x t n)

  address_is : (b place : ℕ) → address_in made b place ≡ place_at x b place
  address_is b place = ⊎_elim (address_inside b place) (address_past b place) (cases_lt b (length x.blocks))

  enter_is : (b signal : ℕ) → enter_in x made b signal ≡ enter_at x b signal
  enter_is b signal = λ i. behind_enter (drop (enter_place x b signal) (body_of x b)) (address_is b (enter_place x b signal) i) (end_is i)

  table_is : table_in x made ≡ table_of x
  table_is =
      let labels : (λ b l. address_in made b (label_of x b l)) ≡ (λ b l. place_at x b (label_of x b l)) =
      fun_ext (λ b. fun_ext (λ l. address_is b (label_of x b l))) in
      let enters : enter_in x made ≡ enter_at x = fun_ext (λ b. fun_ext (λ signal. enter_is b signal)) in
      λ i. record { label = labels i; enter = enters i }

-- what the second pass makes

pub whole_is : (x : Exchange) (t : Table) (a : Addresses) (code ops : List Op) → a ≡ addresses_by x t
    → code ≡ code_upto x (table_in x a) (length x.blocks) → ops ≡ code ++ op.End ∷ [] → ops ≡ whole_code x
unfolding whole_code
whole_is x t a code ops ea em eo =
    let table : table_in x a ≡ table_of x = ap (table_in x) ea ∙ table_is x t in
    eo ∙ ap (λ l. l ++ op.End ∷ []) (em ∙ ap (λ u. code_upto x u (length x.blocks)) table)

pub entries_are : (x : Exchange) (t : Table) (a : Addresses) (list : List ℕ) → a ≡ addresses_by x t
    → list ≡ map (λ (e : Entry). enter_in x a e.block e.signal) x.entries → list ≡ entry_addresses x
entries_are x t a list ea el =
    let enters : enter_in x a ≡ enter_at x = ap (enter_in x) ea ∙ fun_ext (λ b. fun_ext (λ signal. enter_is x t b signal)) in
    el ∙ ap (λ (f : ℕ → ℕ → ℕ). map (λ (e : Entry). f e.block e.signal) x.entries) enters
