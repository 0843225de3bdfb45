-- What is noted of a block and a signal: one number more, the rows of one block more, one entry
-- more.
use Rattle.std.proofs.Common.{◌≡◌, ℕ, zero, suc, ◌+◌, ◌<◌, ◌≤◌, Bool, true, false, not, ◌&&◌}
use Rattle.std.proofs.Common.{nat_eq, cond, inl, inr, List, [], ◌∷◌, ◌++◌, length, take, get_or}
use Rattle.std.proofs.Common.{Option, Some, None, slice_get, position, refl, sym, ap, ◌∙◌, arith}
use Rattle.std.proofs.Common.{length-append}
use Rattle.std.specs.List.{find, position_or_len}
use Rattle.std.specs.Option.{option_map, option_or}
use Rattle.std.specs.HashMap.{Updates}
use Rattle.std.proofs.lemmas.Bool.{cases_lt, cases_order, and_parts, eqb-true, ne_eqb, eq-eqb}
use Rattle.std.proofs.lemmas.Bool.{cond_below, cond_above, cond-false, cond-true}
use Rattle.std.proofs.lemmas.List.{take_more, take_all, length-take-le}
use Rattle.std.proofs.lemmas.List.Folds.{find-append, position_or_len_push}
use Rattle.std.proofs.lemmas.Option.{slice_get_past, slice_get_read}
use Rattle.plex_num.proofs.Options.{stays, comes, option_or-None}
use Rattle.exchange_model.specs.declared.block.Block.{Block}
use Rattle.exchange_model.specs.declared.block.Enter.{Enter as Row}
use Rattle.exchange_model.specs.declared.entry.Entry.{Entry}
use Rattle.exchange_model.specs.declared.index.Noted.{Noted}
use Rattle.exchange_model.specs.Index.{is_entry, place_in, rows_of, enter_of, is_pair, noted}
use Rattle.exchange_model.specs.Index.{HasNoted, HasNotedRows, IsOfEntries, IsOfEnters}

-- options

pub option_or-option_or : {X : Type 0} (o p q : Option X) → option_or (option_or o p) q ≡ option_or o (option_or p q)
option_or-option_or None p q = refl
option_or-option_or (Some x) p q = refl

option_map-option_or : {X Y : Type 0} (f : X → Y) (o p : Option X) → option_map f (option_or o p) ≡ option_or (option_map f o) (option_map f p)
option_map-option_or f None p = refl
option_map-option_or f (Some x) p = refl

-- one number more

-- the pair that is asked for is the one that is noted
same_pair : (n : Noted) (block signal b s : ℕ) → (nat_eq block b && nat_eq signal s) ≡ true → noted n b s ≡ noted n block signal
same_pair n block signal b s h =
    let both = and_parts (nat_eq block b) (nat_eq signal s) h in
    let blocks : b ≡ block = sym (eqb-true block b both.0) in
    let signals : s ≡ signal = sym (eqb-true signal s both.1) in
    cc

pub noted_stays : (n : Noted) (block signal number m : ℕ) → noted n block signal ≡ Some m → HasNoted n n block signal number
noted_stays n block signal number m there b s =
    stays (nat_eq block b && nat_eq signal s) (noted n b s) number m (λ h. same_pair n block signal b s h ∙ there)

pub noted_comes : (old new : Noted) (block signal number : ℕ) → noted old block signal ≡ None
    → Updates is_pair old.numbers new.numbers (block, signal) (Some number) → HasNoted old new block signal number
noted_comes old new block signal number none updates b s =
    updates.0 (b, s) ∙ comes (nat_eq block b && nat_eq signal s) (noted old b s) number (λ h. same_pair old block signal b s h ∙ none)

-- one row more

place_in-push : (rows : List Row) (r : Row) (signal : ℕ)
    → place_in (rows ++ r ∷ []) signal ≡ option_or (place_in rows signal)
    (cond (nat_eq r.signal signal) (Some r.place) None)
place_in-push rows r signal =
    let place : Row → ℕ = λ r. r.place in
    let test : Row → Bool = λ r. nat_eq r.signal signal in
    ap (option_map place) (find-append test rows (r ∷ []))
    ∙ option_map-option_or place (find test rows) (find test (r ∷ []))
    ∙ ap (option_or (place_in rows signal)) (last (test r))
  where
    last : (t : Bool) → option_map (λ (r : Row). r.place) (cond t (Some r) None) ≡ cond t (Some r.place) None
    last true = refl
    last false = refl

-- a row more of a block: where the block is asked for, by the test `t`, and its signal, by `u`
row_added : (t u : Bool) (o p : Option ℕ) (n : ℕ)
    → option_or (option_or o (cond t p None)) (cond (t && u) (Some n) None)
    ≡ option_or o (cond t (option_or p (cond u (Some n) None)) None)
row_added true u o p n = option_or-option_or o p (cond u (Some n) None)
row_added false u o p n = option_or-None (option_or o None)

pub rows_begin : (n : Noted) (block : ℕ) → HasNotedRows n n block []
rows_begin n block b s = none (nat_eq block b)
  where
    none : (t : Bool) → noted n b s ≡ option_or (noted n b s) (cond t None None)
    none true = sym (option_or-None (noted n b s))
    none false = sym (option_or-None (noted n b s))

pub rows_more : (first old new : Noted) (block : ℕ) (rows : List Row) (i : ℕ) (d : Row) → i < length rows
    → HasNotedRows first old block (take i rows)
    → HasNoted old new block (get_or rows i d).signal (get_or rows i d).place
    → HasNotedRows first new block (take (i + 1) rows)
rows_more first old new block rows i d inside before added b s =
    let r : Row = get_or rows i d in
    let t : Bool = nat_eq block b in
    let u : Bool = nat_eq r.signal s in
    let o : Option ℕ = noted first b s in
    let p : Option ℕ = place_in (take i rows) s in
    added b s
    ∙ ap (λ q. option_or q (cond (t && u) (Some r.place) None)) (before b s)
    ∙ row_added t u o p r.place
    ∙ ap (λ q. option_or o (cond t q None)) (sym (place_in-push (take i rows) r s))
    ∙ ap (λ (rs : List Row). option_or o (cond t (place_in rs s) None)) (sym (take_more rows i d inside))

-- one entry more

position_some : {X : Type 0} (p : X → Bool) (xs : List X) (n : ℕ) → position_or_len p xs ≡ n → n < length xs → position p xs ≡ Some n
position_some p xs n is lt =
    sym (cond_below (position_or_len p xs) (length xs) (Some (position_or_len p xs)) None (omega (arith, is))) ∙ ap Some is

position_none : {X : Type 0} (p : X → Bool) (xs : List X) → length xs ≤ position_or_len p xs → position p xs ≡ None
position_none p xs le =
    sym (cond_above (position_or_len p xs) (length xs) (Some (position_or_len p xs)) None None le refl)

within : {X : Type 0} (p : X → Bool) (xs : List X) → position_or_len p xs ≤ length xs
within p [] = omega arith
within p (x ∷ xs) = decide (p x) (within p xs)
  where
    decide : (t : Bool) → position_or_len p xs ≤ length xs → cond (not t) (1 + position_or_len p xs) 0 ≤ suc (length xs)
    decide true h = omega arith
    decide false h = omega (arith, h)

pub position-push : {X : Type 0} (p : X → Bool) (xs : List X) (y : X)
    → position p (xs ++ y ∷ []) ≡ option_or (position p xs) (cond (p y) (Some (length xs)) None)
position-push p xs y =
    let n : ℕ = position_or_len p xs in
    let pushed = position_or_len_push p xs y in
    let longer : length (xs ++ y ∷ []) ≡ length xs + 1 = length-append xs (y ∷ []) in
    elim (cases_lt n (length xs)) [
      | inl lt ↦
          let apart : nat_eq n (length xs) ≡ false = ne_eqb n (length xs) (λ e. omega (arith, e)) in
          let is : position_or_len p (xs ++ y ∷ []) ≡ n = pushed ∙ cond-false (nat_eq n (length xs)) (length xs + cond (p y) 0 1) n apart in
          position_some p (xs ++ y ∷ []) n is (omega (arith, longer))
          ∙ ap (λ o. option_or o (cond (p y) (Some (length xs)) None)) (sym (position_some p xs n refl lt))
      | inr ge ↦
          let all : nat_eq n (length xs) ≡ true = eq-eqb n (length xs) (omega (arith, within p xs)) in
          let is : position_or_len p (xs ++ y ∷ []) ≡ length xs + cond (p y) 0 1 =
          pushed ∙ cond-true (nat_eq n (length xs)) (length xs + cond (p y) 0 1) n all in
          last (p y) is longer ∙ ap (λ o. option_or o (cond (p y) (Some (length xs)) None)) (sym (position_none p xs ge))
    ]
  where
    last : (t : Bool) → position_or_len p (xs ++ y ∷ []) ≡ length xs + cond t 0 1
        → length (xs ++ y ∷ []) ≡ length xs + 1 → position p (xs ++ y ∷ []) ≡ cond t (Some (length xs)) None
    last true is longer = position_some p (xs ++ y ∷ []) (length xs) (omega (arith, is)) (omega (arith, longer))
    last false is longer = position_none p (xs ++ y ∷ []) (omega (arith, is, longer))

pub entries_more : (old new : Noted) (entries : List Entry) (i : ℕ) (d : Entry) → i < length entries
    → IsOfEntries old (take i entries) → HasNoted old new (get_or entries i d).block (get_or entries i d).signal i
    → IsOfEntries new (take (i + 1) entries)
entries_more old new entries i d inside before added b s =
    let e : Entry = get_or entries i d in
    let test : Entry → Bool = is_entry b s in
    let many : length (take i entries) ≡ i = length-take-le i entries (omega arith) in
    added b s
    ∙ ap (λ o. option_or o (cond (test e) (Some i) None)) (before b s)
    ∙ ap (λ n. option_or (position test (take i entries)) (cond (test e) (Some n) None)) (sym many)
    ∙ sym (position-push test (take i entries) e)
    ∙ ap (position test) (sym (take_more entries i d inside))

pub entries_end : (n : Noted) (entries : List Entry) (i : ℕ) → length entries ≤ i → IsOfEntries n (take i entries) → IsOfEntries n entries
entries_end n entries i past are b s = are b s ∙ ap (position (is_entry b s)) (take_all i entries past)

-- the rows of one block more

slice_get-take : (blocks : List Block) (i b : ℕ) → b < i → slice_get (take i blocks) b ≡ slice_get blocks b
slice_get-take [] zero b lt = refl
slice_get-take [] (suc i) b lt = refl
slice_get-take (k ∷ ks) zero b lt = absurd (omega arith)
slice_get-take (k ∷ ks) (suc i) zero lt = refl
slice_get-take (k ∷ ks) (suc i) (suc b) lt = slice_get-take ks i b (omega arith)

no_enter : (blocks : List Block) (b s : ℕ) → length blocks ≤ b → enter_of blocks b s ≡ None
no_enter blocks b s past = ap (λ o. place_in (rows_of o) s) (slice_get_past blocks b past)

pub enters_more : (old new : Noted) (blocks : List Block) (i : ℕ) (k : Block) → i < length blocks
    → k ≡ get_or blocks i k → IsOfEnters old (take i blocks) → HasNotedRows old new i k.enters
    → IsOfEnters new (take (i + 1) blocks)
enters_more old new blocks i k inside is before added b s =
    added b s ∙ ap (λ o. option_or o (cond (nat_eq i b) (place_in k.enters s) None)) (before b s) ∙ elim (cases_order b i) [
      | inl same ↦
          let there : slice_get blocks i ≡ Some k = slice_get_read blocks (length blocks) i k refl inside is in
          let here : enter_of (take (i + 1) blocks) b s ≡ place_in k.enters s =
          ap (λ o. place_in (rows_of o) s) (slice_get-take blocks (i + 1) b (omega (arith, same)) ∙ ap (slice_get blocks) same ∙ there) in
          let none : enter_of (take i blocks) b s ≡ None = no_enter (take i blocks) b s (omega (arith, same, length-take-le i blocks (omega arith))) in
          let asked : nat_eq i b ≡ true = eq-eqb i b (sym same) in
          ap (λ o. option_or o (cond (nat_eq i b) (place_in k.enters s) None)) none ∙ cond-true (nat_eq i b) (place_in k.enters s) None asked ∙ sym here
      | inr (inl early) ↦
          let apart : nat_eq i b ≡ false = ne_eqb i b (λ e. omega (arith, e)) in
          let same : enter_of (take i blocks) b s ≡ enter_of (take (i + 1) blocks) b s =
          ap (λ o. place_in (rows_of o) s) (slice_get-take blocks i b early ∙ sym (slice_get-take blocks (i + 1) b (omega arith))) in
          ap (option_or (enter_of (take i blocks) b s)) (cond-false (nat_eq i b) (place_in k.enters s) None apart)
          ∙ option_or-None (enter_of (take i blocks) b s) ∙ same
      | inr (inr late) ↦
          let apart : nat_eq i b ≡ false = ne_eqb i b (λ e. omega (arith, e)) in
          let none : enter_of (take i blocks) b s ≡ None = no_enter (take i blocks) b s (omega (arith, length-take-le i blocks (omega arith))) in
          let past : enter_of (take (i + 1) blocks) b s
          ≡ None = no_enter (take (i + 1) blocks) b s (omega (arith, length-take-le (i + 1) blocks (omega arith)))
          in
          ap (option_or (enter_of (take i blocks) b s)) (cond-false (nat_eq i b) (place_in k.enters s) None apart)
          ∙ option_or-None (enter_of (take i blocks) b s) ∙ none ∙ sym past
    ]

pub enters_end : (n : Noted) (blocks : List Block) (i : ℕ) → length blocks ≤ i → IsOfEnters n (take i blocks) → IsOfEnters n blocks
enters_end n blocks i past are b s = are b s ∙ ap (λ ks. enter_of ks b s) (take_all i blocks past)
