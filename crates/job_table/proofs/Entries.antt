-- The entry of a signal at a block is found by their names.
use Rattle.std.proofs.Common.{◌≡◌, ℕ, zero, suc, ◌+◌, ◌-◌, ◌<◌, ◌&&◌, inl, inr, ⊎_elim, Bool, true}
use Rattle.std.proofs.Common.{false, not, cond, nat_eq, List, [], ◌∷◌, ◌++◌, length, map, position}
use Rattle.std.proofs.Common.{slice_get, Option, Some, None, refl, sym, ap, subst, ◌∙◌, arith}
use Rattle.std.specs.List.{AllByRecursion, IsDistinct, cons_option, position_or_len}
use Rattle.std.specs.Str.{bytes_eq}
use Rattle.std.proofs.lemmas.Bool.{cases_Bool, cases_lt, cond_below, eq-eqb, ne_eqb}
use Rattle.std.proofs.lemmas.Cmp.{nat_list_eq_equiv}
use Rattle.std.proofs.lemmas.Map.Keys.{IsDistinct-head, IsDistinct-tail}
use Rattle.std.proofs.lemmas.Option.{none-some, same_Some, slice_get_within}
use Rattle.std.proofs.lemmas.Slice.Eq.{bytes_eq-Decides}
use Rattle.plex_num.proofs.Lists.{all_at, slice_get-append_left, slice_get-append_right}
use Rattle.exchange_model.specs.declared.block.Block.{Block}
use Rattle.exchange_model.specs.declared.block.Enter.{Enter as Row}
use Rattle.exchange_model.specs.declared.entry.Entry.{Entry}
use Rattle.exchange_model.specs.declared.exchange.Exchange.{Exchange}
use Rattle.exchange_model.specs.declared.signal.SignalKind.{SignalKind}
use Rattle.exchange_model.specs.declared.signal.SignalKind.TheVariants.{Answer, Buffered, Combined}
use Rattle.exchange_model.specs.declared.signal.SignalKind.TheVariants.{Direct, Outside}
use Rattle.exchange_model.specs.declared.stmt.Stmt.{Stmt}
use Rattle.exchange_model.specs.declared.stmt.StmtKind.{out-StmtKind}
use Rattle.exchange_model.specs.Index.{is_entry}
use Rattle.exchange_model.specs.Kept.{IsExchange, entered, entries_from, entries_in, entry_at}
use Rattle.exchange_model.specs.Kept.{entry_of, enters_from, row_at}

-- ---- the first that passes

passes_here : {A : Type 0} (p : A → Bool) (x : A) (xs : List A) → p x ≡ true → position_or_len p (x ∷ xs) ≡ 0
passes_here p x xs is = ap (λ b. cond (not b) (1 + position_or_len p xs) 0) is

passes_later : {A : Type 0} (p : A → Bool) (x : A) (xs : List A) (n : ℕ) → p x ≡ false → position_or_len p xs ≡ n → position_or_len p (x ∷ xs) ≡ 1 + n
passes_later p x xs n is later = ap (λ b. cond (not b) (1 + position_or_len p xs) 0) is ∙ ap (λ m. 1 + m) later

passes_front : {A : Type 0} (p : A → Bool) (xs ys : List A) (n : ℕ) → position_or_len p xs ≡ n → n < length xs → position_or_len p (xs ++ ys) ≡ n
passes_front p [] ys n is inside = absurd (omega arith)
passes_front p (x ∷ xs) ys n is inside = elim (cases_Bool (p x)) [
  | inl passes ↦ passes_here p x (xs ++ ys) passes ∙ sym (passes_here p x xs passes) ∙ is
  | inr fails ↦
      let own : 1 + position_or_len p xs ≡ n = sym (passes_later p x xs (position_or_len p xs) fails refl) ∙ is in
      passes_later p x (xs ++ ys) (position_or_len p xs) fails (passes_front p xs ys (position_or_len p xs) refl (omega (arith, own, inside))) ∙ own
]

passes_behind : {A : Type 0} (p : A → Bool) (xs ys : List A) (n : ℕ) → AllByRecursion (λ x. p x ≡ false) xs
    → position_or_len p ys ≡ n → position_or_len p (xs ++ ys) ≡ length xs + n
passes_behind p [] ys n none is = is ∙ omega arith
passes_behind p (x ∷ xs) ys n none is = passes_later p x (xs ++ ys) (length xs + n) none.0 (passes_behind p xs ys n none.1 is) ∙ omega arith

pub position_is : {A : Type 0} (p : A → Bool) (xs : List A) (i : ℕ) (x : A) → position_or_len p xs ≡ i → slice_get xs i ≡ Some x → position p xs ≡ Some i
position_is p xs i x is there =
    let inside = slice_get_within xs i x there in
    sym (cond_below (position_or_len p xs) (length xs) (Some (position_or_len p xs)) None (omega (arith, is, inside))) ∙ ap Some is

-- ---- a name stands once

name_once : (names : List (List ℕ)) (i : ℕ) (name : List ℕ) → IsDistinct bytes_eq names → slice_get names i ≡ Some name
    → position_or_len (bytes_eq name) names ≡ i
name_once [] i name once is = absurd (none-some name is)
name_once (n ∷ names) zero name once is = passes_here (bytes_eq name) n names ((bytes_eq-Decides name n).1 (sym (same_Some n name is)))
name_once (n ∷ names) (suc i) name once is =
    let apart : bytes_eq n name ≡ false = all_at (λ y. bytes_eq n y ≡ false) names i name (IsDistinct-head bytes_eq n names once) is in
    passes_later (bytes_eq name) n names i (nat_list_eq_equiv.symm name n ∙ apart)
    (name_once names i name (IsDistinct-tail bytes_eq n names once) is) ∙ omega arith

pub name_found : (names : List (List ℕ)) (i : ℕ) (name : List ℕ) → IsDistinct bytes_eq names
    → slice_get names i ≡ Some name → position (bytes_eq name) names ≡ Some i
name_found names i name once is = position_is (bytes_eq name) names i name (name_once names i name once is) is

-- ---- the entries of a block

abbrev signals_of : List Row → List ℕ
signals_of rows = map (λ (r : Row). r.signal) rows

abbrev pub IsBuffered : Option SignalKind → Type 0
IsBuffered (Some (Buffered name level count)) = Unit {0}
IsBuffered _ = ⊥

-- an entry of a block, which is the first of its signal
record IsFirst (signals : List SignalKind) (b : ℕ) (entries : List Entry) (rows : List Row) (n : ℕ) (e : Entry) : Type 0 where
  pub block : e.block ≡ b
  pub kind : IsBuffered (slice_get signals e.signal)
  pub apart : (m : ℕ) → AllByRecursion (λ y. nat_eq m y ≡ false) (signals_of rows) → nat_eq m e.signal ≡ false
  pub first : position_or_len (is_entry b e.signal) entries ≡ n

first_later : (signals : List SignalKind) (b : ℕ) (entries : List Entry) (row : Row) (rows : List Row) (n : ℕ)
    (e : Entry) → IsFirst signals b entries rows n e → IsFirst signals b entries (row ∷ rows) n e
first_later signals b entries row rows n e f = record { block = f.block; kind = f.kind; apart = λ m all. f.apart m all.1; first = f.first }

own_first : (signals : List SignalKind) (b signal point place : ℕ) (entries : List Entry) (rows : List Row) (n : ℕ)
    (e : Entry) → IsBuffered (slice_get signals signal)
    → IsDistinct nat_eq (signal ∷ signals_of rows) → slice_get (record { block = b; signal = signal; point = point } ∷ entries) n ≡ Some e
    → ((m : ℕ) → slice_get entries m ≡ Some e → IsFirst signals b entries rows m e)
    → IsFirst signals b (record { block = b; signal = signal; point = point } ∷ entries)
    (record { signal = signal; place = place } ∷ rows) n e
own_first signals b signal point place entries rows zero e kind once there more =
    let own : Entry = record { block = b; signal = signal; point = point } in
    let same : own ≡ e = same_Some own e there in
    let signal_is : signal ≡ e.signal = ap (λ (q : Entry). q.signal) same in
    record {
      block = sym (ap (λ (q : Entry). q.block) same);
      kind = subst (λ s. IsBuffered (slice_get signals s)) signal_is kind;
      apart = λ m all. subst (λ s. nat_eq m s ≡ false) signal_is all.0;
      first = passes_here (is_entry b e.signal) own entries (ap (λ t. t && nat_eq signal e.signal) (eq-eqb b b refl) ∙ eq-eqb signal e.signal signal_is);
    }
own_first signals b signal point place entries rows (suc n) e kind once there more =
    let own : Entry = record { block = b; signal = signal; point = point } in
    let f = more n there in
    let other : nat_eq signal e.signal ≡ false = f.apart signal (IsDistinct-head nat_eq signal (signals_of rows) once) in
    record {
      block = f.block;
      kind = f.kind;
      apart = λ m all. f.apart m all.1;
      first = passes_later (is_entry b e.signal) own entries n (ap (λ t. nat_eq b b && t) other ∙ nothing (nat_eq b b)) f.first ∙ omega arith;
    }
  where
    nothing : (t : Bool) → (t && false) ≡ false
    nothing true = refl
    nothing false = refl

kind_first : (signals : List SignalKind) (b signal point place : ℕ) (found : Option SignalKind) (entries : List Entry)
    (rows : List Row) (n : ℕ) (e : Entry) → slice_get signals signal ≡ found
    → IsDistinct nat_eq (signal ∷ signals_of rows) → slice_get (cons_option (entry_of found b signal point) entries) n ≡ Some e
    → (IsDistinct nat_eq (signals_of rows) → (m : ℕ) → slice_get entries m ≡ Some e → IsFirst signals b entries rows m e)
    → IsFirst signals b (cons_option (entry_of found b signal point) entries) (record { signal = signal; place = place } ∷ rows) n e
kind_first signals b signal point place (Some (Buffered name level count)) entries rows n e is once there more =
    own_first signals b signal point place entries rows n e (subst IsBuffered (sym is) tt) once there
    (more (IsDistinct-tail nat_eq signal (signals_of rows) once))
kind_first signals b signal point place (Some (Direct name count)) entries rows n e is once there more = first_later
    signals b entries (record { signal = signal; place = place }) rows n e
    (more (IsDistinct-tail nat_eq signal (signals_of rows) once) n there)
kind_first signals b signal point place (Some (Combined name count answer)) entries rows n e is once there
    more = first_later signals b entries (record { signal = signal; place = place }) rows n e
    (more (IsDistinct-tail nat_eq signal (signals_of rows) once) n there)
kind_first signals b signal point place (Some (Answer name count combined)) entries rows n e is once there
    more = first_later signals b entries (record { signal = signal; place = place }) rows n e
    (more (IsDistinct-tail nat_eq signal (signals_of rows) once) n there)
kind_first signals b signal point place (Some (Outside name count)) entries rows n e is once there more = first_later
    signals b entries (record { signal = signal; place = place }) rows n e
    (more (IsDistinct-tail nat_eq signal (signals_of rows) once) n there)
kind_first signals b signal point place None entries rows n e is once there more = first_later signals b entries
    (record { signal = signal; place = place }) rows n e
    (more (IsDistinct-tail nat_eq signal (signals_of rows) once) n there)

found_first : (signals : List SignalKind) (b point place : ℕ) (found : Option ℕ) (entries : List Entry)
    (rows : List Row) (n : ℕ) (e : Entry) → IsDistinct nat_eq (signals_of (cons_option (row_at found place) rows))
    → slice_get (cons_option (entry_at signals found b point) entries) n ≡ Some e
    → (IsDistinct nat_eq (signals_of rows) → (m : ℕ) → slice_get entries m ≡ Some e
    → IsFirst signals b entries rows m e)
    → IsFirst signals b (cons_option (entry_at signals found b point) entries) (cons_option (row_at found place) rows) n e
found_first signals b point place None entries rows n e once there more = more once n there
found_first signals b point place (Some signal) entries rows n e once there more = kind_first signals b signal point
    place (slice_get signals signal) entries rows n e refl once there more

first_in : (signals : List SignalKind) (b place : ℕ) (body : List Stmt) (n : ℕ) (e : Entry)
    → IsDistinct nat_eq (signals_of (enters_from place body)) → slice_get (entries_in signals b body) n ≡ Some e
    → IsFirst signals b (entries_in signals b body) (enters_from place body) n e
unfolding enters_from
first_in signals b place [] n e once there = absurd (none-some e there)
first_in signals b place (s ∷ body) n e once there =
    found_first signals b s.point place (entered (out-StmtKind s.kind)) (entries_in signals b body)
    (enters_from (place + 1) body) n e once there (λ o m t. first_in signals b (place + 1) body m e o t)

-- all entries of a block are of that block
own_block : (signals : List SignalKind) (b : ℕ) (body : List Stmt) → AllByRecursion (λ (e : Entry). e.block ≡ b) (entries_in signals b body)
own_block signals b [] = tt
own_block signals b (s ∷ body) = by (entered (out-StmtKind s.kind)) (own_block signals b body)
  where
    of_kind : (signal : ℕ) (found : Option SignalKind) (entries : List Entry)
        → AllByRecursion (λ (e : Entry). e.block ≡ b) entries
        → AllByRecursion (λ (e : Entry). e.block ≡ b) (cons_option (entry_of found b signal s.point) entries)
    of_kind signal (Some (Buffered name level count)) entries all = (refl, all)
    of_kind signal (Some (Direct name count)) entries all = all
    of_kind signal (Some (Combined name count answer)) entries all = all
    of_kind signal (Some (Answer name count combined)) entries all = all
    of_kind signal (Some (Outside name count)) entries all = all
    of_kind signal None entries all = all

    by : (found : Option ℕ) → AllByRecursion (λ (e : Entry). e.block ≡ b) (entries_in signals b body)
        → AllByRecursion (λ (e : Entry). e.block ≡ b)
        (cons_option (entry_at signals found b s.point) (entries_in signals b body))
    by None all = all
    by (Some signal) all = of_kind signal (slice_get signals signal) (entries_in signals b body) all

-- ---- the entries of all blocks

record IsFound (signals : List SignalKind) (from : ℕ) (blocks : List Block) (entries : List Entry) (n : ℕ) (e : Entry) : Type 0 where
  pub ahead : ℕ
  pub owner : Block
  pub there : slice_get blocks ahead ≡ Some owner
  pub block : e.block ≡ from + ahead
  pub kind : IsBuffered (slice_get signals e.signal)
  pub first : position_or_len (is_entry e.block e.signal) entries ≡ n

other_block : (from block signal : ℕ) (entries : List Entry) → from < block
    → AllByRecursion (λ (e : Entry). e.block ≡ from) entries
    → AllByRecursion (λ (e : Entry). is_entry block signal e ≡ false) entries
other_block from block signal [] above all = tt
other_block from block signal (e ∷ entries) above all =
    let is = all.0 in
    let apart : nat_eq e.block block ≡ false = ne_eqb e.block block (λ same. omega (arith, above, is, same)) in
    (ap (λ t. t && nat_eq e.signal signal) apart, other_block from block signal entries above all.1)

found_in : (signals : List SignalKind) (from : ℕ) (blocks : List Block) (n : ℕ) (e : Entry)
    → ((i : ℕ) (k : Block) → slice_get blocks i ≡ Some k → IsDistinct nat_eq (signals_of (enters_from 0 k.body)))
    → slice_get (entries_from signals from blocks) n ≡ Some e
    → IsFound signals from blocks (entries_from signals from blocks) n e
unfolding entries_from
found_in signals from [] n e once there = absurd (none-some e there)
found_in signals from (k ∷ blocks) n e once there =
    let own = entries_in signals from k.body in
    let rest = entries_from signals (from + 1) blocks in
    ⊎_elim
    (λ within.
    let f = first_in signals from 0 k.body n e (once 0 k refl) (sym (slice_get-append_left own rest n within) ∙ there) in
    let whole : position_or_len (is_entry from e.signal) (own ++ rest) ≡ n = passes_front (is_entry from e.signal) own rest n f.first within in
    record {
      ahead = 0;
      owner = k;
      there = refl;
      block = f.block ∙ (let plain : from ≡ from + 0 = omega arith in plain);
      kind = f.kind;
      first = subst (λ b. position_or_len (is_entry b e.signal) (own ++ rest) ≡ n) (sym f.block) whole;
    })
    (λ past.
    let r = found_in signals (from + 1) blocks (n - length own) e (λ i l t. once (suc i) l t) (sym (slice_get-append_right own rest n past) ∙ there) in
    let at = r.block in
    let next : e.block ≡ from + suc r.ahead = omega (arith, at) in
    let none = other_block from e.block e.signal own (omega (arith, at)) (own_block signals from k.body) in
    record {
      ahead = suc r.ahead;
      owner = r.owner;
      there = r.there;
      block = next;
      kind = r.kind;
      first = passes_behind (is_entry e.block e.signal) own rest (n - length own) none r.first
          ∙ (let whole : length own + (n - length own) ≡ n = omega (arith, past) in whole);
    })
    (cases_lt n (length own))

-- an entry has a block and a buffered signal, and is the first of these
pub record HasNames (x : Exchange) (n : ℕ) (e : Entry) : Type 0 where
  pub owner : Block
  pub block : slice_get x.blocks e.block ≡ Some owner
  pub kind : IsBuffered (slice_get x.signals e.signal)
  pub first : position (is_entry e.block e.signal) x.entries ≡ Some n

pub entry_named : (x : Exchange) → IsExchange x → (n : ℕ) (e : Entry) → slice_get x.entries n ≡ Some e → HasNames x n e
entry_named x kept n e there =
    let listed : entries_from x.signals 0 x.blocks ≡ x.entries = sym kept.numbered.entries in
    let f = found_in x.signals 0 x.blocks n e (λ i k t. subst (λ rows. IsDistinct nat_eq (signals_of rows))
    (kept.blocks.each i k t).enters (kept.blocks.each i k t).enters_once) (ap (λ es. slice_get es n) listed ∙ there)
    in
    let at = f.block in
    let same : e.block ≡ f.ahead = omega (arith, at) in
    record {
      owner = f.owner;
      block = ap (slice_get x.blocks) same ∙ f.there;
      kind = f.kind;
      first = position_is (is_entry e.block e.signal) x.entries n e (ap (position_or_len (is_entry e.block e.signal)) (sym listed) ∙ f.first) there;
    }
