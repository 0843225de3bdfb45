-- A block that receives a buffered signal has an entry for it.
use Rattle.std.proofs.Common.{◌≡◌, ◌⊎◌, inl, inr, ⊎_elim, ℕ, zero, suc, ◌+◌, ◌<◌, Bool, true, false}
use Rattle.std.proofs.Common.{List, [], ◌∷◌, map, length, Option, Some, None, refl, sym, ap, ◌∙◌}
use Rattle.std.proofs.Common.{subst, slice_get, arith}
use Rattle.std.proofs.lemmas.Bool.{eqb-true, eq-eqb, lt-ltb, and_parts, or_cases, or_left, or_right}
use Rattle.std.proofs.lemmas.List.Folds.{list_any-append}
use Rattle.std.proofs.lemmas.Option.{none-some, same_Some}
use Rattle.std.specs.Prelude.{nat_eq, not, ◌&&◌, ◌||◌, position, unwrap_or, if◌then◌else◌}
use Rattle.std.specs.List.{Contains, list_any, cons_option, position_or_len}
use Rattle.plex_num.specs.declared.level.Level.{Level}
use Rattle.exchange_model.specs.declared.exchange.Exchange.{Exchange}
use Rattle.exchange_model.specs.declared.block.Block.{Block}
use Rattle.exchange_model.specs.declared.block.Enter.{Enter as Row}
use Rattle.exchange_model.specs.declared.entry.Entry.{Entry}
use Rattle.exchange_model.specs.declared.signal.SignalKind.{SignalKind}
use Rattle.exchange_model.specs.declared.signal.SignalKind.TheVariants.{Buffered}
use Rattle.exchange_model.specs.declared.stmt.Stmt.{Stmt}
use Rattle.exchange_model.specs.declared.stmt.StmtKind.{out-StmtKind}
use Rattle.exchange_model.specs.Kept.{IsExchange, entered, row_at, enters_from, entry_of, entry_at}
use Rattle.exchange_model.specs.Kept.{entries_in, entries_from}
use Rattle.source_meaning.specs.Config.{is_receiver, is_entry, entry_number}

-- the first that passes

record IsFirst {X : Type 0} (p : X → Bool) (xs : List X) : Type 0 where
  item : X
  there : slice_get xs (position_or_len p xs) ≡ Some item
  passes : p item ≡ true
  within : position_or_len p xs < length xs

first_passes : {X : Type 0} (p : X → Bool) (xs : List X) → list_any p xs ≡ true → IsFirst p xs
first_passes p [] h = cc
first_passes {X} p (x ∷ xs) h = by (p x) refl h (first_passes p xs)
  where
    by : (b : Bool) → p x ≡ b → (b || list_any p xs) ≡ true → (list_any p xs ≡ true → IsFirst p xs) → IsFirst p (x ∷ xs)
    by true is any more =
        let at : position_or_len p (x ∷ xs) ≡ 0 = ap (λ b. if not b then 1 + position_or_len p xs else 0) is in
        record { item = x; there = ap (slice_get (x ∷ xs)) at; passes = is; within = omega (arith, at) }
    by false is any more =
        let r = more any in
        let at : position_or_len p (x ∷ xs) ≡ 1 + position_or_len p xs = ap (λ b. if not b then 1 + position_or_len p xs else 0) is in
        let next : position_or_len p (x ∷ xs) ≡ suc (position_or_len p xs) = omega (arith, at) in
        record { item = r.item; there = ap (slice_get (x ∷ xs)) next ∙ r.there; passes = r.passes; within = omega (arith, r.within, at) }

position_is : {X : Type 0} (p : X → Bool) (xs : List X) → position_or_len p xs < length xs → position p xs ≡ Some (position_or_len p xs)
position_is p xs lt = ap (λ b. if b then Some (position_or_len p xs) else None) (lt-ltb (position_or_len p xs) (length xs) lt)

-- the ENTERs of a body

abbrev HasEnter : List Stmt → ℕ → Type 0
HasEnter [] signal = ⊥
HasEnter (s ∷ rest) signal = (entered (out-StmtKind s.kind) ≡ Some signal) ⊎ HasEnter rest signal

abbrev of_signal : ℕ → Row → Bool
of_signal signal r = nat_eq r.signal signal

has_enter : (place : ℕ) (body : List Stmt) (signal : ℕ) → list_any (of_signal signal) (enters_from place body) ≡ true → HasEnter body signal
unfolding enters_from
has_enter place [] signal h = cc
has_enter place (s ∷ rest) signal h = by (entered (out-StmtKind s.kind)) refl h (has_enter (place + 1) rest signal)
  where
    by : (found : Option ℕ) → entered (out-StmtKind s.kind) ≡ found
        → list_any (of_signal signal) (cons_option (row_at found place) (enters_from (place + 1) rest)) ≡ true
        → (list_any (of_signal signal) (enters_from (place + 1) rest) ≡ true → HasEnter rest signal) → HasEnter (s ∷ rest) signal
    by None is any more = inr (more any)
    by (Some n) is any more = ⊎_elim (λ here. inl (is ∙ ap Some (eqb-true n signal here))) (λ later. inr (more later))
        (or_cases (nat_eq n signal) (list_any (of_signal signal) (enters_from (place + 1) rest)) any)

-- the entries of blocks

own_entry : (b signal point : ℕ) → is_entry b signal (record { block = b; signal = signal; point = point }) ≡ true
own_entry b signal point = ap (λ c. c && nat_eq signal signal) (eq-eqb b b refl) ∙ eq-eqb signal signal refl

body_entry : (signals : List SignalKind) (b : ℕ) (body : List Stmt) (signal : ℕ) (name : List ℕ) (level : Level)
    (count : ℕ) → slice_get signals signal ≡ Some (Buffered name level count) → HasEnter body signal
    → list_any (is_entry b signal) (entries_in signals b body) ≡ true
body_entry signals b [] signal name level count kind h = absurd h
body_entry signals b (s ∷ rest) signal name level count kind (inl here) =
    let at : entry_at signals (entered (out-StmtKind s.kind)) b s.point ≡ Some (record { block = b; signal = signal; point = s.point }) =
    ap (λ o. entry_at signals o b s.point) here ∙ ap (λ o. entry_of o b signal s.point) kind in
    ap (λ o. list_any (is_entry b signal) (cons_option o (entries_in signals b rest))) at
    ∙ or_left (is_entry b signal (record { block = b; signal = signal; point = s.point }))
    (list_any (is_entry b signal) (entries_in signals b rest)) (own_entry b signal s.point)
body_entry signals b (s ∷ rest) signal name level count kind (inr later) = by
    (entry_at signals (entered (out-StmtKind s.kind)) b s.point)
    (body_entry signals b rest signal name level count kind later)
  where
    by : (o : Option Entry) → list_any (is_entry b signal) (entries_in signals b rest) ≡ true
        → list_any (is_entry b signal) (cons_option o (entries_in signals b rest)) ≡ true
    by None more = more
    by (Some e) more = or_right (is_entry b signal e) (list_any (is_entry b signal) (entries_in signals b rest)) more

block_entry : (signals : List SignalKind) (from : ℕ) (blocks : List Block) (i b signal : ℕ) (k : Block)
    → slice_get blocks i ≡ Some k → b ≡ from + i → list_any (is_entry b signal) (entries_in signals b k.body) ≡ true
    → list_any (is_entry b signal) (entries_from signals from blocks) ≡ true
unfolding entries_from
block_entry signals from [] i b signal k there is h = absurd (none-some k there)
block_entry signals from (l ∷ blocks) zero b signal k there is h =
    let same : l ≡ k = same_Some l k there in
    let at : b ≡ from = omega arith in
    let here : list_any (is_entry b signal) (entries_in signals from l.body)
    ≡ true = subst (λ (z : Block). list_any (is_entry b signal) (entries_in signals from z.body) ≡ true) (sym same)
    (subst (λ n. list_any (is_entry b signal) (entries_in signals n k.body) ≡ true) at h) in
    list_any-append (is_entry b signal) (entries_in signals from l.body) (entries_from signals (from + 1) blocks)
    ∙ or_left (list_any (is_entry b signal) (entries_in signals from l.body)) (list_any (is_entry b signal) (entries_from signals (from + 1) blocks)) here
block_entry signals from (l ∷ blocks) (suc i) b signal k there is h =
    list_any-append (is_entry b signal) (entries_in signals from l.body) (entries_from signals (from + 1) blocks)
    ∙ or_right (list_any (is_entry b signal) (entries_in signals from l.body))
    (list_any (is_entry b signal) (entries_from signals (from + 1) blocks))
    (block_entry signals (from + 1) blocks i b signal k there (omega arith) h)

-- the entry of a buffered signal at a block that receives it
pub record IsEntryOf (x : Exchange) (b signal : ℕ) : Type 0 where
  pub entry : Entry
  pub there : slice_get x.entries (entry_number x b signal) ≡ Some entry
  pub within : entry_number x b signal < length x.entries
  pub signal_is : entry.signal ≡ signal

pub entry_found : (x : Exchange) → IsExchange x → (b signal : ℕ) (k : Block) (name : List ℕ) (level : Level) (count : ℕ)
    → slice_get x.blocks b ≡ Some k → is_receiver signal k ≡ true
    → slice_get x.signals signal ≡ Some (Buffered name level count)
    → IsEntryOf x b signal
entry_found x kept b signal k name level count there receives kind =
    let enters : list_any (of_signal signal) (enters_from 0 k.body)
    ≡ true = subst (λ rs. list_any (of_signal signal) rs ≡ true) (kept.blocks.each b k there).enters receives in
    let none : b ≡ 0 + b = omega arith in
    let some = block_entry x.signals 0 x.blocks b b signal k there none
    (body_entry x.signals b k.body signal name level count kind (has_enter 0 k.body signal enters)) in
    let any : list_any (is_entry b signal) x.entries ≡ true = ap (list_any (is_entry b signal)) kept.numbered.entries ∙ some in
    let f = first_passes (is_entry b signal) x.entries any in
    let at : entry_number x b signal ≡ position_or_len (is_entry b signal) x.entries =
    ap (λ o. unwrap_or o 0) (position_is (is_entry b signal) x.entries f.within) in
    let both = and_parts (nat_eq f.item.block b) (nat_eq f.item.signal signal) f.passes in
    record {
      entry = f.item;
      there = ap (slice_get x.entries) at ∙ f.there;
      within = omega (arith, at, f.within);
      signal_is = eqb-true f.item.signal signal both.1;
    }

-- a block whose ENTERs have the signal receives it
pub receives_test : (signal : ℕ) (rows : List Row) → Contains (map (λ (r : Row). r.signal) rows) signal → list_any (of_signal signal) rows ≡ true
receives_test signal [] h = absurd (let lt = h.1 in omega arith)
receives_test signal (r ∷ rows) (zero, lt, is) = or_left (nat_eq r.signal signal) (list_any (of_signal signal) rows) (eq-eqb r.signal signal is)
receives_test signal (r ∷ rows) (suc i, lt, is) = or_right (nat_eq r.signal signal) (list_any (of_signal signal) rows)
    (receives_test signal rows (i, (let h = lt in omega arith), is))
