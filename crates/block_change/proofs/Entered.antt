-- No two entries of an exchange are of one block and one signal, and each is of a block and a
-- signal that are there.
use Rattle.std.proofs.Common.{◌≡◌, inl, inr, ℕ, zero, suc, ◌+◌, ◌<◌, ◌≤◌, Bool, true, false, ◌&&◌}
use Rattle.std.proofs.Common.{nat_eq, List, [], ◌∷◌, ◌++◌, length, map, position, Option, Some}
use Rattle.std.proofs.Common.{None, slice_get, refl, sym, ap, ◌∙◌, subst, arith}
use Rattle.std.specs.Prelude.{slice_index_or}
use Rattle.std.specs.List.{AllByRecursion, IsDistinct, cons_option}
use Rattle.std.proofs.lemmas.Bool.{cases_order, eq-eqb, eqb-true, ne_eqb, and_left, and_right}
use Rattle.std.proofs.lemmas.Bool.{and_parts, both_ways}
use Rattle.std.proofs.lemmas.List.Quantifiers.{position-Some}
use Rattle.std.proofs.lemmas.Option.{none-some, same_Some, slice_get-get_or}
use Rattle.plex_num.proofs.Lists.{all_append, all_at, all_from as every, some_at, all_weaker}
use Rattle.exchange_model.specs.declared.block.Block.{Block}
use Rattle.exchange_model.specs.declared.block.Enter.{Enter as Row}
use Rattle.exchange_model.specs.declared.entry.Entry.{Entry}
use Rattle.exchange_model.specs.declared.exchange.Exchange.{Exchange}
use Rattle.exchange_model.specs.declared.signal.SignalKind.{SignalKind}
use Rattle.exchange_model.specs.declared.signal.SignalKind.TheVariants.{Buffered, Direct, Combined}
use Rattle.exchange_model.specs.declared.signal.SignalKind.TheVariants.{Answer, Outside}
use Rattle.exchange_model.specs.declared.stmt.Stmt.{Stmt}
use Rattle.exchange_model.specs.declared.stmt.StmtKind.{out-StmtKind}
use Rattle.exchange_model.specs.Index.{is_entry}
use Rattle.exchange_model.specs.Kept.{IsExchange, entered, enters_from, entries_from, entries_in}
use Rattle.exchange_model.specs.Kept.{entry_at, entry_of, row_at}
use Rattle.block_change.proofs.Alike.{position_none}

-- two entries are of one block and one signal
abbrev same_place : Entry → Entry → Bool
same_place e f = is_entry e.block e.signal f

-- ## What an ENTER makes

-- nothing, or the entry of a signal that is there
record Makes (signals : List SignalKind) (b n point : ℕ) (e : Entry) : Type 0 where
  is : e ≡ record { block = b; signal = n; point = point }
  kind : SignalKind
  there : slice_get signals n ≡ Some kind

data Made (signals : List SignalKind) (b n point : ℕ) (o : Option Entry) : Type 0 where
  nothing : o ≡ None → Made signals b n point o
  one : (e : Entry) → o ≡ Some e → Makes signals b n point e → Made signals b n point o

made_of : (signals : List SignalKind) (b n point : ℕ) → Made signals b n point (entry_of (slice_get signals n) b n point)
made_of signals b n point = by (slice_get signals n) refl
  where
    by : (o : Option SignalKind) → slice_get signals n ≡ o → Made signals b n point (entry_of o b n point)
    by None at = nothing refl
    by (Some (Buffered name level count)) at = one (record { block = b; signal = n; point = point }) refl
        (record { is = refl; kind = Buffered name level count; there = at })
    by (Some (Direct name count)) at = nothing refl
    by (Some (Combined name count answer)) at = nothing refl
    by (Some (Answer name count combined)) at = nothing refl
    by (Some (Outside name count)) at = nothing refl

-- an entry of the block of this number, whose signal is there and has this property
record IsOf (signals : List SignalKind) (b : ℕ) (P : ℕ → Type 0) (e : Entry) : Type 0 where
  block : e.block ≡ b
  kind : SignalKind
  there : slice_get signals e.signal ≡ Some kind
  holds : P e.signal

made_is : (signals : List SignalKind) (b n point : ℕ) (P : ℕ → Type 0) (e : Entry) → P n → Makes signals b n point e → IsOf signals b P e
made_is signals b n point P e holds m = subst (IsOf signals b P) (sym m.is) (record { block = refl; kind = m.kind; there = m.there; holds = holds })

abbrev signals_of : List Row → List ℕ
signals_of rows = map (λ (r : Row). r.signal) rows

-- what holds of the signals of all ENTERs holds of those of all entries
entries_hold : (signals : List SignalKind) (b place : ℕ) (body : List Stmt) (P : ℕ → Type 0)
    → AllByRecursion P (signals_of (enters_from place body))
    → AllByRecursion (IsOf signals b P) (entries_in signals b body)
unfolding enters_from
entries_hold signals b place [] P all = tt
entries_hold signals b place (s ∷ rest) P all = by (entered (out-StmtKind s.kind)) all (entries_hold signals b (place + 1) rest P)
  where
    by : (o : Option ℕ) → AllByRecursion P (signals_of (cons_option (row_at o place) (enters_from (place + 1) rest)))
        → (AllByRecursion P (signals_of (enters_from (place + 1) rest))
        → AllByRecursion (IsOf signals b P) (entries_in signals b rest))
        → AllByRecursion (IsOf signals b P) (cons_option (entry_at signals o b s.point) (entries_in signals b rest))
    by None all more = more all
    by (Some n) all more = at (entry_of (slice_get signals n) b n s.point) (made_of signals b n s.point) (more all.1)
      where
        at : (o : Option Entry) → Made signals b n s.point o
            → AllByRecursion (IsOf signals b P) (entries_in signals b rest)
            → AllByRecursion (IsOf signals b P) (cons_option o (entries_in signals b rest))
        at o (nothing none) later = subst (λ p. AllByRecursion (IsOf signals b P) (cons_option p (entries_in signals b rest))) (sym none) later
        at o (one e some m) later = subst (λ p. AllByRecursion (IsOf signals b P)
            (cons_option p (entries_in signals b rest))) (sym some) (made_is signals b n s.point P e all.0 m, later)

-- ## Within a block

differ : (e f : Entry) (n : ℕ) → e.signal ≡ n → nat_eq n f.signal ≡ false → same_place e f ≡ false
differ e f n is other = and_right (nat_eq f.block e.block) (nat_eq f.signal e.signal)
    (ne_eqb f.signal e.signal (λ same. both_ways (nat_eq n f.signal) other (eq-eqb n f.signal (sym (same ∙ is)))))

apart_in : (signals : List SignalKind) (b place : ℕ) (body : List Stmt)
    → IsDistinct nat_eq (signals_of (enters_from place body)) → IsDistinct same_place (entries_in signals b body)
unfolding enters_from IsDistinct
apart_in signals b place [] apart = tt
apart_in signals b place (s ∷ rest) apart = by (entered (out-StmtKind s.kind)) apart (apart_in signals b (place + 1) rest)
  where
    by : (o : Option ℕ) → IsDistinct nat_eq (signals_of (cons_option (row_at o place) (enters_from (place + 1) rest)))
        → (IsDistinct nat_eq (signals_of (enters_from (place + 1) rest))
        → IsDistinct same_place (entries_in signals b rest))
        → IsDistinct same_place (cons_option (entry_at signals o b s.point) (entries_in signals b rest))
    by None apart more = more apart
    by (Some n) apart more = at (entry_of (slice_get signals n) b n s.point) (made_of signals b n s.point) (more apart.1)
      where
        at : (o : Option Entry) → Made signals b n s.point o → IsDistinct same_place (entries_in signals b rest)
            → IsDistinct same_place (cons_option o (entries_in signals b rest))
        at o (nothing none) later = subst (λ p. IsDistinct same_place (cons_option p (entries_in signals b rest))) (sym none) later
        at o (one e some m) later = subst (λ p. IsDistinct same_place (cons_option p (entries_in signals b rest))) (sym some) (
          all_weaker (IsOf signals b (λ q. nat_eq n q ≡ false)) (λ (f : Entry). same_place e f ≡ false) (entries_in signals b rest)
              (λ f o. differ e f n (ap (λ (d : Entry). d.signal) m.is) o.holds)
              (entries_hold signals b (place + 1) rest (λ q. nat_eq n q ≡ false) apart.0),
          later,
        )

-- ## In all blocks

record KeepsEnters (k : Block) : Type 0 where
  is : k.enters ≡ enters_from 0 k.body
  once : IsDistinct nat_eq (signals_of k.enters)

-- any signal
abbrev AnySignal : ℕ → Type 0
AnySignal n = Unit {0}

any_signals : (ns : List ℕ) → AllByRecursion AnySignal ns
any_signals [] = tt
any_signals (n ∷ ns) = (tt, any_signals ns)

-- an entry of one of the blocks from this one on, whose signal is there
record IsFrom (signals : List SignalKind) (start : ℕ) (blocks : List Block) (e : Entry) : Type 0 where
  late : start ≤ e.block
  early : e.block < start + length blocks
  kind : SignalKind
  there : slice_get signals e.signal ≡ Some kind

all_from : (signals : List SignalKind) (start : ℕ) (blocks : List Block) → AllByRecursion (IsFrom signals start blocks) (entries_from signals start blocks)
unfolding entries_from
all_from signals start [] = tt
all_from signals start (k ∷ rest) =
    all_append (IsFrom signals start (k ∷ rest)) (entries_in signals start k.body) (entries_from signals (start + 1) rest)
    (all_weaker (IsOf signals start AnySignal) (IsFrom signals start (k ∷ rest)) (entries_in signals start k.body)
    (λ e o. let block = o.block in record { late = omega (arith, block); early = omega (arith, block); kind = o.kind; there = o.there })
    (entries_hold signals start 0 k.body AnySignal (any_signals (signals_of (enters_from 0 k.body)))))
    (all_weaker (IsFrom signals (start + 1) rest) (IsFrom signals start (k ∷ rest)) (entries_from signals (start + 1) rest)
    (λ e f. let late = f.late in let early = f.early in record { late = omega (arith, late); early = omega (arith, early); kind = f.kind; there = f.there })
    (all_from signals (start + 1) rest))

distinct_both : (xs ys : List Entry) → IsDistinct same_place xs → IsDistinct same_place ys
    → AllByRecursion (λ (e : Entry). AllByRecursion (λ (f : Entry). same_place e f ≡ false) ys) xs
    → IsDistinct same_place (xs ++ ys)
unfolding IsDistinct
distinct_both [] ys left right cross = right
distinct_both (e ∷ xs) ys left right cross = (all_append (λ (f : Entry). same_place e f ≡ false) xs ys left.0 cross.0, distinct_both xs ys left.1 right cross.1)

apart_from : (signals : List SignalKind) (start : ℕ) (blocks : List Block) → AllByRecursion KeepsEnters blocks
    → IsDistinct same_place (entries_from signals start blocks)
unfolding entries_from IsDistinct
apart_from signals start [] keep = tt
apart_from signals start (k ∷ rest) keep =
    distinct_both (entries_in signals start k.body) (entries_from signals (start + 1) rest)
    (apart_in signals start 0 k.body (subst (λ rows. IsDistinct nat_eq (signals_of rows)) keep.0.is keep.0.once))
    (apart_from signals (start + 1) rest keep.1)
    (all_weaker (IsOf signals start AnySignal)
    (λ (e : Entry). AllByRecursion (λ (f : Entry). same_place e f ≡ false) (entries_from signals (start + 1) rest))
    (entries_in signals start k.body)
    (λ e o. all_weaker (IsFrom signals (start + 1) rest) (λ (f : Entry). same_place e f ≡ false) (entries_from signals (start + 1) rest)
    (λ f g. let late = g.late in let block = o.block in
    and_left (nat_eq f.block e.block) (nat_eq f.signal e.signal) (ne_eqb f.block e.block (λ same. absurd (omega (arith, late, block, same)))))
    (all_from signals (start + 1) rest))
    (entries_hold signals start 0 k.body AnySignal (any_signals (signals_of (enters_from 0 k.body)))))

keeps_enters : (x : Exchange) → IsExchange x → AllByRecursion KeepsEnters x.blocks
keeps_enters x kept = every KeepsEnters x.blocks (λ b k at. let block = kept.blocks.each b k at in record { is = block.enters; once = block.enters_once })

distinct_at : (xs : List Entry) (i j : ℕ) (a b : Entry) → IsDistinct same_place xs → slice_get xs i ≡ Some a
    → slice_get xs j ≡ Some b → i < j → same_place a b ≡ false
unfolding IsDistinct
distinct_at [] i j a b apart at at2 lt = absurd (none-some a at)
distinct_at (e ∷ xs) zero zero a b apart at at2 lt = absurd (omega (arith, lt))
distinct_at (e ∷ xs) zero (suc j) a b apart at at2 lt = subst (λ (d : Entry). same_place d b ≡ false) (same_Some e a at)
    (all_at (λ (f : Entry). same_place e f ≡ false) xs j b apart.0 at2)
distinct_at (e ∷ xs) (suc i) zero a b apart at at2 lt = absurd (omega (arith, lt))
distinct_at (e ∷ xs) (suc i) (suc j) a b apart at at2 lt = distinct_at xs i j a b apart.1 at at2 (omega (arith, lt))

same_turned : (e f : Entry) → same_place e f ≡ true → same_place f e ≡ true
same_turned e f is =
    let parts = and_parts (nat_eq f.block e.block) (nat_eq f.signal e.signal) is in
    let block : nat_eq e.block f.block ≡ true = eq-eqb e.block f.block (sym (eqb-true f.block e.block parts.0)) in
    ap (λ c. c && nat_eq e.signal f.signal) block ∙ eq-eqb e.signal f.signal (sym (eqb-true f.signal e.signal parts.1))

same_itself : (e : Entry) → same_place e e ≡ true
same_itself e = ap (λ c. c && nat_eq e.signal e.signal) (eq-eqb e.block e.block refl) ∙ eq-eqb e.signal e.signal refl

-- the entry of a block and a signal is the only one
pub entry_once : (x : Exchange) → IsExchange x → (e : ℕ) (r : Entry) → slice_get x.entries e ≡ Some r → position (is_entry r.block r.signal) x.entries ≡ Some e
entry_once x kept e r at = by (position (is_entry r.block r.signal) x.entries) refl
  where
    apart : IsDistinct same_place x.entries
    apart = subst (IsDistinct same_place) (sym kept.numbered.entries) (apart_from x.signals 0 x.blocks (keeps_enters x kept))

    by : (o : Option ℕ) → position (is_entry r.block r.signal) x.entries ≡ o → o ≡ Some e
    by None is = absurd (both_ways (same_place r r) (position_none (is_entry r.block r.signal) x.entries is e r at) (same_itself r))
    by (Some i) is =
        let first = position-Some (is_entry r.block r.signal) x.entries i r is in
        let there = slice_get-get_or x.entries i r first.0 in
        elim (cases_order i e) [
          | inl same ↦ ap Some same
          | inr (inl before) ↦ absurd (both_ways (same_place (slice_index_or x.entries i r) r)
              (distinct_at x.entries i e (slice_index_or x.entries i r) r apart there at before)
              (same_turned r (slice_index_or x.entries i r) first.1))
          | inr (inr after) ↦ absurd (both_ways (same_place r (slice_index_or x.entries i r))
              (distinct_at x.entries e i r (slice_index_or x.entries i r) apart at there after) first.1)
        ]

-- its block and its signal are there
pub record IsKnown (x : Exchange) (r : Entry) : Type 0 where
  pub block : Block
  pub block_there : slice_get x.blocks r.block ≡ Some block
  pub kind : SignalKind
  pub kind_there : slice_get x.signals r.signal ≡ Some kind

pub entry_known : (x : Exchange) → IsExchange x → (e : ℕ) (r : Entry) → slice_get x.entries e ≡ Some r → IsKnown x r
entry_known x kept e r at =
    let all = subst (AllByRecursion (IsFrom x.signals 0 x.blocks)) (sym kept.numbered.entries) (all_from x.signals 0 x.blocks) in
    let f = all_at (IsFrom x.signals 0 x.blocks) x.entries e r all at in
    let early = f.early in
    let k = some_at x.blocks r.block (omega (arith, early)) in
    record { block = k.0; block_there = k.1; kind = f.kind; kind_there = f.there }
