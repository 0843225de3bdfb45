-- What a job sends fits: it goes to an entry of a block that receives it, with as many values as
-- its signal has.
use Rattle.std.proofs.Common.{◌≡◌, ℕ, zero, suc, ◌+◌, Bool, true, false, List, [], ◌∷◌, ◌++◌}
use Rattle.std.proofs.Common.{length, Option, Some, None, refl, sym, ap, ◌∙◌, subst, slice_get}
use Rattle.std.proofs.Common.{arith, length-append}
use Rattle.std.specs.Prelude.{Ok, if◌then◌else◌}
use Rattle.std.specs.List.{AllByRecursion, Contains}
use Rattle.std.specs.Option.{option_map_or}
use Rattle.plex_num.specs.declared.level.Level.{Level}
use Rattle.plex_num.specs.declared.level.Level.TheVariants.{B}
use Rattle.job_types.specs.declared.outbox.SendTo.{SendTo}
use Rattle.exchange_model.specs.declared.exchange.Exchange.{Exchange}
use Rattle.exchange_model.specs.declared.block.Block.{Block}
use Rattle.exchange_model.specs.declared.entry.Entry.{Entry}
use Rattle.exchange_model.specs.declared.expr.Expr.{Expr}
use Rattle.exchange_model.specs.declared.signal.SignalKind.{SignalKind}
use Rattle.exchange_model.specs.declared.signal.SignalKind.TheVariants.{Buffered}
use Rattle.exchange_model.specs.declared.stmt.Receiver.{Receiver}
use Rattle.exchange_model.specs.declared.stmt.StmtKind.TheOpen as stmt
use Rattle.exchange_model.specs.Fits.{Scope, Reaches, SendFits}
use Rattle.exchange_model.specs.Kept.{IsExchange, scope_of, signal_count}
use Rattle.exchange_model.specs.Names.{level_of, signal_level}
use Rattle.source_meaning.specs.Config.{Item, Config, is_receiver, receiver_of, sight, entry_number}
use Rattle.source_meaning.specs.Deeds.{Deed, GoesTo, out, named, held, IsPosting, to_queue}
use Rattle.source_meaning.specs.Deeds.{to_outside}
use Rattle.source_meaning.specs.Rests.{DeedStands}
use Rattle.source_meaning.specs.Ranges.{SentFits}
use Rattle.source_meaning.specs.Valid.{IsWord, IsOutside, entry_count}
use Rattle.source_meaning.specs.Value.{Got, Gives, Fails, Sight, expr_value, answer_of, and_then}
use Rattle.source_meaning.specs.Value.{values_of}
use Rattle.source_meaning.proofs.Entries.{entry_found, receives_test}
use Rattle.source_meaning.proofs.Fitting.{deed_fits_in}
use Rattle.plex_num.proofs.Lists.{all_append}
use Rattle.plex_num.proofs.Options.{same_Ok}
use Rattle.source_meaning.proofs.WordValues.{GotWord}
use Rattle.plex_num.proofs.Members.{first_is, later_is}

-- values

pub values_words : (es : List Expr) (vs ws : List ℕ) (s : Sight)
    → ((e : Expr) → Contains es e → GotWord (expr_value e s)) → AllByRecursion IsWord vs → values_of es vs s ≡ Ok ws
    → AllByRecursion IsWord ws
values_words [] vs ws s words before is = subst (AllByRecursion IsWord) (same_Ok vs ws is) before
values_words (e ∷ es) vs ws s words before is = by (expr_value e s) (words e (first_is e es)) is
    (λ v small. values_words es (vs ++ v ∷ []) ws s (λ f at. words f (later_is e f es at))
    (all_append IsWord vs (v ∷ []) before (small, tt)))
  where
    by : (got : Got) → GotWord got → and_then (answer_of got) (λ v. values_of es (vs ++ v ∷ []) s) ≡ Ok ws
        → ((v : ℕ) → IsWord v → values_of es (vs ++ v ∷ []) s ≡ Ok ws → AllByRecursion IsWord ws)
        → AllByRecursion IsWord ws
    by (Gives loads v) small at more = more v small at
    by (Fails loads f) small at more = cc

pub values_long : (es : List Expr) (vs ws : List ℕ) (s : Sight) → values_of es vs s ≡ Ok ws → length ws ≡ length vs + length es
values_long [] vs ws s is = let same = same_Ok vs ws is in let long : length vs ≡ length ws = ap length same in omega arith
values_long (e ∷ es) vs ws s is = by (expr_value e s) is (λ v. values_long es (vs ++ v ∷ []) ws s)
  where
    by : (got : Got) → and_then (answer_of got) (λ v. values_of es (vs ++ v ∷ []) s) ≡ Ok ws
        → ((v : ℕ) → values_of es (vs ++ v ∷ []) s ≡ Ok ws → length ws ≡ length (vs ++ v ∷ []) + length es)
        → length ws ≡ length vs + length (e ∷ es)
    by (Gives loads v) at more = let long = more v at in let one = length-append vs (v ∷ []) in omega arith
    by (Fails loads f) at more = cc

-- receivers

pub record IsReceiving (x : Exchange) (b signal : ℕ) : Type 0 where
  pub block : Block
  pub there : slice_get x.blocks b ≡ Some block
  pub receives : is_receiver signal block ≡ true

-- the block that a reference names
held_receives : (x : Exchange) (signal v b : ℕ) → receiver_of x signal v ≡ Some b → IsReceiving x b signal
held_receives x signal zero b is = cc
held_receives x signal (suc n) b is = by (slice_get x.blocks n) refl is
  where
    some_is : (i j : ℕ) → Some i ≡ Some j → i ≡ j
    some_is i j e = cc

    test : (k : Block) (t : Bool) → slice_get x.blocks n ≡ Some k → is_receiver signal k ≡ t → (if t then Some n else None) ≡ Some b → IsReceiving x b signal
    test k true there receives at = record { block = k; there = subst (λ i. slice_get x.blocks i ≡ Some k) (some_is n b at) there; receives = receives }
    test k false there receives at = cc

    by : (found : Option Block) → slice_get x.blocks n ≡ found
        → (if option_map_or (is_receiver signal) found false then Some n else None) ≡ Some b → IsReceiving x b signal
    by None there at = cc
    by (Some k) there at = test k (is_receiver signal k) there refl at

pub goes_to_receives : (x : Exchange) (own : ℕ) (k : Block) (c : Config) (signal : ℕ) (to : Option Receiver) (b : ℕ)
    → Reaches (scope_of x own k) to signal → GoesTo x c signal to b → IsReceiving x b signal
goes_to_receives x own k c signal to b reaches out = absurd reaches
goes_to_receives x own k c signal to b reaches (named n) = let r = reaches.0 in record
    { block = r.receiver; there = r.there; receives = receives_test signal r.receiver.enters r.enters }
goes_to_receives x own k c signal to b reaches (held h v n is at) = held_receives x signal v n at

-- a signal of this kind
pub send_fits_as : (s : Scope) (signal : ℕ) (to : Option Receiver) (values : ℕ) (fresh : Bool) (kind : SignalKind)
    → slice_get s.signals signal ≡ Some kind → SendFits s (slice_get s.signals signal) signal to values fresh
    → SendFits s (Some kind) signal to values fresh
send_fits_as s signal to values fresh kind is h = subst (λ k. SendFits s k signal to values fresh) is h

module _ (x : Exchange) (kept : IsExchange x) where
  level_is : (n signal : ℕ) (e : Entry) (name : List ℕ) (level : Level) (count : ℕ) → slice_get x.entries n ≡ Some e
      → e.signal ≡ signal → slice_get x.signals signal ≡ Some (Buffered name level count) → level ≡ level_of x n
  level_is n signal e name level count there same kind =
      sym (ap (λ o. option_map_or (λ (e : Entry). signal_level (slice_get x.signals e.signal)) o B) there
      ∙ ap (λ i. signal_level (slice_get x.signals i)) same ∙ ap signal_level kind)

  count_is : (n signal : ℕ) (e : Entry) (name : List ℕ) (level : Level) (count : ℕ) → slice_get x.entries n ≡ Some e
      → e.signal ≡ signal → slice_get x.signals signal ≡ Some (Buffered name level count) → count ≡ entry_count x n
  count_is n signal e name level count there same kind =
      sym (ap (λ o. option_map_or (λ (e : Entry). option_map_or signal_count (slice_get x.signals e.signal) 0) o 0) there
      ∙ ap (λ i. option_map_or signal_count (slice_get x.signals i) 0) same ∙ ap (λ o. option_map_or signal_count o 0) kind)

  pub posting_fits : (c : Config) (deed : Deed) (rest : List Item) (to : SendTo) (vs : List ℕ)
      → DeedStands x c.block deed rest → IsPosting x c deed to vs → AllByRecursion IsWord vs → SentFits x to vs
  posting_fits c deed rest to vs h (to_queue p signal at values fresh name level count b ws kind sending) words =
      let f = deed_fits_in x kept c.block p (stmt.Send signal at values fresh) rest h in
      let scope = scope_of x c.block f.block in
      let sent = send_fits_as scope signal at (length values) fresh (Buffered name level count) kind f.fits.names in
      let r = goes_to_receives x c.block f.block c signal at b sent.1 sending.receiver in
      let e = entry_found x kept b signal r.block name level count r.there r.receives kind in
      let n = entry_number x b signal in
      let long : length ws ≡ length {A = ℕ} [] + length values = values_long values [] ws (sight x c) sending.given in
      let many : length ws ≡ count = omega (arith, long, sent.0) in
      record {
        entry = e.within;
        level = level_is n signal e.entry name level count e.there e.signal_is kind;
        values = many ∙ count_is n signal e.entry name level count e.there e.signal_is kind;
        words = words;
      }
  posting_fits c deed rest to vs h (to_outside p signal at values fresh name count b ws kind sending) words = (subst IsOutside (sym kind) tt, words)
