-- What is in range when a job begins stays in range.
use Rattle.std.proofs.Common.{◌≡◌, ℕ, zero, suc, ◌+◌, ◌-◌, ◌<◌, ◌^◌, Bool, true, false, List, []}
use Rattle.std.proofs.Common.{◌∷◌, ◌++◌, map, drop, length, Some, refl, ap, ◌∙◌, subst, slice_get}
use Rattle.std.proofs.Common.{arith}
use Rattle.std.specs.Prelude.{replicate, take, slice_index, slice_set, Ok, if◌then◌else◌}
use Rattle.std.specs.List.{AllByRecursion, Contains}
use Rattle.std.specs.Option.{option_map_or}
use Rattle.plex_limits.specs.declared.limits.TheConstants.{MOST_TEMPORARIES, MOST_VALUES}
use Rattle.job_types.specs.declared.outbox.SendTo.{SendTo}
use Rattle.job_types.specs.Own.{eight}
use Rattle.exchange_model.specs.declared.exchange.Exchange.{Exchange}
use Rattle.exchange_model.specs.declared.block.Block.{Block}
use Rattle.exchange_model.specs.declared.block.Variable.{Variable}
use Rattle.exchange_model.specs.declared.expr.Expr.{Expr}
use Rattle.exchange_model.specs.declared.stmt.Stmt.{Stmt}
use Rattle.exchange_model.specs.declared.stmt.StmtKind.{out-StmtKind}
use Rattle.exchange_model.specs.declared.stmt.StmtKind.TheOpen as stmt
use Rattle.exchange_model.specs.Cells.{Placed}
use Rattle.exchange_model.specs.Kept.{IsExchange}
use Rattle.exchange_model.proofs.Facts.{file_kept}
use Rattle.source_meaning.specs.Config.{Item, Do, Start, Turns, Config, body_of, enter_place}
use Rattle.source_meaning.specs.Config.{label_of, from_place, from_signal, starting, base_of}
use Rattle.source_meaning.specs.Config.{files_of, sight, blank, next_counted}
use Rattle.exchange_model.specs.Kept.{is_enter}
use Rattle.source_meaning.specs.Changes.{takes, variable_width, field_width, value_count}
use Rattle.source_meaning.specs.Deeds.{Deed, Doing, deed_of, IsExprOf, IsValueOf, IsRecordOf}
use Rattle.source_meaning.specs.Deeds.{GoesOn, with_value, to_label, to_branch, to_loop, to_turn}
use Rattle.source_meaning.specs.Deeds.{with_found, with_seized, with_answers, with_given, IsPosting}
use Rattle.source_meaning.specs.Deeds.{to_queue, to_outside, IsBeginning, by_send, by_transfer}
use Rattle.source_meaning.specs.Deeds.{IsAsking, by_combined}
use Rattle.source_meaning.specs.Effects.{Effect, Looks, PutsVariable, PutsField, Seizes, Frees}
use Rattle.source_meaning.specs.Effects.{Goes, Posts}
use Rattle.source_meaning.specs.Ranges.{IsTurnWord, IsLastWord, IsInRange}
use Rattle.source_meaning.specs.Rests.{DeedStands}
use Rattle.source_meaning.specs.Valid.{IsWord, StoreFits}
use Rattle.source_meaning.specs.Value.{expr_value, values_of}
use Rattle.source_meaning.proofs.Fitting.{deed_fits_in}
use Rattle.plex_num.proofs.Lists.{some_at, all_append}
use Rattle.source_meaning.proofs.Sending.{values_words}
use Rattle.source_meaning.proofs.Stores.{put_variable, put_field, put_mark, opens_fit}
use Rattle.source_meaning.proofs.Touching.{pointer_within, field_of, forlopp_of, deed_expr}
use Rattle.source_meaning.proofs.WordValues.{GotWord, word_at, words_set, small_0, expr_word}

-- lists of numbers of 32 bits

words_replicate : (n : ℕ) → AllByRecursion IsWord (replicate n 0)
words_replicate zero = tt
words_replicate (suc n) = (small_0, words_replicate n)

words_take : (n : ℕ) (vs : List ℕ) → AllByRecursion IsWord vs → AllByRecursion IsWord (take n vs)
words_take zero vs all = tt
words_take (suc n) [] all = tt
words_take (suc n) (v ∷ vs) all = (all.0, words_take n vs all.1)

pub words_eight : (vs : List ℕ) → AllByRecursion IsWord vs → AllByRecursion IsWord (eight vs)
words_eight vs all = all_append IsWord vs (replicate (MOST_VALUES - length vs) 0) all (words_replicate (MOST_VALUES - length vs))

pub words_blank : AllByRecursion IsWord blank
words_blank = words_replicate MOST_TEMPORARIES

words_takes : (k : ℕ) (ts values temps : List ℕ) → AllByRecursion IsWord values → AllByRecursion IsWord temps → AllByRecursion IsWord (takes k ts values temps)
words_takes k [] values temps vs all = all
words_takes k (t ∷ ts) values temps vs all = words_takes (k + 1) ts values (slice_set temps t (slice_index values k)) vs
    (words_set temps t (slice_index values k) (word_at values k vs) all)

-- the last turns of what remains

turns_text : (list : List Stmt) (rest : List Item) → AllByRecursion IsTurnWord rest → AllByRecursion IsTurnWord (map Do list ++ rest)
turns_text [] rest all = all
turns_text (s ∷ list) rest all = (tt, turns_text list rest all)

turns_alone : (list : List Stmt) → AllByRecursion IsTurnWord (map Do list)
turns_alone [] = tt
turns_alone (s ∷ list) = (tt, turns_alone list)

turns_place : (x : Exchange) (b place : ℕ) → AllByRecursion IsTurnWord (from_place x b place)
turns_place x b place = turns_alone (drop place (body_of x b))

turns_starting : (list : List Stmt) → AllByRecursion IsTurnWord (starting list)
turns_starting [] = tt
turns_starting (s ∷ list) = by (is_enter (out-StmtKind s.kind))
  where
    by : (e : Bool) → AllByRecursion IsTurnWord (if e then Start s ∷ map Do list else [])
    by true = (tt, turns_alone list)
    by false = tt

pub turns_signal : (x : Exchange) (b signal : ℕ) → AllByRecursion IsTurnWord (from_signal x b signal)
turns_signal x b signal = turns_starting (drop (enter_place x b signal) (body_of x b))

pub turns_counted : (todo : List Item) → AllByRecursion IsTurnWord todo → AllByRecursion IsTurnWord (next_counted todo)
unfolding next_counted
turns_counted [] all = tt
turns_counted (Do s ∷ rest) all = by (is_enter (out-StmtKind s.kind)) (turns_counted rest all.1)
  where
    by : (e : Bool) → AllByRecursion IsTurnWord (next_counted rest) → AllByRecursion IsTurnWord (if e then next_counted rest else Do s ∷ rest)
    by true past = past
    by false past = all
turns_counted (Start s ∷ rest) all = all
turns_counted (Turns p temp this end body ∷ rest) all = by _ (turns_counted rest all.1)
  where
    by : (e : Bool) → AllByRecursion IsTurnWord (next_counted rest)
        → AllByRecursion IsTurnWord (if e then next_counted rest else Turns p temp this end body ∷ rest)
    by true past = past
    by false past = all

-- of what is counted: the last turn, and those of what remains
abbrev pub TurnsAfter : Deed → List Item → Type 0
TurnsAfter deed rest = IsLastWord deed × AllByRecursion IsTurnWord rest

pub item_turns : (i : Item) (rest : List Item) → AllByRecursion IsTurnWord (i ∷ rest) → TurnsAfter (deed_of i) rest
item_turns (Do s) rest all = (tt, all.1)
item_turns (Start s) rest all = (tt, all.1)
item_turns (Turns p temp this end body) rest all = all

module _ (x : Exchange) (kept : IsExchange x) where
  -- values of what is counted

  expr_small : (c : Config) (deed : Deed) (rest : List Item) (e : Expr) → DeedStands x c.block deed rest → IsInRange x c
      → IsExprOf deed e → GotWord (expr_value e (sight x c))
  expr_small c deed rest e at h of =
      let f = deed_expr x kept c.block deed rest e at of in
      expr_word x kept c.block f.block f.there (sight x c) h.temps h.store refl refl e f.fits

  value_small : (c : Config) (deed : Deed) (rest : List Item) (e : Expr) (v : ℕ) → DeedStands x c.block deed rest
      → IsInRange x c → IsExprOf deed e → IsValueOf x c e v → IsWord v
  value_small c deed rest e v at h of is = subst GotWord is.is (expr_small c deed rest e at h of)

  pub values_small : (c : Config) (deed : Deed) (rest : List Item) (es : List Expr) (vs : List ℕ)
      → DeedStands x c.block deed rest → IsInRange x c → ((e : Expr) → Contains es e → IsExprOf deed e)
      → values_of es [] (sight x c) ≡ Ok vs → AllByRecursion IsWord vs
  values_small c deed rest es vs at h of is = values_words es [] vs (sight x c) (λ e there. expr_small c deed rest e at h (of e there)) tt is

  record_small : (file number : ℕ) (p : Placed) → IsRecordOf x file number p → IsWord number
  unfolding files_of
  record_small file number p rec = let few = (file_kept x kept file p rec.there).few in let lt = rec.within in omega arith

  pub posting_small : (c : Config) (deed : Deed) (rest : List Item) (to : SendTo) (vs : List ℕ)
      → DeedStands x c.block deed rest → IsInRange x c → IsPosting x c deed to vs → AllByRecursion IsWord vs
  posting_small c deed rest to vs at h (to_queue p signal r values fresh name level count b ws kind sending) =
      values_small c (Doing p (stmt.Send signal r values fresh)) rest values ws at h (λ e there. there) sending.given
  posting_small c deed rest to vs at h (to_outside p signal r values fresh name count b ws kind sending) =
      values_small c (Doing p (stmt.Send signal r values fresh)) rest values ws at h (λ e there. there) sending.given

  pub beginning_small : (c : Config) (deed : Deed) (rest : List Item) (b signal : ℕ) (vs : List ℕ)
      → DeedStands x c.block deed rest → IsInRange x c → IsBeginning x c deed b signal vs → AllByRecursion IsWord vs
  beginning_small c deed rest b signal vs at h (by_send p s r values fresh name count n ws kind sending) = values_small
      c (Doing p (stmt.Send s r values fresh)) rest values ws at h (λ e there. there) sending.given
  beginning_small c deed rest b signal vs at h (by_transfer p s r n goes) = words_take (value_count x s) c.own.given h.given

  pub asking_small : (c : Config) (deed : Deed) (rest : List Item) (b signal answer : ℕ) (vs : List ℕ)
      → DeedStands x c.block deed rest → IsInRange x c → IsAsking x c deed b signal answer vs → AllByRecursion IsWord vs
  asking_small c deed rest b signal answer vs at h
      (by_combined p s r values fresh name count a n ws kind sending) = values_small c
      (Doing p (stmt.Send s r values fresh)) rest values ws at h (λ e there. there) sending.given

  -- where a job goes on

  pub goes_turns : (rest : List Item) (c : Config) (deed : Deed) (todo : List Item) (temps : List ℕ)
      → DeedStands x c.block deed rest → TurnsAfter deed rest → IsInRange x c → GoesOn x rest c deed todo temps
      → AllByRecursion IsTurnWord todo
  goes_turns rest c deed todo temps at more h (to_label p label is) = turns_place x c.block (label_of x c.block label)
  goes_turns rest c deed todo temps at more h (to_branch p body is) = turns_text body rest more.1
  goes_turns rest c deed todo temps at more h (to_loop p temp from upto body a b first last) =
      (value_small c (Doing p (stmt.On temp from upto body)) rest upto b at h (1, omega arith, refl) last, more.1)
  goes_turns rest c deed todo temps at more h (to_turn p temp this end body) = turns_text body (Turns p temp (this + 1) end body ∷ rest) more
  goes_turns rest c deed todo temps at more h (with_found p temp file field rel e label number placed is) = turns_place x c.block (label_of x c.block label)
  goes_turns rest c deed todo temps at more h _ = more.1

  pub goes_temps : (rest : List Item) (c : Config) (deed : Deed) (todo : List Item) (temps : List ℕ)
      → DeedStands x c.block deed rest → TurnsAfter deed rest → IsInRange x c → GoesOn x rest c deed todo temps
      → AllByRecursion IsWord temps
  goes_temps rest c deed todo temps at more h (with_value p temp e v is) =
      words_set c.temps temp v (value_small c (Doing p (stmt.SetTemp temp e)) rest e v at h (0, omega arith, refl) is) h.temps
  goes_temps rest c deed todo temps at more h (to_turn p temp this end body) =
      let left = at.1 in let small = more.0 in
      words_set c.temps temp this (omega arith) h.temps
  goes_temps rest c deed todo temps at more h (with_found p temp file field rel e label number placed is) =
      words_set c.temps temp number (record_small file number placed is) h.temps
  goes_temps rest c deed todo temps at more h (with_seized p temp file label number placed is) =
      words_set c.temps temp number (record_small file number placed is) h.temps
  goes_temps rest c deed todo temps at more h (with_answers p answer ts) = words_takes 0 ts c.own.answers c.temps h.answers h.temps
  goes_temps rest c deed todo temps at more h (with_given p signal ts) = words_takes 0 ts c.own.given c.temps h.given h.temps
  goes_temps rest c deed todo temps at more h _ = h.temps

  -- widths

  variable_width_is : (b v : ℕ) (k : Block) (e : Variable) → slice_get x.blocks b ≡ Some k → slice_get k.variables v ≡ Some e → variable_width x b v ≡ e.width
  variable_width_is b v k e there own =
      ap (λ o. option_map_or (λ (k : Block). option_map_or (λ (e : Variable). e.width) (slice_get k.variables v) 0) o 0) there
      ∙ ap (λ o. option_map_or (λ (e : Variable). e.width) o 0) own

  field_width_is : (p : Placed) (field : ℕ) (e : Variable) → slice_get p.file.fields field ≡ Some e → field_width p field ≡ e.width
  field_width_is p field e own = ap (λ o. option_map_or (λ (e : Variable). e.width) o 0) own

  -- the store after an effect
  pub store_fits : (deed : Deed) (rest : List Item) (c d : Config) → DeedStands x c.block deed rest
      → StoreFits x c.world.store → Effect x deed rest c d → StoreFits x d.world.store
  unfolding base_of
  store_fits deed rest c d at h (PutsVariable e p variable expr v is value fits) =
      let f = deed_fits_in x kept c.block p (stmt.SetVariable variable expr) rest (subst (λ (a : Deed). DeedStands x c.block a rest) is at) in
      let own = some_at f.block.variables variable f.fits.names in
      put_variable x kept c.world.store c.block variable v f.block own.0 f.there own.1
      (subst (λ n. v < 2 ^ n) (variable_width_is c.block variable f.block own.0 f.there own.1) fits) h
  store_fits deed rest c d at h (PutsField e p file field pointer expr v placed is may value fits) =
      let f = deed_fits_in x kept c.block p (stmt.SetField file field pointer expr) rest (subst (λ (a : Deed). DeedStands x c.block a rest) is at) in
      let number = slice_index c.temps pointer in
      let own = some_at placed.file.fields field (field_of x kept c.block f.block file field placed f.fits.names.0 may.there) in
      put_field x kept c.world.store file number field v placed own.0
      (record { there = may.there; within = pointer_within c.own.chain file placed number may.sound }) own.1
      (subst (λ n. v < 2 ^ n) (field_width_is placed field own.0 own.1) fits) h
  store_fits deed rest c d at h (Seizes e p temp file label number placed is record_of some room free) =
      let f = deed_fits_in x kept c.block p (stmt.Seize temp file label) rest (subst (λ (a : Deed). DeedStands x c.block a rest) is at) in
      put_mark x kept c.world.store file number 1 placed (record { there = record_of.there; within = record_of.within })
      (forlopp_of x kept c.block f.block file true placed f.fits.names.1 record_of.there) h
  store_fits deed rest c d at h (Frees e p temp file placed is may) =
      let f = deed_fits_in x kept c.block p (stmt.Free temp file) rest (subst (λ (a : Deed). DeedStands x c.block a rest) is at) in
      let number = slice_index c.temps temp in
      opens_fit x kept file number placed c.world
      (record { there = may.there; within = pointer_within c.own.chain file placed number may.sound })
      (forlopp_of x kept c.block f.block file true placed f.fits.names.1 may.there) h
  store_fits deed rest c d at h (Looks e loads each) = h
  store_fits deed rest c d at h (Goes e todo temps on) = h
  store_fits deed rest c d at h (Posts e to vs is room) = h
