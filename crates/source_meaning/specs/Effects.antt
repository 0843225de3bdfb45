-- What a step does, one effect after the other.
--
-- A step counts an item, and what follows is a list of effects: some that stay in the block, and
-- one that may leave it or end the job. Each of them begins from the temporaries that the job had
-- when it counted, so that whatever sets one comes last. With an effect stands all that the text
-- says of it. So whoever wants a fact of all jobs shows it of each effect, and need not look at
-- statements again.
use Rattle.std.specs.Prelude.{◌≡◌, ℕ, ◌+◌, ◌<◌, ◌^◌, true, false, nat_lt, nat_eq}
use Rattle.std.specs.Prelude.{List, [], ◌∷◌, ◌++◌, length, Some, Ok, slice_index}
use Rattle.std.specs.List.{AllByRecursion}
use Rattle.plex_limits.specs.declared.limits.TheConstants.{MOST_CALLERS, MOST_HELD, MOST_SENT}
use Rattle.job_types.specs.declared.fault.Fault.{Fault}
use Rattle.job_types.specs.declared.fault.Fault.TheVariants as fault
use Rattle.job_types.specs.declared.outbox.SendTo.{SendTo}
use Rattle.job_types.specs.declared.outcome.Outcome.TheVariants.{Ended}
use Rattle.job_types.specs.declared.touch.Touch.{Touch}
use Rattle.job_types.specs.Own.{counted, budget, seen, eight}
use Rattle.exchange_model.specs.declared.exchange.Exchange.{Exchange}
use Rattle.exchange_model.specs.declared.expr.Expr.{Expr}
use Rattle.exchange_model.specs.declared.stmt.StmtKind.TheOpen as stmt
use Rattle.exchange_model.specs.Cells.{Placed, field_cell, mark_cell}
use Rattle.source_meaning.specs.Named.{Layer}
use Rattle.source_meaning.specs.Value.{values_of}
use Rattle.source_meaning.specs.Config.{Item, Caller, Config, base_of, sight, next_counted}
use Rattle.source_meaning.specs.Changes.{fails, ends, sets_cell, variable_width, field_width}
use Rattle.source_meaning.specs.Changes.{with_record, frees, activates}
use Rattle.source_meaning.specs.Deeds.{Deed, deed_of, deed_point, IsValueOf, IsRecordOf, MayUse}
use Rattle.source_meaning.specs.Deeds.{IsPosting, IsBeginning, IsAsking, IsLook, GoesOn, IsEnd, Why}
use Rattle.source_meaning.specs.Deeds.{Doing}

-- the record joins the chain, and is marked
abbrev pub seized : Placed → ℕ → ℕ → Config → Config
seized p file number c = sets_cell (mark_cell p number) 1 (with_record file number c)

-- a signal joins the outbox
abbrev pub posted : SendTo → List ℕ → Config → Config
posted to vs c =
    record c { own = record c.own { sends = c.own.sends ++ record { to = to; values = vs } ∷ [] } }

-- the sender, which waits for an answer and goes on here
abbrev pub sender_of : ℕ → List Item → Config → Caller
sender_of answer rest c =
    record { block = c.block; todo = rest; temps = c.temps; given = c.own.given; awaits = answer }

abbrev pub with_caller : ℕ → List Item → Config → Config
with_caller answer rest c = record c { callers = sender_of answer rest c ∷ c.callers }

-- back to the caller, with the values of the answer
abbrev pub answered : Caller → List Caller → List ℕ → Config → Config
answered k ks vs c = record c {
  block = k.block;
  todo = k.todo;
  temps = k.temps;
  callers = ks;
  own = record c.own { given = k.given; answers = eight vs };
}

-- an effect that stays in the block
pub data Effect (x : Exchange) (deed : Deed) (rest : List Item) : Config → Config → Type 0 where
  Looks : (c : Config) (loads : List Touch) → AllByRecursion (IsLook x c deed) loads
      → Effect x deed rest c (record c { world = seen loads c.world })
  PutsVariable : (c : Config) (p variable : ℕ) (e : Expr) (v : ℕ)
      → deed ≡ Doing p (stmt.SetVariable variable e) → IsValueOf x c e v
      → v < 2 ^ variable_width x c.block variable
      → Effect x deed rest c (sets_cell (base_of x c.block + variable) v c)
  PutsField : (c : Config) (p file field pointer : ℕ) (e : Expr) (v : ℕ) (placed : Placed)
      → deed ≡ Doing p (stmt.SetField file field pointer e)
      → MayUse x c file (slice_index c.temps pointer) placed → IsValueOf x c e v
      → v < 2 ^ field_width placed field
      → Effect x deed rest c (sets_cell (field_cell placed (slice_index c.temps pointer) field) v c)
  Seizes : (c : Config) (p temp file label number : ℕ) (placed : Placed)
      → deed ≡ Doing p (stmt.Seize temp file label) → IsRecordOf x file number placed
      → nat_eq c.own.forlopp 0 ≡ false → length c.own.chain < MOST_HELD
      → slice_index c.world.store (mark_cell placed number) ≡ 0
      → Effect x deed rest c (seized placed file number c)
  Frees : (c : Config) (p temp file : ℕ) (placed : Placed) → deed ≡ Doing p (stmt.Free temp file)
      → MayUse x c file (slice_index c.temps temp) placed
      → Effect x deed rest c (frees file (slice_index c.temps temp) placed c)
  Goes : (c : Config) (todo : List Item) (temps : List ℕ) → GoesOn x rest c deed todo temps
      → Effect x deed rest c (record c { todo = todo; temps = temps })
  Posts : (c : Config) (to : SendTo) (vs : List ℕ) → IsPosting x c deed to vs
      → length c.own.sends < MOST_SENT → Effect x deed rest c (posted to vs c)

-- an effect that comes last: another activation begins, a caller goes on, or the job is over
pub data Leave (x : Exchange) (deed : Deed) (rest : List Item) : Config → Config → Type 0 where
  Begins : (c : Config) (b signal : ℕ) (vs : List ℕ) → IsBeginning x c deed b signal vs
      → Leave x deed rest c (activates x b signal vs c)
  Asks : (c : Config) (b signal answer : ℕ) (vs : List ℕ) → IsAsking x c deed b signal answer vs
      → length c.callers < MOST_CALLERS
      → Leave x deed rest c (activates x b signal vs (with_caller answer rest c))
  Returns : (c : Config) (p answer : ℕ) (values : List Expr) (vs : List ℕ) (k : Caller)
      (ks : List Caller)
      → deed ≡ Doing p (stmt.Return answer values) → values_of values [] (sight x c) ≡ Ok vs
      → c.callers ≡ k ∷ ks → nat_eq k.awaits answer ≡ true
      → Leave x deed rest c (answered k ks vs c)
  Ends : (c : Config) (p : ℕ) (l : Layer) → deed ≡ Doing p l → IsEnd l → c.callers ≡ []
      → Leave x deed rest c (record c { over = Some Ended })
  Faults : (c : Config) (f : Fault) → Why x c deed f → Leave x deed rest c (fails f c)

-- one effect after the other; each begins while the job has the temporaries that it had when it
-- counted
pub data Effects (x : Exchange) (deed : Deed) (rest : List Item) (temps : List ℕ)
    : Config → Config → Type 0 where
  Done : (c : Config) → Effects x deed rest temps c c
  Then : (c d e : Config) → c.temps ≡ temps → Effect x deed rest c d
      → Effects x deed rest temps d e → Effects x deed rest temps c e
  Last : (c d : Config) → c.temps ≡ temps → Leave x deed rest c d
      → Effects x deed rest temps c d

-- the job has counted the item
abbrev pub with_counted : Item → Config → Config
with_counted i c = record c { own = counted (deed_point (deed_of i)) c.own }

-- one step: the job ends where nothing remains to be done, fails where its count is full, or counts
-- the next item and does it
pub data Step (x : Exchange) (c : Config) : Config → Type 0 where
  NothingLeft : next_counted c.todo ≡ [] → Step x c (ends c.callers c)
  CountFull : (i : Item) (rest : List Item) → next_counted c.todo ≡ i ∷ rest
      → nat_lt c.own.count budget ≡ false → Step x c (fails fault.Budget (with_counted i c))
  Counts : (i : Item) (rest : List Item) (d : Config) → next_counted c.todo ≡ i ∷ rest
      → nat_lt c.own.count budget ≡ true
      → Effects x (deed_of i) rest c.temps (with_counted i c) d → Step x c d
