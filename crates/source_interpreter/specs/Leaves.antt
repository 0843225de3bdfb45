-- How what a job does leaves it: it goes on, or it is over.
use Rattle.std.specs.Prelude.{◌≡◌, ℕ, ◌+◌, Bool, List, [], ◌∷◌, ◌++◌, map, Some, Result, Ok, Err}
use Rattle.std.specs.Prelude.{slice_get}
use Rattle.job_types.specs.declared.outcome.Outcome.{Outcome}
use Rattle.job_types.specs.declared.outcome.Outcome.TheVariants.{Ended, Faulted}
use Rattle.job_types.specs.declared.touch.Touch.{Touch}
use Rattle.exchange_model.specs.declared.exchange.Exchange.{Exchange}
use Rattle.exchange_model.specs.declared.stmt.Stmt.{Stmt}
use Rattle.exchange_model.specs.declared.stmt.StmtKind.{StmtKind, StmtKind-F}
use Rattle.exchange_model.specs.declared.stmt.When.{When}
use Rattle.source_meaning.specs.Config.{Config, Item, Do, Turns}
use Rattle.source_meaning.specs.Step.{does, step}
use Rattle.source_meaning.specs.Changes.{goes, sets_temp, sends}
use Rattle.source_meaning.specs.Job.{after_steps}
use Rattle.source_interpreter.specs.Running.{Running, config_of}
use Rattle.source_interpreter.specs.declared.stop.Stop.{Stop}
use Rattle.source_interpreter.specs.declared.stop.Stop.TheVariants as stop

-- the configuration is this one, whatever was touched
pub record IsConfigOf (x : Exchange) (d : Config) (r : Running) (store : List ℕ) : Type 0 where
  pub exchange : r.exchange ≡ x
  pub config : d ≡ config_of r store d.world.trace

-- the job is over with these sends, this chain and these stored words
pub record IsOver (d : Config) (o : Outcome) (r : Running) (words : List ℕ) : Type 0 where
  pub over : d.over ≡ Some o
  pub sends : d.own.sends ≡ r.own.sends
  pub chain : d.own.chain ≡ r.own.chain
  pub store : d.world.store ≡ words

-- the configuration, by what was answered; where memory was wanted, the words are those from before
abbrev pub Leaves : Exchange → List ℕ → Config → Result (Unit {0}) Stop → Running → List ℕ → Type 0
Leaves x before d (Ok u) r store = IsConfigOf x d r store
Leaves x before d (Err (stop.Fault f)) r store = IsOver d (Faulted f r.own.point) r store
Leaves x before d (Err stop.Ended) r store = IsOver d Ended r store
Leaves x before d (Err stop.Memory) r store = store ≡ before

-- from a job and its stored words this was done, whatever was touched before; what it leaves to be
-- done is told by `go`
pub record Follows (go : Config → Config) (r : Running) (store : List ℕ)
    (result : Result (Unit {0}) Stop) (r' : Running) (store' : List ℕ) : Type 0 where
  pub leaves : (trace : List Touch) (todo : List Item)
      → Leaves r.exchange store (go (record (config_of r store trace) { todo = todo })) result r'
      store'

-- the same over any stored words, which stay as they are
abbrev pub Leads : (Config → Config) → Running → Result (Unit {0}) Stop → Running → Type 0
Leads go r result r' = (store : List ℕ) → Follows go r store result r' store

-- a statement is done: it was counted and taken from what remains
abbrev pub Does : StmtKind-F StmtKind Stmt When → Running → List ℕ → Result (Unit {0}) Stop
    → Running → List ℕ → Type 0
Does l r store result r' store' =
    Follows (does r.exchange r.own.point l r.todo) r store result r' store'

-- one turn of a loop, where this remains after it
abbrev pub turn : (point temp this last : ℕ) → List Stmt → List Item → Config → Config
turn point temp this last body rest d =
    goes (map Do body ++ (Turns point temp (this + 1) last body ∷ rest)) (sets_temp temp this d)

-- a signal goes to a block with its values, by its kind
abbrev pub to_kind : Running → ℕ → ℕ → Bool → List ℕ → Config → Config
to_kind r signal b fresh vs d =
    sends r.exchange (slice_get r.exchange.signals signal) signal b fresh r.todo vs d

-- one step is made
pub record Steps (r : Running) (store : List ℕ) (result : Result (Unit {0}) Stop) (r' : Running)
    (store' : List ℕ) : Type 0 where
  pub leaves : (trace : List Touch) → Leaves r.exchange store
      (step r.exchange (config_of r store trace)) result r' store'

-- the job runs until it is over
pub record RunsTo (r : Running) (store : List ℕ) (o : Outcome) (r' : Running)
    (store' : List ℕ) : Type 0 where
  pub steps : ℕ
  pub over : IsOver (after_steps steps r.exchange (config_of r store [])) o r' store'

-- these are the stored words after a number of steps
abbrev pub IsReached : Exchange → Config → List ℕ → Type 0
IsReached x c store = (steps : ℕ) × ((after_steps steps x c).world.store ≡ store)
