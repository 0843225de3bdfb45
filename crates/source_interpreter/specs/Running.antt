-- A job as it is held while it runs: its configuration without the stored words and their trace,
-- beside its exchange; and what may become of it.
use Rattle.std.specs.Prelude.{ℕ, List, [], ◌∷◌, ◌++◌, map, slice_set, None, slice_get}
use Rattle.job_types.specs.declared.job.JobStart.{JobStart}
use Rattle.job_types.specs.declared.outbox.SendTo.{SendTo}
use Rattle.job_types.specs.declared.touch.Touch.{Touch}
use Rattle.exchange_model.specs.declared.exchange.Exchange.{Exchange}
use Rattle.exchange_model.specs.declared.stmt.Stmt.{Stmt}
use Rattle.job_types.specs.Own.{Own, own_of, counted, eight}
use Rattle.job_types.specs.Chain.{without}
use Rattle.source_meaning.specs.Value.{Sight}
use Rattle.source_meaning.specs.Config.{Item, Do, Turns, Caller, Config, sight, blank, from_place}
use Rattle.source_meaning.specs.Config.{from_signal, label_of}
use Rattle.source_meaning.specs.Changes.{takes}
use Rattle.source_meaning.specs.Job.{place_of, todo_of as first_todo}

pub record Running : Type 0 where
  pub exchange : Exchange
  pub block : ℕ
  pub todo : List Item
  pub temps : List ℕ
  pub callers : List Caller
  pub own : Own

-- with these stored words, after these touches
abbrev pub config_of : Running → List ℕ → List Touch → Config
config_of r store trace = record {
  block = r.block;
  todo = r.todo;
  temps = r.temps;
  callers = r.callers;
  own = r.own;
  world = record { store = store; trace = trace };
  over = None;
}

-- what its expressions see
abbrev pub sight_of : Running → List ℕ → Sight
sight_of r store = sight r.exchange (config_of r store [])

-- a job at its start
abbrev pub at_start : Exchange → JobStart → Running
at_start x start = record {
  exchange = x;
  block = place_of (slice_get x.entries start.job.entry);
  todo = first_todo x (slice_get x.entries start.job.entry);
  temps = blank;
  callers = [];
  own = own_of start;
}

-- a statement of this point is counted, or was to be counted
abbrev pub with_count : ℕ → Running → Running
with_count point r = record r { own = counted point r.own }

abbrev pub with_point : ℕ → Running → Running
with_point point r = record r { own = record r.own { point = point } }

-- a temporary has a value; temporaries have values, one after the other
abbrev pub with_temp : ℕ → ℕ → Running → Running
with_temp temp value r = record r { temps = slice_set r.temps temp value }

abbrev pub with_temps : List ℕ → List ℕ → Running → Running
with_temps temps values r = record r { temps = takes 0 temps values r.temps }

-- statements, or the turns of a loop, come before what remains
abbrev pub before_rest : List Stmt → Running → Running
before_rest statements r = record r { todo = map Do statements ++ r.todo }

abbrev pub with_turns : ℕ → ℕ → ℕ → List Stmt → Running → Running
with_turns temp this last body r =
    record r { todo = Turns r.own.point temp this last body ∷ r.todo }

-- it goes on at a label
abbrev pub at_label : ℕ → Running → Running
at_label label r = record r {
  todo = from_place r.exchange r.block
      (label_of r.exchange r.block label);
}

-- an activation has begun in a block
abbrev pub activated : ℕ → ℕ → List ℕ → Running → Running
activated b signal values r = record r {
  block = b;
  todo = from_signal r.exchange b signal;
  temps = blank;
  own = record r.own { given = eight values };
}

-- it waits for an answer, and goes on with the answer where it waited
abbrev pub waiting : ℕ → Running → Running
waiting answer r = record r {
  todo = [];
  callers = record {
    block = r.block;
    todo = r.todo;
    temps = r.temps;
    given = r.own.given;
    awaits = answer;
  } ∷ r.callers;
}

abbrev pub resumed : Caller → List ℕ → Running → Running
resumed k values r = record r {
  block = k.block;
  todo = k.todo;
  temps = k.temps;
  own = record r.own { given = k.given; answers = eight values };
}

-- a signal stands in the outbox
abbrev pub posted : SendTo → List ℕ → Running → Running
posted to values r = record r {
  own = record r.own
      { sends = r.own.sends ++ record { to = to; values = values } ∷ [] };
}

-- a record joins the chain, or leaves it
abbrev pub holding : ℕ → ℕ → Running → Running
holding file number r = record r {
  own = record r.own
      { chain = r.own.chain ++ record { file = file; number = number } ∷ [] };
}

abbrev pub left : ℕ → ℕ → Running → Running
left file number r = record r { own = record r.own { chain = without r.own.chain file number } }
