-- The meaning of a job: it begins at its entry's ENTER and makes step after step until it is over.
--
-- Each step counts one statement, so that the budget bounds the steps: one step more than the
-- budget is enough.
use Rattle.std.specs.Prelude.{ℕ, zero, suc, ◌+◌, List, [], Option, Some, None, slice_get}
use Rattle.job_types.specs.declared.job.JobStart.{JobStart}
use Rattle.job_types.specs.declared.outcome.Outcome.{Outcome}
use Rattle.exchange_model.specs.declared.exchange.Exchange.{Exchange}
use Rattle.exchange_model.specs.declared.entry.Entry.{Entry}
use Rattle.job_types.specs.Own.{budget, own_of, untouched}
use Rattle.source_meaning.specs.Config.{Config, Item, from_signal, blank}
use Rattle.source_meaning.specs.Step.{step}

-- goes on unless the job is over
abbrev pub unless_over : Option Outcome → Config → Config → Config
unless_over None c d = d
unless_over (Some o) c d = c

-- after at most so many steps
unfoldable pub after_steps : ℕ → Exchange → Config → Config
after_steps zero x c = c
after_steps (suc n) x c = unless_over c.over c (after_steps n x (step x c))

-- a job at its start, over these stored words; past the last entry nothing remains to be done
abbrev pub place_of : Option Entry → ℕ
place_of None = 0
place_of (Some e) = e.block

abbrev pub todo_of : Exchange → Option Entry → List Item
todo_of x None = []
todo_of x (Some e) = from_signal x e.block e.signal

abbrev pub begins : Exchange → JobStart → List ℕ → Config
begins x start store = record {
  block = place_of (slice_get x.entries start.job.entry);
  todo = todo_of x (slice_get x.entries start.job.entry);
  temps = blank;
  callers = [];
  own = own_of start;
  world = untouched store;
  over = None;
}

-- the meaning of a job: its store, its trace, its sends, its chain and its outcome are those of the
-- end
unfoldable pub job : Exchange → JobStart → List ℕ → Config
job x start store = after_steps (budget + 1) x (begins x start store)
