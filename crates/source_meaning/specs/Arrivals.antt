-- Arrivals: which lines of the signal file are due, and what each of them brings.
use Rattle.std.specs.Prelude.{ℕ, ◌+◌, nat_le, nat_eq, Bool, ◌||◌, is_none, List, [], ◌∷◌, ◌++◌}
use Rattle.std.specs.Prelude.{if◌then◌else◌}
use Rattle.job_types.specs.Forlopps.{is_dead}
use Rattle.job_types.specs.Waiting.{Waiting, joins, pick}
use Rattle.exchange_model.specs.declared.exchange.Exchange.{Exchange}
use Rattle.exchange_model.specs.Names.{level_of}
use Rattle.source_meaning.specs.State.{State, Coming, Origin, Fresh, Bare, Same, Arrived, Lost}
use Rattle.source_meaning.specs.State.{has_stopped}

-- the forlopp that a line got
abbrev pub given_to : List Arrived → ℕ → ℕ
given_to [] line = 0
given_to (a ∷ rest) line = (if nat_eq a.line.number line then a.forlopp else given_to rest line)

abbrev pub forlopp_for : Origin → State → ℕ
forlopp_for Fresh s = s.next
forlopp_for Bare s = 0
forlopp_for (Same line) s = given_to s.arrived line

abbrev pub next_after : Origin → ℕ → ℕ
next_after Fresh next = next + 1
next_after _ next = next

-- a job of a line joins its list, unless its forlopp is dead
abbrev pub comes : Exchange → Coming → ℕ → State → State
comes x l forlopp s =
    (if is_dead s.dead forlopp
    then record s { events = s.events ++ Lost l.number ∷ [] }
    else record s {
      waiting = joins (record {
        entry = l.entry;
        level = level_of x l.entry;
        values = l.values;
        forlopp = forlopp;
      }) s.waiting;
    })

-- a line arrives, and these are left
abbrev pub arrives : Exchange → Coming → List Coming → State → State
arrives x l rest s =
    let forlopp = forlopp_for l.origin s in
    comes x l forlopp (record s {
      lines = rest;
      next = next_after l.origin s.next;
      arrived = s.arrived ++ record { line = l; forlopp = forlopp } ∷ [];
    })

-- nobody waits
abbrev pub is_quiet : Waiting → Bool
is_quiet w = is_none (pick w)

-- a line is due where its count is at most the number of ended jobs, or nobody waits
abbrev pub is_due : Coming → State → Bool
is_due l s = nat_le l.after s.ended || is_quiet s.waiting

-- one line after the other arrives, as long as the next one is due
unfoldable pub arrivals_of : Exchange → List Coming → State → State
arrivals_of x [] s = s
arrivals_of x (l ∷ rest) s = (if is_due l s then arrivals_of x rest (arrives x l rest s) else s)

-- nothing arrives once the last restart has come
abbrev pub arrivals : Exchange → State → State
arrivals x s = (if has_stopped s then s else arrivals_of x s.lines s)
