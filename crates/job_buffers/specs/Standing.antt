-- Which of the jobs that were placed in the lists still wait.
--
-- A forlopp stays from the moment when a first job of it joins to the moment when none of its jobs
-- waits: the last one was taken, or all were removed. Each stay has a number of its own, and a job
-- that was placed in the lists waits as long as the stay in which it joined goes on.
use Rattle.std.specs.Prelude.{◌≡◌, ℕ, ◌+◌, ◌-◌, ◌<◌, ◌≤◌, ◌^◌, Bool, true, false, nat_eq, nat_lt}
use Rattle.std.specs.Prelude.{List, [], ◌∷◌, ◌++◌, map, filter, Option, Some, None, if◌then◌else◌}
use Rattle.std.specs.List.{AllByRecursion}
use Rattle.std.specs.HashMap.{HashMap, get}
use Rattle.plex_num.specs.declared.level.Level.{Level}
use Rattle.plex_num.specs.declared.level.Level.TheVariants.{A, B, C, D}
use Rattle.job_types.specs.declared.job.Job.{Job}
use Rattle.job_types.specs.Waiting.{Waiting, count_of, waiting_count}
use Rattle.job_buffers.specs.declared.stays.Stay.{Stay}
use Rattle.job_buffers.specs.declared.queue.Placed.{Placed}
use Rattle.job_buffers.specs.Room.{Room, rooms}

-- the stay of each forlopp, as a table has them
abbrev pub stays_in : {S : Type 0} → HashMap ℕ Stay S → ℕ → Option Stay
stays_in table forlopp = get nat_eq table forlopp

-- the same, but for one forlopp
abbrev pub updated : ℕ → Option Stay → (ℕ → Option Stay) → ℕ → Option Stay
updated forlopp o stays q = if nat_eq forlopp q then o else stays q

-- how many jobs wait in a stay
abbrev pub jobs_of : Option Stay → ℕ
jobs_of None = 0
jobs_of (Some s) = s.jobs

-- a stay in which one job more waits; a new one has this number
abbrev pub joined : ℕ → Option Stay → Stay
joined number None = record { number = number; jobs = 1 }
joined number (Some s) = record { number = s.number; jobs = s.jobs + 1 }

-- a stay in which one job less waits, and which ends with the last
abbrev pub left : Option Stay → Option Stay
left None = None
left (Some s) = if nat_lt 1 s.jobs then Some (record { number = s.number; jobs = s.jobs - 1 })
    else None

-- the stay began before a number
abbrev pub IsBefore : ℕ → Option Stay → Type 0
IsBefore n None = Unit {0}
IsBefore n (Some s) = s.number < n

-- the stay has this number
abbrev pub is_stay : ℕ → Option Stay → Bool
is_stay number None = false
is_stay number (Some s) = nat_eq s.number number

-- the job that was placed still waits
abbrev pub counts : (ℕ → Option Stay) → Placed → Bool
counts stays p = is_stay p.stay (stays p.job.forlopp)

-- the jobs of a list that still wait
abbrev pub counting : (ℕ → Option Stay) → List Placed → List Job
counting stays ps = map (λ (p : Placed). p.job) (filter (counts stays) ps)

-- all joined in stays that began before a number
abbrev pub AreBefore : ℕ → List Placed → Type 0
AreBefore n ps = AllByRecursion (λ (p : Placed). p.stay < n) ps

-- the first of a list, if there is one, still waits
abbrev pub FrontCounts : (ℕ → Option Stay) → List Placed → Type 0
FrontCounts stays [] = Unit {0}
FrontCounts stays (p ∷ ps) = counts stays p ≡ true

-- the placed jobs of the four levels
pub record Lists : Type 0 where
  pub a : List Placed
  pub b : List Placed
  pub c : List Placed
  pub d : List Placed

-- a list as it stands between two calls
pub record Fits (stays : ℕ → Option Stay) (n : ℕ) (ps : List Placed) : Type 0 where
  pub before : AreBefore n ps
  pub front : FrontCounts stays ps

-- the same of all four lists
pub record AllFit (stays : ℕ → Option Stay) (n : ℕ) (q : Lists) : Type 0 where
  pub a : Fits stays n q.a
  pub b : Fits stays n q.b
  pub c : Fits stays n q.c
  pub d : Fits stays n q.d

-- a list after those that wait no longer have left its front, and maybe other places of it
pub record IsTidied (stays : ℕ → Option Stay) (ps qs : List Placed) : Type 0 where
  pub jobs : counting stays qs ≡ counting stays ps
  pub front : FrontCounts stays qs
  pub before : (n : ℕ) → AreBefore n ps → AreBefore n qs

-- one list of placed jobs, and for how many more there is room
pub record Queued : Type 0 where
  pub placed : List Placed
  pub room : ℕ

-- four lists beside their room
pub record Held : Type 0 where
  pub lists : Lists
  pub room : Room

-- these four
abbrev pub held : Queued → Queued → Queued → Queued → Held
held a b c d = record {
  lists = record { a = a.placed; b = b.placed; c = c.placed; d = d.placed };
  room = record { a = a.room; b = b.room; c = c.room; d = d.room };
}

-- no job is placed
abbrev pub none_placed : Lists
none_placed = record { a = []; b = []; c = []; d = [] }

-- a job is placed last at a level
abbrev pub placed_at : Level → Placed → Lists → Lists
placed_at A p q = record q { a = q.a ++ p ∷ [] }
placed_at B p q = record q { b = q.b ++ p ∷ [] }
placed_at C p q = record q { c = q.c ++ p ∷ [] }
placed_at D p q = record q { d = q.d ++ p ∷ [] }

-- the front of the first list that is not empty
abbrev pub front_of : List Placed → List Placed → List Placed → List Placed → Option Placed
front_of (p ∷ rest) b c d = Some p
front_of [] (p ∷ rest) c d = Some p
front_of [] [] (p ∷ rest) d = Some p
front_of [] [] [] (p ∷ rest) = Some p
front_of [] [] [] [] = None

abbrev pub first_placed : Lists → Option Placed
first_placed q = front_of q.a q.b q.c q.d

-- four lists without that front
abbrev pub behind : List Placed → List Placed → List Placed → List Placed → Lists
behind (p ∷ rest) b c d = record { a = rest; b = b; c = c; d = d }
behind [] (p ∷ rest) c d = record { a = []; b = rest; c = c; d = d }
behind [] [] (p ∷ rest) d = record { a = []; b = []; c = rest; d = d }
behind [] [] [] (p ∷ rest) = record { a = []; b = []; c = []; d = rest }
behind [] [] [] [] = none_placed

abbrev pub without_first : Lists → Lists
without_first q = behind q.a q.b q.c q.d

-- the jobs that wait, by level
abbrev pub waiting_of : (ℕ → Option Stay) → Lists → Waiting
waiting_of stays q = record {
  a = counting stays q.a;
  b = counting stays q.b;
  c = counting stays q.c;
  d = counting stays q.d;
}

-- all four lists were tidied
pub record AreTidied (stays : ℕ → Option Stay) (old new : Lists) : Type 0 where
  pub a : IsTidied stays old.a new.a
  pub b : IsTidied stays old.b new.b
  pub c : IsTidied stays old.c new.c
  pub d : IsTidied stays old.d new.d

-- the stays count the jobs that wait, and all numbers are below that of the pushes so far; n jobs
-- wait, the table has a place for each job for which there is room, and there are numbers for all
-- of them
pub record IsSound (stays : ℕ → Option Stay) (places pushed n : ℕ) (q : Lists) (room : Room) : Type
    0 where
  pub jobs : (forlopp : ℕ) → jobs_of (stays forlopp) ≡ count_of forlopp (waiting_of stays q)
  pub begun : (forlopp : ℕ) → IsBefore pushed (stays forlopp)
  pub all : n ≡ waiting_count (waiting_of stays q)
  pub fewer : n ≤ pushed
  pub fit : AllFit stays pushed q
  pub placing : rooms room ≤ places
  pub numbered : pushed + rooms room < 2 ^ 64
