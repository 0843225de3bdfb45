-- For how many more jobs the lists have room.
--
-- Room is told apart from the lists, since it says nothing of the jobs: what is said to stay as it
-- was is said of the lists alone.
use Rattle.std.specs.Prelude.{◌≡◌, ◌≤◌, ◌+◌, ◌-◌, ℕ}
use Rattle.plex_num.specs.declared.level.Level.{Level}
use Rattle.plex_num.specs.declared.level.Level.TheVariants.{A, B, C, D}
use Rattle.job_types.specs.Waiting.{Waiting}

-- for how many more jobs each list has room
pub record Room : Type 0 where
  pub a : ℕ
  pub b : ℕ
  pub c : ℕ
  pub d : ℕ

-- the room of a level
abbrev pub room_at : Level → Room → ℕ
room_at A r = r.a
room_at B r = r.b
room_at C r = r.c
room_at D r = r.d

-- so much room at a level, and what there was at the others
abbrev pub with_room : Level → ℕ → Room → Room
with_room A n r = record r { a = n }
with_room B n r = record r { b = n }
with_room C n r = record r { c = n }
with_room D n r = record r { d = n }

-- the room of all levels together
abbrev pub rooms : Room → ℕ
rooms r = r.a + r.b + r.c + r.d

-- the levels beside this one have the room that they had
abbrev pub HasOthersOf : Level → Room → Room → Type 0
HasOthersOf l old new = new ≡ with_room l (room_at l new) old

-- room for one job less at a level
abbrev pub without_one : Level → Room → Room
without_one l r = with_room l (room_at l r - 1) r

-- no level has less room than before
pub record NoLess (old new : Room) : Type 0 where
  pub a : old.a ≤ new.a
  pub b : old.b ≤ new.b
  pub c : old.c ≤ new.c
  pub d : old.d ≤ new.d

-- the four lists beside their room
pub record Buffered : Type 0 where
  pub waiting : Waiting
  pub room : Room
