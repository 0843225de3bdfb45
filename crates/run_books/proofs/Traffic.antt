-- The sends of a job, delivered one after the other.
use Rattle.std.proofs.Common.{◌≡◌, ℕ, ◌+◌, ◌-◌, ◌<◌, ◌≤◌, List, [], ◌∷◌, ◌++◌, take, length, get_or}
use Rattle.std.proofs.Common.{refl, sym, ap, ◌∙◌, arith}
use Rattle.std.proofs.lemmas.List.{take_more, take_all}
use Rattle.plex_num.specs.declared.level.Level.{Level}
use Rattle.plex_num.specs.declared.level.Level.TheVariants.{A, B, C, D}
use Rattle.job_buffers.specs.Room.{Room, room_at, without_one}
use Rattle.job_types.specs.declared.outbox.Sent.{Sent}
use Rattle.job_types.specs.Waiting.{Waiting}
use Rattle.source_meaning.specs.Retirement.{all_delivered, delivered}
use Rattle.source_meaning.specs.State.{RunEvent, State}
use Rattle.run_books.specs.Traffic.{HasRoom, LosesOne, with_traffic}

-- room

pub room_for : (l : Level) (r : Room) → HasRoom 1 r → 0 < room_at l r
room_for A r h = let one = h.a in omega (arith, one)
room_for B r h = let one = h.b in omega (arith, one)
room_for C r h = let one = h.c in omega (arith, one)
room_for D r h = let one = h.d in omega (arith, one)

pub loses_none : (r : Room) → LosesOne r r
loses_none r = record { a = omega arith; b = omega arith; c = omega arith; d = omega arith }

pub loses_at : (l : Level) (r : Room) → LosesOne r (without_one l r)
loses_at A r = record { a = omega arith; b = omega arith; c = omega arith; d = omega arith }
loses_at B r = record { a = omega arith; b = omega arith; c = omega arith; d = omega arith }
loses_at C r = record { a = omega arith; b = omega arith; c = omega arith; d = omega arith }
loses_at D r = record { a = omega arith; b = omega arith; c = omega arith; d = omega arith }

-- one send more
delivered_last : (f : ℕ) (ms : List Sent) (m : Sent) (s : State) → all_delivered f (ms ++ m ∷ []) s ≡ delivered f m (all_delivered f ms s)
delivered_last f [] m s = refl
delivered_last f (k ∷ ms) m s = delivered_last f ms m (delivered f k s)

-- the first sends have taken effect, and there is room for the others
pub record Delivers (f ended : ℕ) (ms : List Sent) (index : ℕ) (events0 : ℕ) (w0 : Waiting) (es0 : List RunEvent)
    (n0 : ℕ) (w : Waiting) (es : List RunEvent) (n : ℕ) (jobs : Room) (events : ℕ) : Type 0 where
  pub so_far : (s : State) → s.ended ≡ ended → all_delivered f (take index ms) (with_traffic w0 es0 n0 s) ≡ with_traffic w es n s
  pub jobs_left : HasRoom (length ms - index) jobs
  pub events_left : length ms ≤ index + events
  pub kept : events0 ≤ events + index
  pub up : n0 ≤ n
  pub few : n ≤ n0 + index

pub delivers_begin : (f ended : ℕ) (ms : List Sent) (w : Waiting) (es : List RunEvent) (n : ℕ) (jobs : Room)
    (events : ℕ) → HasRoom (length ms) jobs → length ms ≤ events
    → Delivers f ended ms 0 events w es n w es n jobs events
delivers_begin f ended ms w es n jobs events h e = record {
  so_far = λ s is. refl;
  jobs_left = record {
    a = let one = h.a in omega (arith, one);
    b = let one = h.b in omega (arith, one);
    c = let one = h.c in omega (arith, one);
    d = let one = h.d in omega (arith, one);
  };
  events_left = omega (arith, e);
  kept = omega arith;
  up = omega arith;
  few = omega arith;
}

pub room_left : (f ended : ℕ) (ms : List Sent) (index events0 : ℕ) (w0 : Waiting) (es0 : List RunEvent) (n0 : ℕ)
    (w : Waiting) (es : List RunEvent) (n : ℕ) (jobs : Room) (events : ℕ) → index < length ms
    → Delivers f ended ms index events0 w0 es0 n0 w es n jobs events
    → HasRoom 1 jobs × (0 < events)
room_left f ended ms index events0 w0 es0 n0 w es n jobs events within l =
    let ja = l.jobs_left.a in let jb = l.jobs_left.b in let jc = l.jobs_left.c in let jd = l.jobs_left.d in let e = l.events_left in (
      record {
        a = omega (arith, within, ja);
        b = omega (arith, within, jb);
        c = omega (arith, within, jc);
        d = omega (arith, within, jd);
      },
      omega (arith, within, e),
    )

pub delivers_more : (f ended : ℕ) (ms : List Sent) (index events0 : ℕ) (w0 : Waiting) (es0 : List RunEvent) (n0 : ℕ)
    (w w2 : Waiting) (es es2 : List RunEvent) (n n2 : ℕ) (jobs jobs2 : Room) (events events2 : ℕ) (m : Sent)
    → index < length ms → m ≡ get_or ms index m → ((s : State) → s.ended ≡ ended → delivered f m (with_traffic w es n s) ≡ with_traffic w2 es2 n2 s)
    → LosesOne jobs jobs2 → events ≤ events2 + 1 → n ≤ n2 → n2 ≤ n + 1
    → Delivers f ended ms index events0 w0 es0 n0 w es n jobs events → Delivers f ended ms (index + 1) events0 w0 es0 n0 w2 es2 n2 jobs2 events2
delivers_more f ended ms index events0 w0 es0 n0 w w2 es es2 n n2 jobs jobs2 events events2 m within read does loses fewer rises steps l =
    let longer : take (index + 1) ms ≡ take index ms ++ m ∷ [] = take_more ms index m within ∙ ap (λ (y : Sent). take index ms ++ y ∷ []) (sym read) in
    let ja = l.jobs_left.a in let jb = l.jobs_left.b in let jc = l.jobs_left.c in let jd = l.jobs_left.d in
    let la = loses.a in let lb = loses.b in let lc = loses.c in let ld = loses.d in
    record {
      so_far = λ s is. ap (λ (us : List Sent). all_delivered f us (with_traffic w0 es0 n0 s)) longer
          ∙ delivered_last f (take index ms) m (with_traffic w0 es0 n0 s)
          ∙ ap (delivered f m) (l.so_far s is) ∙ does s is;
      jobs_left = record {
        a = omega (arith, ja, la, within);
        b = omega (arith, jb, lb, within);
        c = omega (arith, jc, lc, within);
        d = omega (arith, jd, ld, within);
      };
      events_left = omega (arith, l.events_left, fewer);
      kept = omega (arith, l.kept, fewer);
      up = omega (arith, l.up, rises);
      few = omega (arith, l.few, steps);
    }

pub delivers_end : (f ended : ℕ) (ms : List Sent) (index events0 : ℕ) (w0 : Waiting) (es0 : List RunEvent) (n0 : ℕ)
    (w : Waiting) (es : List RunEvent) (n : ℕ) (jobs : Room) (events : ℕ) → length ms ≤ index
    → Delivers f ended ms index events0 w0 es0 n0 w es n jobs events
    → (s : State) → s.ended ≡ ended → all_delivered f ms (with_traffic w0 es0 n0 s) ≡ with_traffic w es n s
delivers_end f ended ms index events0 w0 es0 n0 w es n jobs events past l s is = ap
    (λ (us : List Sent). all_delivered f us (with_traffic w0 es0 n0 s)) (sym (take_all index ms past)) ∙ l.so_far s is
