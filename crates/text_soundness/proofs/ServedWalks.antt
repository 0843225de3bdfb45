-- What a walk tells, where all that stands in its events is so.
use Rattle.std.proofs.Common.{◌≡◌, ℕ, List, [], ◌∷◌, ◌++◌, map, subst}
use Rattle.std.specs.List.{AllByRecursion}
use Rattle.kept_trees.specs.Keeps.{Every}
use Rattle.text_events.specs.Note.{Event}
use Rattle.text_events.specs.Note.{Note}
use Rattle.text_events.specs.Walk.{EventWalk, OwnWalk, add, in_turn, each_walk}

-- all notes of these events are so
unfoldable pub AllSo : (Note → Type 0) → List Event → Type 0
AllSo P events = AllByRecursion (λ (e : Event). P e.note) events

-- where all is so after a walk, all was so before it, and what it tells is so
pub record Tells (P : Note → Type 0) (w : EventWalk) (X : Type 0) : Type 0 where
  pub sound : (out : List Event) → AllSo P (w out) → AllSo P out × X

push_so : (P : Note → Type 0) (out : List Event) (e : Event) → AllByRecursion (λ (e : Event). P e.note) (out ++ e ∷ [])
    → AllByRecursion (λ (e : Event). P e.note) out × P e.note
push_so P [] e all = (tt, all.0)
push_so P (x ∷ out) e all = let more = push_so P out e all.1 in ((all.0, more.0), more.1)

pub tells_add : (P : Note → Type 0) (line : ℕ) (note : Note) → Tells P (add line note) (P note)
unfolding AllSo
tells_add P line note = record { sound = λ out all. push_so P out (record { line = line; note = note }) all }

pub tells_none : (P : Note → Type 0) → Tells P (λ out. out) (Unit {0})
tells_none P = record { sound = λ out all. (all, tt) }

pub tells_then : (P : Note → Type 0) (w v : EventWalk) (X Y : Type 0) → Tells P w X → Tells P v Y → Tells P (λ out. v (w out)) (X × Y)
tells_then P w v X Y g h = record { sound = λ out all. let last = h.sound (w out) all in let first = g.sound out last.0 in (first.0, (first.1, last.1)) }

pub tells_so : (P : Note → Type 0) (w : EventWalk) (X Y : Type 0) → (X → Y) → Tells P w X → Tells P w Y
tells_so P w X Y f g = record { sound = λ out all. let told = g.sound out all in (told.0, f told.1) }

pub tells_same : (P : Note → Type 0) (v w : EventWalk) (X : Type 0) → ((out : List Event) → v out ≡ w out) → Tells P w X → Tells P v X
tells_same P v w X e g = record { sound = λ out all. g.sound out (subst (AllSo P) (e out) all) }

-- walks in turn
pub tells_in_turn : {A : Type 0} (P : Note → Type 0) (w : A → EventWalk) (X : A → Type 0) (xs : List A)
    → ((x : A) → Tells P (w x) (X x)) → Tells P (in_turn (map w xs)) (AllByRecursion X xs)
tells_in_turn P w X [] each = tells_none P
tells_in_turn P w X (x ∷ xs) each = tells_then P (w x) (in_turn (map w xs)) (X x) (AllByRecursion X xs) (each x) (tells_in_turn P w X xs each)

-- the same of walks within a statement, where each of these is kept
pub tells_each : {A : Type 0} (P : Note → Type 0) (w : A → OwnWalk) (K X : A → Type 0) (xs : List A) (owner : ℕ)
    → Every K xs → ((x : A) → K x → Tells P (w x owner) (X x))
    → Tells P (each_walk (map w xs) owner) (AllByRecursion X xs)
tells_each P w K X [] owner kept each = tells_none P
tells_each P w K X (x ∷ xs) owner kept each = tells_then P (w x owner) (each_walk (map w xs) owner) (X x)
    (AllByRecursion X xs) (each x kept.0) (tells_each P w K X xs owner kept.1 each)
