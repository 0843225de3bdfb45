-- Each job that waits stands in the list of its level, whatever happens to the lists.
use Rattle.std.proofs.Common.{◌≡◌, ℕ, Bool, true, false, not, List, [], ◌∷◌, refl}
use Rattle.std.specs.Prelude.{◌==◌, if◌then◌else◌}
use Rattle.std.specs.List.{AllByRecursion}
use Rattle.plex_num.specs.declared.level.Level.{Level}
use Rattle.plex_num.specs.declared.level.Level.TheVariants.{A, B, C, D}
use Rattle.plex_num.proofs.Lists.{all_append, all_weaker}
use Rattle.job_types.specs.declared.job.Job.{Job}
use Rattle.job_types.specs.Waiting.{Waiting, after_pick, joins, last_at, nobody, others, others_in}
use Rattle.job_types.specs.Waiting.{rest_of}
use Rattle.exchange_model.specs.declared.exchange.Exchange.{Exchange}
use Rattle.source_meaning.specs.State.{State}
use Rattle.source_meaning.specs.Valid.{IsValid, WaitsAt}
use Rattle.order_laws.specs.Picks.{AllInPlace, IsAt, after_picks}

pub placed_join : (k : Job) (w : Waiting) → AllInPlace w → AllInPlace (joins k w)
placed_join k w h = by k.level refl
  where
    by : (level : Level) → k.level ≡ level → AllInPlace (last_at level k w)
    by A at = record { a = all_append (IsAt A) w.a (k ∷ []) h.a (at, tt); b = h.b; c = h.c; d = h.d }
    by B at = record { a = h.a; b = all_append (IsAt B) w.b (k ∷ []) h.b (at, tt); c = h.c; d = h.d }
    by C at = record { a = h.a; b = h.b; c = all_append (IsAt C) w.c (k ∷ []) h.c (at, tt); d = h.d }
    by D at = record { a = h.a; b = h.b; c = h.c; d = all_append (IsAt D) w.d (k ∷ []) h.d (at, tt) }

rest_placed : (a b c d : List Job) → AllByRecursion (IsAt A) a → AllByRecursion (IsAt B) b → AllByRecursion (IsAt C) c
    → AllByRecursion (IsAt D) d → AllInPlace (rest_of a b c d)
rest_placed (x ∷ xs) b c d ha hb hc hd = record { a = ha.1; b = hb; c = hc; d = hd }
rest_placed [] (x ∷ xs) c d ha hb hc hd = record { a = tt; b = hb.1; c = hc; d = hd }
rest_placed [] [] (x ∷ xs) d ha hb hc hd = record { a = tt; b = tt; c = hc.1; d = hd }
rest_placed [] [] [] (x ∷ xs) ha hb hc hd = record { a = tt; b = tt; c = tt; d = hd.1 }
rest_placed [] [] [] [] ha hb hc hd = record { a = tt; b = tt; c = tt; d = tt }

pub placed_rest : (w : Waiting) → AllInPlace w → AllInPlace (after_pick w)
placed_rest w h = rest_placed w.a w.b w.c w.d h.a h.b h.c h.d

pub placed_rests : (js : List Job) (w : Waiting) → AllInPlace w → AllInPlace (after_picks js w)
placed_rests [] w h = h
placed_rests (j ∷ js) w h = placed_rests js (after_pick w) (placed_rest w h)

others_at : (level : Level) (f : ℕ) (js : List Job) → AllByRecursion (IsAt level) js → AllByRecursion (IsAt level) (others_in f js)
others_at level f [] h = tt
others_at level f (j ∷ js) h = by (j.forlopp == f) (others_at level f js h.1)
  where
    by : (own : Bool) → AllByRecursion (IsAt level) (others_in f js) → AllByRecursion (IsAt level) (if not own then j ∷ others_in f js else others_in f js)
    by true rest = rest
    by false rest = (h.0, rest)

pub placed_others : (f : ℕ) (w : Waiting) → AllInPlace w → AllInPlace (others f w)
placed_others f w h = record { a = others_at A f w.a h.a; b = others_at B f w.b h.b; c = others_at C f w.c h.c; d = others_at D f w.d h.d }

pub placed_nobody : AllInPlace nobody
placed_nobody = record { a = tt; b = tt; c = tt; d = tt }

pub placed_valid : (x : Exchange) (s : State) → IsValid x s → AllInPlace s.waiting
placed_valid x s v = record {
  a = all_weaker (WaitsAt x s A) (IsAt A) s.waiting.a (λ j h. h.here) v.waiting.a;
  b = all_weaker (WaitsAt x s B) (IsAt B) s.waiting.b (λ j h. h.here) v.waiting.b;
  c = all_weaker (WaitsAt x s C) (IsAt C) s.waiting.c (λ j h. h.here) v.waiting.c;
  d = all_weaker (WaitsAt x s D) (IsAt D) s.waiting.d (λ j h. h.here) v.waiting.d;
}
