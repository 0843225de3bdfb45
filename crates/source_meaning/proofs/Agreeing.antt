-- Words that agree wherever a list touches them answer it alike, and agree there after it.
use Rattle.std.proofs.Common.{◌≡◌, inl, inr, ℕ, ◌<◌, ◌≤◌, List, [], ◌∷◌, length, refl, sym, ap, ◌∙◌}
use Rattle.std.proofs.Common.{subst, arith, ⊎_elim}
use Rattle.std.proofs.Math.ListN.{set, length-set}
use Rattle.std.proofs.lemmas.List.{get_or-set_same, get_or-set_other, get_or_past}
use Rattle.std.proofs.lemmas.Bool.{cases_eq, cases_lt}
use Rattle.std.specs.Prelude.{slice_index, slice_set}
use Rattle.job_types.specs.declared.job.JobStart.{JobStart}
use Rattle.job_types.specs.declared.touch.Touch.{Touch}
use Rattle.job_types.specs.declared.touch.Touch.TheVariants.{Load, Store}
use Rattle.job_types.specs.Touches.{stored, NoStore}
use Rattle.job_types.proofs.Touched.{length-stored, stored-kept}
use Rattle.exchange_model.specs.declared.exchange.Exchange.{Exchange}
use Rattle.source_meaning.specs.Config.{Config}
use Rattle.source_meaning.specs.Job.{job}
use Rattle.source_meaning.specs.Traces.{Answers, IsTouched, AgreeOn, LeavesAlone, with_store}
use Rattle.source_meaning.proofs.Growing.{job_store, job_told}
use Rattle.source_meaning.proofs.Frame.{job_framed}

-- the same store to both leaves alike what was alike
set_alike : (s t : List ℕ) (w v u : ℕ) → length s ≡ length t → slice_index s u ≡ slice_index t u
    → slice_index (slice_set s w v) u ≡ slice_index (slice_set t w v) u
set_alike s t w v u long same = ⊎_elim
    (λ here. ⊎_elim
    (λ within. ap (slice_index (slice_set s w v)) here ∙ get_or-set_same s w v 0 within
    ∙ sym (get_or-set_same t w v 0 (subst (λ n. w < n) long within))
    ∙ sym (ap (slice_index (slice_set t w v)) here))
    (λ past.
    let left : length (slice_set s w v) ≤ u = omega (arith, length-set s w v) in
    let right : length (slice_set t w v) ≤ u = omega (arith, length-set t w v) in
    get_or_past (slice_set s w v) u 0 left ∙ sym (get_or_past (slice_set t w v) u 0 right))
    (cases_lt w (length s)))
    (λ other. get_or-set_other s w u v 0 other ∙ same ∙ sym (get_or-set_other t w u v 0 other))
    (cases_eq u w)

-- words that agree where a list touches them answer it alike
pub agree_answers : (ts : List Touch) (s t : List ℕ) → length s ≡ length t
    → ((w : ℕ) → IsTouched ts w → slice_index s w ≡ slice_index t w) → Answers s ts → Answers t ts
agree_answers [] s t long same h = tt
agree_answers (Load w v ∷ ts) s t long same h = (sym (same w (inl refl)) ∙ h.0, agree_answers ts s t long (λ u at. same u (inr at)) h.1)
agree_answers (Store w v ∷ ts) s t long same h =
    agree_answers ts (set s w v) (set t w v) (length-set s w v ∙ long ∙ sym (length-set t w v)) (λ u at. set_alike s t w v u long (same u (inr at))) h

-- what agrees before a list agrees after it
pub stored_alike : (ts : List Touch) (s t : List ℕ) (u : ℕ) → length s ≡ length t → slice_index s u ≡ slice_index t u
    → slice_index (stored s ts) u ≡ slice_index (stored t ts) u
stored_alike [] s t u long same = same
stored_alike (Load w v ∷ ts) s t u long same = stored_alike ts s t u long same
stored_alike (Store w v ∷ ts) s t u long same = stored_alike ts (set s w v) (set t w v) u
    (length-set s w v ∙ long ∙ sym (length-set t w v)) (set_alike s t w v u long same)

pub job_agrees : (x : Exchange) (start : JobStart) (store words : List ℕ)
    → AgreeOn (job x start store).world.trace store words
    → job x start words ≡ with_store (stored words (job x start store).world.trace) (job x start store)
job_agrees x start store words agree =
    job_framed x start store words (agree_answers (job x start store).world.trace store words agree.long agree.same (job_told x start store))

pub stores_agree : (x : Exchange) (start : JobStart) (store words : List ℕ)
    → AgreeOn (job x start store).world.trace store words
    → AgreeOn (job x start store).world.trace (job x start store).world.store (job x start words).world.store
stores_agree x start store words agree =
    let ts = (job x start store).world.trace in
    let left : (job x start store).world.store ≡ stored store ts = job_store x start store in
    let right : (job x start words).world.store ≡ stored words ts = ap (λ (c : Config). c.world.store) (job_agrees x start store words agree) in
    record {
      long = ap length left ∙ length-stored ts store ∙ agree.long ∙ sym (length-stored ts words) ∙ sym (ap length right);
      same = λ w at. ap (λ l. slice_index l w) left ∙ stored_alike ts store words w agree.long (agree.same w at) ∙ sym (ap (λ l. slice_index l w) right);
    }

pub job_length : (x : Exchange) (start : JobStart) (store : List ℕ) → length (job x start store).world.store ≡ length store
job_length x start store = ap length (job_store x start store) ∙ length-stored (job x start store).world.trace store

pub job_keeps : (x : Exchange) (start : JobStart) (store : List ℕ) (w : ℕ) → NoStore w (job x start store).world.trace
    → slice_index (job x start store).world.store w ≡ slice_index store w
job_keeps x start store w none = ap (λ l. slice_index l w) (job_store x start store) ∙ stored-kept (job x start store).world.trace store w none

-- a list leaves alone what another one touches: the words after it agree there with those before it
pub left_alone : (first ts : List Touch) (store : List ℕ) → LeavesAlone first ts → AgreeOn ts store (stored store first)
left_alone first ts store alone = record { long = sym (length-stored first store); same = λ w at. sym (stored-kept first store w (alone w at)) }

pub job_after : (x : Exchange) (start : JobStart) (store : List ℕ) (first : List Touch)
    → LeavesAlone first (job x start store).world.trace
    → job x start (stored store first) ≡ with_store (stored (stored store first) (job x start store).world.trace)
    (job x start store)
job_after x start store first alone = job_agrees x start store (stored store first) (left_alone first (job x start store).world.trace store alone)
