-- The jobs of a window are those that the single run begins next.
use Rattle.std.proofs.Common.{◌≡◌, ℕ, zero, suc, ◌+◌, ◌<◌, ◌≤◌, List, [], ◌∷◌, length, Some, None}
use Rattle.std.proofs.Common.{slice_get, refl, sym, ap, ◌∙◌, subst, arith}
use Rattle.std.proofs.lemmas.Option.{none-some, slice_get_within}
use Rattle.job_types.specs.declared.job.JobStart.{JobStart}
use Rattle.exchange_model.specs.declared.exchange.Exchange.{Exchange}
use Rattle.exchange_model.specs.Kept.{IsExchange}
use Rattle.source_meaning.proofs.Retiring.{turn_valid}
use Rattle.source_meaning.specs.Job.{job}
use Rattle.source_meaning.specs.SingleRun.{after, begun, ending_at, turn}
use Rattle.source_meaning.specs.State.{State}
use Rattle.source_meaning.specs.Valid.{IsValid}
use Rattle.order_laws.specs.Windows.{IsTurnOf, IsWindow, turns}
use Rattle.order_laws.proofs.Keeping.{end_keeps}
use Rattle.order_laws.proofs.Moving.{window_next, window_quiet, window_retired}
use Rattle.order_laws.proofs.Starting.{goes_on}

-- turns

pub turns_valid : (x : Exchange) → IsExchange x → (n : ℕ) (s : State) → IsValid x s → IsValid x (turns x s n)
unfolding turns
turns_valid x kept zero s v = v
turns_valid x kept (suc n) s v = turns_valid x kept n (turn x s) (turn_valid x kept s v)

-- a turn more, after all of them
turns_last : (x : Exchange) (n : ℕ) (s : State) → turns x s (suc n) ≡ turn x (turns x s n)
unfolding turns
turns_last x zero s = refl
turns_last x (suc n) s = turns_last x n (turn x s)

after_last : (x : Exchange) (s : State) (n : ℕ) → after x s (suc n) ≡ turn x (after x s n)
unfolding after
after_last x s n = refl

pub after_later : (x : Exchange) (s : State) (n : ℕ) → after x s (n + 1) ≡ turn x (after x s n)
after_later x s n = let same : n + 1 ≡ suc n = omega arith in ap (after x s) same ∙ after_last x s n

turns_none : (x : Exchange) (s : State) → turns x s 0 ≡ s
unfolding turns
turns_none x s = refl

pub after_more : (x : Exchange) (s : State) (m n : ℕ) → after x s (m + n) ≡ turns x (after x s m) n
after_more x s m zero = let same : m + 0 ≡ m = omega arith in ap (after x s) same ∙ sym (turns_none x (after x s m))
after_more x s m (suc n) =
    let same : m + suc n ≡ suc (m + n) = omega arith in
    ap (after x s) same
    ∙ after_last x s (m + n)
    ∙ ap (turn x) (after_more x s m n)
    ∙ sym (turns_last x n (after x s m))

-- each job of a window begins in its turn
pub window_turn : (x : Exchange) → IsExchange x → (starts : List JobStart) (s : State) (n : ℕ) (start : JobStart)
    → IsValid x s → IsWindow x s starts → slice_get starts n ≡ Some start → IsTurnOf x s starts n start
unfolding turns
window_turn x kept [] s n start v w at = absurd (none-some start at)
window_turn x kept (a ∷ rest) s zero start v w at = record {
  next = window_next x s v a rest w ∙ at;
  ended = (let none : s.ended + 0 ≡ s.ended = omega arith in sym none);
  lines = refl;
  left = w;
}
window_turn x kept (a ∷ []) s (suc n) start v w at = absurd (none-some start at)
window_turn x kept (a ∷ b ∷ rest) s (suc n) start v w at =
    let quiet = window_quiet x s v a b rest w in
    let left : IsWindow x (turn x s) (b ∷ rest) = subst (λ t. IsWindow x t (b ∷ rest)) (sym quiet) (window_retired x s v a (b ∷ rest) w) in
    let k = end_keeps x a (job x a s.store) (begun s) in
    let one : (turn x s).ended ≡ s.ended + 1 = ap (λ (t : State). t.ended) quiet ∙ k.ended in
    let same : (turn x s).lines ≡ s.lines = ap (λ (t : State). t.lines) quiet ∙ k.lines in
    let more = window_turn x kept (b ∷ rest) (turn x s) n start (turn_valid x kept s v) left at in
    record {
      next = more.next;
      ended = more.ended ∙ (let sum : (turn x s).ended + n ≡ s.ended + suc n = omega arith in sum);
      lines = more.lines ∙ same;
      left = more.left;
    }

pub window_limit : (x : Exchange) → IsExchange x
    → (starts : List JobStart) (s : State) (n : ℕ) (start : JobStart) (limit : ℕ) → IsValid x s → IsWindow x s starts
    → slice_get starts n ≡ Some start
    → s.ended + length starts ≤ limit → ending_at limit (turns x s n) ≡ None
window_limit x kept starts s n start limit v w at few =
    let here = window_turn x kept starts s n start v w at in
    let within : n < length starts = slice_get_within starts n start at in
    let ended : (turns x s n).ended ≡ s.ended + n = here.ended in
    goes_on limit (turns x s n) start here.next (omega arith)
