-- At most so many callers wait at any time as may wait.
use Rattle.std.proofs.Common.{◌≡◌, ℕ, ◌≤◌, List, [], ◌∷◌, length, ap, arith}
use Rattle.plex_limits.specs.declared.limits.TheConstants.{MOST_CALLERS}
use Rattle.job_types.specs.declared.job.JobStart.{JobStart}
use Rattle.exchange_model.specs.declared.exchange.Exchange.{Exchange}
use Rattle.source_meaning.specs.Config.{Item, Caller, Config}
use Rattle.source_meaning.specs.Changes.{ends}
use Rattle.source_meaning.specs.Deeds.{Deed}
use Rattle.source_meaning.specs.Effects.{Effect, Looks, Leave, Begins, Asks, Returns, Ends, Faults}
use Rattle.source_meaning.specs.Job.{begins, after_steps}
use Rattle.source_meaning.proofs.Keeping.{Kept, steps_keep}

abbrev pub FewWait : Config → Type 0
FewWait c = length c.callers ≤ MOST_CALLERS

effect_few : (x : Exchange) (deed : Deed) (rest : List Item) (c d : Config) → FewWait c → Effect x deed rest c d → FewWait d
effect_few x deed rest c d few (Looks e loads each) = few
effect_few x deed rest c d few _ = few

leave_few : (x : Exchange) (deed : Deed) (rest : List Item) (c d : Config) → FewWait c → Leave x deed rest c d → FewWait d
leave_few x deed rest c d few (Begins e b signal vs is) = few
leave_few x deed rest c d few (Asks e b signal answer vs is room) = omega (arith, room)
leave_few x deed rest c d few (Returns e p answer values vs k ks is given some same) =
    (let many : length c.callers ≡ length (k ∷ ks) = ap length some in omega (arith, few, many))
leave_few x deed rest c d few (Ends e p l is end none) = few
leave_few x deed rest c d few (Faults e f why) = few

ends_few : (ks : List Caller) (c : Config) → FewWait c → FewWait (ends ks c)
ends_few [] c few = few
ends_few (k ∷ ks) c few = few

few_kept : (x : Exchange) → Kept x FewWait (λ b deed rest. Unit {0})
few_kept x = record {
  context = λ c i rest few going is. tt;
  counting = λ deed rest c at few. few;
  effect = λ deed rest c d at few e. effect_few x deed rest c d few e;
  leave = λ deed rest c d at few e. leave_few x deed rest c d few e;
  ending = λ c few. ends_few c.callers c few;
  full = λ c few. few;
}

pub steps_few : (x : Exchange) (n : ℕ) (start : JobStart) (store : List ℕ) → FewWait (after_steps n x (begins x start store))
steps_few x n start store = steps_keep (few_kept x) n (begins x start store) (omega arith)
