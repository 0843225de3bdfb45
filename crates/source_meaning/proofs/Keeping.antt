-- What each effect keeps is kept by a step, by any number of steps, and by a job.
use Rattle.std.proofs.Common.{◌≡◌, ℕ, zero, suc, List, ◌∷◌, Option, Some, None, refl, sym, subst}
use Rattle.job_types.specs.declared.fault.Fault.TheVariants as fault
use Rattle.job_types.specs.declared.outcome.Outcome.{Outcome}
use Rattle.job_types.specs.Own.{counted}
use Rattle.exchange_model.specs.declared.exchange.Exchange.{Exchange}
use Rattle.source_meaning.specs.Config.{Item, Config, next_counted}
use Rattle.source_meaning.specs.Changes.{fails, ends}
use Rattle.source_meaning.specs.Deeds.{Deed, deed_of, deed_point}
use Rattle.source_meaning.specs.Effects.{Effect, Looks, Leave, Effects, Done, Then, Last, Step}
use Rattle.source_meaning.specs.Effects.{NothingLeft, CountFull, Counts}
use Rattle.source_meaning.specs.Job.{unless_over, after_steps}
use Rattle.source_meaning.specs.Step.{step}
use Rattle.source_meaning.proofs.Stepping.{every_step}

-- an effect stays in the block
pub effect_block : {x : Exchange} {deed : Deed} {rest : List Item} (c d : Config) → Effect x deed rest c d → d.block ≡ c.block
effect_block c d (Looks e loads h) = refl
effect_block c d _ = refl

-- what is shown of a step: of the item that is counted, with what remains after it, D tells what
-- the block's text says
pub record Kept (x : Exchange) (P : Config → Type 0) (D : ℕ → Deed → List Item → Type 0) : Type 0 where
  pub context : (c : Config) (i : Item) (rest : List Item) → P c → c.over ≡ None → next_counted c.todo ≡ i ∷ rest → D c.block (deed_of i) rest
  pub counting : (deed : Deed) (rest : List Item) (c : Config) → D c.block deed rest → P c → P (record c { own = counted (deed_point deed) c.own })
  pub effect : (deed : Deed) (rest : List Item) (c d : Config) → D c.block deed rest → P c → Effect x deed rest c d → P d
  pub leave : (deed : Deed) (rest : List Item) (c d : Config) → D c.block deed rest → P c → Leave x deed rest c d → P d
  pub ending : (c : Config) → P c → P (ends c.callers c)
  pub full : (c : Config) → P c → P (fails fault.Budget c)

module _ {x : Exchange} {P : Config → Type 0} {D : ℕ → Deed → List Item → Type 0} (kept : Kept x P D) where
  effects_keep : {deed : Deed} {rest : List Item} {temps : List ℕ} (c d : Config) → D c.block deed rest → P c → Effects x deed rest temps c d → P d
  effects_keep c d here p (Done e) = p
  effects_keep {deed} {rest} c d here p (Then a b e same effect more) =
      effects_keep b d (subst (λ n. D n deed rest) (sym (effect_block c b effect)) here) (kept.effect deed rest c b here p effect) more
  effects_keep {deed} {rest} c d here p (Last a b same leave) = kept.leave deed rest c d here p leave

  pub one_step : (c d : Config) → P c → c.over ≡ None → Step x c d → P d
  one_step c d p going (NothingLeft none) = kept.ending c p
  one_step c d p going (CountFull i rest is full) = kept.full _ (kept.counting (deed_of i) rest c (kept.context c i rest p going is) p)
  one_step c d p going (Counts i rest e is room effects) =
      let here = kept.context c i rest p going is in
      effects_keep _ d here (kept.counting (deed_of i) rest c here p) effects

  pub steps_keep : (n : ℕ) (c : Config) → P c → P (after_steps n x c)
  unfolding after_steps
  steps_keep zero c p = p
  steps_keep (suc n) c p = by c.over refl (λ going. steps_keep n (step x c) (one_step c (step x c) p going (every_step x c)))
    where
      by : (over : Option Outcome) → c.over ≡ over → (c.over ≡ None → P (after_steps n x (step x c))) → P (unless_over over c (after_steps n x (step x c)))
      by None is more = more is
      by (Some o) is more = p

-- what is kept besides, where all this is; of what is counted it may tell more
pub record KeptWith (x : Exchange) (P : Config → Type 0) (D : ℕ → Deed → List Item → Type 0) (Q : Config → Type 0)
    (E : Deed → List Item → Type 0) : Type 0 where
  pub context : (c : Config) (i : Item) (rest : List Item) → P c → Q c → next_counted c.todo ≡ i ∷ rest → E (deed_of i) rest
  pub counting : (deed : Deed) (rest : List Item) (c : Config) → D c.block deed rest → P c → Q c → Q (record c { own = counted (deed_point deed) c.own })
  pub effect : (deed : Deed) (rest : List Item) (c d : Config) → D c.block deed rest → E deed rest → P c → Q c → Effect x deed rest c d → Q d
  pub leave : (deed : Deed) (rest : List Item) (c d : Config) → D c.block deed rest → E deed rest → P c → Q c → Leave x deed rest c d → Q d
  pub ending : (c : Config) → Q c → Q (ends c.callers c)
  pub full : (c : Config) → Q c → Q (fails fault.Budget c)

pub kept_both : {x : Exchange} {P : Config → Type 0} {D : ℕ → Deed → List Item → Type 0} {Q : Config → Type 0}
    {E : Deed → List Item → Type 0} → Kept x P D → KeptWith x P D Q E
    → Kept x (λ c. P c × Q c) (λ b deed rest. D b deed rest × E deed rest)
kept_both first more = record {
  context = λ c i rest h going is. (first.context c i rest h.0 going is, more.context c i rest h.0 h.1 is);
  counting = λ deed rest c at h. (first.counting deed rest c at.0 h.0, more.counting deed rest c at.0 h.0 h.1);
  effect = λ deed rest c d at h e. (first.effect deed rest c d at.0 h.0 e, more.effect deed rest c d at.0 at.1 h.0 h.1 e);
  leave = λ deed rest c d at h e. (first.leave deed rest c d at.0 h.0 e, more.leave deed rest c d at.0 at.1 h.0 h.1 e);
  ending = λ c h. (first.ending c h.0, more.ending c h.1);
  full = λ c h. (first.full c h.0, more.full c h.1);
}
