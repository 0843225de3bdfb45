-- A caller that waits for an answer goes on at the RETRIEVE of that answer.
use Rattle.std.proofs.Common.{◌≡◌, ℕ, List, [], ◌∷◌, ◌++◌, map, Some, None, sym, ap, ◌∙◌, subst}
use Rattle.std.specs.List.{AllByRecursion}
use Rattle.job_types.specs.declared.job.JobStart.{JobStart}
use Rattle.exchange_model.specs.declared.exchange.Exchange.{Exchange}
use Rattle.exchange_model.specs.declared.stmt.Stmt.{Stmt}
use Rattle.exchange_model.specs.declared.stmt.StmtKind.{out-StmtKind}
use Rattle.exchange_model.specs.declared.stmt.StmtKind.TheOpen as stmt
use Rattle.exchange_model.specs.Fits.{ArePaired, answer_of, awaited}
use Rattle.exchange_model.specs.Kept.{IsExchange}
use Rattle.source_meaning.specs.Config.{Item, Do, Caller, Config}
use Rattle.source_meaning.specs.Changes.{ends}
use Rattle.source_meaning.specs.Deeds.{Deed, IsAsking, by_combined}
use Rattle.source_meaning.specs.Effects.{Effect, Looks, Leave, Begins, Asks, Returns, Ends, Faults}
use Rattle.source_meaning.specs.Job.{begins, after_steps}
use Rattle.source_meaning.specs.Named.{Layer}
use Rattle.source_meaning.specs.Rests.{AreRests, DeedStands, StandsAs, IsRetrieveOf}
use Rattle.source_meaning.specs.Rests.{WaitsAtRetrieve, AllWaitAtRetrieve}
use Rattle.source_meaning.proofs.Fitting.{row_paired}
use Rattle.source_meaning.proofs.Keeping.{KeptWith, kept_both, steps_keep}
use Rattle.source_meaning.proofs.Rests.{DeedRest, rests_kept, start_rests}

module _ (x : Exchange) (kept : IsExchange x) where
  -- what follows a statement that awaits an answer begins with its RETRIEVE
  awaits_next : (b p : ℕ) (l : Layer) (rest : List Item) (answer : ℕ) → StandsAs x b p l rest → awaited x.signals l ≡ Some answer → IsRetrieveOf answer rest
  awaits_next b p l rest answer h is = by h.stands.list (row_paired x kept b h.stmt h.stands.list h.stands.end h.stands.row) h.stands.is
    where
      by : (list : List Stmt) → ArePaired x.signals (awaited x.signals (out-StmtKind h.stmt.kind)) list
          → rest ≡ map Do list ++ h.stands.more → IsRetrieveOf answer rest
      by [] pairs same = absurd (let none : Some answer ≡ None = sym is ∙ ap (awaited x.signals) (sym h.is) ∙ pairs in cc)
      by (r ∷ list) pairs same = subst (IsRetrieveOf answer) (sym same) (pairs.0 ∙ ap (awaited x.signals) h.is ∙ is)

  asking_next : (c : Config) (deed : Deed) (rest : List Item) (b signal answer : ℕ) (vs : List ℕ)
      → DeedStands x c.block deed rest → IsAsking x c deed b signal answer vs → IsRetrieveOf answer rest
  asking_next c deed rest b signal answer vs at (by_combined p s to values fresh name count a n ws kind sending) =
      awaits_next c.block p (stmt.Send s to values fresh) rest a at (ap answer_of kind)

  effect_waits : (deed : Deed) (rest : List Item) (c d : Config) → AllWaitAtRetrieve c → Effect x deed rest c d → AllWaitAtRetrieve d
  effect_waits deed rest c d all (Looks e loads each) = all
  effect_waits deed rest c d all _ = all

  leave_waits : (deed : Deed) (rest : List Item) (c d : Config) → DeedStands x c.block deed rest → AllWaitAtRetrieve c
      → Leave x deed rest c d → AllWaitAtRetrieve d
  leave_waits deed rest c d at all (Begins e b signal vs is) = all
  leave_waits deed rest c d at all (Asks e b signal answer vs is room) = (asking_next c deed rest b signal answer vs at is, all)
  leave_waits deed rest c d at all (Returns e p answer values vs k ks is given some same) = (subst (AllByRecursion WaitsAtRetrieve) some all).1
  leave_waits deed rest c d at all (Ends e p l is end none) = all
  leave_waits deed rest c d at all (Faults e f why) = all

  ends_waits : (ks : List Caller) (c : Config) → AllWaitAtRetrieve c → AllWaitAtRetrieve (ends ks c)
  ends_waits [] c all = all
  ends_waits (k ∷ ks) c all = all

  pub waits_kept : KeptWith x (AreRests x) (λ b deed rest. DeedRest x b deed rest) AllWaitAtRetrieve (λ deed rest. Unit {0})
  waits_kept = record {
    context = λ c i rest h all is. tt;
    counting = λ deed rest c at h all. all;
    effect = λ deed rest c d at more h all e. effect_waits deed rest c d all e;
    leave = λ deed rest c d at more h all e. leave_waits deed rest c d at.0 all e;
    ending = λ c all. ends_waits c.callers c all;
    full = λ c all. all;
  }

  pub steps_wait : (n : ℕ) (start : JobStart) (store : List ℕ) → AllWaitAtRetrieve (after_steps n x (begins x start store))
  steps_wait n start store = (steps_keep (kept_both (rests_kept x) waits_kept) n (begins x start store) (start_rests x start store, tt)).1
