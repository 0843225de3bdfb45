-- What is in range when a job begins stays in range.
use Rattle.job_types.specs.declared.chain.Held.{Held}
use Rattle.job_types.specs.declared.fault.Fault.TheVariants as fault
use Rattle.job_types.specs.declared.outcome.Outcome.{Outcome}
use Rattle.job_types.specs.declared.outcome.Outcome.TheVariants.{Ended, Faulted}
use Rattle.job_types.specs.Own.{World, budget}
use Rattle.source_meaning.specs.Changes.{activates, ends}
use Rattle.source_meaning.specs.Effects.{with_caller, Effect, Looks, PutsVariable, PutsField}
use Rattle.source_meaning.specs.Effects.{Seizes, Frees, Goes, Posts, Leave, Begins, Asks, Returns}
use Rattle.source_meaning.specs.Effects.{Ends, Faults}
use Rattle.source_meaning.specs.Ranges.{OverFits, IsTurnWord, CallerInRange, SentFits, IsInRange}
use Rattle.source_meaning.specs.Valid.{IsWord, IsJob, StoreFits}
use Rattle.std.proofs.Common.{ℕ, ◌+◌, List, [], ◌∷◌, Option, Some, None, subst, slice_get, arith}
use Rattle.std.proofs.Common.{length-append}
use Rattle.std.specs.List.{AllByRecursion}
use Rattle.job_types.specs.declared.job.JobStart.{JobStart}
use Rattle.job_types.specs.declared.outbox.Sent.{Sent}
use Rattle.exchange_model.specs.declared.exchange.Exchange.{Exchange}
use Rattle.exchange_model.specs.declared.entry.Entry.{Entry}
use Rattle.exchange_model.specs.declared.stmt.StmtKind.TheOpen as stmt
use Rattle.exchange_model.specs.Kept.{IsExchange}
use Rattle.source_meaning.specs.Config.{Item, Caller, Config}
use Rattle.source_meaning.specs.Deeds.{Deed, Doing}
use Rattle.source_meaning.specs.Job.{todo_of, begins, job, after_steps}
use Rattle.source_meaning.specs.Rests.{AreRests, DeedStands}
use Rattle.source_meaning.proofs.Keeping.{Kept, KeptWith, kept_both, steps_keep}
use Rattle.plex_num.proofs.Lists.{all_append}
use Rattle.source_meaning.proofs.Points.{deed_below, some_point}
use Rattle.source_meaning.proofs.Rests.{DeedRest, rests_kept, start_rests}
use Rattle.source_meaning.proofs.Sending.{posting_fits}
use Rattle.source_meaning.proofs.Ranging.{words_eight, words_blank, turns_signal, turns_counted}
use Rattle.source_meaning.proofs.Ranging.{item_turns, TurnsAfter, posting_small, beginning_small}
use Rattle.source_meaning.proofs.Ranging.{asking_small, values_small, goes_turns, goes_temps}
use Rattle.source_meaning.proofs.Ranging.{store_fits}

module _ (x : Exchange) where
  -- other words, another chain, another outcome
  other_range : (c : Config) (w : World) (chain : List Held) (o : Option Outcome) → StoreFits x w.store → OverFits x o
      → IsInRange x c → IsInRange x (record c { world = w; own = record c.own { chain = chain }; over = o })
  other_range c w chain o store over h = record {
    store = store;
    temps = h.temps;
    given = h.given;
    answers = h.answers;
    turns = h.turns;
    callers = h.callers;
    sends = h.sends;
    few = h.few;
    point = h.point;
    over = over;
  }

  words_range : (c : Config) (w : World) (chain : List Held) → StoreFits x w.store → IsInRange x c
      → IsInRange x (record c { world = w; own = record c.own { chain = chain } })
  words_range c w chain store h = other_range c w chain c.over store h.over h

  over_range : (c : Config) (o : Option Outcome) → OverFits x o → IsInRange x c → IsInRange x (record c { over = o })
  over_range c o over h = other_range c c.world c.own.chain o h.store over h

  -- an activation of these values
  activation_range : (c : Config) (b signal : ℕ) (vs : List ℕ) → AllByRecursion IsWord vs → IsInRange x c → IsInRange x (activates x b signal vs c)
  activation_range c b signal vs small h = record {
    store = h.store;
    temps = words_blank;
    given = words_eight vs small;
    answers = h.answers;
    turns = turns_signal x b signal;
    callers = h.callers;
    sends = h.sends;
    few = h.few;
    point = h.point;
    over = h.over;
  }

  -- one caller more
  caller_range : (c : Config) (answer : ℕ) (rest : List Item) → AllByRecursion IsTurnWord rest → IsInRange x c → IsInRange x (with_caller answer rest c)
  caller_range c answer rest turns h = record {
    store = h.store;
    temps = h.temps;
    given = h.given;
    answers = h.answers;
    turns = h.turns;
    callers = (record { temps = h.temps; given = h.given; turns = turns }, h.callers);
    sends = h.sends;
    few = h.few;
    point = h.point;
    over = h.over;
  }

  ends_ranges : (ks : List Caller) (c : Config) → IsInRange x c → IsInRange x (ends ks c)
  ends_ranges [] c h = over_range c (Some Ended) tt h
  ends_ranges (k ∷ ks) c h = over_range c (Some (Faulted fault.BadEnd c.own.point)) h.point h

module _ (x : Exchange) (kept : IsExchange x) where
  effect_ranges : (deed : Deed) (rest : List Item) (c d : Config) → DeedStands x c.block deed rest
      → TurnsAfter deed rest → IsInRange x c → Effect x deed rest c d → IsInRange x d
  effect_ranges deed rest c d at more h (Goes e todo temps on) = record {
    store = h.store;
    temps = goes_temps x kept rest c deed todo temps at more h on;
    given = h.given;
    answers = h.answers;
    turns = goes_turns x kept rest c deed todo temps at more h on;
    callers = h.callers;
    sends = h.sends;
    few = h.few;
    point = h.point;
    over = h.over;
  }
  effect_ranges deed rest c d at more h (Posts e to vs is room) = record {
    store = h.store;
    temps = h.temps;
    given = h.given;
    answers = h.answers;
    turns = h.turns;
    callers = h.callers;
    sends = all_append (λ (m : Sent). SentFits x m.to m.values) c.own.sends (record { to = to; values = vs } ∷ [])
        h.sends (posting_fits x kept c deed rest to vs at is (posting_small x kept c deed rest to vs at h is), tt);
    few = let long = length-append c.own.sends (record { to = to; values = vs } ∷ []) in omega arith;
    point = h.point;
    over = h.over;
  }
  effect_ranges deed rest c d at more h (Looks e loads each) = words_range x c d.world c.own.chain h.store h
  effect_ranges deed rest c d at more h (PutsVariable e p variable expr v is value fits) =
      words_range x c d.world c.own.chain (store_fits x kept deed rest c d at h.store (PutsVariable e p variable expr v is value fits)) h
  effect_ranges deed rest c d at more h (PutsField e p file field pointer expr v placed is may value fits) =
      words_range x c d.world c.own.chain (store_fits x kept deed rest c d at h.store (PutsField e p file field pointer expr v placed is may value fits)) h
  effect_ranges deed rest c d at more h (Seizes e p temp file label number placed is record_of some room free) =
      words_range x c d.world d.own.chain (store_fits x kept deed rest c d at h.store (Seizes e p temp file label number placed is record_of some room free)) h
  effect_ranges deed rest c d at more h (Frees e p temp file placed is may) =
      words_range x c d.world d.own.chain (store_fits x kept deed rest c d at h.store (Frees e p temp file placed is may)) h

  leave_ranges : (deed : Deed) (rest : List Item) (c d : Config) → DeedStands x c.block deed rest → TurnsAfter deed rest
      → IsInRange x c → Leave x deed rest c d → IsInRange x d
  leave_ranges deed rest c d at more h (Begins e b signal vs is) = activation_range x c b signal vs (beginning_small x kept c deed rest b signal vs at h is) h
  leave_ranges deed rest c d at more h (Asks e b signal answer vs is room) =
      activation_range x (with_caller answer rest c) b signal vs
      (asking_small x kept c deed rest b signal answer vs at h is) (caller_range x c answer rest more.1 h)
  leave_ranges deed rest c d at more h (Returns e p answer values vs k ks is given some same) =
      let waiting : AllByRecursion CallerInRange (k ∷ ks) = subst (AllByRecursion CallerInRange) some h.callers in
      let small = values_small x kept c (Doing p (stmt.Return answer values)) rest values vs
      (subst (λ (a : Deed). DeedStands x c.block a rest) is at) h (λ e there. there) given in
      record {
        store = h.store;
        temps = waiting.0.temps;
        given = waiting.0.given;
        answers = words_eight vs small;
        turns = waiting.0.turns;
        callers = waiting.1;
        sends = h.sends;
        few = h.few;
        point = h.point;
        over = h.over;
      }
  leave_ranges deed rest c d at more h (Ends e p l is end none) = over_range x c (Some Ended) tt h
  leave_ranges deed rest c d at more h (Faults e f why) = over_range x c (Some (Faulted f c.own.point)) h.point h

  ranges_kept : KeptWith x (AreRests x) (λ b deed rest. DeedRest x b deed rest) (IsInRange x) TurnsAfter
  ranges_kept = record {
    context = λ c i rest h q is. item_turns i rest (subst (AllByRecursion IsTurnWord) is (turns_counted c.todo q.turns));
    counting = λ deed rest c at h q. record {
      store = q.store;
      temps = q.temps;
      given = q.given;
      answers = q.answers;
      turns = q.turns;
      callers = q.callers;
      sends = q.sends;
      few = q.few;
      point = deed_below x kept c.block deed rest at.0;
      over = q.over;
    };
    effect = λ deed rest c d at more h q e. effect_ranges deed rest c d at.0 more q e;
    leave = λ deed rest c d at more h q e. leave_ranges deed rest c d at.0 more q e;
    ending = λ c q. ends_ranges x c.callers c q;
    full = λ c q. over_range x c (Some (Faulted fault.Budget c.own.point)) q.point q;
  }

  pub start_ranges : (start : JobStart) (store : List ℕ) → IsJob x start.job → StoreFits x store → IsInRange x (begins x start store)
  start_ranges start store is fits = record {
    store = fits;
    temps = words_blank;
    given = words_eight start.job.values is.words;
    answers = words_eight [] tt;
    turns = turns_first (slice_get x.entries start.job.entry);
    callers = tt;
    sends = tt;
    few = omega arith;
    point = some_point x kept start.job.entry is.entry;
    over = tt;
  }
    where
      turns_first : (found : Option Entry) → AllByRecursion IsTurnWord (todo_of x found)
      turns_first None = tt
      turns_first (Some e) = turns_signal x e.block e.signal

  -- a job, and what stands in the text
  pub in_range_kept : Kept x (λ c. AreRests x c × IsInRange x c) (λ b deed rest. DeedRest x b deed rest × TurnsAfter deed rest)
  in_range_kept = kept_both (rests_kept x) ranges_kept

  pub steps_in_range : (n : ℕ) (start : JobStart) (store : List ℕ) → IsJob x start.job → StoreFits x store
      → IsInRange x (after_steps n x (begins x start store))
  steps_in_range n start store is fits = (steps_keep in_range_kept n (begins x start store) (start_rests x start store, start_ranges start store is fits)).1

  pub job_in_range : (start : JobStart) (store : List ℕ) → IsJob x start.job → StoreFits x store → IsInRange x (job x start store)
  unfolding job
  job_in_range start store is fits = steps_in_range (budget + 1) start store is fits
