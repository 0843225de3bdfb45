-- One event after the other.
use Rattle.std.proofs.Common.{◌≡◌, ℕ, ◌+◌, ◌<◌, ◌≤◌, Bool, true, false, List, [], ◌∷◌, ◌++◌, length}
use Rattle.std.proofs.Common.{get_or, take, refl, sym, ap, ◌∙◌, subst, arith}
use Rattle.std.proofs.lemmas.List.{take_all, take_more}
use Rattle.std.proofs.lemmas.Option.{slice_get_read}
use Rattle.run_books.specs.Accounts.{Account}
use Rattle.interleave_core.specs.declared.event.CoreEvent.{CoreEvent}
use Rattle.interleave_core.specs.declared.event.CoreEvent.TheVariants.{Issue, Step, Retire}
use Rattle.interleave_core.specs.declared.window.CoreState.{CoreState}
use Rattle.interleave_core.specs.declared.window.RunningCore.{RunningCore}
use Rattle.interleave_core.specs.Cores.{Core, core_of, opened_core, running_core}
use Rattle.interleave_core.specs.Making.{Happened, HasMade}
use Rattle.interleave_core.specs.Runs.{Allows, IsRefusedAt, LeadsTo, Runs, Setting, core_after}

-- one more event
pub runs_more : (k : Setting) (es : List CoreEvent) (e : CoreEvent) (c m : Core) → Runs k es c m → (can : Allows k m e)
    → Runs k (es ++ e ∷ []) c (core_after k m e can)
unfolding Runs
runs_more k [] e c m is can = subst (λ (o : Core). Runs k (e ∷ []) o (core_after k m e can)) is (can, refl)
runs_more k (d ∷ es) e c m runs can = (runs.0, runs_more k es e (core_after k c d runs.0) m runs.1 can)

-- the first events have led so far
pub record Gone (k : Setting) (b : Account) (words : List ℕ) (events : List CoreEvent) (i : ℕ) (r : RunningCore) : Type 0 where
  pub runs : Runs k (take i events) (opened_core b words) (running_core r)
  pub running : r.books.running ≡ length r.window.items
  pub few : r.retired ≤ i

pub gone_begin : (k : Setting) (b : Account) (words : List ℕ) (events : List CoreEvent) (r : RunningCore)
    → b.running ≡ 0 → running_core r ≡ opened_core b words → r.books ≡ b → r.window.items ≡ []
    → Gone k b words events 0 r
unfolding Runs
gone_begin k b words events r nobody is books window = record {
  runs = is;
  running = ap (λ (a : Account). a.running) books ∙ nobody ∙ sym (ap length window);
  few = (let none : r.retired ≡ 0 = ap (λ (c : Core). c.retired) is in omega (arith, none));
}

-- no event lets more than one job retire
retired_after : (k : Setting) (c : Core) (e : CoreEvent) (can : Allows k c e) → (core_after k c e can).retired ≤ c.retired + 1
retired_after k c Issue can = omega arith
retired_after k c (Step job) can = omega arith
retired_after k c Retire can = omega arith

pub gone_more : (k : Setting) (b : Account) (words : List ℕ) (events : List CoreEvent) (i : ℕ) (e : CoreEvent)
    (r new : RunningCore) (made : Bool) → i < length events → e ≡ get_or events i e → Gone k b words events i r
    → made ≡ true → Happened k (running_core r) e made new → Gone k b words events (i + 1) new
gone_more k b words events i e r new made lt is g was h =
    let m : HasMade k (running_core r) e new = subst (λ t. Happened k (running_core r) e t new) was h in
    let taken : take (i + 1) events ≡ take i events ++ e ∷ [] = take_more events i e lt ∙ ap (λ d. take i events ++ d ∷ []) (sym is) in
    let here = runs_more k (take i events) e (opened_core b words) (running_core r) g.runs m.can in
    record {
      runs = subst (λ es. Runs k es (opened_core b words) (running_core new)) (sym taken)
          (subst (Runs k (take i events ++ e ∷ []) (opened_core b words)) (sym m.becomes.core) here);
      running = m.becomes.running;
      few = (
          let is_now : new.retired ≡ (core_after k (running_core r) e m.can).retired = ap (λ (c : Core). c.retired) m.becomes.core in
          let one = retired_after k (running_core r) e m.can in
          let before = g.few in
          omega (arith, is_now, one, before)
          );
    }

pub gone_refused : (k : Setting) (b : Account) (words : List ℕ) (events : List CoreEvent) (i : ℕ) (e : CoreEvent)
    (r new : RunningCore) (made : Bool) → i < length events → e ≡ get_or events i e → Gone k b words events i r
    → made ≡ false → Happened k (running_core r) e made new → IsRefusedAt k events i (opened_core b words)
gone_refused k b words events i e r new made lt is g was h = record {
  event = e;
  core = running_core r;
  there = slice_get_read events (length events) i e refl lt is;
  before = g.runs;
  refused = subst (λ t. Happened k (running_core r) e t new) was h;
}

pub gone_end : (k : Setting) (b : Account) (words : List ℕ) (events : List CoreEvent) (i : ℕ) (r : RunningCore)
    (s : CoreState) → length events ≤ i → Gone k b words events i r
    → core_of s.books s.words s.window r.retired ≡ running_core r → s.books ≡ r.books → s.window ≡ r.window.items
    → LeadsTo k b words events s
gone_end k b words events i r s le g is books window = record {
  core = running_core r;
  runs = subst (λ es. Runs k es (opened_core b words) (running_core r)) (take_all i events le) g.runs;
  stands = record {
    core = sym is;
    running = ap (λ (a : Account). a.running) books ∙ g.running ∙ sym (ap length window);
  };
}
