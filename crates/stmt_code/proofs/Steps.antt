-- The machine follows a step of the source, and so a whole after_steps.
use Rattle.std.proofs.Common.{◌≡◌, ℕ, zero, suc, ◌+◌, ◌^◌, ◌<◌, ◌≤◌, true, false, List, [], ◌∷◌}
use Rattle.std.proofs.Common.{refl, sym, ap, ◌∙◌, subst, arith, if◌then◌else◌}
use Rattle.std.specs.Prelude.{slice_index, nat_lt}
use Rattle.std.proofs.lemmas.Bool.Decides.{nat_tests}
use Rattle.exchange_model.specs.declared.stmt.Stmt.{Stmt}
use Rattle.exchange_model.specs.declared.stmt.StmtKind.{out-StmtKind}
use Rattle.exchange_model.specs.declared.stmt.StmtKind.TheOpen.{Enter}
use Rattle.source_meaning.specs.Config.{Item, Do, Turns, Config, next_counted}
use Rattle.exchange_model.specs.Kept.{is_enter}
use Rattle.source_meaning.specs.Step.{does, starts as begins_with, count, does_first, step}
use Rattle.source_meaning.specs.Job.{unless_over, after_steps}
use Rattle.machine_meaning.specs.Machine.{Machine, here}
use Rattle.stmt_code.specs.StmtCode.{turn, last}
use Rattle.stmt_code.proofs.Setting.{Setting}
use Rattle.stmt_code.proofs.At.{SameLoops, At, Ready, ready, jumps, skips, over, again, nothing}
use Rattle.stmt_code.proofs.At.{does as doing, starts, AtHead, turns, fewer, at_keeps, ready_keeps}
use Rattle.stmt_code.proofs.Same.{Same, Sim, alive, heads, ended, Comes, Follows, by_way, is_over}
use Rattle.stmt_code.proofs.Instr.{jmp_on}
use Rattle.stmt_code.proofs.Values.{Laid, count_sim}
use Rattle.stmt_code.proofs.Kind.{at_kept, ends_sim}
use Rattle.stmt_code.proofs.Loops.{turn_sim, next_turn}
use Rattle.stmt_code.proofs.Takes.{take_sim}
use Rattle.stmt_code.proofs.KindRuns.{kind_runs}

-- the machine stands at the first of these items, which is counted, or at the head of a loop of
-- which a turn begins
pub data ReadyAt (g : Setting) (c : Config) (todo : List Item) (m : Machine) : Type 0 where
  stands : {d : ℕ} → Same g [] c m → Ready g c.block m.run.locals d todo m.run.pc → ReadyAt g c todo m
  begins : Same g [] c m → AtHead g c.block m.run.regs m.run.locals todo m.run.pc → ReadyAt g c todo m

ready_settled : {g : Setting} {b d a : ℕ} {l : List ℕ} {todo : List Item} → Ready g b l d todo a → next_counted todo ≡ todo
unfolding next_counted
ready_settled (nothing e) = refl
ready_settled (doing {s = s} {rest = rest} l is e has fits r) = ap
    (λ k. if is_enter k then next_counted rest else Do s ∷ rest) is
    ∙ ap (λ b. if b then next_counted rest else Do s ∷ rest) e
ready_settled (starts signal temps is has fits r) = refl

head_settled : {g : Setting} {b a : ℕ} {k l : List ℕ} {todo : List Item} → AtHead g b k l todo a → next_counted todo ≡ todo
unfolding next_counted
head_settled (turns {p = p} {t = t} {this = this} {end = end} {body = body} {rest = rest} loop small lt first e f
    r) = ap (λ b. if b then next_counted rest else Turns p t this end body ∷ rest) lt

skip_settles : (s : Stmt) (rest : List Item) → is_enter (out-StmtKind s.kind) ≡ true → next_counted (Do s ∷ rest) ≡ next_counted rest
unfolding next_counted
skip_settles s rest e = ap (λ b. if b then next_counted rest else Do s ∷ rest) e

over_settles : (p t this end : ℕ) (body : List Stmt) (rest : List Item) → nat_lt end this ≡ true
    → next_counted (Turns p t this end body ∷ rest) ≡ next_counted rest
unfolding next_counted
over_settles p t this end body rest e = ap (λ b. if b then next_counted rest else Turns p t this end body ∷ rest) e

not_above : (this end : ℕ) → end < 2 ^ 32 → nat_lt end this ≡ false → this < 2 ^ 32
not_above this end lt e = let le : this ≤ end = grind (arith, nat_tests) in omega arith

module _ {g : Setting} where
  done : {c : Config} {m : Machine} {d a : ℕ} {todo : List Item} → Ready g c.block m.run.locals d todo a → Same g [] c m
      → m.run.pc ≡ a → Comes g (ReadyAt g c (next_counted todo)) m
  done {c = c} {m = m} {d = d} {todo = todo} r s at =
      record {
        end = m;
        goes = here;
        is = stands s (subst (λ l. Ready g c.block m.run.locals d l m.run.pc) (sym (ready_settled r)) (subst (Ready g c.block m.run.locals d todo) (sym at) r));
      }

  begun : {c : Config} {m : Machine} {a : ℕ} {todo : List Item} → AtHead g c.block m.run.regs m.run.locals todo a
      → Same g [] c m → m.run.pc ≡ a → Comes g (ReadyAt g c (next_counted todo)) m
  begun {c = c} {m = m} {todo = todo} h s at =
      record {
        end = m;
        goes = here;
        is = begins s (subst (λ l. AtHead g c.block m.run.regs m.run.locals l m.run.pc) (sym (head_settled h))
            (subst (AtHead g c.block m.run.regs m.run.locals todo) (sym at) h));
      }

  -- what is not counted is passed over
  pub settle_at : (c : Config) (locals : List ℕ) {d a : ℕ} {todo : List Item} → At g c.block locals d todo a
      → (m : Machine) → SameLoops d m.run.locals locals → Same g [] c m → m.run.pc ≡ a
      → Comes g (ReadyAt g c (next_counted todo)) m
  settle_at c locals (ready r) m h s at = done (ready_keeps m.run.locals h r) s at
  settle_at c locals (jumps to j r) m h s at = jmp_on s at j
      (λ n s1 at1 same. settle_at c locals r n (λ i low high. ap (λ l. slice_index l i) same ∙ h i low high) s1 at1)
  settle_at c locals (skips {s = stmt} {rest = rest} e r) m h s at = subst (λ l. Comes g (ReadyAt g c l) m)
      (sym (skip_settles stmt rest e)) (settle_at c locals r m h s at)
  settle_at c locals (over {d = d} {p = p} {t = t} {this = this} {end = end} {body = body} {rest = rest} e r) m h s at =
      subst (λ l. Comes g (ReadyAt g c l) m) (sym (over_settles p t this end body rest e)) (settle_at c locals r m (fewer d m.run.locals locals h) s at)
  settle_at c locals (again {d = d} {p = p} {t = t} {this = this} {end = end} {body = body} {rest = rest} head loop small e f r) m h s at =
      let few = fewer d m.run.locals locals h in
      next_turn c m d p t this end head body rest s at loop small
      (ap (λ v. v + 1) (h (turn d) (omega arith) (omega arith)) ∙ e) (h (last d) (omega arith) (omega arith) ∙ f)
      (at_keeps m.run.locals few r)
      (λ past n s1 at1 loops.
      subst (λ l. Comes g (ReadyAt g c l) n) (sym (over_settles p t this end body rest past))
      (settle_at c locals r n (λ i low high. loops i low (omega (arith, loop.depth)) ∙ few i low high) s1 at1))
      (λ n s1 at1 head. begun head s1 at1)

module _ {g : Setting} (laid : Laid g) where
  ready_sim : {d : ℕ} {todo : List Item} (c : Config) (m : Machine) → Same g [] c m
      → Ready g c.block m.run.locals d todo m.run.pc → Follows g (does_first g.exchange todo c) m
  ready_sim c m s (nothing e) = ends_sim s refl e
  ready_sim {d = d} c m s (doing {s = stmt} {rest = rest} l is no_enter has fits r) =
      subst (λ k. Follows g (count stmt.point c (does g.exchange stmt.point k rest)) m) (sym is)
      (kind_runs laid l no_enter c m stmt.point d m.run.pc rest s refl has fits r)
  ready_sim c m s (starts {s = stmt} {rest = rest} signal temps is has fits r) =
      subst (λ k. Follows g (count stmt.point c (begins_with k rest)) m) (sym is)
      (count_sim (begins_with (Enter signal temps) rest) s refl has.0 (λ n s1 at1 q.
      take_sim temps 0 _ n 0 (m.run.pc + 1) rest (omega arith) fits s1 at1 has.1 (at_kept (omega arith) q r)))

  head_sim : {todo : List Item} (c : Config) (m : Machine) → Same g [] c m
      → AtHead g c.block m.run.regs m.run.locals todo m.run.pc → Follows g (does_first g.exchange todo c) m
  head_sim c m s (turns {d = d} {p = p} {t = t} {this = this} {end = end} {body = body} {rest = rest} loop small lt first e f r) =
      turn_sim c m d p t this end m.run.pc body rest s refl loop small first e f r (not_above this end small lt)

  first_sim : {todo : List Item} (c : Config) (m : Machine) → ReadyAt g c todo m → Follows g (does_first g.exchange todo c) m
  first_sim c m (stands s at) = ready_sim c m s at
  first_sim c m (begins s at) = head_sim c m s at

  pub step_sim : (c : Config) (m : Machine) {d : ℕ} → Same g [] c m → At g c.block m.run.locals d c.todo m.run.pc → Follows g (step g.exchange c) m
  unfolding step
  step_sim c m s at =
      let f = settle_at c m.run.locals at m (λ i low high. refl) s refl in
      by_way f.goes (first_sim c f.end f.is)

  -- the same at the head of a loop of which a turn begins
  turn_step : (c : Config) (m : Machine) → Same g [] c m → AtHead g c.block m.run.regs m.run.locals c.todo m.run.pc → Follows g (step g.exchange c) m
  unfolding step
  turn_step c m s at =
      let f = begun at s refl in
      by_way f.goes (first_sim c f.end f.is)

  -- the machine follows any number of steps
  pub run_sim : (n : ℕ) (c : Config) (m : Machine) → Sim g c m → Follows g (after_steps n g.exchange c) m
  unfolding after_steps
  run_sim zero c m sim = record { end = m; goes = here; is = sim }
  run_sim (suc n) c m (alive s at) =
      let f = step_sim c m s at in
      subst (λ o. Follows g (unless_over o c (after_steps n g.exchange (step g.exchange c))) m) (sym s.going)
      (by_way f.goes (run_sim n (step g.exchange c) f.end f.is))
  run_sim (suc n) c m (heads s at) =
      let f = turn_step c m s at in
      subst (λ o. Follows g (unless_over o c (after_steps n g.exchange (step g.exchange c))) m) (sym s.going)
      (by_way f.goes (run_sim n (step g.exchange c) f.end f.is))
  run_sim (suc n) c m (ended {o = o} e f own w) =
      subst (λ v. Follows g (unless_over v c (after_steps n g.exchange (step g.exchange c))) m) (sym e) (is_over e f own w)
