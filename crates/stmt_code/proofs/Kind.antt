-- What is to be shown of a kind of statement, and what all kinds need.
use Rattle.std.proofs.Common.{◌≡◌, ℕ, zero, suc, ◌+◌, ◌≤◌, List, [], ◌∷◌, length, refl, sym, ap}
use Rattle.std.proofs.Common.{subst}
use Rattle.job_types.specs.declared.fault.Fault.TheVariants.{BadEnd}
use Rattle.machine_code.specs.declared.op.Op.TheVariants as op
use Rattle.exchange_model.specs.declared.stmt.Stmt.{Stmt}
use Rattle.exchange_model.specs.declared.stmt.When.{When}
use Rattle.exchange_model.specs.declared.stmt.StmtKind.{StmtKind, StmtKind-F}
use Rattle.source_meaning.specs.Config.{Item, Caller, Config, from_place, label_of}
use Rattle.source_meaning.specs.Step.{does, count}
use Rattle.source_meaning.specs.Changes.{ends, goes, to_label}
use Rattle.job_types.specs.Truth.{at_zero}
use Rattle.machine_meaning.specs.declared.frame.Frame.{Frame}
use Rattle.machine_meaning.specs.Machine.{Machine, made_one, reg, ends as m_ends}
use Rattle.expr_code.specs.Runs.{HasOp, HasAt}
use Rattle.stmt_code.specs.StmtCode.{opened}
use Rattle.stmt_code.specs.Within.{LayerIn}
use Rattle.stmt_code.proofs.Setting.{Setting, places}
use Rattle.stmt_code.proofs.At.{At, at_moves}
use Rattle.stmt_code.proofs.Same.{Same, Waits, Follows, by_step, stays, is_over, faults}
use Rattle.stmt_code.proofs.Instr.{Kept, Gave, jz_zero, jz_other}
use Rattle.stmt_code.proofs.Values.{Laid, Valued, count_sim}

-- the code of this layer does what the statement does
abbrev pub Case : Setting → StmtKind-F StmtKind Stmt When → Type 0
Case g l = (c : Config) (m : Machine) (p d a : ℕ) (rest : List Item) → Same g [] c m → m.run.pc ≡ a
    → HasAt g.code a (opened l (places g c.block) p d a) → LayerIn g.exchange c.block d l
    → At g c.block m.run.locals d rest (a + length (opened l (places g c.block) p d a)) → Follows g (count p c (does g.exchange p l rest)) m

module _ {g : Setting} where
  -- only what remains differs
  pub todo_same : {vs : List ℕ} {c : Config} {m : Machine} (todo : List Item) → Same g vs c m → Same g vs (record c { todo = todo }) m
  todo_same todo s = record {
    own = s.own;
    world = s.world;
    temps = s.temps;
    regs = s.regs;
    small_store = s.small_store;
    small_given = s.small_given;
    small_answers = s.small_answers;
    callers = s.callers;
    out = s.out;
    small_out = s.small_out;
    runs = s.runs;
    going = s.going;
  }

  -- what remains stands where it stood
  pub at_kept : {b d a : ℕ} {todo : List Item} {m n : Machine} → d ≤ 12 → Kept m n → At g b m.run.locals d todo a → At g b n.run.locals d todo a
  at_kept {n = n} le q r = at_moves n.run.locals le q.loops r

  pub at_gave : {b d a r v : ℕ} {todo : List Item} {m n : Machine} → d ≤ 12 → Gave r v m n → At g b m.run.locals d todo a → At g b n.run.locals d todo a
  at_gave {n = n} le q r = at_moves n.run.locals le q.loops r

  pub at_valued : {b d a r v : ℕ} {todo : List Item} {m n : Machine} → d ≤ 12 → Valued r v m n → At g b m.run.locals d todo a → At g b n.run.locals d todo a
  at_valued {n = n} le q r = at_moves n.run.locals le q.loops r

  -- on with what remains, at an address
  pub goes_on_at : {c : Config} {m : Machine} {d a : ℕ} (todo : List Item) → Same g [] c m → m.run.pc ≡ a
      → At g c.block m.run.locals d todo a → Follows g (goes todo c) m
  goes_on_at {c = c} {m = m} {d = d} todo s e at = stays (todo_same todo s) (subst (At g c.block m.run.locals d todo) (sym e) at)

  -- on at a label
  pub label_sim : {c : Config} {m : Machine} (laid : Laid g) (l : ℕ) → Same g [] c m
      → m.run.pc ≡ g.table.label c.block l → Follows g (to_label g.exchange l c) m
  label_sim {c = c} {m = m} laid l s e = goes_on_at (from_place g.exchange c.block (label_of g.exchange c.block l)) s e (laid.texts c.block l m.run.locals)

  -- one of two, by whether a register is 0
  pub zero_sim : {c : Config} {m : Machine} {r a to : ℕ} (v : ℕ) (zeros others : Config) → Same g [] c m → m.run.pc ≡ a
      → HasOp g.code a (op.Jz r to) → reg m.run r ≡ v
      → ((n : Machine) → Same g [] c n → n.run.pc ≡ to → Kept m n → Follows g zeros n)
      → ((n : Machine) → Same g [] c n → n.run.pc ≡ a + 1 → Kept m n → Follows g others n)
      → Follows g (at_zero v zeros others) m
  zero_sim zero zeros others s at has is j k = jz_zero s at has is j
  zero_sim (suc v) zeros others s at has is j k = jz_other s at has is k

  -- the end of an activation, where nobody or a caller waits
  ends_cases : (ks : List Caller) (fs : List Frame) (c : Config) (m : Machine) (a : ℕ) → Waits g ks fs
      → m.run.frames ≡ fs → Same g [] c m → m.run.pc ≡ a → HasOp g.code a op.End → Follows g (ends ks c) m
  ends_cases [] [] c m a w e s at has = by_step op.End _ s.runs at has tt
      (ap (λ f. record { run = m_ends f (made_one m.run); world = m.world }) e) (is_over refl refl s.own s.world)
  ends_cases [] (f ∷ fs) c m a w e s at has = absurd w
  ends_cases (k ∷ ks) [] c m a w e s at has = absurd w
  ends_cases (k ∷ ks) (f ∷ fs) c m a w e s at has = faults op.End BadEnd s at has tt (ap (λ f. record { run = m_ends f (made_one m.run); world = m.world }) e)

  pub ends_sim : {c : Config} {m : Machine} {a : ℕ} → Same g [] c m → m.run.pc ≡ a → HasOp g.code a op.End → Follows g (ends c.callers c) m
  ends_sim {c = c} {m = m} {a = a} s at has = ends_cases c.callers m.run.frames c m a s.callers refl s at has

  pub exit : (c : Config) (m : Machine) (p a : ℕ) → Same g [] c m → m.run.pc ≡ a
      → HasAt g.code a (op.Stmt p ∷ op.End ∷ []) → Follows g (count p c (λ d. ends d.callers d)) m
  exit c m p a s at has = count_sim (λ d. ends d.callers d) s at has.0 (λ n s1 at1 q. ends_sim s1 at1 has.1.0)
