-- What a statement that chooses what comes next does.
use Rattle.std.proofs.Common.{◌≡◌, ℕ, ◌+◌, Bool, true, false, List, [], ◌∷◌, ◌++◌, map, length}
use Rattle.std.proofs.Common.{drop, Ok, Err, refl, ap, sym, ◌∙◌, subst, arith}
use Rattle.job_types.specs.declared.fault.Fault.{Fault}
use Rattle.job_types.specs.declared.fault.Fault.TheVariants as fault
use Rattle.job_types.specs.declared.touch.Touch.{Touch}
use Rattle.exchange_model.specs.declared.expr.Cond.{Cond}
use Rattle.exchange_model.specs.declared.expr.Expr.{Expr}
use Rattle.exchange_model.specs.declared.stmt.Stmt.{Stmt}
use Rattle.exchange_model.specs.declared.stmt.When.{When}
use Rattle.exchange_model.specs.declared.stmt.StmtKind.{StmtKind, StmtKind-F, out-StmtKind}
use Rattle.exchange_model.specs.declared.stmt.StmtKind.TheOpen as stmt
use Rattle.exchange_model.specs.declared.stmt.StmtKind.TheVariants as kind
use Rattle.source_meaning.specs.Value.{answer_of, expr_value, cond_value}
use Rattle.job_types.specs.Truth.{one_if, at_zero}
use Rattle.source_meaning.specs.Config.{Config, Item, Do, Turns, Caller, sight}
use Rattle.exchange_model.specs.Kept.{is_enter}
use Rattle.source_meaning.specs.Step.{does, starts}
use Rattle.source_meaning.specs.Changes.{on_value, goes, to_label, chosen, ends}
use Rattle.source_interpreter.specs.Running.{Running, sight_of, with_temp, with_temps, with_turns}
use Rattle.source_interpreter.specs.Running.{before_rest, at_label}
use Rattle.source_interpreter.specs.Leaves.{Leaves, Follows, Does, turn}
use Rattle.source_interpreter.specs.declared.stop.Stop.{Stop}
use Rattle.source_interpreter.specs.declared.stop.Stop.TheVariants as stop
use Rattle.source_interpreter.proofs.Follow.{start_of, value_goes, value_stops, fails_is_over}
use Rattle.source_interpreter.proofs.Follow.{stands, as_fault, as_memory}

pub goto_goes : (r r' : Running) (s : List ℕ) (label : ℕ) → r' ≡ at_label label r → Does (stmt.Goto label) r s (Ok tt) r' s
goto_goes r r' s label is = record { leaves = λ trace todo. stands r.exchange (at_label label r) r' s trace refl is }

-- a condition

abbrev after_if_goto : Running → ℕ → ℕ → Config → Config
after_if_goto r label v d = at_zero v (goes r.todo d) (to_label r.exchange label d)

pub if_goto_jumps : (r r' : Running) (s : List ℕ) (cond : Cond) (label : ℕ) (b : Bool)
    → Ok (one_if b) ≡ answer_of (cond_value cond (sight_of r s)) → b ≡ true → r' ≡ at_label label r
    → Does (stmt.IfGoto cond label) r s (Ok tt) r' s
if_goto_jumps r r' s cond label b value yes_is is = record {
  leaves = λ trace todo. value_goes (cond_value cond (sight_of r s)) (one_if b) (after_if_goto r label) r.exchange r s trace todo (Ok tt) r' s value (λ t.
      let P : Bool → Type 0 = λ q. Leaves r.exchange s (after_if_goto r label (one_if q) (start_of r s t todo)) (Ok tt) r' s in
      subst P (sym yes_is) (stands r.exchange (at_label label r) r' s t refl is));
}

pub if_goto_passes : (r : Running) (s : List ℕ) (cond : Cond) (label : ℕ) (b : Bool)
    → Ok (one_if b) ≡ answer_of (cond_value cond (sight_of r s)) → b ≡ false
    → Does (stmt.IfGoto cond label) r s (Ok tt) r s
if_goto_passes r s cond label b value no_is = record {
  leaves = λ trace todo. value_goes (cond_value cond (sight_of r s)) (one_if b) (after_if_goto r label) r.exchange r s trace todo (Ok tt) r s value (λ t.
      let P : Bool → Type 0 = λ q. Leaves r.exchange s (after_if_goto r label (one_if q) (start_of r s t todo)) (Ok tt) r s in
      subst P (sym no_is) (stands r.exchange r r s t refl refl));
}

pub if_goto_stops : (r : Running) (s : List ℕ) (cond : Cond) (label : ℕ) (f : Fault) (o : Stop)
    → Err f ≡ answer_of (cond_value cond (sight_of r s)) → o ≡ stop.Fault f
    → Does (stmt.IfGoto cond label) r s (Err o) r s
if_goto_stops r s cond label f o value is =
    as_fault (does r.exchange r.own.point (stmt.IfGoto cond label) r.todo) r s f o r s is
    (λ trace todo. value_stops (cond_value cond (sight_of r s)) f (after_if_goto r label) r.exchange r s trace todo
    value)

-- two branches

abbrev after_if : Running → List Stmt → List Stmt → ℕ → Config → Config
after_if r first other v d = at_zero v (goes (map Do other ++ r.todo) d) (goes (map Do first ++ r.todo) d)

pub if_first : (r r' : Running) (s : List ℕ) (cond : Cond) (first other : List Stmt) (b : Bool)
    → Ok (one_if b) ≡ answer_of (cond_value cond (sight_of r s)) → b ≡ true → r' ≡ before_rest first r
    → Does (stmt.If cond first other) r s (Ok tt) r' s
if_first r r' s cond first other b value yes_is is = record {
  leaves = λ trace todo. value_goes (cond_value cond (sight_of r s)) (one_if b) (after_if r first other) r.exchange r s trace todo (Ok tt) r' s value (λ t.
      let P : Bool → Type 0 = λ q. Leaves r.exchange s (after_if r first other (one_if q) (start_of r s t todo)) (Ok tt) r' s in
      subst P (sym yes_is) (stands r.exchange (before_rest first r) r' s t refl is));
}

pub if_other : (r r' : Running) (s : List ℕ) (cond : Cond) (first other : List Stmt) (b : Bool)
    → Ok (one_if b) ≡ answer_of (cond_value cond (sight_of r s)) → b ≡ false → r' ≡ before_rest other r
    → Does (stmt.If cond first other) r s (Ok tt) r' s
if_other r r' s cond first other b value no_is is = record {
  leaves = λ trace todo. value_goes (cond_value cond (sight_of r s)) (one_if b) (after_if r first other) r.exchange r s trace todo (Ok tt) r' s value (λ t.
      let P : Bool → Type 0 = λ q. Leaves r.exchange s (after_if r first other (one_if q) (start_of r s t todo)) (Ok tt) r' s in
      subst P (sym no_is) (stands r.exchange (before_rest other r) r' s t refl is));
}

pub if_stops : (r : Running) (s : List ℕ) (cond : Cond) (first other : List Stmt) (f : Fault) (o : Stop)
    → Err f ≡ answer_of (cond_value cond (sight_of r s)) → o ≡ stop.Fault f
    → Does (stmt.If cond first other) r s (Err o) r s
if_stops r s cond first other f o value is =
    as_fault (does r.exchange r.own.point (stmt.If cond first other) r.todo) r s f o r s is
    (λ trace todo. value_stops (cond_value cond (sight_of r s)) f (after_if r first other) r.exchange r s trace todo
    value)

-- choices by number

abbrev after_case : Running → List When → List Stmt → ℕ → Config → Config
after_case r whens otherwise v d = goes (map Do (chosen whens v otherwise) ++ r.todo) d

pub case_goes : (r r' : Running) (s : List ℕ) (e : Expr) (whens : List When) (otherwise ss : List Stmt) (v : ℕ)
    → Ok v ≡ answer_of (expr_value e (sight_of r s)) → ss ≡ chosen whens v otherwise → r' ≡ before_rest ss r
    → Does (stmt.Case e whens otherwise) r s (Ok tt) r' s
case_goes r r' s e whens otherwise ss v value same is = record {
  leaves = λ trace todo. value_goes (expr_value e (sight_of r s)) v (after_case r whens otherwise) r.exchange r s trace todo (Ok tt) r' s value (λ t.
      stands r.exchange (before_rest (chosen whens v otherwise) r) r' s t refl (is ∙ ap (λ l. before_rest l r) same));
}

pub case_stops : (r : Running) (s : List ℕ) (e : Expr) (whens : List When) (otherwise : List Stmt) (f : Fault)
    (o : Stop) → Err f ≡ answer_of (expr_value e (sight_of r s)) → o ≡ stop.Fault f
    → Does (stmt.Case e whens otherwise) r s (Err o) r s
case_stops r s e whens otherwise f o value is =
    as_fault (does r.exchange r.own.point (stmt.Case e whens otherwise) r.todo) r s f o r s is
    (λ trace todo. value_stops (expr_value e (sight_of r s)) f (after_case r whens otherwise) r.exchange r s trace
    todo value)

-- a loop

abbrev after_upto : Running → ℕ → List Stmt → ℕ → ℕ → Config → Config
after_upto r temp body a b d = goes (Turns r.own.point temp a b body ∷ r.todo) d

abbrev after_from : Running → ℕ → Expr → List Stmt → ℕ → Config → Config
after_from r temp upto body a d = on_value (expr_value upto (sight r.exchange d)) d (after_upto r temp body a)

pub on_goes : (r r' : Running) (s : List ℕ) (temp a b : ℕ) (from upto : Expr) (body : List Stmt)
    → Ok a ≡ answer_of (expr_value from (sight_of r s)) → Ok b ≡ answer_of (expr_value upto (sight_of r s))
    → r' ≡ with_turns temp a b body r → Does (stmt.On temp from upto body) r s (Ok tt) r' s
on_goes r r' s temp a b from upto body first last is = record {
  leaves = λ trace todo. value_goes (expr_value from (sight_of r s)) a (after_from r temp upto body) r.exchange r s trace todo (Ok tt) r' s first (λ t.
      value_goes (expr_value upto (sight_of r s)) b (after_upto r temp body a) r.exchange r s t todo (Ok tt) r' s last (λ u.
      stands r.exchange (with_turns temp a b body r) r' s u refl is));
}

pub on_from_stops : (r : Running) (s : List ℕ) (temp : ℕ) (from upto : Expr) (body : List Stmt) (f : Fault) (o : Stop)
    → Err f ≡ answer_of (expr_value from (sight_of r s)) → o ≡ stop.Fault f
    → Does (stmt.On temp from upto body) r s (Err o) r s
on_from_stops r s temp from upto body f o value is =
    as_fault (does r.exchange r.own.point (stmt.On temp from upto body) r.todo) r s f o r s is
    (λ trace todo. value_stops (expr_value from (sight_of r s)) f (after_from r temp upto body) r.exchange r s trace
    todo value)

pub on_upto_stops : (r : Running) (s : List ℕ) (temp a : ℕ) (from upto : Expr) (body : List Stmt) (f : Fault) (o : Stop)
    → Ok a ≡ answer_of (expr_value from (sight_of r s)) → Err f ≡ answer_of (expr_value upto (sight_of r s))
    → o ≡ stop.Fault f → Does (stmt.On temp from upto body) r s (Err o) r s
on_upto_stops r s temp a from upto body f o first value is =
    as_fault (does r.exchange r.own.point (stmt.On temp from upto body) r.todo) r s f o r s is (λ trace todo.
    value_goes (expr_value from (sight_of r s)) a (after_from r temp upto body) r.exchange r s trace todo (Err (stop.Fault f)) r s first (λ t.
    value_stops (expr_value upto (sight_of r s)) f (after_upto r temp body a) r.exchange r s t todo value))

pub turn_goes : (r r1 r2 r' : Running) (s : List ℕ) (temp this last : ℕ) (body : List Stmt) → r1 ≡ with_temp temp this r
    → r2 ≡ with_turns temp (this + 1) last body r1 → r' ≡ before_rest body r2
    → Follows (turn r.own.point temp this last body r.todo) r s (Ok tt) r' s
turn_goes r r1 r2 r' s temp this last body set more is = record {
  leaves = λ trace todo. stands r.exchange (before_rest body (with_turns temp (this + 1) last body (with_temp temp this r))) r' s trace refl
      (is ∙ ap (before_rest body) (more ∙ ap (with_turns temp (this + 1) last body) set));
}

-- the ENTER of the activation's signal

pub starts_enter : (k : StmtKind) (r r' : Running) (s : List ℕ) (signal : ℕ) (temps : List ℕ)
    → k ≡ kind.Enter signal temps → r' ≡ with_temps temps r.own.given r
    → Follows (starts (out-StmtKind k) r.todo) r s (Ok tt) r' s
starts_enter k r r' s signal temps same is =
    let P : StmtKind-F StmtKind Stmt When → Type 0 = λ l. Follows (starts l r.todo) r s (Ok tt) r' s in
    subst P (sym (ap out-StmtKind same ∙ kind.outs-Enter signal temps)) (record {
      leaves = λ trace todo. stands r.exchange (with_temps temps r.own.given r) r' s trace refl is;
    })

other_starts : (l : StmtKind-F StmtKind Stmt When) (rest : List Item) (c : Config) → is_enter l ≡ false → starts l rest c ≡ goes rest c
other_starts (stmt.Enter signal temps) rest c e = cc
other_starts _ rest c e = refl

pub starts_other : (k : StmtKind) (r : Running) (s : List ℕ) → is_enter (out-StmtKind k) ≡ false → Follows (starts (out-StmtKind k) r.todo) r s (Ok tt) r s
starts_other k r s e = record {
  leaves = λ trace todo.
      let c : Config = start_of r s trace todo in
      let P : Config → Type 0 = λ d. Leaves r.exchange s d (Ok tt) r s in
      subst P (sym (other_starts (out-StmtKind k) r.todo c e)) (stands r.exchange r r s trace refl refl);
}

-- an end

alone : (ks : List Caller) (r : Running) (s : List ℕ) (trace : List Touch) (todo : List Item) → 0 ≡ length ks
    → Leaves r.exchange s (ends ks (start_of r s trace todo)) (Err stop.Ended) r s
alone [] r s trace todo none = record { over = refl; sends = refl; chain = refl; store = refl }
alone (k ∷ ks) r s trace todo none = absurd (omega arith)

awaited : (ks : List Caller) (r : Running) (s : List ℕ) (trace : List Touch) (todo : List Item) → (0 ≡ length ks → ⊥)
    → Leaves r.exchange s (ends ks (start_of r s trace todo)) (Err (stop.Fault fault.BadEnd)) r s
awaited [] r s trace todo some = absurd (some refl)
awaited (k ∷ ks) r s trace todo some = fails_is_over fault.BadEnd r s trace todo

pub ends_alone : (n : ℕ) (r : Running) (s : List ℕ) → n ≡ length r.callers → n ≡ 0 → Follows (ends r.callers) r s (Err stop.Ended) r s
ends_alone n r s is none = record { leaves = λ trace todo. alone r.callers r s trace todo (sym none ∙ is) }

pub ends_wrong : (n : ℕ) (r : Running) (s : List ℕ) → n ≡ length r.callers → (n ≡ 0 → ⊥) → Follows (ends r.callers) r s (Err (stop.Fault fault.BadEnd)) r s
ends_wrong n r s is some = record { leaves = λ trace todo. awaited r.callers r s trace todo (λ none. some (is ∙ sym none)) }

-- choices of a list

pub chosen_begin : (whens : List When) (v : ℕ) (otherwise : List Stmt) → chosen (drop 0 whens) v otherwise ≡ chosen whens v otherwise
chosen_begin whens v otherwise = refl

-- how an IF with GOTO may leave the job
pub ruleset if_gotos = (if_goto_jumps, if_goto_passes, if_goto_stops, as_memory)

-- how an IF may
pub ruleset ifs = (if_first, if_other, if_stops, as_memory)

-- how an ON may
pub ruleset loops = (on_goes, on_from_stops, on_upto_stops, as_memory)
