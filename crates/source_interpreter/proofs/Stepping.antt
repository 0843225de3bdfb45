-- One step: what comes next is taken, counted and done.
use Rattle.std.proofs.Common.{◌≡◌, ℕ, ◌≤◌, Bool, true, false, List, ◌∷◌, Option, Some, None, Result}
use Rattle.std.proofs.Common.{Ok, Err, Bor, refl, ap, sym, ◌∙◌, subst, arith}
use Rattle.std.specs.Prelude.{nat_lt, nat_le, IfSome, if◌then◌else◌}
use Rattle.std.proofs.lemmas.Bool.Decides.{nat_tests}
use Rattle.job_types.specs.declared.fault.Fault.{Fault}
use Rattle.job_types.specs.declared.fault.Fault.TheVariants as fault
use Rattle.job_types.specs.declared.outcome.Outcome.TheVariants.{Faulted}
use Rattle.job_types.specs.declared.touch.Touch.{Touch}
use Rattle.exchange_model.specs.declared.stmt.Stmt.{Stmt}
use Rattle.exchange_model.specs.declared.stmt.StmtKind.{out-StmtKind}
use Rattle.job_types.specs.Own.{budget, counted}
use Rattle.source_meaning.specs.Config.{Config, Item, Do, Start, Turns, next_counted}
use Rattle.source_meaning.specs.Step.{does, starts, count, does_first, step}
use Rattle.source_meaning.specs.Changes.{ends, fails}
use Rattle.source_interpreter.specs.Running.{Running, config_of, with_count, with_point}
use Rattle.source_interpreter.specs.Leaves.{Leaves, IsOver, Follows, Does, Steps, turn}
use Rattle.source_interpreter.specs.declared.cases.Cases.{Cases}
use Rattle.source_interpreter.specs.Kept.{IsNextKept, IsOfText, AreOfText}
use Rattle.source_interpreter.specs.Taken.{item_of, before, is_counted}
use Rattle.source_interpreter.specs.declared.stop.Stop.TheVariants as stop
use Rattle.source_interpreter.specs.declared.work.Next.{Next}
use Rattle.source_interpreter.specs.declared.work.Next.TheVariants as next
use Rattle.source_interpreter.proofs.Follow.{Answer, start_of, fault_in, checked, test_goes}

-- what was taken

pub taken_statement : (found : Option Next) (s : Bor Stmt) (cases : Bor Cases) → found ≡ Some (next.Do s cases)
    → IfSome found IsNextKept → IsOfText cases.now s.now
taken_statement found s cases is h = subst (λ o. IfSome o IsNextKept) is h

module _ (found : Option Next) (point temp this last : ℕ) (body : Bor (List Stmt)) (cases : Bor Cases)
    (is : found ≡ Some (next.Turn point temp this last body cases)) where
  pub taken_body : IfSome found IsNextKept → AreOfText cases.now body.now
  taken_body h = subst (λ o. IfSome o IsNextKept) is h

  pub taken_within : IfSome found (λ n. is_counted n ≡ true) → this ≤ last
  taken_within h =
      let e : nat_le this last ≡ true = subst (λ o. IfSome o (λ n. is_counted n ≡ true)) is h in
      grind (arith, nat_tests)

-- it is counted, and then done; what is done is told by the job as it stands then

abbrev counted_with : ℕ → List Item → Running → Running
counted_with p rest r = record r { todo = rest; own = counted p r.own }

counted_after : (p : ℕ) (r r1 r2 : Running) → r1 ≡ record r { todo = r1.todo } → r2 ≡ with_count p r1 → r2 ≡ counted_with p r1.todo r
counted_after p r r1 r2 took is = is ∙ ap (λ (q : Running). record q { own = counted p q.own; todo = r1.todo }) took

room_before : (o : Result (Unit {0}) Fault) (r r1 : Running) → r1 ≡ record r { todo = r1.todo }
    → o ≡ checked (nat_lt r1.own.count budget) fault.Budget → o ≡ checked (nat_lt r.own.count budget) fault.Budget
room_before o r r1 took is = is ∙ ap (λ (q : Running). checked (nat_lt q.own.count budget) fault.Budget) took

goes_on : (at : Running → Config → Config) (p : ℕ) (r r1 r2 r' : Running) (s s' : List ℕ) (o : Answer)
    (trace : List Touch) → r1 ≡ record r { todo = r1.todo } → Ok tt ≡ checked (nat_lt r1.own.count budget) fault.Budget
    → r2 ≡ with_count p r1 → Follows (at r2) r2 s o r' s'
    → Leaves r.exchange s (count p (config_of r s trace) (at (counted_with p r1.todo r))) o r' s'
goes_on at p r r1 r2 r' s s' o trace took room is follows =
    let c : Config = record (config_of r s trace) { own = counted p r.own } in
    test_goes (nat_lt r.own.count budget) fault.Budget (at (counted_with p r1.todo r) c) (fails fault.Budget c)
    r.exchange s o r' s' (room_before (Ok tt) r r1 took room)
    (subst (λ (q : Running). Leaves q.exchange s (at q (start_of q s trace r.todo)) o r' s') (counted_after p r r1 r2 took is) (follows.leaves trace r.todo))

abbrev at_point : ℕ → List Item → Running → Running
at_point p rest r = record r { todo = rest; own = record r.own { point = p } }

past : (b : Bool) (f : Fault) (go : Config → Config) (p : ℕ) (rest : List Item) (r : Running) (s : List ℕ)
    (trace : List Touch) → Err f ≡ checked b fault.Budget
    → Leaves r.exchange s (if b then go (record (config_of r s trace) { own = counted p r.own })
    else fails fault.Budget (record (config_of r s trace) { own = counted p r.own })) (Err (stop.Fault f))
    (at_point p rest r) s
past true f go p rest r s trace is = cc
past false f go p rest r s trace is =
    let P : Fault → Type 0 = λ h. IsOver (fails fault.Budget (record (config_of r s trace) { own = counted p r.own })) (Faulted h p) (at_point p rest r) s in
    subst P (sym (ap (fault_in f) is)) (record { over = refl; sends = refl; chain = refl; store = refl })

stops : (f : Fault) (go : Config → Config) (p : ℕ) (r r1 r2 : Running) (s : List ℕ) (trace : List Touch)
    → r1 ≡ record r { todo = r1.todo } → Err f ≡ checked (nat_lt r1.own.count budget) fault.Budget
    → r2 ≡ with_point p r1 → Leaves r.exchange s (count p (config_of r s trace) go) (Err (stop.Fault f)) r2 s
stops f go p r r1 r2 s trace took full is =
    let same : r2 ≡ at_point p r1.todo r = is ∙ ap (λ (q : Running). record q { own = record q.own { point = p }; todo = r1.todo }) took in
    let P : Running → Type 0 = λ q. Leaves r.exchange s (count p (config_of r s trace) go) (Err (stop.Fault f)) q s in
    let over : Err f ≡ checked (nat_lt r.own.count budget) fault.Budget = full ∙ ap (λ (q : Running). checked (nat_lt q.own.count budget) fault.Budget) took in
    subst P (sym same) (past (nat_lt r.own.count budget) f go p r1.todo r s trace over)

-- the step, by what comes first

steps : (r r1 r' : Running) (s s' : List ℕ) (o : Answer) (found found' : Option Next)
    → next_counted r.todo ≡ before found r1.todo → found ≡ found'
    → ((trace : List Touch) → Leaves r.exchange s (does_first r.exchange (before found' r1.todo) (config_of r s trace))
    o r' s') → Steps r s o r' s'
unfolding step
steps r r1 r' s s' o found found' settled is leaves = record {
  leaves = λ trace. subst (λ l. Leaves r.exchange s (does_first r.exchange l (config_of r s trace)) o r' s')
      (sym (settled ∙ ap (λ f. before f r1.todo) is)) (leaves trace);
}

pub nothing_left : (r r1 : Running) (s : List ℕ) (o : Answer) (found : Option Next)
    → next_counted r.todo ≡ before found r1.todo → r1 ≡ record r { todo = r1.todo } → found ≡ None
    → ((w : List ℕ) → Follows (ends r1.callers) r1 w o r1 w) → Steps r s o r1 s
nothing_left r r1 s o found settled took none follows = steps r r1 r1 s s o found None settled none (λ trace.
    subst (λ (q : Running). Leaves q.exchange s (ends q.callers (start_of q s trace r.todo)) o r1 s) took ((follows s).leaves trace r.todo))

module _ (r r1 : Running) (s : List ℕ) (found : Option Next) (settled : next_counted r.todo ≡ before found r1.todo)
    (took : r1 ≡ record r { todo = r1.todo }) where
  pub statement_done : (st : Bor Stmt) (cases : Bor Cases) (r2 r' : Running) (s' : List ℕ) (o : Answer)
      → found ≡ Some (next.Do st cases) → Ok tt ≡ checked (nat_lt r1.own.count budget) fault.Budget
      → r2 ≡ with_count st.now.point r1 → Does (out-StmtKind st.now.kind) r2 s o r' s' → Steps r s o r' s'
  statement_done st cases r2 r' s' o is room counted_is follows = steps r r1 r' s s' o found (Some (next.Do st cases)) settled is (λ trace.
      goes_on (λ q. does q.exchange q.own.point (out-StmtKind st.now.kind) q.todo) st.now.point r r1 r2 r' s s' o trace took room counted_is follows)

  pub statement_full : (st : Bor Stmt) (cases : Bor Cases) (r2 : Running) (f : Fault) (o : Answer)
      → found ≡ Some (next.Do st cases) → Err f ≡ checked (nat_lt r1.own.count budget) fault.Budget
      → r2 ≡ with_point st.now.point r1 → o ≡ Err (stop.Fault f) → Steps r s o r2 s
  statement_full st cases r2 f o is full point_is answers = steps r r1 r2 s s o found (Some (next.Do st cases)) settled is (λ trace.
      let c : Config = config_of r s trace in
      subst (λ a. Leaves r.exchange s (does_first r.exchange (Do st.now ∷ r1.todo) c) a r2 s) (sym answers)
      (stops f (does r.exchange st.now.point (out-StmtKind st.now.kind) r1.todo) st.now.point r r1 r2 s trace took full point_is))

  pub start_done : (st : Bor Stmt) (r2 r' : Running) (o : Answer) → found ≡ Some (next.Start st)
      → Ok tt ≡ checked (nat_lt r1.own.count budget) fault.Budget → r2 ≡ with_count st.now.point r1
      → ((w : List ℕ) → Follows (starts (out-StmtKind st.now.kind) r2.todo) r2 w o r' w) → Steps r s o r' s
  start_done st r2 r' o is room counted_is follows = steps r r1 r' s s o found (Some (next.Start st)) settled is (λ trace.
      goes_on (λ q. starts (out-StmtKind st.now.kind) q.todo) st.now.point r r1 r2 r' s s o trace took room counted_is (follows s))

  pub start_full : (st : Bor Stmt) (r2 : Running) (f : Fault) (o : Answer) → found ≡ Some (next.Start st)
      → Err f ≡ checked (nat_lt r1.own.count budget) fault.Budget → r2 ≡ with_point st.now.point r1
      → o ≡ Err (stop.Fault f) → Steps r s o r2 s
  start_full st r2 f o is full point_is answers = steps r r1 r2 s s o found (Some (next.Start st)) settled is (λ trace.
      let c : Config = config_of r s trace in
      subst (λ a. Leaves r.exchange s (does_first r.exchange (Start st.now ∷ r1.todo) c) a r2 s) (sym answers)
      (stops f (starts (out-StmtKind st.now.kind) r1.todo) st.now.point r r1 r2 s trace took full point_is))

  pub turn_done : (p temp this last : ℕ) (body : Bor (List Stmt)) (cases : Bor Cases) (r2 r' : Running) (o : Answer)
      → found ≡ Some (next.Turn p temp this last body cases) → Ok tt ≡ checked (nat_lt r1.own.count budget) fault.Budget
      → r2 ≡ with_count p r1 → ((w : List ℕ) → Follows (turn r2.own.point temp this last body.now r2.todo) r2 w o r' w)
      → Steps r s o r' s
  turn_done p temp this last body cases r2 r' o is room counted_is follows =
      steps r r1 r' s s o found (Some (next.Turn p temp this last body cases)) settled is (λ trace.
      goes_on (λ q. turn q.own.point temp this last body.now q.todo) p r r1 r2 r' s s o trace took room counted_is (follows s))

  pub turn_full : (p temp this last : ℕ) (body : Bor (List Stmt)) (cases : Bor Cases) (r2 : Running) (f : Fault)
      (o : Answer) → found ≡ Some (next.Turn p temp this last body cases)
      → Err f ≡ checked (nat_lt r1.own.count budget) fault.Budget → r2 ≡ with_point p r1 → o ≡ Err (stop.Fault f)
      → Steps r s o r2 s
  turn_full p temp this last body cases r2 f o is full point_is answers =
      steps r r1 r2 s s o found (Some (next.Turn p temp this last body cases)) settled is (λ trace.
      let c : Config = config_of r s trace in
      subst (λ a. Leaves r.exchange s (does_first r.exchange (Turns p temp this last body.now ∷ r1.todo) c) a r2 s) (sym answers)
      (stops f (turn p temp this last body.now r1.todo) p r r1 r2 s trace took full point_is))

-- where memory was wanted, no word was written
pub no_memory : (r r' : Running) (s s' : List ℕ) (o : Answer) → o ≡ Err stop.Memory → s' ≡ s → Steps r s o r' s'
no_memory r r' s s' o is same = record { leaves = λ trace. subst (λ a. Leaves r.exchange s (step r.exchange (config_of r s trace)) a r' s') (sym is) same }

-- how a step may leave the job, and what it takes
pub ruleset stepped = (
  nothing_left,
  statement_done,
  statement_full,
  start_done,
  start_full,
  turn_done,
  turn_full,
  no_memory,
  taken_statement,
  taken_body,
  taken_within,
)
