-- What follows a value, a check or a search, where the job goes on after it and where it is over.
use Rattle.std.proofs.Common.{◌≡◌, ℕ, List, [], ◌∷◌, ◌++◌, Bool, true, false, Option, Some, None}
use Rattle.std.proofs.Common.{Result, Ok, Err, refl, sym, ap, ◌∙◌, subst}
use Rattle.std.specs.Prelude.{nat_lt, ◌^◌, if◌then◌else◌}
use Rattle.job_types.specs.declared.fault.Fault.{Fault}
use Rattle.job_types.specs.declared.fault.Fault.TheVariants as fault
use Rattle.job_types.specs.declared.outcome.Outcome.TheVariants.{Faulted}
use Rattle.job_types.specs.declared.touch.Touch.{Touch}
use Rattle.exchange_model.specs.declared.exchange.Exchange.{Exchange}
use Rattle.exchange_model.specs.declared.expr.Expr.{Expr}
use Rattle.source_meaning.specs.Value.{Got, Gives, Fails, answer_of, expr_value, values_of}
use Rattle.source_meaning.specs.Value.{and_then}
use Rattle.source_interpreter.specs.Checks.{unless, range_check}
use Rattle.source_meaning.specs.Config.{Config, Item}
use Rattle.source_meaning.specs.Changes.{on_value, on_values, unless_fault, where_fits, fails}
use Rattle.source_interpreter.specs.Running.{Running, config_of, sight_of}
use Rattle.source_interpreter.specs.Leaves.{IsConfigOf, IsOver, Leaves, Follows}
use Rattle.source_interpreter.specs.declared.stop.Stop.{Stop}
use Rattle.source_interpreter.specs.declared.stop.Stop.TheVariants as stop

abbrev pub Answer : Type 0
Answer = Result (Unit {0}) Stop

-- a job with its stored words, after these touches, where this remains to be done
abbrev pub start_of : Running → List ℕ → List Touch → List Item → Config
start_of r s trace todo = record (config_of r s trace) { todo = todo }

-- a fault ends the job
pub fails_is_over : (f : Fault) (r : Running) (s : List ℕ) (trace : List Touch) (todo : List Item)
    → IsOver (fails f (start_of r s trace todo)) (Faulted f r.own.point) r s
fails_is_over f r s trace todo = record { over = refl; sends = refl; chain = refl; store = refl }

-- a value

abbrev value_in : ℕ → Result ℕ Fault → ℕ
value_in d (Ok v) = v
value_in d (Err f) = d

abbrev pub fault_in : {A : Type 0} → Fault → Result A Fault → Fault
fault_in d (Ok v) = d
fault_in d (Err f) = f

pub value_goes : (got : Got) (v : ℕ) (go : ℕ → Config → Config) (x : Exchange) (r : Running) (s : List ℕ)
    (trace : List Touch) (todo : List Item) (o : Answer) (r' : Running) (s' : List ℕ) → Ok v ≡ answer_of got
    → ((t : List Touch) → Leaves x s (go v (start_of r s t todo)) o r' s')
    → Leaves x s (on_value got (start_of r s trace todo) go) o r' s'
value_goes (Gives loads u) v go x r s trace todo o r' s' is more =
    let P : ℕ → Type 0 = λ n. Leaves x s (go n (start_of r s (trace ++ loads) todo)) o r' s' in
    subst P (ap (value_in v) is) (more (trace ++ loads))
value_goes (Fails loads f) v go x r s trace todo o r' s' is more = cc

pub value_stops : (got : Got) (f : Fault) (go : ℕ → Config → Config) (x : Exchange) (r : Running) (s : List ℕ)
    (trace : List Touch) (todo : List Item) → Err f ≡ answer_of got
    → Leaves x s (on_value got (start_of r s trace todo) go) (Err (stop.Fault f)) r s
value_stops (Gives loads u) f go x r s trace todo is = cc
value_stops (Fails loads g) f go x r s trace todo is =
    let P : Fault → Type 0 = λ h. IsOver (fails g (start_of r s (trace ++ loads) todo)) (Faulted h r.own.point) r s in
    subst P (sym (ap (fault_in f) is)) (fails_is_over g r s (trace ++ loads) todo)

-- values

abbrev values_in : List ℕ → Result (List ℕ) Fault → List ℕ
values_in d (Ok vs) = vs
values_in d (Err f) = d

-- the first of them is there, or not
first_goes : (got : Got) (es : List Expr) (vs all : List ℕ) (go : List ℕ → Config → Config) (x : Exchange) (r : Running)
    (s : List ℕ) (trace : List Touch) (todo : List Item) (o : Answer) (r' : Running) (s' : List ℕ)
    → Ok all ≡ and_then (answer_of got) (λ v. values_of es (vs ++ v ∷ []) (sight_of r s))
    → ((v : ℕ) (t : List Touch) → Ok all ≡ values_of es (vs ++ v ∷ []) (sight_of r s)
    → Leaves x s (on_values r.exchange es (vs ++ v ∷ []) (start_of r s t todo) go) o r' s')
    → Leaves x s (on_value got (start_of r s trace todo) (λ v d. on_values r.exchange es (vs ++ v ∷ []) d go)) o r' s'
first_goes (Gives loads v) es vs all go x r s trace todo o r' s' is more = more v (trace ++ loads) is
first_goes (Fails loads f) es vs all go x r s trace todo o r' s' is more = cc

pub values_go : (es : List Expr) (vs all : List ℕ) (go : List ℕ → Config → Config) (x : Exchange) (r : Running)
    (s : List ℕ) (trace : List Touch) (todo : List Item) (o : Answer) (r' : Running) (s' : List ℕ)
    → Ok all ≡ values_of es vs (sight_of r s) → ((t : List Touch) → Leaves x s (go all (start_of r s t todo)) o r' s')
    → Leaves x s (on_values r.exchange es vs (start_of r s trace todo) go) o r' s'
values_go [] vs all go x r s trace todo o r' s' is more =
    let P : List ℕ → Type 0 = λ l. Leaves x s (go l (start_of r s trace todo)) o r' s' in
    subst P (ap (values_in all) is) (more trace)
values_go (e ∷ es) vs all go x r s trace todo o r' s' is more =
    first_goes (expr_value e (sight_of r s)) es vs all go x r s trace todo o r' s' is
    (λ v t rest. values_go es (vs ++ v ∷ []) all go x r s t todo o r' s' rest more)

first_stops : (got : Got) (es : List Expr) (vs : List ℕ) (f : Fault) (go : List ℕ → Config → Config) (x : Exchange)
    (r : Running) (s : List ℕ) (trace : List Touch) (todo : List Item)
    → Err f ≡ and_then (answer_of got) (λ v. values_of es (vs ++ v ∷ []) (sight_of r s))
    → ((v : ℕ) (t : List Touch) → Err f ≡ values_of es (vs ++ v ∷ []) (sight_of r s)
    → Leaves x s (on_values r.exchange es (vs ++ v ∷ []) (start_of r s t todo) go) (Err (stop.Fault f)) r s)
    → Leaves x s (on_value got (start_of r s trace todo) (λ v d. on_values r.exchange es (vs ++ v ∷ []) d go))
    (Err (stop.Fault f)) r s
first_stops (Gives loads v) es vs f go x r s trace todo is more = more v (trace ++ loads) is
first_stops (Fails loads g) es vs f go x r s trace todo is more =
    let P : Fault → Type 0 = λ h. IsOver (fails g (start_of r s (trace ++ loads) todo)) (Faulted h r.own.point) r s in
    subst P (sym (ap (fault_in f) is)) (fails_is_over g r s (trace ++ loads) todo)

pub values_stop : (es : List Expr) (vs : List ℕ) (f : Fault) (go : List ℕ → Config → Config) (x : Exchange)
    (r : Running) (s : List ℕ) (trace : List Touch) (todo : List Item) → Err f ≡ values_of es vs (sight_of r s)
    → Leaves x s (on_values r.exchange es vs (start_of r s trace todo) go) (Err (stop.Fault f)) r s
values_stop [] vs f go x r s trace todo is = cc
values_stop (e ∷ es) vs f go x r s trace todo is =
    first_stops (expr_value e (sight_of r s)) es vs f go x r s trace todo is (λ v t rest. values_stop es (vs ++ v ∷ []) f go x r s t todo rest)

-- a check

pub unless_goes : (found : Option Fault) (go : Config → Config) (x : Exchange) (s : List ℕ) (c : Config) (o : Answer)
    (r' : Running) (s' : List ℕ) → Ok tt ≡ unless found → Leaves x s (go c) o r' s'
    → Leaves x s (unless_fault found c go) o r' s'
unless_goes None go x s c o r' s' is more = more
unless_goes (Some f) go x s c o r' s' is more = cc

pub unless_stops : (found : Option Fault) (f : Fault) (go : Config → Config) (x : Exchange) (r : Running) (s : List ℕ)
    (trace : List Touch) (todo : List Item) → Err f ≡ unless found
    → Leaves x s (unless_fault found (start_of r s trace todo) go) (Err (stop.Fault f)) r s
unless_stops None f go x r s trace todo is = cc
unless_stops (Some g) f go x r s trace todo is =
    let P : Fault → Type 0 = λ h. IsOver (fails g (start_of r s trace todo)) (Faulted h r.own.point) r s in
    subst P (sym (ap (fault_in f) is)) (fails_is_over g r s trace todo)

abbrev pub checked : Bool → Fault → Result (Unit {0}) Fault
checked b f = if b then Ok tt else Err f

-- a test: the job goes on where it holds, and else it is over by this fault
pub test_goes : (b : Bool) (f : Fault) (d e : Config) (x : Exchange) (s : List ℕ) (o : Answer) (r' : Running)
    (s' : List ℕ) → Ok tt ≡ checked b f → Leaves x s d o r' s' → Leaves x s (if b then d else e) o r' s'
test_goes true f d e x s o r' s' is more = more
test_goes false f d e x s o r' s' is more = cc

pub test_stops : (b : Bool) (f g : Fault) (d : Config) (x : Exchange) (r : Running) (s : List ℕ) (trace : List Touch)
    (todo : List Item) → Err g ≡ checked b f → Leaves x s (if b then d else fails f (start_of r s trace todo))
    (Err (stop.Fault g)) r s
test_stops true f g d x r s trace todo is = cc
test_stops false f g d x r s trace todo is =
    let P : Fault → Type 0 = λ h. IsOver (fails f (start_of r s trace todo)) (Faulted h r.own.point) r s in
    subst P (sym (ap (fault_in g) is)) (fails_is_over f r s trace todo)

pub fits_goes : (v width : ℕ) (go : Config → Config) (x : Exchange) (s : List ℕ) (c : Config) (o : Answer)
    (r' : Running) (s' : List ℕ) → Ok tt ≡ range_check v width → Leaves x s (go c) o r' s'
    → Leaves x s (where_fits v width c go) o r' s'
fits_goes v width go x s c o r' s' is more = test_goes (nat_lt v (2 ^ width)) fault.Range (go c) (fails fault.Range c) x s o r' s' is more

pub fits_stops : (v width : ℕ) (f : Fault) (go : Config → Config) (x : Exchange) (r : Running) (s : List ℕ)
    (trace : List Touch) (todo : List Item) → Err f ≡ range_check v width
    → Leaves x s (where_fits v width (start_of r s trace todo) go) (Err (stop.Fault f)) r s
fits_stops v width f go x r s trace todo is = test_stops (nat_lt v (2 ^ width)) fault.Range f (go (start_of r s trace todo)) x r s trace todo is

-- where the job goes on, it stands as it is said
pub stands : (x : Exchange) (r r' : Running) (s : List ℕ) (t : List Touch) → r.exchange ≡ x → r' ≡ r → IsConfigOf x (config_of r s t) r' s
stands x r r' s t same is = record {
  exchange = ap (λ (q : Running). q.exchange) is ∙ same;
  config = ap (λ (q : Running). config_of q s t) (sym is);
}

-- with other stored words
pub stands_with : (x : Exchange) (r r' : Running) (s s' : List ℕ) (t : List Touch) → r.exchange ≡ x → r' ≡ r → s' ≡ s → IsConfigOf x (config_of r s t) r' s'
stands_with x r r' s s' t same is words = record {
  exchange = ap (λ (q : Running). q.exchange) is ∙ same;
  config = ap (λ (q : Running). config_of q s t) (sym is) ∙ ap (λ (l : List ℕ). config_of r' l t) (sym words);
}

-- a fault that became the answer
pub as_fault : (go : Config → Config) (r : Running) (s : List ℕ) (f : Fault) (o : Stop) (r' : Running) (s' : List ℕ)
    → o ≡ stop.Fault f → ((trace : List Touch) (todo : List Item)
    → Leaves r.exchange s (go (start_of r s trace todo)) (Err (stop.Fault f)) r' s') → Follows go r s (Err o) r' s'
as_fault go r s f o r' s' is leaves =
    let P : Stop → Type 0 = λ p. Follows go r s (Err p) r' s' in
    subst P (sym is) (record { leaves = leaves })

-- where memory was wanted, no word was written
pub as_memory : (go : Config → Config) (r : Running) (s : List ℕ) (o : Stop) (r' : Running) (s' : List ℕ)
    → o ≡ stop.Memory → s' ≡ s → Follows go r s (Err o) r' s'
as_memory go r s o r' s' is same =
    let P : Stop → Type 0 = λ p. Follows go r s (Err p) r' s' in
    subst P (sym is) (record { leaves = λ trace todo. same })

-- an answer by another name
pub answered : (go : Config → Config) (r : Running) (s : List ℕ) (a b : Answer) (r' : Running) (s' : List ℕ) → a ≡ b
    → Follows go r s b r' s' → Follows go r s a r' s'
answered go r s a b r' s' is follows =
    let P : Answer → Type 0 = λ q. Follows go r s q r' s' in
    subst P (sym is) follows
