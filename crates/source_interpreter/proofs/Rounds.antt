-- One more term or factor, and one more relation.
use Rattle.std.proofs.Common.{◌≡◌, ℕ, ◌+◌, ◌<◌, List, [], length, drop, map, get_or, Result, Ok}
use Rattle.std.proofs.Common.{Err, Bool, true, false, refl, sym, ap, ◌∙◌}
use Rattle.job_types.specs.declared.fault.Fault.{Fault}
use Rattle.source_meaning.specs.Value.{Got, Gives, Fails, Sight, Eval, after_loads, with_value}
use Rattle.source_meaning.specs.Value.{summed, joined, expr_value, term_value, factor_value}
use Rattle.source_meaning.specs.Value.{sum_value, product_value, summand_of, multiplier_of}
use Rattle.source_meaning.specs.Value.{answer_of, field_value, relation_value, all_value, any_value}
use Rattle.source_meaning.specs.Value.{stands}
use Rattle.job_types.specs.Truth.{one_if, is_set}
use Rattle.exchange_model.specs.declared.expr.Expr.{Expr, out-Expr}
use Rattle.exchange_model.specs.declared.expr.Term.{Term, out-Term}
use Rattle.exchange_model.specs.declared.expr.Joined.{Joined}
use Rattle.exchange_model.specs.declared.expr.Factor.{Factor}
use Rattle.exchange_model.specs.declared.expr.Factor.TheVariants as factor
use Rattle.source_meaning.proofs.Layers.{expr_value-out, term_value-out, factor_value-Number}
use Rattle.source_meaning.proofs.Layers.{factor_value-Variable, factor_value-Temporary}
use Rattle.source_meaning.proofs.Layers.{factor_value-Field, factor_value-Bracket}
use Rattle.source_meaning.proofs.Layers.{factor_value-Reference}
use Rattle.std.specs.Prelude.{slice_get, slice_index, ◌&&◌, ◌||◌}
use Rattle.exchange_model.specs.declared.expr.Relation.{Relation}
use Rattle.plex_num.proofs.Lists.{opens}

-- loads made before do not change what is answered
after_answers : (loads : _) (got : Got) → answer_of (after_loads loads got) ≡ answer_of got
after_answers loads (Gives more v) = refl
after_answers loads (Fails more f) = refl

abbrev or_value : ℕ → Result ℕ Fault → ℕ
or_value d (Ok v) = v
or_value d (Err f) = d

-- what goes on with a value answers as what follows does, or as the fault
pub answer_gives : (got : Got) (go : ℕ → Got) (v : ℕ) → Ok v ≡ answer_of got → answer_of (go v) ≡ answer_of (with_value got go)
answer_gives (Gives loads u) go v e = ap (λ r. answer_of (go (or_value v r))) e ∙ sym (after_answers loads (go u))
answer_gives (Fails loads f) go v e = cc

pub answer_fails : (got : Got) (go : ℕ → Got) (f : Fault) → Err f ≡ answer_of got → Err f ≡ answer_of (with_value got go)
answer_fails (Gives loads u) go f e = cc
answer_fails (Fails loads g) go f e = e

pub terms_begin : (e : Expr) (s : Sight) (ts : List Term) → ts ≡ (out-Expr e).terms → answer_of (sum_value (map summand_of ts) 0 s) ≡ answer_of (expr_value e s)
terms_begin e s ts is = ap (λ l. answer_of (sum_value (map summand_of l) 0 s)) is ∙ ap (λ (v : Eval). answer_of (v s)) (sym (expr_value-out e))

pub terms_gives : (ts : List Term) (i sum v : ℕ) (t : Term) (s : Sight) (o : Result ℕ Fault) → i < length ts
    → t ≡ get_or ts i t → Ok v ≡ answer_of (term_value t s)
    → answer_of (sum_value (map summand_of (drop i ts)) sum s) ≡ o
    → answer_of (sum_value (map summand_of (drop (i + 1) ts)) (summed (out-Term t).minus sum v) s) ≡ o
terms_gives ts i sum v t s o lt is gives inv =
    answer_gives (term_value t s) (λ u. sum_value (map summand_of (drop (i + 1) ts)) (summed (out-Term t).minus sum u)
    s) v gives ∙ ap (λ l. answer_of (sum_value (map summand_of l) sum s)) (sym (opens ts i t lt is)) ∙ inv

pub terms_fails : (ts : List Term) (i sum : ℕ) (f : Fault) (t : Term) (s : Sight) (o : Result ℕ Fault) → i < length ts
    → t ≡ get_or ts i t → Err f ≡ answer_of (term_value t s)
    → answer_of (sum_value (map summand_of (drop i ts)) sum s) ≡ o → Err f ≡ o
terms_fails ts i sum f t s o lt is fails inv =
    answer_fails (term_value t s) (λ u. sum_value (map summand_of (drop (i + 1) ts)) (summed (out-Term t).minus sum u)
    s) f fails ∙ ap (λ l. answer_of (sum_value (map summand_of l) sum s)) (sym (opens ts i t lt is)) ∙ inv

pub factors_begin : (t : Term) (s : Sight) (js : List Joined) → js ≡ (out-Term t).factors
    → answer_of (product_value (map multiplier_of js) 1 s) ≡ answer_of (term_value t s)
factors_begin t s js is = ap (λ l. answer_of (product_value (map multiplier_of l) 1 s)) is ∙ ap (λ (v : Eval). answer_of (v s)) (sym (term_value-out t))

pub factors_gives : (js : List Joined) (i product v p : ℕ) (j : Joined) (s : Sight) (o : Result ℕ Fault) → i < length js
    → j ≡ get_or js i j → Ok v ≡ answer_of (factor_value j.factor s) → Ok p ≡ answer_of (joined j.by product v)
    → answer_of (product_value (map multiplier_of (drop i js)) product s) ≡ o
    → answer_of (product_value (map multiplier_of (drop (i + 1) js)) p s) ≡ o
factors_gives js i product v p j s o lt is gives joins inv =
    let more : ℕ → Got = λ q. product_value (map multiplier_of (drop (i + 1) js)) q s in
    answer_gives (joined j.by product v) more p joins
    ∙ answer_gives (factor_value j.factor s) (λ u. with_value (joined j.by product u) more) v gives
    ∙ ap (λ l. answer_of (product_value (map multiplier_of l) product s)) (sym (opens js i j lt is)) ∙ inv

-- what a factor answers, by its kind
pub factor_number : (f : Factor) (n : ℕ) (s : Sight) → f ≡ factor.Number n → Ok n ≡ answer_of (factor_value f s)
factor_number f n s is = sym (ap (λ g. answer_of (factor_value g s)) is ∙ ap answer_of (factor_value-Number n s))

pub factor_variable : (f : Factor) (v n : ℕ) (s : Sight) → f ≡ factor.Variable v → n ≡ slice_index s.store (s.first + v) → Ok n ≡ answer_of (factor_value f s)
factor_variable f v n s is got = ap Ok got ∙ sym (ap (λ g. answer_of (factor_value g s)) is ∙ ap answer_of (factor_value-Variable v s))

pub factor_temporary : (f : Factor) (t n : ℕ) (s : Sight) → f ≡ factor.Temporary t → n ≡ slice_index s.temps t → Ok n ≡ answer_of (factor_value f s)
factor_temporary f t n s is got = ap Ok got ∙ sym (ap (λ g. answer_of (factor_value g s)) is ∙ ap answer_of (factor_value-Temporary t s))

pub factor_field : (f : Factor) (file field pointer : ℕ) (s : Sight) (r : Result ℕ Fault)
    → f ≡ factor.Field file field pointer → r ≡ answer_of
    (field_value (slice_get s.files file) file field (slice_index s.temps pointer) s) → r ≡ answer_of (factor_value f s)
factor_field f file field pointer s r is got = got ∙ sym (ap (λ g. answer_of (factor_value g s)) is ∙ ap answer_of (factor_value-Field file field pointer s))

pub factor_bracket : (f : Factor) (e : Expr) (s : Sight) (r : Result ℕ Fault) → f ≡ factor.Bracket e
    → r ≡ answer_of (expr_value e s) → r ≡ answer_of (factor_value f s)
factor_bracket f e s r is got = got ∙ sym (ap (λ g. answer_of (factor_value g s)) is ∙ ap answer_of (factor_value-Bracket e s))

pub factor_reference : (f : Factor) (b n : ℕ) (s : Sight) → f ≡ factor.Reference b → n ≡ b + 1 → Ok n ≡ answer_of (factor_value f s)
factor_reference f b n s is one = ap Ok one ∙ sym (ap (λ g. answer_of (factor_value g s)) is ∙ ap answer_of (factor_value-Reference b s))

-- a test is what its number says
set_is : (b : Bool) → is_set (one_if b) ≡ b
set_is true = refl
set_is false = refl

pub all_gives : (rs : List Relation) (i : ℕ) (before now : Bool) (r : Relation) (s : Sight) (o : Result ℕ Fault)
    → i < length rs → r ≡ get_or rs i r → Ok (one_if now) ≡ answer_of (relation_value r s)
    → answer_of (all_value (drop i rs) (one_if before) s) ≡ o
    → answer_of (all_value (drop (i + 1) rs) (one_if (before && now)) s) ≡ o
all_gives rs i before now r s o lt is gives inv =
    let more : Bool → Bool → Got = λ a b. all_value (drop (i + 1) rs) (one_if (a && b)) s in
    ap (λ a. answer_of (more a now)) (sym (set_is before)) ∙ ap (λ b. answer_of (more (is_set (one_if before)) b)) (sym (set_is now))
    ∙ answer_gives (relation_value r s) (λ v. more (is_set (one_if before)) (is_set v)) (one_if now) gives
    ∙ ap (λ l. answer_of (all_value l (one_if before) s)) (sym (opens rs i r lt is)) ∙ inv

pub all_fails : (rs : List Relation) (i : ℕ) (before : Bool) (f : Fault) (r : Relation) (s : Sight) (o : Result ℕ Fault)
    → i < length rs → r ≡ get_or rs i r → Err f ≡ answer_of (relation_value r s)
    → answer_of (all_value (drop i rs) (one_if before) s) ≡ o → Err f ≡ o
all_fails rs i before f r s o lt is fails inv =
    answer_fails (relation_value r s) (λ v. all_value (drop (i + 1) rs) (one_if (is_set (one_if before) && is_set v)) s)
    f fails ∙ ap (λ l. answer_of (all_value l (one_if before) s)) (sym (opens rs i r lt is)) ∙ inv

pub any_gives : (rs : List (List Relation)) (i : ℕ) (before now : Bool) (r : List Relation) (s : Sight)
    (o : Result ℕ Fault) → i < length rs → r ≡ get_or rs i r → Ok (one_if now) ≡ answer_of (all_value r 1 s)
    → answer_of (any_value (drop i rs) (one_if before) s) ≡ o
    → answer_of (any_value (drop (i + 1) rs) (one_if (before || now)) s) ≡ o
any_gives rs i before now r s o lt is gives inv =
    let more : Bool → Bool → Got = λ a b. any_value (drop (i + 1) rs) (one_if (a || b)) s in
    ap (λ a. answer_of (more a now)) (sym (set_is before)) ∙ ap (λ b. answer_of (more (is_set (one_if before)) b)) (sym (set_is now))
    ∙ answer_gives (all_value r 1 s) (λ v. more (is_set (one_if before)) (is_set v)) (one_if now) gives
    ∙ ap (λ l. answer_of (any_value l (one_if before) s)) (sym (opens rs i r lt is)) ∙ inv

pub any_fails : (rs : List (List Relation)) (i : ℕ) (before : Bool) (f : Fault) (r : List Relation) (s : Sight)
    (o : Result ℕ Fault) → i < length rs → r ≡ get_or rs i r → Err f ≡ answer_of (all_value r 1 s)
    → answer_of (any_value (drop i rs) (one_if before) s) ≡ o → Err f ≡ o
any_fails rs i before f r s o lt is fails inv =
    answer_fails (all_value r 1 s) (λ v. any_value (drop (i + 1) rs) (one_if (is_set (one_if before) || is_set v)) s) f
    fails ∙ ap (λ l. answer_of (any_value l (one_if before) s)) (sym (opens rs i r lt is)) ∙ inv

-- a relation, whose left side comes first
pub relation_gives : (r : Relation) (s : Sight) (a b : ℕ) (now : Bool) → Ok a ≡ answer_of (expr_value r.left s)
    → Ok b ≡ answer_of (expr_value r.right s) → now ≡ stands r.rel a b
    → Ok (one_if now) ≡ answer_of (relation_value r s)
relation_gives r s a b now left right is =
    ap (λ n. Ok (one_if n)) is
    ∙ answer_gives (expr_value r.right s) (λ b. Gives [] (one_if (stands r.rel a b))) b right
    ∙ answer_gives (expr_value r.left s) (λ a. with_value (expr_value r.right s) (λ b. Gives [] (one_if (stands r.rel a b)))) a left

pub left_fails : (r : Relation) (s : Sight) (f : Fault) → Err f ≡ answer_of (expr_value r.left s) → Err f ≡ answer_of (relation_value r s)
left_fails r s f left = answer_fails (expr_value r.left s) (λ a. with_value (expr_value r.right s) (λ b. Gives [] (one_if (stands r.rel a b)))) f left

pub right_fails : (r : Relation) (s : Sight) (a : ℕ) (f : Fault) → Ok a ≡ answer_of (expr_value r.left s)
    → Err f ≡ answer_of (expr_value r.right s) → Err f ≡ answer_of (relation_value r s)
right_fails r s a f left right =
    answer_fails (expr_value r.right s) (λ b. Gives [] (one_if (stands r.rel a b))) f right
    ∙ answer_gives (expr_value r.left s) (λ a. with_value (expr_value r.right s) (λ b. Gives [] (one_if (stands r.rel a b)))) a left

-- what a factor answers
pub ruleset factors = (factor_number, factor_variable, factor_temporary, factor_field, factor_bracket, factor_reference)

-- a sum, from term to term
pub ruleset terms = (terms_begin, terms_gives, terms_fails)
