-- One more term or factor is appended.
use Rattle.std.proofs.Common.{◌≡◌, ℕ, ◌+◌, ◌<◌, ◌≤◌, List, [], ◌∷◌, ◌++◌, length, drop, map, get_or}
use Rattle.std.proofs.Common.{refl, sym, ap, ◌∙◌, subst}
use Rattle.std.proofs.Math.ListN.{drop_of_length-le}
use Rattle.std.proofs.lemmas.List.{nil_from_length}
use Rattle.plex_num.proofs.Lists.{opens}
use Rattle.machine_code.specs.declared.op.Op.{Op}
use Rattle.exchange_model.specs.declared.expr.Expr.{Expr, out-Expr}
use Rattle.exchange_model.specs.declared.expr.Term.{Term, out-Term}
use Rattle.exchange_model.specs.declared.expr.Joined.{Joined}
use Rattle.store_layout.specs.Rows.{Rows}
use Rattle.expr_code.specs.Code.{Site, term_op, factor_op, sum_code, product_code, whole_sum}
use Rattle.expr_code.specs.Code.{whole_product, expr_code, term_code, factor_code, joined_code}
use Rattle.expr_code.specs.Code.{summand_code}
use Rattle.expr_code.specs.Sites.{Begins, GrowsByCode}
use Rattle.expr_code.proofs.Emits.{Emitting, emitting_begin, emitting_on, emitting_with}
use Rattle.expr_code.proofs.Emits.{emitting_end, begins_on}
use Rattle.expr_code.proofs.Opened.{expr_code-out, term_code-out}

-- terms

-- these terms are left of an expression
unfoldable pub TermsLeft : (l : Rows) (b r : ℕ) (old now : List Op) (ts : List Term) (e : Expr) → Type 0
TermsLeft l b r old now ts e = Emitting l b old now (λ site. sum_code (map summand_code ts) site r) (λ site. expr_code e site r)

pub terms_begin : (e : Expr) (ts : List Term) (t : Term) (rest : List Term) (l : Rows) (b r : ℕ) (old now : List Op)
    → ts ≡ (out-Expr e).terms → ts ≡ t ∷ rest → GrowsByCode l b old now (λ site. term_code t site r)
    → TermsLeft l b r old now rest e
unfolding TermsLeft
terms_begin e ts t rest l b r old now same is g =
    let left : Site → List Op = λ site. sum_code (map summand_code rest) site r in
    let all : Site → List Op = λ site. expr_code e site r in
    emitting_on l b old old now (λ site. term_code t site r) left all g
    (emitting_begin l b old (λ site. term_code t site r ++ left site) all
    (λ site. sym (ap (λ c. c site r) (expr_code-out e) ∙ ap (λ us. whole_sum (map summand_code us) site r) (sym same ∙ is))))

pub terms_none : (e : Expr) (ts : List Term) (l : Rows) (b r : ℕ) (old : List Op) → ts ≡ (out-Expr e).terms
    → length ts ≡ 0 → GrowsByCode l b old old (λ site. expr_code e site r)
terms_none e ts l b r old same none =
    emitting_end l b old old (λ site. expr_code e site r) (λ site. expr_code e site r)
    (λ site. ap (λ c. c site r) (expr_code-out e) ∙ ap (λ us. whole_sum (map summand_code us) site r) (sym same ∙ nil_from_length ts none))
    (emitting_begin l b old (λ site. expr_code e site r) (λ site. expr_code e site r) (λ site. refl))

pub terms_more : (ts : List Term) (i : ℕ) (t : Term) (l : Rows) (b r : ℕ) (old now mid new : List Op) (e : Expr)
    → i < length ts → t ≡ get_or ts i t → GrowsByCode l b now mid (λ site. term_code t site (r + 1))
    → new ≡ mid ++ term_op (out-Term t).minus r (r + 1) ∷ [] → TermsLeft l b r old now (drop i ts) e
    → TermsLeft l b r old new (drop (i + 1) ts) e
unfolding TermsLeft
terms_more ts i t l b r old now mid new e lt is g e1 h =
    let op : List Op = term_op (out-Term t).minus r (r + 1) ∷ [] in
    let left : Site → List Op = λ site. sum_code (map summand_code (drop (i + 1) ts)) site r in
    let all : Site → List Op = λ site. expr_code e site r in
    emitting_with l b old mid new op left all e1
    (emitting_on l b old now mid (λ site. term_code t site (r + 1)) (λ site. op ++ left site) all g
    (subst (λ us. Emitting l b old now (λ site. sum_code (map summand_code us) site r) all) (opens ts i t lt is) h))

pub terms_end : (ts : List Term) (i : ℕ) (l : Rows) (b r : ℕ) (old now : List Op) (e : Expr) → length ts ≤ i
    → TermsLeft l b r old now (drop i ts) e → GrowsByCode l b old now (λ site. expr_code e site r)
unfolding TermsLeft
terms_end ts i l b r old now e past h = emitting_end l b old now
    (λ site. sum_code (map summand_code (drop i ts)) site r) (λ site. expr_code e site r)
    (λ site. ap (λ us. sum_code (map summand_code us) site r) (drop_of_length-le ts past)) h

pub terms_begins : (l : Rows) (b r : ℕ) (old now new : List Op) (ts : List Term) (e : Expr) → TermsLeft l b r old now ts e → Begins now new → Begins old new
unfolding TermsLeft
terms_begins l b r old now new ts e h more = begins_on old now new h.begins more

-- factors

-- these factors are left of a term
unfoldable pub FactorsLeft : (l : Rows) (b r : ℕ) (old now : List Op) (js : List Joined) (t : Term) → Type 0
FactorsLeft l b r old now js t = Emitting l b old now (λ site. product_code (map joined_code js) site r) (λ site. term_code t site r)

pub factors_begin : (t : Term) (js : List Joined) (j : Joined) (rest : List Joined) (l : Rows) (b r : ℕ)
    (old now : List Op) → js ≡ (out-Term t).factors → js ≡ j ∷ rest
    → GrowsByCode l b old now (λ site. factor_code j.factor site r) → FactorsLeft l b r old now rest t
unfolding FactorsLeft
factors_begin t js j rest l b r old now same is g =
    let left : Site → List Op = λ site. product_code (map joined_code rest) site r in
    let all : Site → List Op = λ site. term_code t site r in
    emitting_on l b old old now (λ site. factor_code j.factor site r) left all g
    (emitting_begin l b old (λ site. factor_code j.factor site r ++ left site) all
    (λ site. sym (ap (λ c. c site r) (term_code-out t) ∙ ap (λ us. whole_product (map joined_code us) site r) (sym same ∙ is))))

pub factors_none : (t : Term) (js : List Joined) (l : Rows) (b r : ℕ) (old : List Op) → js ≡ (out-Term t).factors
    → length js ≡ 0 → GrowsByCode l b old old (λ site. term_code t site r)
factors_none t js l b r old same none =
    emitting_end l b old old (λ site. term_code t site r) (λ site. term_code t site r)
    (λ site. ap (λ c. c site r) (term_code-out t) ∙ ap (λ us. whole_product (map joined_code us) site r) (sym same ∙ nil_from_length js none))
    (emitting_begin l b old (λ site. term_code t site r) (λ site. term_code t site r) (λ site. refl))

pub factors_more : (js : List Joined) (i : ℕ) (j : Joined) (l : Rows) (b r : ℕ) (old now mid new : List Op) (t : Term)
    → i < length js → j ≡ get_or js i j → GrowsByCode l b now mid (λ site. factor_code j.factor site (r + 1))
    → new ≡ mid ++ factor_op j.by r (r + 1) ∷ [] → FactorsLeft l b r old now (drop i js) t
    → FactorsLeft l b r old new (drop (i + 1) js) t
unfolding FactorsLeft
factors_more js i j l b r old now mid new t lt is g e1 h =
    let op : List Op = factor_op j.by r (r + 1) ∷ [] in
    let left : Site → List Op = λ site. product_code (map joined_code (drop (i + 1) js)) site r in
    let all : Site → List Op = λ site. term_code t site r in
    emitting_with l b old mid new op left all e1
    (emitting_on l b old now mid (λ site. factor_code j.factor site (r + 1)) (λ site. op ++ left site) all g
    (subst (λ us. Emitting l b old now (λ site. product_code (map joined_code us) site r) all) (opens js i j lt is) h))

pub factors_end : (js : List Joined) (i : ℕ) (l : Rows) (b r : ℕ) (old now : List Op) (t : Term) → length js ≤ i
    → FactorsLeft l b r old now (drop i js) t → GrowsByCode l b old now (λ site. term_code t site r)
unfolding FactorsLeft
factors_end js i l b r old now t past h = emitting_end l b old now
    (λ site. product_code (map joined_code (drop i js)) site r) (λ site. term_code t site r)
    (λ site. ap (λ us. product_code (map joined_code us) site r) (drop_of_length-le js past)) h

pub factors_begins : (l : Rows) (b r : ℕ) (old now new : List Op) (js : List Joined) (t : Term)
    → FactorsLeft l b r old now js t → Begins now new → Begins old new
unfolding FactorsLeft
factors_begins l b r old now new js t h more = begins_on old now new h.begins more

-- a loop over terms, and one over factors
pub ruleset each_term = (terms_begin, terms_more, terms_end, terms_none, terms_begins)

pub ruleset each_factor = (factors_begin, factors_more, factors_end, factors_none, factors_begins)
