-- The loads of an expression are those of what it names.
use Rattle.std.proofs.Common.{◌≡◌, ℕ, zero, suc, ◌+◌, List, [], ◌∷◌, map, Option, Some, None, refl}
use Rattle.std.proofs.Common.{sym, ap, subst, slice_get}
use Rattle.std.specs.Prelude.{slice_index, ◌&&◌, ◌||◌}
use Rattle.std.specs.List.{AllByRecursion, Contains}
use Rattle.job_types.specs.declared.fault.Fault.{Fault}
use Rattle.job_types.specs.declared.touch.Touch.{Touch}
use Rattle.exchange_model.specs.declared.expr.Expr.{Expr, out-Expr}
use Rattle.exchange_model.specs.declared.expr.Term.{Term, out-Term}
use Rattle.exchange_model.specs.declared.expr.Joined.{Joined}
use Rattle.exchange_model.specs.declared.expr.Factor.{Factor}
use Rattle.exchange_model.specs.declared.expr.FactorOp.{FactorOp}
use Rattle.exchange_model.specs.declared.expr.FactorOp.TheVariants.{Times, Divide, Modulo}
use Rattle.exchange_model.specs.declared.expr.Relation.{Relation}
use Rattle.exchange_model.specs.declared.expr.Cond.{Cond}
use Rattle.exchange_model.specs.Cells.{Placed, field_cell}
use Rattle.exchange_model.specs.Inside.{joined as all_of, cond_exprs, relation_exprs}
use Rattle.job_types.specs.Truth.{one_if, is_set}
use Rattle.source_meaning.specs.Named.{Named, NamedVariable, NamedField, named_in, named_in_term}
use Rattle.source_meaning.specs.Named.{named_in_factor, named_in_joined}
use Rattle.source_meaning.specs.Value.{Got, Gives, Fails, Eval, Sight, load_of, with_value}
use Rattle.source_meaning.specs.Value.{after_loads, joined, summed, sum_value, product_value}
use Rattle.source_meaning.specs.Value.{summand_of, multiplier_of, field_value, load_or_fault}
use Rattle.source_meaning.specs.Value.{pointer_fault, expr_value, term_value, factor_value, stands}
use Rattle.source_meaning.specs.Value.{relation_value, all_value, any_value, cond_value}
use Rattle.source_meaning.proofs.Layers.{expr_value-out, term_value-out, factor_value-Number}
use Rattle.source_meaning.proofs.Layers.{factor_value-Variable, factor_value-Temporary}
use Rattle.source_meaning.proofs.Layers.{factor_value-Field, factor_value-Bracket}
use Rattle.source_meaning.proofs.Layers.{factor_value-Reference}
use Rattle.plex_num.proofs.Lists.{all_append, all_left, all_right}
use Rattle.source_meaning.proofs.Lists.{Within, within_left, within_right}
use Rattle.source_meaning.proofs.Naming.{named_in-out, named_in_term-out, named-Variable}
use Rattle.source_meaning.proofs.Naming.{named-Field, named-Bracket}
use Rattle.source_meaning.proofs.Parts.{NodeParts, every_expr}
use Rattle.plex_num.proofs.Members.{first_is}

abbrev pub loads_in : Got → List Touch
loads_in (Gives loads v) = loads
loads_in (Fails loads f) = loads

-- the load of a variable or a field that is one of these
pub data IsLoadOf (s : Sight) (all : List Named) (t : Touch) : Type 0 where
  of_variable : (v : ℕ) → Contains all (NamedVariable v) → t ≡ load_of s.store (s.first + v) → IsLoadOf s all t
  of_field : (file field pointer : ℕ) (p : Placed) → Contains all (NamedField file field pointer)
      → slice_get s.files file ≡ Some p → pointer_fault s.chain file p (slice_index s.temps pointer) ≡ None
      → t ≡ load_of s.store (field_cell p (slice_index s.temps pointer) field) → IsLoadOf s all t

-- each load of a value is so
abbrev pub LoadsAre : (Touch → Type 0) → Got → Type 0
LoadsAre Q got = AllByRecursion Q (loads_in got)

module _ (Q : Touch → Type 0) where
  pub loads_with : (got : Got) (go : ℕ → Got) → LoadsAre Q got → ((v : ℕ) → LoadsAre Q (go v)) → LoadsAre Q (with_value got go)
  loads_with (Gives loads v) go here more = after (go v) (more v)
    where
      after : (next : Got) → LoadsAre Q next → LoadsAre Q (after_loads loads next)
      after (Gives ls w) rest = all_append Q loads ls here rest
      after (Fails ls f) rest = all_append Q loads ls here rest
  loads_with (Fails loads f) go here more = here

  joined_loads : (by : FactorOp) (a b : ℕ) → LoadsAre Q (joined by a b)
  joined_loads Times a b = tt
  joined_loads Divide a zero = tt
  joined_loads Divide a (suc b) = tt
  joined_loads Modulo a zero = tt
  joined_loads Modulo a (suc b) = tt

module _ (s : Sight) (all : List Named) where
  abbrev Q : Touch → Type 0
  Q = IsLoadOf s all

  abbrev ExprLoads : Expr → Type 0
  ExprLoads e = Within (named_in e) all → LoadsAre Q (expr_value e s)

  abbrev TermLoads : Term → Type 0
  TermLoads t = Within (named_in_term t) all → LoadsAre Q (term_value t s)

  abbrev FactorLoads : Factor → Type 0
  FactorLoads f = Within (named_in_factor f) all → LoadsAre Q (factor_value f s)

  sum_loads : (ts : List Term) (sum : ℕ) → AllByRecursion TermLoads ts → Within (all_of (map named_in_term ts)) all
      → LoadsAre Q (sum_value (map summand_of ts) sum s)
  sum_loads [] sum each within = tt
  sum_loads (t ∷ ts) sum each within =
      loads_with Q (term_value t s) (λ v. sum_value (map summand_of ts) (summed (out-Term t).minus sum v) s)
      (each.0 (within_left (named_in_term t) (all_of (map named_in_term ts)) all within))
      (λ v. sum_loads ts (summed (out-Term t).minus sum v) each.1 (within_right (named_in_term t) (all_of (map named_in_term ts)) all within))

  product_loads : (js : List Joined) (product : ℕ) → AllByRecursion (λ (j : Joined). FactorLoads j.factor) js
      → Within (all_of (map named_in_joined js)) all → LoadsAre Q (product_value (map multiplier_of js) product s)
  product_loads [] product each within = tt
  product_loads (j ∷ js) product each within =
      let here = within_left (named_in_factor j.factor) (all_of (map named_in_joined js)) all within in
      let later = within_right (named_in_factor j.factor) (all_of (map named_in_joined js)) all within in
      loads_with Q (factor_value j.factor s) (λ v. with_value (joined j.by product v) (λ p. product_value (map multiplier_of js) p s)) (each.0 here)
      (λ v. loads_with Q (joined j.by product v) (λ p. product_value (map multiplier_of js) p s)
      (joined_loads Q j.by product v) (λ p. product_loads js p each.1 later))

  field_loads : (found : Option Placed) (file field pointer : ℕ) → slice_get s.files file ≡ found
      → Contains all (NamedField file field pointer)
      → LoadsAre Q (field_value found file field (slice_index s.temps pointer) s)
  field_loads None file field pointer is named = tt
  field_loads (Some p) file field pointer is named = by (pointer_fault s.chain file p (slice_index s.temps pointer)) refl
    where
      by : (found : Option Fault) → pointer_fault s.chain file p (slice_index s.temps pointer) ≡ found
          → LoadsAre Q (load_or_fault found (field_cell p (slice_index s.temps pointer) field) s)
      by None sound = (of_field file field pointer p named is sound refl, tt)
      by (Some f) sound = tt

  abbrev same_loads : {got next : Got} → got ≡ next → LoadsAre Q next → LoadsAre Q got
  same_loads is h = subst (LoadsAre Q) (sym is) h

  expr_parts : NodeParts ExprLoads TermLoads FactorLoads
  expr_parts = record {
    expr = λ e each within. subst (LoadsAre Q) (sym (ap (λ (v : Eval). v s) (expr_value-out e)))
        (sum_loads (out-Expr e).terms 0 each (subst (λ ns. Within ns all) (named_in-out e) within));
    term = λ t each within. subst (LoadsAre Q) (sym (ap (λ (v : Eval). v s) (term_value-out t)))
        (product_loads (out-Term t).factors 1 each (subst (λ ns. Within ns all) (named_in_term-out t) within));
    number = λ n within. same_loads (factor_value-Number n s) tt;
    variable = λ v within. same_loads (factor_value-Variable v s) (
      of_variable v (within (NamedVariable v)
          (subst (λ ns. Contains ns (NamedVariable v)) (sym (named-Variable v)) (first_is (NamedVariable v) []))) refl,
      tt,
    );
    temporary = λ t within. same_loads (factor_value-Temporary t s) tt;
    field = λ file field pointer within. same_loads (factor_value-Field file field pointer s)
        (field_loads (slice_get s.files file) file field pointer refl
        (within (NamedField file field pointer)
        (subst (λ ns. Contains ns (NamedField file field pointer)) (sym (named-Field file field pointer))
        (first_is (NamedField file field pointer) []))));
    bracket = λ e inside within. same_loads (factor_value-Bracket e s) (inside (subst (λ ns. Within ns all) (named-Bracket e) within));
    reference = λ b within. same_loads (factor_value-Reference b s) tt;
  }

-- the loads of an expression
pub expr_loads : (e : Expr) (s : Sight) → LoadsAre (IsLoadOf s (named_in e)) (expr_value e s)
expr_loads e s = every_expr (expr_parts s (named_in e)) e (λ n at. at)

-- what a value tells: each load is so, and the fault, if there is one
abbrev pub FaultIs : (Fault → Type 0) → Got → Type 0
FaultIs F (Gives loads v) = Unit {0}
FaultIs F (Fails loads f) = F f

pub record TellsLoads (Q : Touch → Type 0) (F : Fault → Type 0) (got : Got) : Type 0 where
  pub loads : LoadsAre Q got
  pub fault : FaultIs F got

module _ (Q : Touch → Type 0) (F : Fault → Type 0) where
  fault_with : (got : Got) (go : ℕ → Got) → FaultIs F got → ((v : ℕ) → FaultIs F (go v)) → FaultIs F (with_value got go)
  fault_with (Gives loads v) go here more = after (go v) (more v)
    where
      after : (next : Got) → FaultIs F next → FaultIs F (after_loads loads next)
      after (Gives ls w) rest = tt
      after (Fails ls f) rest = rest
  fault_with (Fails loads f) go here more = here

  tells_with : (got : Got) (go : ℕ → Got) → TellsLoads Q F got → ((v : ℕ) → TellsLoads Q F (go v)) → TellsLoads Q F (with_value got go)
  tells_with got go here more = record {
    loads = loads_with Q got go here.loads (λ v. (more v).loads);
    fault = fault_with got go here.fault (λ v. (more v).fault);
  }

  pub tells_number : (v : ℕ) → TellsLoads Q F (Gives [] v)
  tells_number v = record { loads = tt; fault = tt }

  -- a condition tells what its expressions tell
  module _ (s : Sight) where
    abbrev Side : Expr → Type 0
    Side e = TellsLoads Q F (expr_value e s)

    relation_tells : (r : Relation) → Side r.left → Side r.right → TellsLoads Q F (relation_value r s)
    relation_tells r left right =
        tells_with (expr_value r.left s) (λ a. with_value (expr_value r.right s) (λ b. Gives [] (one_if (stands r.rel a b)))) left
        (λ a. tells_with (expr_value r.right s) (λ b. Gives [] (one_if (stands r.rel a b))) right (λ b. tells_number (one_if (stands r.rel a b))))

    all_tell : (rs : List Relation) (before : ℕ) → AllByRecursion Side (relation_exprs rs) → TellsLoads Q F (all_value rs before s)
    all_tell [] before each = tells_number before
    all_tell (r ∷ rs) before each =
        tells_with (relation_value r s) (λ v. all_value rs (one_if (is_set before && is_set v)) s)
        (relation_tells r each.0 each.1.0) (λ v. all_tell rs (one_if (is_set before && is_set v)) each.1.1)

    any_tell : (rss : List (List Relation)) (before : ℕ) → AllByRecursion Side (all_of (map relation_exprs rss)) → TellsLoads Q F (any_value rss before s)
    any_tell [] before each = tells_number before
    any_tell (rs ∷ rss) before each =
        tells_with (all_value rs 1 s) (λ v. any_value rss (one_if (is_set before || is_set v)) s)
        (all_tell rs 1 (all_left Side (relation_exprs rs) (all_of (map relation_exprs rss)) each))
        (λ v. any_tell rss (one_if (is_set before || is_set v)) (all_right Side (relation_exprs rs) (all_of (map relation_exprs rss)) each))

    pub cond_tells : (c : Cond) → AllByRecursion Side (cond_exprs c) → TellsLoads Q F (cond_value c s)
    cond_tells c each = any_tell c.any 0 each
