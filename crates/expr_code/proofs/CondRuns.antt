-- The code of a condition leaves its value, or comes to its fault.
use Rattle.std.proofs.Common.{◌≡◌, ℕ, ◌+◌, ◌^◌, ◌<◌, ◌≤◌, Bool, true, false, List, [], ◌∷◌, ◌++◌}
use Rattle.std.proofs.Common.{length, map, refl, sym, ap, ◌∙◌, subst, arith, length-append}
use Rattle.std.proofs.Math.ListN.{length-set}
use Rattle.std.proofs.lemmas.List.{get_or-set_other, get_or-set_same}
use Rattle.std.specs.Prelude.{slice_index, slice_set, ◌&&◌, ◌||◌, ◌≢◌}
use Rattle.std.specs.List.{AllByRecursion}
use Rattle.machine_code.specs.declared.op.Op.{Op}
use Rattle.machine_code.specs.declared.op.Op.TheVariants.{Ldi, Ldt, Stt, And, Or}
use Rattle.exchange_model.specs.declared.expr.Expr.{Expr}
use Rattle.exchange_model.specs.declared.expr.Cond.{Cond}
use Rattle.exchange_model.specs.declared.expr.Relation.{Relation}
use Rattle.exchange_model.specs.declared.expr.Rel.{Rel}
use Rattle.exchange_model.specs.declared.expr.Rel.TheVariants.{Equal, Unequal, Below, AtMost, Above}
use Rattle.exchange_model.specs.declared.expr.Rel.TheVariants.{AtLeast}
use Rattle.exchange_model.specs.Inside.{bracket_depth, relation_exprs, joined, cond_exprs}
use Rattle.exchange_model.specs.Fits.{Scope, ExprFits, ExprsFit}
use Rattle.source_meaning.specs.Value.{Got, Gives, Fails, Sight, after_loads, with_value, stands}
use Rattle.source_meaning.specs.Value.{expr_value, relation_value, all_value, any_value, cond_value}
use Rattle.job_types.specs.declared.touch.Touch.{Touch}
use Rattle.job_types.specs.Truth.{one_if, is_set}
use Rattle.machine_meaning.specs.Machine.{Machine, HasRoom, machine_step, reg, sets, made_one, next}
use Rattle.expr_code.specs.Code.{rel_op, and_local, or_local, expr_code, relation_code, and_code}
use Rattle.expr_code.specs.Code.{all_code, or_code, any_code, cond_code}
use Rattle.expr_code.specs.Sites.{IsLimited}
use Rattle.expr_code.specs.Runs.{HasAt, site_of, Agrees, Calc, Computes}
use Rattle.plex_num.proofs.Lists.{all_left, all_right, all_both}
use Rattle.expr_code.proofs.Places.{has_front, has_back}
use Rattle.expr_code.proofs.Runs.{agrees_on, after_none, extend, computes_fewer, bind_runs}
use Rattle.expr_code.proofs.Runs.{then_runs, nothing, StandsAt, one_step, op_sets_plain, seen_none}
use Rattle.expr_code.proofs.ExprRuns.{stands as runs_at, expr_runs}

one_if_small : (b : Bool) → one_if b < 2 ^ 32
one_if_small true = omega arith
one_if_small false = omega arith

both : (a b : Bool) → (a && b) ≡ (b && a)
both true true = refl
both true false = refl
both false true = refl
both false false = refl

either : (a b : Bool) → (a || b) ≡ (b || a)
either true true = refl
either true false = refl
either false true = refl
either false false = refl

-- ## The first relation of a list, and the first list, are no cases of their own in the value

-- a number that is 0 or 1
abbrev IsBit : ℕ → Type 0
IsBit v = one_if (is_set v) ≡ v

-- a value, where there is one, that is 0 or 1
abbrev GivesBit : Got → Type 0
GivesBit (Gives loads v) = IsBit v
GivesBit (Fails loads f) = Unit {0}

one_if_bit : (b : Bool) → IsBit (one_if b)
one_if_bit true = refl
one_if_bit false = refl

after_bit : (loads : List Touch) (got : Got) → GivesBit got → GivesBit (after_loads loads got)
after_bit loads (Gives x v) h = h
after_bit loads (Fails x f) h = tt

then_bit : (got : Got) (go : ℕ → Got) → ((v : ℕ) → GivesBit (go v)) → GivesBit (with_value got go)
then_bit (Gives loads v) go h = after_bit loads (go v) (h v)
then_bit (Fails loads f) go h = tt

-- after a bit only what is done with bits counts
with_bit : (got : Got) (f g : ℕ → Got) → GivesBit got → ((v : ℕ) → IsBit v → f v ≡ g v) → with_value got f ≡ with_value got g
with_bit (Gives loads v) f g h same = ap (after_loads loads) (same v h)
with_bit (Fails loads fault) f g h same = refl

relation_bit : (r : Relation) (s : Sight) → GivesBit (relation_value r s)
relation_bit r s =
    then_bit (expr_value r.left s) (λ x. with_value (expr_value r.right s) (λ y. Gives [] (one_if (stands r.rel x y)))) (λ x.
    then_bit (expr_value r.right s) (λ y. Gives [] (one_if (stands r.rel x y))) (λ y. one_if_bit (stands r.rel x y)))

all_bit : (rs : List Relation) (before : ℕ) (s : Sight) → IsBit before → GivesBit (all_value rs before s)
all_bit [] before s h = h
all_bit (r ∷ rs) before s h =
    then_bit (relation_value r s) (λ v. all_value rs (one_if (is_set before && is_set v)) s)
    (λ v. all_bit rs (one_if (is_set before && is_set v)) s (one_if_bit (is_set before && is_set v)))

first_all : (r : Relation) (rs : List Relation) (s : Sight) → all_value (r ∷ rs) 1 s ≡ with_value (relation_value r s) (λ v. all_value rs v s)
first_all r rs s = with_bit (relation_value r s) (λ v. all_value rs (one_if (is_set 1 && is_set v)) s)
    (λ v. all_value rs v s) (relation_bit r s) (λ v bit. ap (λ n. all_value rs n s) bit)

first_any : (rs : List Relation) (rss : List (List Relation)) (s : Sight) → any_value (rs ∷ rss) 0 s ≡ with_value (all_value rs 1 s) (λ v. any_value rss v s)
first_any rs rss s = with_bit (all_value rs 1 s) (λ v. any_value rss (one_if (is_set 0 || is_set v)) s)
    (λ v. any_value rss v s) (all_bit rs 1 s refl) (λ v bit. ap (λ n. any_value rss n s) bit)

-- ## What the code does

rel_act : (rel : Rel) (m : Machine) → machine_step (rel_op rel 0 1) m
    ≡ record { run = sets 0 (one_if (stands rel (reg m.run 0) (reg m.run 1))) (made_one m.run); world = m.world }
rel_act Equal m = refl
rel_act Unequal m = refl
rel_act Below m = refl
rel_act AtMost m = refl
rel_act Above m = refl
rel_act AtLeast m = refl

rel_room : (rel : Rel) (m : Machine) → HasRoom (rel_op rel 0 1) m.run
rel_room Equal m = tt
rel_room Unequal m = tt
rel_room Below m = tt
rel_room AtMost m = tt
rel_room Above m = tt
rel_room AtLeast m = tt

module _ (code : List Op) where
  -- a register goes into a local, and the rest goes on
  local_then : (m : Machine) (pc pc2 i r r2 l2 v : ℕ) (got : Got) → StandsAt code m pc (Stt i r) → reg m.run r ≡ v
      → length m.run.locals ≡ 50 → i < 50 → l2 ≤ i → v < 2 ^ 32
      → ((n : Machine) → Calc code m n (pc + 1) [] r2 i → reg n.run r ≡ v → slice_index n.run.locals i ≡ v
      → Computes code n pc2 r2 l2 got) → Computes code m pc2 r2 l2 got
  local_then m pc pc2 i r r2 l2 v got s is long lt le small go =
      let n : Machine = record { run = next (record (made_one m.run) { locals = slice_set m.run.locals i (reg m.run r) }); world = m.world } in
      let q : Calc code m n (pc + 1) [] r2 i = record {
        goes = one_step code s refl;
        at = ap (λ a. a + 1) s.at;
        registers = refl;
        low = λ k lt. refl;
        length_locals = length-set m.run.locals i (reg m.run r);
        locals = λ k lt'. let ne : k ≢ i = omega arith in get_or-set_other m.run.locals i k (reg m.run r) 0 ne;
        out = refl;
        frames = refl;
        own = refl;
        world = seen_none m.world;
        over = s.over;
      } in
      let within : i < length m.run.locals = omega arith in
      let same : r2 ≤ r2 = omega arith in
      subst (Computes code m pc2 r2 l2) (after_none got) (extend code same le q (go n q is (get_or-set_same m.run.locals i (reg m.run r) 0 within ∙ is)))

module _ (code : List Op) (s : Sight) (scope : Scope) (few : IsLimited scope) where
  -- an expression that code may keep in register 0 or 1
  abbrev Fits : Expr → Type 0
  Fits e = ExprFits scope e × (bracket_depth e ≤ 6)

  relation_runs : (r : Relation) (m : Machine) (pc : ℕ) → Fits r.left → Fits r.right → Agrees m s → m.run.pc ≡ pc
      → HasAt code pc (relation_code r (site_of s))
      → Computes code m (pc + length (relation_code r (site_of s))) 0 50 (relation_value r s)
  relation_runs r m pc fl fr a at has =
      let cl = expr_code r.left (site_of s) 0 in
      let cr = expr_code r.right (site_of s) 1 in
      let op = rel_op r.rel 0 1 in
      let end = pc + length (relation_code r (site_of s)) in
      let h : HasAt code (pc + length cl) (cr ++ op ∷ []) = has_back code pc cl (cr ++ op ∷ []) has in
      bind_runs code (λ x. with_value (expr_value r.right s) (λ y. Gives [] (one_if (stands r.rel x y)))) (omega arith) (omega arith)
      (expr_runs code s scope r.left m pc 0 few fl.0 (omega (arith, fl.1)) a at (has_front code pc cl (cr ++ op ∷ []) has)) (λ n lx x q is small.
      let b = agrees_on (omega arith) q a in
      bind_runs code (λ y. Gives [] (one_if (stands r.rel x y))) (omega arith) (omega arith)
      (expr_runs code s scope r.right n (pc + length cl) 1 few fr.0 (omega (arith, fr.1)) b q.at
      (has_front code (pc + length cl) cr (op ∷ []) h)) (λ n2 ly y q2 is2 small2.
      let b2 = agrees_on (omega arith) q2 b in
      let at2 : HasAt code (pc + length cl + length cr) (op ∷ []) = has_back code (pc + length cl) cr (op ∷ []) h in
      let act : machine_step op n2 ≡ record { run = sets 0 (one_if (stands r.rel x y)) (made_one n2.run); world = n2.world } =
      rel_act r.rel n2
      ∙ ap (λ k. record { run = sets 0 (one_if (stands r.rel k (reg n2.run 1))) (made_one n2.run); world = n2.world }) (q2.low 0 (omega arith) ∙ is)
      ∙ ap (λ k. record { run = sets 0 (one_if (stands r.rel x k)) (made_one n2.run); world = n2.world }) is2 in
      let e : pc + length cl + length cr + 1 ≡ end = omega (arith, length-append cl (cr ++ op ∷ []), length-append cr (op ∷ [])) in
      subst (λ k. Computes code n2 k 0 50 (Gives [] (one_if (stands r.rel x y)))) e
      (op_sets_plain code n2 op (pc + length cl + length cr) 0 _ (runs_at b2 q2.at at2.0 (rel_room r.rel n2))
      (one_if_small (stands r.rel x y)) (omega arith) act)))

  -- further relations of a list, from the result so far on
  and_runs : (rs : List Relation) (before : ℕ) (m : Machine) (pc end : ℕ) → AllByRecursion Fits (relation_exprs rs)
      → Agrees m s → m.run.pc ≡ pc → reg m.run 0 ≡ before → before < 2 ^ 32 → HasAt code pc (and_code rs (site_of s))
      → end ≡ pc + length (and_code rs (site_of s)) → Computes code m end 0 and_local (all_value rs before s)
  and_runs [] before m pc end fits a at is small has e = computes_fewer code (omega arith) (nothing code m end 0 before (omega arith) a.runs is small)
  and_runs (r ∷ rs) before m pc end fits a at is small has e =
      let c = relation_code r (site_of s) in
      let rest = and_code rs (site_of s) in
      let tail = Ldt 1 and_local ∷ And 0 1 ∷ rest in
      let h : HasAt code (pc + 1 + length c) tail = has_back code (pc + 1) c tail has.1 in
      let go : ℕ → Got = λ v. all_value rs (one_if (is_set before && is_set v)) s in
      local_then code m pc end and_local 0 0 and_local before (with_value (relation_value r s) go)
      (runs_at a at has.0 tt) is a.locals (omega arith) (omega arith) small (λ n q is2 is3.
      let b = agrees_on (omega arith) q a in
      bind_runs code go (omega arith) (omega arith)
      (relation_runs r n (pc + 1) fits.0 fits.1.0 b q.at (has_front code (pc + 1) c tail has.1)) (λ n2 x v q2 is4 small2.
      let b2 = agrees_on (omega arith) q2 b in
      then_runs code (omega arith) (omega arith)
      (op_sets_plain code n2 (Ldt 1 and_local) (pc + 1 + length c) 1 before (runs_at b2 q2.at h.0 tt) small (omega arith)
      (ap (λ k. record { run = sets 1 k (made_one n2.run); world = n2.world }) (q2.locals and_local (omega arith) ∙ is3))) (λ n3 q3 is5.
      let b3 = agrees_on (omega arith) q3 b2 in
      let new = one_if (is_set before && is_set v) in
      then_runs code (omega arith) (omega arith)
      (op_sets_plain code n3 (And 0 1) (pc + 1 + length c + 1) 0 new (runs_at b3 q3.at h.1.0 tt) (one_if_small (is_set before && is_set v)) (omega arith)
      (ap (λ k. record { run = sets 0 (one_if (is_set k && is_set (reg n3.run 1))) (made_one n3.run); world = n3.world }) (q3.low 0 (omega arith) ∙ is4)
      ∙ ap (λ k. record { run = sets 0 (one_if (is_set v && is_set k)) (made_one n3.run); world = n3.world }) is5
      ∙ ap (λ k. record { run = sets 0 k (made_one n3.run); world = n3.world }) (ap one_if (both (is_set v) (is_set before))))) (λ n4 q4 is6.
      and_runs rs new n4 (pc + 1 + length c + 1 + 1) end fits.1.1 (agrees_on (omega arith) q4 b3) q4.at is6
      (one_if_small (is_set before && is_set v)) h.1.1 (omega (arith, length-append c tail))))))

  -- the relations of one list
  all_runs : (rs : List Relation) (m : Machine) (pc : ℕ) → AllByRecursion Fits (relation_exprs rs) → Agrees m s
      → m.run.pc ≡ pc → HasAt code pc (all_code rs (site_of s))
      → Computes code m (pc + length (all_code rs (site_of s))) 0 and_local (all_value rs 1 s)
  all_runs [] m pc fits a at has = computes_fewer code (omega arith)
      (op_sets_plain code m (Ldi 0 1) pc 0 1 (runs_at a at has.0 tt) (omega arith) (omega arith) refl)
  all_runs (r ∷ rs) m pc fits a at has =
      let c = relation_code r (site_of s) in
      let rest = and_code rs (site_of s) in
      let end = pc + length (c ++ rest) in
      subst (Computes code m end 0 and_local) (sym (first_all r rs s))
      (bind_runs code (λ v. all_value rs v s) (omega arith) (omega arith)
      (relation_runs r m pc fits.0 fits.1.0 a at (has_front code pc c rest has)) (λ n x v q is small.
      and_runs rs v n (pc + length c) end fits.1.1 (agrees_on (omega arith) q a) q.at is small
      (has_back code pc c rest has) (omega (arith, length-append c rest))))

  -- further lists of relations, from the result so far on
  or_runs : (rss : List (List Relation)) (before : ℕ) (m : Machine) (pc end : ℕ)
      → AllByRecursion Fits (joined (map relation_exprs rss)) → Agrees m s → m.run.pc ≡ pc → reg m.run 0 ≡ before
      → before < 2 ^ 32 → HasAt code pc (or_code rss (site_of s)) → end ≡ pc + length (or_code rss (site_of s))
      → Computes code m end 0 or_local (any_value rss before s)
  or_runs [] before m pc end fits a at is small has e = computes_fewer code (omega arith) (nothing code m end 0 before (omega arith) a.runs is small)
  or_runs (rs ∷ rss) before m pc end fits a at is small has e =
      let c = all_code rs (site_of s) in
      let rest = or_code rss (site_of s) in
      let tail = Ldt 1 or_local ∷ Or 0 1 ∷ rest in
      let h : HasAt code (pc + 1 + length c) tail = has_back code (pc + 1) c tail has.1 in
      let go : ℕ → Got = λ v. any_value rss (one_if (is_set before || is_set v)) s in
      let here = all_left Fits (relation_exprs rs) (joined (map relation_exprs rss)) fits in
      let later = all_right Fits (relation_exprs rs) (joined (map relation_exprs rss)) fits in
      local_then code m pc end or_local 0 0 or_local before (with_value (all_value rs 1 s) go) (runs_at a at has.0 tt)
      is a.locals (omega arith) (omega arith) small (λ n q is2 is3.
      let b = agrees_on (omega arith) q a in
      bind_runs code go (omega arith) (omega arith)
      (all_runs rs n (pc + 1) here b q.at (has_front code (pc + 1) c tail has.1)) (λ n2 x v q2 is4 small2.
      let b2 = agrees_on (omega arith) q2 b in
      then_runs code (omega arith) (omega arith)
      (op_sets_plain code n2 (Ldt 1 or_local) (pc + 1 + length c) 1 before (runs_at b2 q2.at h.0 tt) small (omega arith)
      (ap (λ k. record { run = sets 1 k (made_one n2.run); world = n2.world }) (q2.locals or_local (omega arith) ∙ is3))) (λ n3 q3 is5.
      let b3 = agrees_on (omega arith) q3 b2 in
      let new = one_if (is_set before || is_set v) in
      then_runs code (omega arith) (omega arith)
      (op_sets_plain code n3 (Or 0 1) (pc + 1 + length c + 1) 0 new (runs_at b3 q3.at h.1.0 tt) (one_if_small (is_set before || is_set v)) (omega arith)
      (ap (λ k. record { run = sets 0 (one_if (is_set k || is_set (reg n3.run 1))) (made_one n3.run); world = n3.world }) (q3.low 0 (omega arith) ∙ is4)
      ∙ ap (λ k. record { run = sets 0 (one_if (is_set v || is_set k)) (made_one n3.run); world = n3.world }) is5
      ∙ ap (λ k. record { run = sets 0 k (made_one n3.run); world = n3.world }) (ap one_if (either (is_set v) (is_set before))))) (λ n4 q4 is6.
      or_runs rss new n4 (pc + 1 + length c + 1 + 1) end later (agrees_on (omega arith) q4 b3) q4.at is6
      (one_if_small (is_set before || is_set v)) h.1.1 (omega (arith, length-append c tail))))))

  -- the lists of relations
  any_runs : (rss : List (List Relation)) (m : Machine) (pc : ℕ) → AllByRecursion Fits (joined (map relation_exprs rss))
      → Agrees m s → m.run.pc ≡ pc → HasAt code pc (any_code rss (site_of s))
      → Computes code m (pc + length (any_code rss (site_of s))) 0 or_local (any_value rss 0 s)
  any_runs [] m pc fits a at has = computes_fewer code (omega arith)
      (op_sets_plain code m (Ldi 0 0) pc 0 0 (runs_at a at has.0 tt) (omega arith) (omega arith) refl)
  any_runs (rs ∷ rss) m pc fits a at has =
      let c = all_code rs (site_of s) in
      let rest = or_code rss (site_of s) in
      let end = pc + length (c ++ rest) in
      let here = all_left Fits (relation_exprs rs) (joined (map relation_exprs rss)) fits in
      let later = all_right Fits (relation_exprs rs) (joined (map relation_exprs rss)) fits in
      subst (Computes code m end 0 or_local) (sym (first_any rs rss s))
      (bind_runs code (λ v. any_value rss v s) (omega arith) (omega arith)
      (all_runs rs m pc here a at (has_front code pc c rest has)) (λ n x v q is small.
      or_runs rss v n (pc + length c) end later (agrees_on (omega arith) q a) q.at is small
      (has_back code pc c rest has) (omega (arith, length-append c rest))))

-- from a machine that has what the condition sees, its code computes its value
pub cond_runs : (code : List Op) (s : Sight) (scope : Scope) (c : Cond) (m : Machine) (pc : ℕ) → IsLimited scope
    → ExprsFit scope (cond_exprs c) → Agrees m s → m.run.pc ≡ pc → HasAt code pc (cond_code c (site_of s))
    → Computes code m (pc + length (cond_code c (site_of s))) 0 48 (cond_value c s)
cond_runs code s scope c m pc few fits a at has =
    any_runs code s scope few c.any m pc (all_both (ExprFits scope) (λ e. bracket_depth e ≤ 6) (cond_exprs c) fits.each fits.shallow) a at has
