-- CASE: the choices are tried one after the other.
use Rattle.std.proofs.Common.{◌≡◌, ℕ, ◌+◌, ◌≤◌, Bool, List, [], ◌∷◌, ◌++◌, length, map, refl, sym}
use Rattle.std.proofs.Common.{ap, ◌∙◌, subst, arith, length-append, if◌then◌else◌}
use mathlib.Core.Path.{fun_ext}
use Rattle.machine_code.specs.declared.op.Op.{Op}
use Rattle.machine_code.specs.declared.op.Op.TheVariants as op
use Rattle.exchange_model.specs.declared.expr.Expr.{Expr}
use Rattle.exchange_model.specs.declared.stmt.Stmt.{Stmt}
use Rattle.exchange_model.specs.declared.stmt.When.{When, out-When}
use Rattle.exchange_model.specs.declared.stmt.StmtKind.TheOpen.{Case as CaseOf}
use Rattle.source_meaning.specs.Config.{Item, Do, Config}
use Rattle.source_meaning.specs.Step.{does}
use Rattle.source_meaning.specs.Changes.{goes, chosen}
use Rattle.machine_meaning.specs.Machine.{Machine, reg}
use Rattle.expr_code.specs.Code.{expr_code}
use Rattle.expr_code.specs.Runs.{HasAt}
use Rattle.expr_code.proofs.Places.{has_front, has_back}
use Rattle.stmt_code.specs.declared.lengths.TheConstants.{COMPARE_LENGTH}
use Rattle.stmt_code.specs.StmtCode.{Choice, compare_code, choices_code, stmt_code, when_code}
use Rattle.stmt_code.specs.StmtCode.{when_code-out}
use Rattle.stmt_code.specs.Within.{ListIn, ChoicesIn}
use Rattle.stmt_code.proofs.Setting.{Setting, places, list_code, few_loops, choices_in}
use Rattle.stmt_code.proofs.Setting.{otherwise_in}
use Rattle.stmt_code.proofs.At.{At, jumps, at_moves, list_at}
use Rattle.stmt_code.proofs.Same.{Same, Follows}
use Rattle.stmt_code.proofs.Compares.{compare_sim}
use Rattle.stmt_code.proofs.Values.{expr_in, count_sim, value_sim}
use Rattle.stmt_code.proofs.Kind.{Case, at_kept, at_valued, goes_on_at}

-- a choice as what its code needs
abbrev choice_of : When → Choice
choice_of w = record { number = (out-When w).number; body = map stmt_code (out-When w).body }

choices_same : when_code ≡ choice_of
choices_same = fun_ext when_code-out

-- the code of choices of a block, and the list where none is chosen
abbrev choices_at : Setting → ℕ → List When → List Stmt → ℕ → ℕ → List Op
choices_at g b whens otherwise d a = choices_code (map choice_of whens) (map stmt_code otherwise) (places g b) d a

module _ {g : Setting} where
  choose_sim : (whens : List When) (otherwise : List Stmt) (v : ℕ) (c : Config) (m : Machine) (d a : ℕ)
      (rest : List Item) → d ≤ 12 → ChoicesIn g.exchange c.block d whens → ListIn g.exchange c.block d otherwise
      → Same g [] c m → m.run.pc ≡ a → reg m.run 0 ≡ v → HasAt g.code a (choices_at g c.block whens otherwise d a)
      → At g c.block m.run.locals d rest (a + length (choices_at g c.block whens otherwise d a))
      → Follows g (goes (map Do (chosen whens v otherwise) ++ rest) c) m
  choose_sim [] otherwise v c m d a rest le fits other s at is has r = goes_on_at (map Do otherwise ++ rest) s at
      (list_at g c.block d a m.run.locals rest otherwise has other r)
  choose_sim (w ∷ ws) otherwise v c m d a rest le fits other s at is has r =
      let number = (out-When w).number in
      let body = (out-When w).body in
      let body_at = a + COMPARE_LENGTH in
      let cb = list_code g c.block body d body_at in
      let next = body_at + length cb + 1 in
      let more = choices_at g c.block ws otherwise d next in
      let end = next + length more in
      let tail = cb ++ (op.Jmp end ∷ more) in
      let h = has_back g.code a (compare_code number next) tail has in
      let h' = has_back g.code body_at cb (op.Jmp end ∷ more) h in
      let len : a + length (choices_at g c.block (w ∷ ws) otherwise d a) ≡ end = omega (arith, length-append cb (op.Jmp end ∷ more)) in
      let result : Bool → Config = λ b. goes (map Do (if b then body else chosen ws v otherwise) ++ rest) c in
      let r0 = subst (At g c.block m.run.locals d rest) len r in
      compare_sim number v s at is (has_front g.code a (compare_code number next) tail has)
      (λ e n s1 at1 q. subst (λ b. Follows g (result b) n) (sym e)
      (choose_sim ws otherwise v c n d next rest le fits.1 other s1 at1 (q.value ∙ is) h'.1
      (at_moves n.run.locals le q.loops r0)))
      (λ e n s1 at1 q. subst (λ b. Follows g (result b) n) (sym e)
      (goes_on_at (map Do body ++ rest) s1 at1
      (list_at g c.block d body_at n.run.locals rest body (has_front g.code body_at cb (op.Jmp end ∷ more) h) fits.0
      (jumps end h'.0 (at_moves n.run.locals le q.loops r0)))))

  pub case_of : (e : Expr) (whens : List When) (otherwise : List Stmt) → Case g (CaseOf e whens otherwise)
  case_of e whens otherwise c m p d a rest s at has fits r =
      let ce = expr_code e (places g c.block).site 0 in
      let now : (When → Choice) → List Op = λ f. choices_code (map f whens) (map stmt_code otherwise) (places g c.block) d (a + 1 + length ce) in
      let tail = now when_code in
      let h = subst (λ f. HasAt g.code (a + 1 + length ce) (now f)) choices_same (has_back g.code (a + 1) ce tail has.1) in
      let len : a + length (op.Stmt p ∷ (ce ++ tail)) ≡ a + 1 + length ce + length (now choice_of) =
      omega (arith, length-append ce tail, ap (λ f. length (now f)) choices_same) in
      let le = few_loops fits in
      count_sim (does g.exchange p (CaseOf e whens otherwise) rest) s at has.0 (λ n1 s1 at1 q1.
      value_sim 0 e (λ v d. goes (map Do (chosen whens v otherwise) ++ rest) d) (omega arith) (expr_in e [] refl fits)
      s1 at1 (has_front g.code (a + 1) ce tail has.1) (λ n2 v loads s2 at2 q2.
      let r2 = subst (At g c.block n2.run.locals d rest) len (at_valued le q2 (at_kept le q1 r)) in
      choose_sim whens otherwise v _ n2 d (a + 1 + length ce) rest le (choices_in fits) (otherwise_in fits) s2 at2 q2.is h r2))
