-- Assignments to temporaries and variables, jumps and branches.
use Rattle.std.proofs.Common.{◌≡◌, ℕ, ◌+◌, ◌^◌, Bool, true, false, true≢false, List, [], ◌∷◌, ◌++◌}
use Rattle.std.proofs.Common.{length, map, refl, ap, ◌∙◌, subst, arith, length-append}
use Rattle.machine_code.specs.declared.op.Op.TheVariants as op
use Rattle.exchange_model.specs.declared.expr.Expr.{Expr}
use Rattle.exchange_model.specs.declared.expr.Cond.{Cond}
use Rattle.exchange_model.specs.declared.stmt.Stmt.{Stmt}
use Rattle.exchange_model.specs.declared.stmt.StmtKind.TheOpen.{SetTemp, SetVariable, Goto, IfGoto}
use Rattle.exchange_model.specs.declared.stmt.StmtKind.TheOpen.{If}
use Rattle.source_meaning.specs.Config.{Item, Do, base_of}
use Rattle.source_meaning.specs.Step.{does}
use Rattle.source_meaning.specs.Changes.{goes, sets_temp, sets_cell, where_fits, variable_width}
use Rattle.source_meaning.specs.Changes.{to_label}
use Rattle.job_types.specs.Truth.{at_zero}
use Rattle.expr_code.specs.Code.{expr_code, cond_code}
use Rattle.expr_code.specs.Runs.{HasAt}
use Rattle.expr_code.proofs.Places.{has_front, has_back}
use Rattle.stmt_code.specs.StmtCode.{opened, range_code, has_any, past_code, stmt_code}
use Rattle.stmt_code.proofs.Setting.{Setting, places, list_code, few_loops, yes_in, no_in}
use Rattle.stmt_code.proofs.At.{At, jumps, list_at}
use Rattle.stmt_code.proofs.Instr.{jmp, stt, stw}
use Rattle.stmt_code.proofs.Widths.{range_sim}
use Rattle.stmt_code.proofs.Sizes.{past_length}
use Rattle.stmt_code.proofs.Values.{Laid, expr_in, cond_in, count_sim, value_sim, cond_sim}
use Rattle.stmt_code.proofs.Kind.{Case, at_kept, at_valued, goes_on_at, label_sim, zero_sim}

-- an empty list has no code, and neither has the jump past it
none_left : (g : Setting) (b d i : ℕ) (rs : List Stmt) → has_any (map stmt_code rs) ≡ false
    → i + length (past_code (has_any (map stmt_code rs)) 0)
    + length (list_code g b rs d (i + length (past_code (has_any (map stmt_code rs)) 0))) ≡ i
none_left g b d i [] e = omega arith
none_left g b d i (s ∷ rs) e = absurd (true≢false e)

module _ {g : Setting} where
  pub set_temp : (t : ℕ) (e : Expr) → Case g (SetTemp t e)
  set_temp t e c m p d a rest s at has fits r =
      let ce = expr_code e (places g c.block).site 0 in
      let tail = op.Stt t 0 ∷ [] in
      let h = has_back g.code (a + 1) ce tail has.1 in
      let len : a + 1 + length ce + 1 ≡ a + length (op.Stmt p ∷ (ce ++ tail)) = omega (arith, length-append ce tail) in
      let le = few_loops fits in
      count_sim (does g.exchange p (SetTemp t e) rest) s at has.0 (λ n1 s1 at1 q1.
      value_sim 0 e (λ v d. goes rest (sets_temp t v d)) (omega arith) (expr_in e [] refl fits) s1 at1
      (has_front g.code (a + 1) ce tail has.1) (λ n2 v loads s2 at2 q2.
      stt v s2 at2 h.0 (omega (arith, fits.fits.names, fits.limited.temporaries)) q2.is q2.small (λ n3 s3 at3 q3.
      goes_on_at rest s3 (at3 ∙ len) (at_kept le q3 (at_valued le q2 (at_kept le q1 r))))))

  pub set_variable : (i : ℕ) (e : Expr) → Case g (SetVariable i e)
  set_variable i e c m p d a rest s at has fits r =
      let ce = expr_code e (places g c.block).site 0 in
      let w = variable_width g.exchange c.block i in
      let cell = base_of g.exchange c.block + i in
      let look = range_code 0 w in
      let tail = look ++ op.Stw cell 0 ∷ [] in
      let h = has_back g.code (a + 1) ce tail has.1 in
      let h' = has_back g.code (a + 1 + length ce) look (op.Stw cell 0 ∷ []) h in
      let len : a + 1 + length ce + length look + 1 ≡ a + length (op.Stmt p ∷ (ce ++ tail)) =
      omega (arith, length-append ce tail, length-append look (op.Stw cell 0 ∷ [])) in
      let le = few_loops fits in
      count_sim (does g.exchange p (SetVariable i e) rest) s at has.0 (λ n1 s1 at1 q1.
      value_sim 0 e (λ v d. where_fits v w d (λ d. goes rest (sets_cell cell v d))) (omega arith)
      (expr_in e [] refl fits) s1 at1 (has_front g.code (a + 1) ce tail has.1) (λ n2 v loads s2 at2 q2.
      range_sim 0 w v _ q2.is q2.small s2 at2 (has_front g.code (a + 1 + length ce) look (op.Stw cell 0 ∷ []) h) (λ n3 s3 at3 q3.
      stw v s3 at3 h'.0 (q3.regs 0 ∙ q2.is) q2.small (λ n4 s4 at4 q4.
      goes_on_at rest s4 (at4 ∙ len) (at_kept le q4 (at_kept le q3 (at_valued le q2 (at_kept le q1 r))))))))

  pub goto : Laid g → (l : ℕ) → Case g (Goto l)
  goto laid l c m p d a rest s at has fits r =
      count_sim (does g.exchange p (Goto l) rest) s at has.0 (λ n1 s1 at1 q1.
      jmp s1 at1 has.1.0 (λ n2 s2 at2 q2. label_sim laid l s2 at2))

  pub if_goto : Laid g → (cond : Cond) (l : ℕ) → Case g (IfGoto cond l)
  if_goto laid cond l c m p d a rest s at has fits r =
      let test = cond_code cond (places g c.block).site in
      let tail = op.Jz 0 (a + 1 + length test + 2) ∷ op.Jmp (g.table.label c.block l) ∷ [] in
      let h = has_back g.code (a + 1) test tail has.1 in
      let len : a + 1 + length test + 2 ≡ a + length (op.Stmt p ∷ (test ++ tail)) = omega (arith, length-append test tail) in
      let le = few_loops fits in
      count_sim (does g.exchange p (IfGoto cond l) rest) s at has.0 (λ n1 s1 at1 q1.
      cond_sim cond (λ v d. at_zero v (goes rest d) (to_label g.exchange l d)) (cond_in cond refl fits) s1 at1
      (has_front g.code (a + 1) test tail has.1) (λ n2 v loads s2 at2 q2.
      zero_sim v _ _ s2 at2 h.0 q2.is
      (λ n3 s3 at3 q3. goes_on_at rest s3 (at3 ∙ len) (at_kept le q3 (at_valued le q2 (at_kept le q1 r))))
      (λ n3 s3 at3 q3. jmp s3 at3 h.1.0 (λ n4 s4 at4 q4. label_sim laid l s4 at4))))

  -- what stands behind the first list of an IF, which is the end of the whole where the other one
  -- is empty
  past_at : {b d : ℕ} {locals : List ℕ} {rest : List Item} (both : Bool) (i end : ℕ) → (both ≡ false → end ≡ i)
      → HasAt g.code i (past_code both end) → At g b locals d rest end → At g b locals d rest i
  past_at {b = b} {d = d} {locals = locals} {rest = rest} false i end same has r = subst (At g b locals d rest) (same refl) r
  past_at true i end same has r = jumps end has.0 r

  pub choice : (cond : Cond) (ss rs : List Stmt) → Case g (If cond ss rs)
  choice cond ss rs c m p d a rest s at has fits r =
      let test = cond_code cond (places g c.block).site in
      let at_yes = a + 1 + length test + 1 in
      let c1 = list_code g c.block ss d at_yes in
      let both = has_any (map stmt_code rs) in
      let behind = at_yes + length c1 in
      let at_no = behind + length (past_code both 0) in
      let c2 = list_code g c.block rs d at_no in
      let end = at_no + length c2 in
      let past = past_code both end in
      let same = past_length both end 0 in
      let h1 = has_back g.code (a + 1) test (op.Jz 0 at_no ∷ (c1 ++ (past ++ c2))) has.1 in
      let h2 = has_back g.code at_yes c1 (past ++ c2) h1.1 in
      let h3 = subst (λ n. HasAt g.code (behind + n) c2) same (has_back g.code behind past c2 h2) in
      let len : a + length (opened (If cond ss rs) (places g c.block) p d a)
      ≡ end = omega (
        arith,
        length-append test (op.Jz 0 at_no ∷ (c1 ++ (past ++ c2))),
        length-append c1
            (past ++ c2),
        length-append past c2,
        same,
      ) in
      let le = few_loops fits in
      count_sim (does g.exchange p (If cond ss rs) rest) s at has.0 (λ n1 s1 at1 q1.
      cond_sim cond (λ v d. at_zero v (goes (map Do rs ++ rest) d) (goes (map Do ss ++ rest) d))
      (cond_in cond refl fits) s1 at1 (has_front g.code (a + 1) test (op.Jz 0 at_no ∷ (c1 ++ (past ++ c2))) has.1)
      (λ n2 v loads s2 at2 q2.
      let r2 = subst (At g c.block n2.run.locals d rest) len (at_valued le q2 (at_kept le q1 r)) in
      zero_sim v _ _ s2 at2 h1.0 q2.is
      (λ n3 s3 at3 q3. goes_on_at (map Do rs ++ rest) s3 at3 (list_at g c.block d at_no n3.run.locals rest rs h3 (no_in fits) (at_kept le q3 r2)))
      (λ n3 s3 at3 q3. goes_on_at (map Do ss ++ rest) s3 at3
      (list_at g c.block d at_yes n3.run.locals rest ss (has_front g.code at_yes c1 (past ++ c2) h1.1) (yes_in fits)
      (past_at both behind end (none_left g c.block d behind rs) (has_front g.code behind past c2 h2)
      (at_kept le q3 r2))))))
