-- Register 0 is compared with a number.
use Rattle.std.proofs.Common.{◌≡◌, ◌≢◌, ℕ, ◌+◌, true, false, List, ap, ◌∙◌, arith}
use Rattle.std.specs.Prelude.{nat_eq, ◌==◌}
use Rattle.job_types.specs.Truth.{one_if}
use Rattle.source_meaning.specs.Config.{Config}
use Rattle.machine_meaning.specs.Machine.{Machine, reg}
use Rattle.expr_code.specs.Runs.{HasAt}
use Rattle.stmt_code.specs.declared.lengths.TheConstants.{COMPARE_LENGTH}
use Rattle.stmt_code.specs.StmtCode.{compare_code}
use Rattle.stmt_code.proofs.Setting.{Setting}
use Rattle.stmt_code.proofs.At.{SameLoops}
use Rattle.stmt_code.proofs.Same.{Same, Comes}
use Rattle.stmt_code.proofs.Instr.{loops_on, ldi, eq, jz_test}

-- register 0 and the locals of the loops are kept
pub record Compared (m n : Machine) : Type 0 where
  pub value : reg n.run 0 ≡ reg m.run 0
  pub loops : SameLoops 12 n.run.locals m.run.locals

module _ {g : Setting} {P : Machine → Type 0} where
  pub compare_sim : {vs : List ℕ} {c : Config} {m : Machine} {a other : ℕ} (number v : ℕ) → Same g vs c m → m.run.pc ≡ a
      → reg m.run 0 ≡ v → HasAt g.code a (compare_code number other)
      → (nat_eq number v ≡ false → (n : Machine) → Same g vs c n → n.run.pc ≡ other → Compared m n → Comes g P n)
      → (nat_eq number v ≡ true → (n : Machine) → Same g vs c n → n.run.pc ≡ a + COMPARE_LENGTH → Compared m n → Comes g P n)
      → Comes g P m
  compare_sim {m = m} {a = a} number v s at is has next same =
      ldi s at has.0 (omega arith) (λ n1 s1 at1 q1.
      eq s1 at1 has.1.0 (omega arith) (λ n2 s2 at2 q2.
      let ne : ◌≢◌ {A = ℕ} 0 1 = omega arith in
      let place : a + 1 + 1 + 1 ≡ a + COMPARE_LENGTH = omega arith in
      let test : reg n2.run 1 ≡ one_if (nat_eq number v) = q2.is ∙ ap (λ k. one_if (k == reg n1.run 0)) q1.is
      ∙ ap (λ k. one_if (number == k)) (q1.others 0 ne ∙ is) in
      let loops2 : SameLoops 12 n2.run.locals m.run.locals = loops_on n2.run.locals n1.run.locals m.run.locals q2.loops q1.loops in
      jz_test (nat_eq number v) s2 at2 has.1.1.0 test
      (λ e n3 s3 at3 q3. next e n3 s3 at3 record {
        value = q3.regs 0 ∙ q2.others 0 ne ∙ q1.others 0 ne;
        loops = loops_on n3.run.locals n2.run.locals m.run.locals q3.loops loops2;
      })
      (λ e n3 s3 at3 q3. same e n3 s3 (at3 ∙ place) record {
        value = q3.regs 0 ∙ q2.others 0 ne ∙ q1.others 0 ne;
        loops = loops_on n3.run.locals n2.run.locals m.run.locals q3.loops loops2;
      })))
